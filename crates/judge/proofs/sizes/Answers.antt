-- After b blocks t is the sum of b * 256 sizes, each at most 32.
-- Assumes nothing.
use mathlib.Core.Path.{◌≡◌, refl, sym, ap, ◌∙◌}
use Prim.Native.Nat.{ℕ, ◌+◌, ◌*◌, ◌/◌, ◌%◌}
use native.Mathlib.Omega.{arith}
use Rattle.bitmap_spec.proofs.Tally.{tally}
use Rattle.judge.specs.Post.{size_at}
use Rattle.judge.proofs.Descents.{tally-on, sum-tally}
use Rattle.judge.proofs.sizes.Goals as goal

pub loop-b-init : goal.loop-b-init
unfolding tally
loop-b-init c = (omega arith, refl, omega arith)

pub loop-b-preserved : goal.loop-b-preserved
loop-b-preserved c =
    let e : (c.loop-b.b + 1) * 256 ≡ c.loop-b.b * 256 + 256 = omega arith in (
      omega arith,
      rw e
          (omega (
            arith,
            c.loop-b.invariant.1,
            c.sizes_in.ensures.0,
            tally-on (size_at c.args.d.now) (c.loop-b.b * 256) 256,
          )),
      omega (arith, c.sizes_in.ensures.1, c.loop-b.invariant.2),
    )

pub returns : goal.returns
returns c =
    let f = size_at c.args.d.now in
    let q : c.loop-b.b ≡ c.args.n / 256 = omega (
      arith,
      c.loop-b-test.false,
      c.loop-b.invariant.0,
    )
    in
    let e : c.args.n / 256 * 256 + c.args.n % 256 ≡ c.args.n = omega arith in
    let z = rw q at c.loop-b.invariant.1 in
    let w = rw e at
    (ap (λ (x : ℕ). x + c.sizes_in-2.result) z ∙ ap (λ (x : ℕ). tally f 0 (c.args.n / 256 * 256) + x)
    c.sizes_in-2.ensures.0 ∙ sym (tally-on f (c.args.n / 256 * 256) (c.args.n % 256))) in (
      w ∙ sum-tally c.args.d.now c.args.n c.requires.1,
      omega (
        arith,
        c.sizes_in-2.ensures.1,
        c.loop-b.invariant.2,
        c.loop-b.invariant.0,
        c.requires.0,
      ),
    )
