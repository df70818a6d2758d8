-- After b blocks f counts those of b * 240 bytes.
-- Assumes nothing.
use mathlib.Core.Path.{◌≡◌, refl, sym, ap, ◌∙◌}
use Prim.Native.Nat.{ℕ, ◌+◌, ◌*◌, ◌/◌, ◌%◌}
use native.Mathlib.Omega.{arith}
use Rattle.bitmap_spec.proofs.Tally.{tally, tally-cat}
use Rattle.judge.specs.Post.{fall}
use Rattle.judge.proofs.all_falls.Goals as goal

pub loop-b-init : goal.loop-b-init
unfolding tally
loop-b-init c = (omega arith, refl, omega arith)

pub loop-b-preserved : goal.loop-b-preserved
loop-b-preserved c =
    let e : (c.loop-b.b + 1) * 240 ≡ c.loop-b.b * 240 + 240 = omega arith in (
      omega arith,
      rw e
          (omega (
            arith,
            c.loop-b.invariant.1,
            c.falls.ensures.0,
            tally-cat (fall c.args.s.now) c.args.from (c.loop-b.b * 240) 240,
          )),
      omega (arith, c.falls.ensures.1, c.loop-b.invariant.2),
    )

pub returns : goal.returns
returns c =
    let q : c.loop-b.b ≡ c.args.n / 240 = omega (
      arith,
      c.loop-b-test.false,
      c.loop-b.invariant.0,
    )
    in
    let e : c.args.n / 240 * 240 + c.args.n % 240 ≡ c.args.n = omega arith in
    let z = rw q at c.loop-b.invariant.1 in
    rw e at
    (ap (λ (x : ℕ). x + c.falls-2.result) z ∙ ap
    (λ (x : ℕ). tally (fall c.args.s.now) c.args.from (c.args.n / 240 * 240) + x) c.falls-2.ensures.0 ∙ sym
    (tally-cat (fall c.args.s.now) c.args.from (c.args.n / 240 * 240) (c.args.n % 240)))
