-- Sparse: j is one of the bytes. Dense: bit j is set.
-- Assumes nothing.
use Prim.Native.Nat.{ℕ, ◌+◌, ◌-◌, ◌≤◌}
use lib.Dec.{eqb}
use lib.ListN.{length, take, drop}
use mathlib.Core.Path.{◌≡◌, ap, ◌∙◌}
use native.Mathlib.Omega.{arith}
use Rattle.std.proofs.Common.{rules}
use Rattle.common.specs.Lists.{mem}
use Rattle.judge.proofs.Walking.{size-sparse, size-dense}
use Rattle.bitmap_read.proofs.Containers.{mem-any, sparse-is, dense-has}
use Rattle.bitmap_read.proofs.container_has.Goals as goal

pub slice_bounds-contains-end : goal.slice_bounds-contains-end
slice_bounds-contains-end c =
    let room : c.args.at + c.args.d ≤ length c.args.s.now = omega (arith, size-sparse c.args.d c.if-d-lt32.true) in
    search rules

pub returns-then-d-lt32 : goal.returns-then-d-lt32
returns-then-d-lt32 c =
    let n : c.args.at + c.args.d - c.args.at ≡ c.args.d = omega arith in
    c.contains.ensures.value ∙ mem-any c.args.j _ ∙ ap (λ (k : ℕ). mem c.args.j (take k (drop c.args.at c.args.s.now))) n
    ∙ ap (mem c.args.j) (sparse-is c.args.s.now c.args.at c.args.d c.if-d-lt32.true)

pub bounds-s-at : goal.bounds-s-at
bounds-s-at c =
    omega (arith, size-dense c.args.d c.if-d-lt32.false)

pub returns : goal.returns
returns c =
    ap (λ (b : ℕ). eqb b 1) c.bit_of.ensures ∙ dense-has c.args.s.now c.args.at c.args.d c.args.j
    c.if-d-lt32.false (omega arith)
