-- Sparse: byte j of the container. Dense: what was written at j.
-- Assumes nothing.
use Prim.Native.Nat.{◌+◌, ◌≤◌}
use native.Mathlib.Omega.{arith}
use lib.ListN.{length}
use Rattle.judge.proofs.Walking.{size-sparse}
use Rattle.bitmap_read.proofs.Containers.{sparse-count, few}
use Rattle.bitmap_list.proofs.Decoding.{sparse-member, dense-member}
use Rattle.bitmap_list.proofs.member.Goals as goal

pub overflow_add-result : goal.overflow_add-result
overflow_add-result c =
    let h : c.args.at + c.args.d ≤ length c.args.s.now = omega (arith, size-sparse c.args.d c.if-d-lt32.true, c.requires.0) in
    omega (arith, sparse-count c.args.s.now c.args.at c.args.d c.if-d-lt32.true h, c.requires.1)

pub bounds-s-at : goal.bounds-s-at
bounds-s-at c =
    let h : c.args.at + c.args.d ≤ length c.args.s.now = omega (arith, size-sparse c.args.d c.if-d-lt32.true, c.requires.0) in
    omega (arith, sparse-count c.args.s.now c.args.at c.args.d c.if-d-lt32.true h, c.requires.1)

pub returns-then-d-lt32 : goal.returns-then-d-lt32
returns-then-d-lt32 c =
    let h : c.args.at + c.args.d ≤ length c.args.s.now = omega (arith, size-sparse c.args.d c.if-d-lt32.true, c.requires.0) in
    sparse-member c.args.s.now c.args.at c.args.d c.args.j c.if-d-lt32.true
    (omega (arith, sparse-count c.args.s.now c.args.at c.args.d c.if-d-lt32.true h, c.requires.1))

pub bounds-out-j : goal.bounds-out-j
bounds-out-j c =
    omega (arith, few c.args.s.now c.args.at c.args.d c.requires.0, c.requires.1)

pub returns : goal.returns
returns c =
    dense-member c.args.s.now c.args.at c.args.d c.args.j c.args.out.now c.if-d-lt32.false c.requires.2 c.requires.1
