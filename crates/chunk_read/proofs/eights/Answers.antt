-- One bit each, or any width.
-- Assumes nothing.
use Prim.Native.Nat.{◌+◌, ◌*◌, ◌≤◌}
use native.Mathlib.Omega.{arith}
use lib.ListN.{length}
use Rattle.chunk_read.proofs.eights.Goals as goal

pub bytes-requires : goal.bytes-requires
bytes-requires c =
    let a = c.args in
    let r : a.h.primary + a.whole * 1 ≤ length a.s.now =
    rw c.if-h-eq1.true at c.requires.3 in (
      c.requires.1,
      omega (arith, r),
      c.requires.4,
    )

pub shape_of-out-then-h-eq1 : goal.shape_of-out-then-h-eq1
shape_of-out-then-h-eq1 c = c.bytes.auto.out

pub returns-then-h-eq1 : goal.returns-then-h-eq1
returns-then-h-eq1 c =
    let if1 = c.if-h-eq1 in
    rw if1.true c.bytes.ensures

pub groups-requires : goal.groups-requires
groups-requires c =
    let pre = c.requires in
    pre

pub shape_of-out : goal.shape_of-out
shape_of-out c = c.groups.auto.out

pub returns : goal.returns
returns c = c.groups.ensures
