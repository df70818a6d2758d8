-- The rest of the groups is the varint of the whole; the weight is 128 to the groups read. Assumes nothing.
use mathlib.Core.Path.{◌≡◌}
use Prim.Native.Nat.{◌-◌, ◌≤◌, ◌<◌, ◌^◌, ◌+◌}
use lib.ListN.{length}
use Rattle.row_spec.specs.Varint.{varint_at, groups}
use Rattle.numbers.proofs.varint.Given as goal

abbrev pub invariant-loop-i : goal.invariant-loop-i
invariant-loop-i l = record {
  within : 0 < l.i → l.at + l.i ≤ length l.s;
  weight : l.w ≡ 128 ^ l.i;
  below : l.v < l.w;
  rest : groups l.s (5 - l.i) (l.at + l.i) l.w l.v ≡ varint_at l.s l.at;
}
