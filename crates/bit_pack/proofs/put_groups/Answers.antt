-- The invariant: the first j groups are packed, w bytes each (groups-more).
-- Assumes nothing.
use mathlib.Core.Path.{refl, sym}
use Prim.Native.Nat.{◌+◌, ◌≤◌}
use native.Mathlib.Nat.{mul-le-mul_right, add-mul, zero-mul}
use native.Mathlib.Omega.{arith}
use borrow.Author.Rules.{rules}
use lib.ListN.{get_or}
use Rattle.bit_pack.proofs.Groups.{groups_none, groups-more}
use Rattle.bit_pack.proofs.put_groups.Goals as goal

pub loop-j-init : goal.loop-j-init
loop-j-init c = (
  omega arith,
  sym (zero-mul c.args.w),
  refl,
  groups_none (λ i. get_or c.args.vals.now i 0) c.args.w c.args.out.now c.args.at,
)

pub loop-j-preserved : goal.loop-j-preserved
loop-j-preserved c =
    let up : c.loop-j.j + 1 ≤ c.args.g = omega (arith, c.loop-j-test.true) in (
      up,
      omega (arith, c.loop-j.invariant.1, add-mul c.loop-j.j 1 c.args.w),
      search rules,
      groups-more (λ i. get_or c.args.vals.now i 0) c.args.w c.requires.0 c.args.out.now c.loop-j.out _ c.args.at
          c.loop-j.j c.loop-j.q c.group_word-x.result (omega (arith, c.requires.3, mul-le-mul_right c.args.w up))
          c.loop-j.invariant.1 c.loop-j.invariant.3 c.group_word-x.ensures c.put_bytes.ensures,
    )
