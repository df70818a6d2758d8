-- Groups of eight values end at a byte, so what follows is packed by itself (pack-cat).
-- Assumes nothing.
use mathlib.Core.Path.{ap, ◌∙◌}
use Prim.Native.Nat.{◌/◌, ◌*◌}
use native.Mathlib.Omega.{arith}
use lib.ListN.{length, get_or}
use Rattle.bitmap_laws.proofs.Output.{length-written}
use Rattle.bit_pack.proofs.Groups.{all-bytes, group-long, groups-few, nothing-packed, rest-is, rest-long}
use Rattle.bit_pack.proofs.put_packed.Goals as goal

pub returns-then-w-eq0 : goal.returns-then-w-eq0
returns-then-w-eq0 c =
    nothing-packed (λ i. get_or c.args.vals.now i 0) _ c.args.w c.args.out.now c.args.at c.if-w-eq0.true

pub put_groups-q-requires : goal.put_groups-q-requires
put_groups-q-requires c = (
  c.requires.0,
  omega (arith, c.requires.1),
  omega arith,
  omega (arith, c.requires.2, all-bytes c.args.vals.now c.args.w),
)

pub put_few-requires : goal.put_few-requires
put_few-requires c =
    let same = ap length c.put_groups-q.ensures.1 ∙ length-written c.args.out.now _ c.args.at
    (omega (
      arith,
      group-long (λ i. get_or c.args.vals.now i 0) c.args.w (length c.args.vals.now / 8),
      c.requires.2,
      all-bytes c.args.vals.now c.args.w,
    )) in (
      c.requires.0,
      omega (arith, rest-long c.args.vals.now c.args.w, c.requires.1),
      omega (arith, same, c.requires.2, c.put_groups-q.ensures.0, all-bytes c.args.vals.now c.args.w),
    )

pub overflow_add-result : goal.overflow_add-result
overflow_add-result c =
    omega (
      arith,
      c.ranges,
      c.requires.2,
      c.put_groups-q.ensures.0,
      c.put_few.ensures.0,
      all-bytes c.args.vals.now c.args.w,
    )

pub returns : goal.returns
returns c =
    groups-few c.args.vals.now _ c.args.out.now _ _ c.args.w (length c.args.vals.now / 8) c.args.at
    c.put_groups-q.result c.put_few.result (rest-is c.args.vals.now (8 * (length c.args.vals.now / 8)))
    (omega arith) c.requires.2 c.put_groups-q.ensures.0 c.put_groups-q.ensures.1 c.put_few.ensures.0
    c.put_few.ensures.1
