-- A length, and behind it the entry's bytes.
-- Assumes nothing.
use lib.ListN.{length-append}
use Rattle.row_spec.specs.Varint.{shortest}
use Rattle.store_spec.specs.Store.{length_at, entry_at}
use Rattle.store_laws.proofs.Changes.{end_is}
use Rattle.store_save.proofs.Sizes.{entry-nothing, entry-both, entry-room}
use mathlib.Core.Path.{ap}
use native.Mathlib.Omega.{arith}
use lib.ListN.{length}
use Rattle.store_save.proofs.put_entry.Goals as goal

pub put_groups-x-requires : goal.put_groups-x-requires
put_groups-x-requires c = (
  omega (arith, c.length_of-m.ensures.0, c.requires.2),
  omega (
    arith,
    ap (λ x. length (shortest x)) c.length_of-m.ensures.0,
    length-append (shortest (length_at c.args.dir.now c.args.k))
        (entry_at c.args.dir.now c.args.buf.now c.args.k),
    c.requires.4,
  ),
)

pub returns-then-m-eq0 : goal.returns-then-m-eq0
returns-then-m-eq0 c =
    entry-nothing _ c.args.buf.now _ _ _ _ _ _ c.length_of-m.ensures.0 c.if-m-eq0.true c.put_groups-x.ensures.0
    c.put_groups-x.ensures.1

pub overflow_add-at : goal.overflow_add-at
overflow_add-at c =
    let ends = c.requires.3 (omega (arith, c.length_of-m.ensures.0, c.if-m-eq0.false)) in
    let room = entry-room c.args.dir.now c.args.buf.now c.args.out.now c.args.k c.args.at c.length_of-m.result
    c.put_groups-x.result c.length_of-m.ensures.0 ends c.put_groups-x.ensures.0 c.requires.4 in
    omega arith

pub copy_part-requires : goal.copy_part-requires
copy_part-requires c =
    let ends = c.requires.3 (omega (arith, c.length_of-m.ensures.0, c.if-m-eq0.false)) in
    let room = entry-room c.args.dir.now c.args.buf.now c.args.out.now c.args.k c.args.at c.length_of-m.result
    c.put_groups-x.result c.length_of-m.ensures.0 ends c.put_groups-x.ensures.0 c.requires.4 in
    let part = end_is c.args.dir.now c.args.k in (
      omega (arith, c.start_of-a.ensures.0, c.length_of-m.ensures.0, part, ends),
      omega (arith, c.put_groups-x.auto.out),
    )

pub overflow_add-result : goal.overflow_add-result
overflow_add-result c =
    let ends = c.requires.3 (omega (arith, c.length_of-m.ensures.0, c.if-m-eq0.false)) in
    let room = entry-room c.args.dir.now c.args.buf.now c.args.out.now c.args.k c.args.at c.length_of-m.result
    c.put_groups-x.result c.length_of-m.ensures.0 ends c.put_groups-x.ensures.0 c.requires.4 in
    omega arith

pub returns : goal.returns
returns c =
    let ends = c.requires.3 (omega (arith, c.length_of-m.ensures.0, c.if-m-eq0.false)) in
    entry-both _ _ _ _ _ _ _ c.start_of-a.result c.length_of-m.result _ c.length_of-m.ensures.0
    c.start_of-a.ensures.0 ends c.put_groups-x.ensures.0 c.put_groups-x.ensures.1
    c.copy_part.ensures c.requires.4
