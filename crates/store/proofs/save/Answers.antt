-- Both halves are judged, their lengths together compared with the room, and then written one behind the other.
-- Assumes nothing.
use borrow.Author.Tests.{not-true, not-false}
use Rattle.bitmap_laws.proofs.Output.{refuse13, give}
use Rattle.store_spec.specs.Saved.{saved}
use Rattle.store_share.proofs.Calls.{gives-refused, gives_as}
use Rattle.store_save.proofs.Sizes.{lengths-few}
use Rattle.store_halves.specs.Half.{held}
use Rattle.store_halves.proofs.Saving.{good, both, sizes, save-short, save-first, save-second, save-is, both-written}
use native.Mathlib.Omega.{arith}
use borrow.Author.Rules.{rules}
use Rattle.store.proofs.save.Goals as goal

pub returns-then-dir-ne128 : goal.returns-then-dir-ne128
returns-then-dir-ne128 c = gives-refused _ _ _ (save-short _ _ _ c.if-dir-ne128.true)

pub returns-then-not-is_sound : goal.returns-then-not-is_sound
returns-then-not-is_sound c =
    gives-refused _ _ _
    (save-first _ _ _ c.if-dir-ne128.false _ c.is_sound.ensures (c.if-not-is_sound.true))

pub returns-then-not-is_sound-2 : goal.returns-then-not-is_sound-2
returns-then-not-is_sound-2 c =
    let first = good 0 c.args.dir.now c.args.buf.now _ c.is_sound.ensures
    (c.if-not-is_sound.false) in
    gives-refused _ _ _
    (save-second _ _ _ c.if-dir-ne128.false first _ c.is_sound-2.ensures (c.if-not-is_sound-2.true))

pub entries_size-x-requires : goal.entries_size-x-requires
entries_size-x-requires c =
    let first = good 0 c.args.dir.now c.args.buf.now _ c.is_sound.ensures
    (c.if-not-is_sound.false) in
    (omega arith, c.if-dir-ne128.false, lengths-few 32 _ _ first)

pub entries_size-y-requires : goal.entries_size-y-requires
entries_size-y-requires c =
    let second = good 1 c.args.dir.now c.args.buf.now _ c.is_sound-2.ensures
    (c.if-not-is_sound-2.false) in
    (omega arith, c.if-dir-ne128.false, lengths-few 32 _ _ second)

pub returns-then-out-x : goal.returns-then-out-x
returns-then-out-x c =
    let both_of = sizes c.args.dir.now c.args.buf.now _ _ _ _ c.is_sound.ensures (c.if-not-is_sound.false)
    c.is_sound-2.ensures (c.if-not-is_sound-2.false) c.entries_size-x.ensures.0
    c.entries_size-y.ensures.0 in
    gives_as _ _ _ _ _ (save-is _ _ _ c.if-dir-ne128.false both_of.first both_of.second)
    (refuse13 (both c.args.dir.now c.args.buf.now) _ (omega (arith, both_of.all, c.if-out-x.true)))

pub put_entries-t-requires : goal.put_entries-t-requires
put_entries-t-requires c =
    let both_of = sizes c.args.dir.now c.args.buf.now _ _ _ _ c.is_sound.ensures (c.if-not-is_sound.false)
    c.is_sound-2.ensures (c.if-not-is_sound-2.false) c.entries_size-x.ensures.0
    c.entries_size-y.ensures.0 in
    (omega arith, c.if-dir-ne128.false, both_of.first, omega (arith, both_of.one, c.if-out-x.false))

pub put_entries-requires : goal.put_entries-requires
put_entries-requires c =
    let both_of = sizes c.args.dir.now c.args.buf.now _ _ _ _ c.is_sound.ensures (c.if-not-is_sound.false)
    c.is_sound-2.ensures (c.if-not-is_sound-2.false) c.entries_size-x.ensures.0 c.entries_size-y.ensures.0 in (
      omega arith,
      c.if-dir-ne128.false,
      both_of.second,
      omega (arith, both_of.one, both_of.other, c.put_entries-t.ensures.0, c.put_entries-t.auto.out, c.if-out-x.false),
    )

pub returns : goal.returns
returns c =
    let both_of = sizes c.args.dir.now c.args.buf.now _ _ _ _ c.is_sound.ensures (c.if-not-is_sound.false)
    c.is_sound-2.ensures (c.if-not-is_sound-2.false) c.entries_size-x.ensures.0 c.entries_size-y.ensures.0 in
    gives_as _ _ _ _ _ (save-is _ _ _ c.if-dir-ne128.false both_of.first both_of.second)
    (give (both c.args.dir.now c.args.buf.now) _ _ _ (omega (arith, both_of.all, c.if-out-x.false))
    (both-written _ _ _ (saved (held 0 c.args.dir.now c.args.buf.now))
    (saved (held 1 c.args.dir.now c.args.buf.now)) c.put_entries-t.result c.put_entries-t.ensures.0
    (omega (arith, both_of.one, both_of.other, c.if-out-x.false)) c.put_entries-t.ensures.1
    c.put_entries.ensures.1)
    both_of.all)
