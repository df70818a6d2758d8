-- Each test is the definition's; in a sound share the entry lies inside the buffer.
-- Assumes nothing.
use Rattle.store_spec.specs.Store.{fetch_in}
use Rattle.store_laws.proofs.Changes.{fetch-empty}
use Rattle.store_share.proofs.Calls.{lies, bad, gives-refused, ends-inside, fetch-13, fetch-done}
use mathlib.Core.Path.{sym, ◌∙◌}
use native.Mathlib.Omega.{arith}
use lib.ListN.{length}
use Rattle.store_share.proofs.fetch.Goals as goal

pub returns-then-not-is_sound : goal.returns-then-not-is_sound
returns-then-not-is_sound c =
    gives-refused _ _ _
    (bad _ _ _ (fetch_in (length c.args.out.now) c.args.k) _ c.requires.2 c.is_sound.ensures
    (c.if-not-is_sound.true))

pub returns-then-m-eq0 : goal.returns-then-m-eq0
returns-then-m-eq0 c =
    gives-refused _ _ _
    (fetch-empty _ _ _ _ (lies _ _ _ _ c.is_sound.ensures (c.if-not-is_sound.false)) c.requires.2
    c.requires.1 _ (sym c.length_of-m.ensures.0 ∙ c.if-m-eq0.true))

pub returns-then-out-m : goal.returns-then-out-m
returns-then-out-m c =
    fetch-13 _ _ _ _ _ (lies _ _ _ _ c.is_sound.ensures (c.if-not-is_sound.false)) c.requires.2 c.requires.1
    c.length_of-m.ensures.0 c.if-m-eq0.false _ c.if-out-m.true

pub copy_part-requires : goal.copy_part-requires
copy_part-requires c =
    let sound = lies _ _ _ _ c.is_sound.ensures
    (c.if-not-is_sound.false) in
    let inside = ends-inside _ _ _ _ _ sound c.requires.2 c.requires.1 c.length_of-m.ensures.0 c.if-m-eq0.false in
    (omega (arith, c.start_of-a.ensures.0, inside), omega (arith, c.if-out-m.false))

pub returns : goal.returns
returns c =
    let sound = lies _ _ _ _ c.is_sound.ensures
    (c.if-not-is_sound.false) in
    fetch-done _ _ _ _ _ sound c.requires.2 c.requires.1 c.length_of-m.ensures.0 c.if-m-eq0.false _ _
    c.start_of-a.result c.start_of-a.ensures.0 c.if-out-m.false c.copy_part.ensures
