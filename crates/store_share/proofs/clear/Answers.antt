-- A sound share whose slot is not empty stays sound with that length 0, and its other entries stay.
-- Assumes nothing.
use Rattle.store_spec.specs.Store.{drop_in}
use Rattle.store_laws.proofs.Changes.{drop-refused, drop-empty, drop-done}
use Rattle.store_share.proofs.Calls.{lies, bad}
use mathlib.Core.Path.{sym, ◌∙◌}
use native.Mathlib.Omega.{arith}
use Rattle.store_share.proofs.clear.Goals as goal

pub returns-then-not-is_sound : goal.returns-then-not-is_sound
returns-then-not-is_sound c =
    drop-refused _ _ _ _ _ _
    (bad _ _ _ (drop_in c.args.k) _ c.requires.2 c.is_sound.ensures (c.if-not-is_sound.true))

pub returns-then-length_of-eq0 : goal.returns-then-length_of-eq0
returns-then-length_of-eq0 c =
    drop-refused _ _ _ _ _ _
    (drop-empty _ _ _ _ (lies _ _ _ _ c.is_sound.ensures (c.if-not-is_sound.false)) c.requires.2 c.requires.1
    (sym c.length_of.ensures.0 ∙ c.if-length_of-eq0.true))

pub returns : goal.returns
returns c =
    drop-done _ _ _ _ (lies _ _ _ _ c.is_sound.ensures (c.if-not-is_sound.false)) c.requires.2 c.requires.1
    (omega (arith, c.length_of.ensures.0, c.if-length_of-eq0.false))
