-- By the encoding. Assumes nothing.
use mathlib.Core.Logic.{inl, inr}
use Rattle.bucket_spec.specs.Piece.{value_of}
use Rattle.bucket_piece.proofs.pieces.value_of.Goals as goal

pub returns-in-Const : goal.returns-in-Const
unfolding value_of
returns-in-Const c = rw c.in-Const.is c.nth_value.ensures

pub returns-in-Plain : goal.returns-in-Plain
unfolding value_of
returns-in-Plain c = rw (c.in-Plain.is, ← c.live_rows.ensures.0) c.nth_value-in-Plain.ensures

pub returns-in-Dict : goal.returns-in-Dict
unfolding value_of
returns-in-Dict c = elim c.in-Dict.is [
  | inl e ↦ rw (e, ← c.live_rows-in-Dict.ensures.0) c.entry.ensures
  | inr e ↦ rw (e, ← c.live_rows-in-Dict.ensures.0) c.entry.ensures
]
