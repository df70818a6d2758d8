-- How an accepted bucket is laid out: its parts one after the other, each column's piece where the one before ends.
use Rattle.std.specs.Prelude.{ℕ, suc, ◌+◌, ◌*◌, ◌<◌, ◌≡◌, List, [], ◌∷◌, ◌++◌, length, get_or}
use Rattle.common.specs.Outcome.{Outcome, found}
use Rattle.common.specs.Bytes.{ceil8}
use Rattle.row_spec.specs.declared.Column.{Column}
use Rattle.bucket_spec.specs.Bucket.{Layout, Judged, piece_of}

-- "Each group is in column order": the first piece starts at at, each next one where the piece before ends, the last
-- ends at end
pub record InOrder (step : ℕ → ℕ → Outcome ℕ) (count at : ℕ) (starts : List ℕ) (end : ℕ) : Type 0 where
  pub many : length starts ≡ count
  pub first : get_or (starts ++ (end ∷ [])) 0 0 ≡ at
  pub each : (i : ℕ) → i < count
      → step i (get_or (starts ++ (end ∷ [])) i 0) ≡ found (get_or (starts ++ (end ∷ [])) (suc i) 0)

-- the four parts from at on: "CONST values; DICT tables ..; null bitmaps; column data"; "Nothing follows."
pub record InParts (cols : List Column) (n : ℕ) (s : List ℕ) (tags has at : ℕ) (l : Layout) : Type 0 where
  pub to_tables : ℕ
  pub to_nulls : ℕ
  pub to_cells : ℕ
  pub consts : InOrder (piece_of cols n s tags has 0 [] []) (length cols) at l.consts to_tables
  pub tables : InOrder (piece_of cols n s tags has 1 [] []) (length cols) to_tables l.tables to_nulls
  pub nulls : InOrder (piece_of cols n s tags has 2 [] []) (length cols) to_nulls l.nulls to_cells
  pub cells : InOrder (piece_of cols n s tags has 3 l.tables l.nulls) (length cols) to_cells l.cells (length s)

-- after the tags and the has-nulls bits
abbrev pub LaidOut : List Column → ℕ → List ℕ → Judged → Type 0
LaidOut cols n s b =
    InParts cols n s b.tags (b.tags + ceil8 (2 * length cols))
    (b.tags + ceil8 (2 * length cols) + ceil8 (length cols)) b.layout
