-- "Row blocks": the refusal 21 to 24, or the fields of each row; and the answer to a row and a column.
use Rattle.std.specs.Prelude.{ℕ, zero, suc, Ok, Err, ◌+◌, ◌-◌, ◌*◌, false, List, [], ◌∷◌, ◌++◌, length, get_or, take}
use Rattle.std.specs.Prelude.{leb, ltb, eqb}
use Rattle.common.specs.Outcome.{pick, both, Outcome, refused, found, then, need}
use Rattle.common.specs.Bytes.{ceil8, little_at, low_bit, low_spare_zero}
use Rattle.row_spec.specs.Read.{read}
use Rattle.row_spec.specs.Value.{Value, value_at, on_value}
use Rattle.row_spec.specs.Schema.{schema}
use Rattle.row_spec.specs.declared.Column.{Column}
use Rattle.row_spec.specs.declared.Field.{Field}
use Rattle.row_spec.specs.declared.Field.TheVariants.{Null}
use Rattle.row_spec.specs.declared.ReadFault.TheVariants.{IllFormed}

-- a row's fields, and the place of the byte after it
pub record Row : Type 0 where
  pub fields : List Field
  pub next : ℕ

-- "column i at bit i mod 8 from the low end of byte i/8, set for null"; "A null in a NOT NULL column makes the row
-- bad." The row's bitmap starts at base; the field's bytes, if it has any, at at.
unfoldable pub field_at : List ℕ → ℕ → ℕ → Column → ℕ → Value
field_at s base i c at =
    pick (eqb (low_bit s base i) 1)
    (pick c.nullable (Ok (read Null at)) (Err IllFormed))
    (value_at false s at c.ty)

-- the fields of the columns from column i on, after those of done
unfoldable pub fields : List ℕ → ℕ → ℕ → List Column → ℕ → List Field → Outcome Row
fields s base i [] at done = found (record { fields = done; next = at })
fields s base i (c ∷ cols) at done =
    on_value (field_at s base i c at) (refused 24) (refused 24)
    (λ f next. fields s base (suc i) cols next (done ++ (f ∷ [])))

-- "A row is a null bitmap of ceil(columns/8) bytes, .. spare bits 0; then the non-null fields"
unfoldable pub row : List ℕ → List Column → ℕ → Outcome Row
row s cols at =
    need (leb (at + ceil8 (length cols)) (length s)) 24
    (need (low_spare_zero s at (length cols)) 24
    (fields s at 0 cols (at + ceil8 (length cols)) []))

-- "offset 0 is 0, each next offset is the end of the row before, and the last row (or 0, without rows) ends where the
-- offsets start. Fields are read up to there at most": k rows more, from row i on, after those of done; the offsets
-- start at end
unfoldable pub rows : List ℕ → List Column → ℕ → ℕ → ℕ → ℕ → List (List Field) → Outcome (List (List Field))
rows s cols end i zero at done = need (eqb at end) 23 (found done)
rows s cols end i (suc k) at done =
    need (eqb (little_at s (end + i * 4) 4) at) 23
    (then (row (take end s) cols at) (λ r. rows s cols end (suc i) k r.next (done ++ (r.fields ∷ []))))

-- "row count negative, over 65,536, or offsets don't fit" (a negative count, read without its sign, is over 65,536)
unfoldable pub counted : List ℕ → List Column → ℕ → Outcome (List (List Field))
counted s cols n =
    need (both (leb n 65536) (leb (4 * n + 4) (length s))) 22
    (rows s cols (length s - 4 - 4 * n) 0 n 0 [])

-- "Rows, then one 4-byte offset a row, then a 4-byte row count, little endian"; "block under 4 bytes or too long"
unfoldable pub block : List Column → List ℕ → Outcome (List (List Field))
block cols s =
    need (both (leb 4 (length s)) (leb (length s) 16777216)) 21
    (counted s cols (little_at s (length s - 4) 4))

-- "row or column number absent"
unfoldable pub asked : ℕ → ℕ → ℕ → List (List Field) → Outcome Field
asked width r c rs =
    need (both (ltb r (length rs)) (ltb c width)) 25
    (found (get_or (get_or rs r []) c Null))

-- how many rows a block has, by its schema's bytes and its own: "Blocks: 20, 21, 22, then row by row 23 before 24, then
-- 23 for the end, then 25."
unfoldable pub row_count : List ℕ → List ℕ → Outcome ℕ
row_count d s = then (schema d) (λ cols. then (block cols s) (λ rs. found (length rs)))

-- the field of row r and column c
unfoldable pub block_field : List ℕ → List ℕ → ℕ → ℕ → Outcome Field
block_field d s r c = then (schema d) (λ cols. then (block cols s) (asked (length cols) r c))
