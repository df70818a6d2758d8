-- What a column's piece holds once it was read, by the column's tag.
-- Assumes nothing.
use mathlib.Core.Path.{◌≡◌, refl}
use mathlib.Core.Bool.{Bool, true, false}
use mathlib.Core.List.{List}
use Prim.Native.Nat.{ℕ, ◌+◌, ◌*◌, ◌≤◌, ◌<◌}
use borrow.Author.Tests.{leb-true, ltb-true, eqb-true}
use lib.ListN.{length}
use lib.Dec.{leb, ltb, eqb}
use Rattle.common.specs.Outcome.{both, either, refused, found, need}
use Rattle.common.specs.Lists.{from, every}
use Rattle.common.specs.Bytes.{ceil8, low_bit, low_bits, low_count}
use Rattle.common.proofs.Lists.{both_left, both_right, every-each}
use Rattle.common.proofs.Outcomes.{clash}
use Rattle.row_spec.specs.Varint.{varint, varint_at, on_varint}
use Rattle.row_spec.specs.declared.Varint.{Varint}
use Rattle.std.specs.Prelude.{Result, Ok, Err}
use Rattle.row_spec.specs.declared.ReadFault.{ReadFault}
use Rattle.row_spec.specs.declared.ReadFault.TheVariants.{CutShort, IllFormed}
use Rattle.row_spec.specs.declared.Column.{Column}
use Rattle.row_spec.specs.declared.ColumnType.{ColumnType}
use Rattle.row_spec.specs.declared.Field.{Field}
use Rattle.row_laws.proofs.Read.{need-found}
use Rattle.bucket_spec.specs.Piece.{values, nth, index_width, table_of, const_piece, table_piece, nulls_piece}
use Rattle.bucket_spec.specs.Piece.{live, indexes, data_piece, piece, entry_of, value_of}
use Rattle.bucket_laws.proofs.Live.{count_none}

-- "number of entries 2 to 255, then entries"
pub record Table (s : List ℕ) (t : ColumnType) (table : ℕ) : Type 0 where
  pub entries : ℕ
  pub first : ℕ
  pub short : Bool
  pub count : varint_at s table ≡ Ok (varint entries first short)
  pub least : 2 ≤ entries
  pub most : entries ≤ 255
  pub end : ℕ
  pub all : values s t entries first ≡ found end

-- the indexes are there, and each is below the number of entries
pub record Indexes (s : List ℕ) (at m w e : ℕ) : Type 0 where
  pub room : at + ceil8 (m * w) ≤ length s
  pub below : (j : ℕ) → j < m → low_bits s at (j * w) w < e

table_is : (s : List ℕ) (t : ColumnType) (at next : ℕ) → table_of s t (varint_at s at) ≡ found next → Table s t at
unfolding table_of
table_is s t at next h = by_count (varint_at s at) refl h
  where
    by_count : (r : Result Varint ReadFault) → varint_at s at ≡ r
        → on_varint r (refused 31) (refused 32) (λ e first. need (both (leb 2 e) (leb e 255)) 33 (values s t e first))
        ≡ found next → Table s t at
    by_count (Err CutShort) p q = clash (cc)
    by_count (Err IllFormed) p q = clash (cc)
    by_count (Ok x) p q =
        let e = x.number in
        let k = need-found (both (leb 2 e) (leb e 255)) 33 (values s t e x.next) next q in
        record {
          entries = e;
          first = x.next;
          short = x.shortest;
          count = p;
          least = leb-true 2 e (both_left (leb 2 e) (leb e 255) k.0);
          most = leb-true e 255 (both_right (leb 2 e) (leb e 255) k.0);
          end = next;
          all = k.1;
        }

indexes-are : (s : List ℕ) (at m w e next : ℕ) → indexes s at m w e ≡ found next → Indexes s at m w e
unfolding indexes
indexes-are s at m w e next h =
    let a = need-found (leb (at + ceil8 (m * w)) (length s)) 31 _ next h in
    let b = need-found (every (λ j. ltb (low_bits s at (j * w) w) e) (from 0 m)) 33 _ next a.1 in
    record {
      room = leb-true (at + ceil8 (m * w)) (length s) a.0;
      below = λ j l. ltb-true _ e (every-each (λ j. ltb (low_bits s at (j * w) w) e) m j b.0 l);
    }

module _ (s : List ℕ) (c : Column) (tag : ℕ) (mapped : Bool) (n table nulls at next : ℕ) where
  pub const-read : piece 0 s c tag mapped n table nulls at ≡ found next → tag ≡ 1 → values s c.ty 1 at ≡ found next
  unfolding piece const_piece
  const-read h q = rw q at h

  pub table-read : piece 1 s c tag mapped n table nulls at ≡ found next → tag ≡ 2 → Table s c.ty at
  unfolding piece table_piece
  table-read h q = table_is s c.ty at next (rw q at h)

  -- "35 (a null bit .. in a NOT NULL column)"
  pub nulls-read : piece 2 s c tag mapped n table nulls at ≡ found next → mapped ≡ true → (k : ℕ) → k < n
      → low_bit s at k ≡ 1 → c.nullable ≡ true
  unfolding piece nulls_piece
  nulls-read h q k l b =
      let spare = (need-found _ 31 _ next (rw q at h)).1 in
      let none = (need-found _ 34 _ next spare).1 in
      by-case c.nullable (need-found _ 35 _ next none).0
    where
      by-case : (t : Bool) → either t (eqb (low_count s at n) 0) ≡ true → t ≡ true
      by-case true e = refl
      by-case false e = let z = count_none s at n k (eqb-true (low_count s at n) 0 e) l in clash (cc)

  pub plain-read : piece 3 s c tag mapped n table nulls at ≡ found next → tag ≡ 0
      → values s c.ty (live s mapped nulls n) at ≡ found next
  unfolding piece data_piece
  plain-read h q = rw q at h

  pub dict-read : (x : Table s c.ty table) → piece 3 s c tag mapped n table nulls at ≡ found next → tag ≡ 2
      → Indexes s at (live s mapped nulls n) (index_width x.entries) x.entries
  unfolding piece data_piece
  dict-read x h q =
      let e = x.entries in
      indexes-are s at (live s mapped nulls n) (index_width e) e next (rw x.count at (rw q at h))

-- ---- the value of a row, by the column's tag
module _ (s : List ℕ) (t : ColumnType) (tag : ℕ) (mapped : Bool) (r const table nulls cells : ℕ) (f : Field) where
  pub value-const : tag ≡ 1 → nth s t const 0 ≡ found f → value_of s t tag mapped r const table nulls cells ≡ found f
  unfolding value_of
  value-const q h = rw q h

  pub value-plain : tag ≡ 0 → nth s t cells (live s mapped nulls r) ≡ found f
      → value_of s t tag mapped r const table nulls cells ≡ found f
  unfolding value_of
  value-plain q h = rw q h

  pub value-dict : tag ≡ 2 → (e first : ℕ) (short : Bool) → varint_at s table ≡ Ok (varint e first short)
      → nth s t first (low_bits s cells (live s mapped nulls r * index_width e) (index_width e)) ≡ found f
      → value_of s t tag mapped r const table nulls cells ≡ found f
  unfolding value_of entry_of
  value-dict q e first short c h = rw (q, c) h
