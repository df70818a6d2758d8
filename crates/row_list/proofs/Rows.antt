-- A row's fields stand one after the other behind its null bits, and a row where the one before ends: so a run lists
-- a row, and rows listed one after the other are a page.
-- Assumes nothing.
use Rattle.std.specs.Prelude.{Some, Ok, Err}
use mathlib.Core.Path.{◌≡◌, refl, sym, ap, ◌∙◌}
use mathlib.Core.Bool.{Bool, true, false}
use mathlib.Core.List.{List, [], ◌∷◌, ◌++◌, map, flatten, flat_map, append-nil}
use Prim.Native.Nat.{ℕ, suc, ◌+◌, ◌-◌, ◌*◌, ◌/◌, ◌≤◌, ◌<◌, min}
use native.Mathlib.Nat.{zero-add, suc-mul, mul-le-mul_right, min-le_left, min-le_right, div-mul-le_self}
use native.Mathlib.Omega.{arith}
use native.Mathlib.Numerals.{add-one}
use lib.ListN.{length, get_or, take, drop, length-append, length-map, length-take, length-drop, get_or-map}
use lib.Seq.{take-suc, take_all, get_or-take, length-take-le}
use lib.Dec.{leb, eqb}
use borrow.Author.Tests.{leb-true}
use Rattle.common.specs.Outcome.{pick, both, found, one}
use Rattle.common.specs.Bytes.{ceil8, little_at, low_bit}
use Rattle.common.proofs.Outcomes.{clash}
use Rattle.common.proofs.Lists.{both_left, both_right}
use Rattle.row_spec.specs.Schema.{blank_column}
use Rattle.row_spec.specs.Read.{read}
use Rattle.row_spec.specs.Value.{Value, value_at}
use Rattle.row_spec.specs.Block.{Row, field_at, row, rows, counted, block}
use Rattle.row_spec.specs.Page.{written, rows_from, page_of}
use Rattle.row_spec.specs.declared.Column.{Column}
use Rattle.row_spec.specs.declared.Field.{Field}
use Rattle.row_spec.specs.declared.Field.TheVariants.{Null}
use Rattle.row_spec.specs.declared.Storage.{Storage}
use Rattle.row_spec.specs.declared.Storage.TheVariants.{Boolean}
use Rattle.row_spec.specs.declared.ReadFault.TheVariants.{IllFormed}
use Rattle.row_laws.specs.Shown.{field_start, row_start, count_of, offsets_at}
use Rattle.row_laws.proofs.Read.{need-found}
use Rattle.row_laws.proofs.Starts.{row-stands, rows-many, rows-offset, rows-here}
use Rattle.row_laws.proofs.Flat.{flat_append}
use Rattle.row_laws.proofs.Pages.{taken_at}
use Rattle.value_list.specs.declared.Run.{Run}
use Rattle.value_list.specs.Cell.{Stand, Ran}
use Rattle.row_list.specs.Rows.{row_storage, RowListed, RowsStand, RowsListed, BlockListed}

-- ---- a row
-- a field that was read is null or a value, whether or not its column may be null
read-so : (t nullable : Bool) (at : ℕ) (v : Value) (f : Field) (next : ℕ)
    → pick t (pick nullable (Ok (read Null at)) (Err IllFormed)) v ≡ Ok (read f next)
    → pick t (Ok (read Null at)) v ≡ Ok (read f next)
read-so false nullable at v f next e = e
read-so true true at v f next e = e
read-so true false at v f next e = clash (cc)

-- how the fields of a row at at lie
abbrev pub row_run : ℕ → Run
row_run at = record { big = false; same = false; nulls = Some at; bit = 0 }

module _ (s : List ℕ) (sts : List Storage) (n at : ℕ) (enough : n ≤ length sts) where
  module _ (cols : List Column) (stored : take n sts ≡ map row_storage cols) where
    pub columns-many : length cols ≡ n
    columns-many = sym (length-map cols row_storage) ∙ ap length (sym stored) ∙ length-take-le n sts enough

    -- how column m is stored
    column-stored : (m : ℕ) → m < n → get_or sts m Boolean ≡ row_storage (get_or cols m blank_column)
    column-stored m less =
        sym (get_or-take n sts m Boolean less) ∙ ap (λ (l : List Storage). get_or l m Boolean) stored
        ∙ get_or-map row_storage cols m blank_column

    row-run : (x : Row) → row s cols at ≡ found x → Stand s sts (row_run at) (field_start s cols at) x.fields
    unfolding field_at value_at
    row-run x e m less =
        let stands = (row-stands s cols at x e).0 in
        let here = stands.each m (omega (arith, stands.many)) in
        let column = column-stored m (omega (arith, stands.many, columns-many)) in
        let nullable = (get_or cols m blank_column).nullable in
        rw (zero-add m, column) (read-so (eqb (low_bit s at m) 1) nullable _ _ _ _ here)

  pub row_listed : (k : ℕ) (before after : List ℕ) (end : ℕ)
      → Ran s sts (row_run at) n (at + ceil8 n) k before after end → RowListed s (take n sts) at k before after end
  unfolding field_start
  row_listed k before after end ran =
      record {
        says = λ cols x done base stored e w k-is.
            let many = columns-many cols stored in
            let stands = row-stands s cols at x e in
            let from : field_start s cols at 0 ≡ at + ceil8 n = ap (λ (m : ℕ). at + ceil8 m) many in
            let so = ran.says (field_start s cols at) x.fields done base (stands.0.many ∙ many) from
            (row-run cols stored x e) w k-is in
            (so.0 ∙ ap (field_start s cols at) (sym many) ∙ sym stands.1, so.1);
      }

  -- a row whose null bits are not there is none
  pub row-absent : (k : ℕ) (before : List ℕ) (next : ℕ) → leb (at + ceil8 n) (length s) ≡ false
      → RowListed s (take n sts) at k before before next
  unfolding row
  row-absent k before next no_room =
      record {
        says = λ cols x done base stored e w k-is.
            let room = (need-found (leb (at + ceil8 (length cols)) (length s)) 24 _ x e).0 in
            let many = ap (λ (m : ℕ). leb (at + ceil8 m) (length s)) (columns-many cols stored) in
            clash (ap one (sym no_room ∙ sym many ∙ room));
      }

-- ---- rows one after the other
module _ (s : List ℕ) (cols : List Column) (from n : ℕ) (before : List ℕ) where
  -- r rows are in the list, up to number k, and the next starts at at
  pub record Upto (r : ℕ) (list : List ℕ) (at k : ℕ) : Type 0 where
    pub says : (p : ℕ) (rs : List (List Field)) → length rs ≡ n → from ≡ row_start s cols p → RowsStand s cols p rs
        → (at ≡ row_start s cols (p + r)) × ((k ≡ 3 * length (flatten (take r rs)))
        × (list ≡ written (flatten (take r rs)) before))

  pub upto-none : Upto 0 before from 0
  unfolding flatten written flat_map
  upto-none =
      record { says = λ p rs many start stand. let e : p + 0 ≡ p = omega arith in (start ∙ rw e, (refl, refl)) }

  pub upto-more : (r at k : ℕ) (sts : List Storage) (list next : List ℕ) (end : ℕ) → r < n → Upto r list at k
      → sts ≡ map row_storage cols → RowListed s sts at k list next end
      → Upto (r + 1) next end (k + 3 * length cols)
  unfolding row_start flatten
  upto-more r at k sts list next end less upto stored listed = record { says = says }
    where
      says : (p : ℕ) (rs : List (List Field)) → length rs ≡ n → from ≡ row_start s cols p → RowsStand s cols p rs
          → (end ≡ row_start s cols (p + (r + 1))) × ((k + 3 * length cols ≡ 3 * length (flatten (take (r + 1) rs)))
          × (next ≡ written (flatten (take (r + 1) rs)) before))
      says p rs many start stand =
          let so = upto.says p rs many start stand in
          let here = stand r (omega arith) in
          let reads = ap (row s cols) so.0 ∙ here.1.0 in
          let put = listed.says cols here.0 (flatten (take r rs)) before stored reads so.1.1 so.1.0 in
          let stands = row-stands s cols (row_start s cols (p + r)) here.0 here.1.0 in
          let wide : length (get_or rs r []) ≡ length cols = ap length (sym here.1.1) ∙ stands.0.many in
          let more : flatten (take (suc r) rs) ≡ flatten (take r rs) ++ get_or rs r [] =
          ap flatten (take-suc rs r [] (omega arith)) ∙ flat_append (take r rs) (get_or rs r [] ∷ [])
          ∙ ap (λ (l : List Field). flatten (take r rs) ++ l) (append-nil (get_or rs r [])) in
          let place : p + suc r ≡ suc (p + r) = omega arith in
          let long = ap length more ∙ length-append (flatten (take r rs)) (get_or rs r []) in
          let ends = put.0 ∙ stands.1 in
          rw add-one (
            ends ∙ ap (row_start s cols) (sym place),
            (omega (arith, so.1.0, long, wide), put.1 ∙ rw (here.1.1, more)),
          )

  pub upto_all : (list : List ℕ) (at k : ℕ) → Upto n list at k → RowsListed s cols from n before list
  upto_all list at k upto =
      record {
        says = λ p rs many start stand.
            let so = upto.says p rs many start stand in
            so.1.1 ∙ ap (λ (l : List (List Field)). written (flatten l) before) (take_all n rs (omega arith));
      }

-- room for one row more
pub row_room : (r given width room : ℕ) → r < given → given * width ≤ room → r * width + width ≤ room
row_room r given width room less fits =
    let more = mul-le-mul_right {m = suc r} {n = given} width less in
    omega (arith, more)

-- as many rows as fit do
pub given-fits : (given room width rows : ℕ) → given ≡ min (room / width) rows → given * width ≤ room
given-fits given room width rows e =
    let less : given ≤ room / width = omega (arith, e, min-le_left (room / width) rows) in
    let all = mul-le-mul_right {m = given} {n = room / width} width less in
    omega (arith, all, div-mul-le_self room width)

pub row_step : (r width k : ℕ) → k ≡ r * width → k + width ≡ (r + 1) * width
row_step r width k e = rw add-one (ap (λ (n : ℕ). n + width) e ∙ sym (suc-mul r width))

-- ---- the page of a block
module _ (s : List ℕ) (cols : List Column) (rs : List (List Field)) (e : block cols s ≡ found rs) where
  fits : (leb (count_of s) 65536 ≡ true) × ((leb (4 * count_of s + 4) (length s) ≡ true)
      × (rows s cols (offsets_at s) 0 (count_of s) 0 [] ≡ found rs))
  unfolding block counted
  fits =
      let a = (need-found (both (leb 4 (length s)) (leb (length s) 16777216)) 21 _ rs e).1 in
      let b = need-found (both (leb (count_of s) 65536) (leb (4 * count_of s + 4) (length s))) 22 _ rs a in
      (both_left (leb (count_of s) 65536) _ b.0, (both_right (leb (count_of s) 65536) _ b.0, b.1))

  pub count-is : length rs ≡ count_of s
  count-is = rows-many s cols (offsets_at s) (count_of s) rs fits.1.1

  -- as many rows as a block may have, and their offsets are there
  pub rows_fit : (length rs ≤ 65536) × (4 * length rs + 4 ≤ length s)
  rows_fit =
      rw count-is (leb-true (count_of s) 65536 fits.0, leb-true (4 * count_of s + 4) (length s) fits.1.0)

  -- the rows of a page, from row p on
  module _ (p room : ℕ) where
    abbrev chosen : List (List Field)
    chosen = rows_from (length cols) rs p room

    pub given_is : length chosen ≡ min (room / (3 * length cols)) (length rs - p)
    unfolding rows_from
    given_is = length-take _ (drop p rs) ∙ ap (min (room / (3 * length cols))) (length-drop p rs)

    pub none-given : (list : List ℕ) → length chosen ≡ 0 → list ≡ written (flatten chosen) list
    unfolding flatten written flat_map
    none-given list z = by_rows chosen z
      where
        by_rows : (l : List (List Field)) → length l ≡ 0 → list ≡ written (flatten l) list
        by_rows [] q = refl
        by_rows (x ∷ l) q = clash (omega arith)

    pub rows-listed : (list after : List ℕ) (from given : ℕ) → length chosen ≡ given → p < length rs
        → from ≡ little_at s (offsets_at s + p * 4) 4
        → RowsListed (take (offsets_at s) s) cols from given list after → after ≡ written (flatten chosen) list
    unfolding rows_from
    rows-listed list after from given many here start listed =
        listed.says p chosen many
        (start ∙ rows-offset s cols (offsets_at s) (count_of s) rs fits.1.1 p (omega (arith, count-is)))
        (λ q less.
        let at = taken_at rs p (room / (3 * length cols)) q [] less in
        let x = rows-here s cols (offsets_at s) (count_of s) rs fits.1.1 (p + q) (omega (arith, count-is, at.0)) in
        (x.0, (x.1.0, x.1.1 ∙ sym at.1)))

-- what was listed of a block of so many rows
module _ (s : List ℕ) (cols : List Column) (rows p room given : ℕ) (list : List ℕ)
    (is : given ≡ min (room / (3 * length cols)) (rows - p)) where
  chosen-many : (rs : List (List Field)) → block cols s ≡ found rs → length rs ≡ rows
      → length (rows_from (length cols) rs p room) ≡ given
  chosen-many rs e many =
      given_is s cols rs e p room ∙ ap (λ (m : ℕ). min (room / (3 * length cols)) (m - p)) many ∙ sym is

  pub block_none : given ≡ 0 → BlockListed s cols rows p room 0 list list
  unfolding page_of
  block_none z =
      record {
        says = λ rs e many.
            let none = chosen-many rs e many ∙ z in
            (sym none, none-given s cols rs e p room list none);
      }

  pub block-some : (after : List ℕ) (from : ℕ) → (given ≡ 0 → ⊥)
      → from ≡ little_at s (length s - 4 - 4 * rows + p * 4) 4
      → RowsListed (take (length s - 4 - 4 * rows) s) cols from given list after
      → BlockListed s cols rows p room given list after
  unfolding page_of
  block-some after from some start listed =
      record {
        says = λ rs e many.
            let count : rows ≡ count_of s = sym many ∙ count-is s cols rs e in
            let less = min-le_right (room / (3 * length cols)) (rows - p) in
            let here : p < length rs = omega (arith, is, less, many) in
            let so = chosen-many rs e many in
            let same : given ≡ length (rows_from (length cols) rs p room) = sym so in
            let held = rows-listed s cols rs e p room list after from given so here (rw count at start) in
            (same, held (rw count at listed));
      }
