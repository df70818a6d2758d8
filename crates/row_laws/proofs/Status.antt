-- No question about schemas and row blocks is refused with 0, and a page is refused as the count of rows is.
-- Assumes nothing.
use Rattle.std.specs.Prelude.{Result, Ok, Err}
use mathlib.Core.Path.{◌≡◌, refl}
use mathlib.Core.List.{List, [], ◌∷◌, ◌++◌}
use Prim.Native.Nat.{ℕ, zero, suc, ◌+◌, ◌-◌, ◌*◌}
use native.Mathlib.Omega.{arith}
use lib.ListN.{length, take}
use Rattle.common.specs.Outcome.{Outcome, refused, found, then, status, Numbered}
use Rattle.common.specs.Bytes.{ceil8, little_at}
use Rattle.common.proofs.Outcomes.{found-numbered, refused-numbered, need-numbered, then-numbered, told-numbered}
use Rattle.row_spec.specs.Varint.{on_varint}
use Rattle.row_spec.specs.Schema.{schema, column_count, column_of}
use Rattle.row_spec.specs.Value.{Value, on_value}
use Rattle.row_spec.specs.Block.{field_at, fields, row, rows, counted, block, asked, row_count, block_field}
use Rattle.row_spec.specs.Page.{block_page}
use Rattle.row_spec.specs.declared.Column.{Column}
use Rattle.row_spec.specs.declared.Field.{Field}
use Rattle.row_spec.specs.declared.Varint.{Varint}
use Rattle.row_spec.specs.declared.ReadFault.{ReadFault}
use Rattle.row_spec.specs.declared.ReadFault.TheVariants.{CutShort, IllFormed}
use Rattle.row_laws.proofs.Read.{schema-refused}

-- ---- by what was read
pub on-varint-numbered : {A : Type 0} (r : Result Varint ReadFault) (cut ill : ℕ) (f : ℕ → ℕ → Outcome A)
    → ((n next : ℕ) → Numbered (f n next)) → Numbered (on_varint r (refused (suc cut)) (refused (suc ill)) f)
on-varint-numbered (Err CutShort) cut ill f h = refused-numbered cut
on-varint-numbered (Err IllFormed) cut ill f h = refused-numbered ill
on-varint-numbered (Ok r) cut ill f h = h r.number r.next

pub on-value-numbered : {A : Type 0} (v : Value) (cut bad : ℕ) (f : Field → ℕ → Outcome A)
    → ((x : Field) (next : ℕ) → Numbered (f x next)) → Numbered (on_value v (refused (suc cut)) (refused (suc bad)) f)
on-value-numbered (Err CutShort) cut bad f h = refused-numbered cut
on-value-numbered (Err IllFormed) cut bad f h = refused-numbered bad
on-value-numbered (Ok r) cut bad f h = h r.value r.next

-- ---- schemas: their one refusal is 20
pub schema-numbered : (d : List ℕ) → Numbered (schema d)
schema-numbered d e = let z = schema-refused d 0 e in omega arith

pub column-count-numbered : (d : List ℕ) → Numbered (column_count d)
unfolding column_count
column-count-numbered d = told-numbered _ _ (schema-numbered d)

pub column-of-numbered : (d : List ℕ) (i : ℕ) → Numbered (column_of d i)
unfolding column_of
column-of-numbered d i = then-numbered _ _ (schema-numbered d) (λ cols. need-numbered _ _ _ (found-numbered _))

-- ---- row blocks
fields-numbered : (s : List ℕ) (base i : ℕ) (cols : List Column) (at : ℕ) (done : List Field)
    → Numbered (fields s base i cols at done)
unfolding fields
fields-numbered s base i [] at done = found-numbered _
fields-numbered s base i (c ∷ cols) at done =
    on-value-numbered (field_at s base i c at) _ _ _ (λ f next.
    fields-numbered s base (suc i) cols next (done ++ (f ∷ [])))

row-numbered : (s : List ℕ) (cols : List Column) (at : ℕ) → Numbered (row s cols at)
unfolding row
row-numbered s cols at =
    need-numbered _ _ _ (need-numbered _ _ _ (fields-numbered s at 0 cols (at + ceil8 (length cols)) []))

rows-numbered : (s : List ℕ) (cols : List Column) (end i k at : ℕ) (done : List (List Field))
    → Numbered (rows s cols end i k at done)
unfolding rows
rows-numbered s cols end i zero at done = need-numbered _ _ _ (found-numbered _)
rows-numbered s cols end i (suc k) at done =
    need-numbered _ _ _ (then-numbered _ _ (row-numbered (take end s) cols at) (λ r.
    rows-numbered s cols end (suc i) k r.next (done ++ (r.fields ∷ []))))

pub block-numbered : (cols : List Column) (s : List ℕ) → Numbered (block cols s)
unfolding block counted
block-numbered cols s =
    let n = little_at s (length s - 4) 4 in
    need-numbered _ _ _ (need-numbered _ _ _ (rows-numbered s cols (length s - 4 - 4 * n) 0 n 0 []))

pub row-count-numbered : (d s : List ℕ) → Numbered (row_count d s)
unfolding row_count
row-count-numbered d s = then-numbered _ _ (schema-numbered d) (λ cols. told-numbered _ _ (block-numbered cols s))

pub block-field-numbered : (d s : List ℕ) (r c : ℕ) → Numbered (block_field d s r c)
unfolding block_field asked
block-field-numbered d s r c =
    then-numbered _ _ (schema-numbered d)
    (λ cols. then-numbered _ _ (block-numbered cols s) (λ rs. need-numbered _ _ _ (found-numbered _)))

pub block-page-numbered : (d s : List ℕ) (p room : ℕ) → Numbered (block_page d s p room)
unfolding block_page
block-page-numbered d s p room =
    then-numbered _ _ (schema-numbered d) (λ cols. told-numbered _ _ (block-numbered cols s))

-- ---- the number that a call returns
-- after the same outcome, two calls return the same if what follows does
pub then-status : {A B C : Type 0} (o : Outcome A) (f : A → Outcome B) (g : A → Outcome C)
    → ((a : A) → o ≡ found a → status (f a) ≡ status (g a)) → status (then o f) ≡ status (then o g)
then-status (refused n) f g h = refl
then-status (found a) f g h = h a refl

pub page-status : (d s : List ℕ) (p room : ℕ) → status (block_page d s p room) ≡ status (row_count d s)
unfolding block_page row_count
page-status d s p room = then-status (schema d) _ _ (λ cols e. then-status (block cols s) _ _ (λ rs q. refl))
