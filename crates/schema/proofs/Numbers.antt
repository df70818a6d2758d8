-- A number that a type carries: read or not; a type that carries none.
-- Assumes nothing.
use Rattle.std.specs.Prelude.{Option, Some, None, Result, Ok, Err}
use Rattle.std.specs.Result.{result_ok}
use mathlib.Core.Path.{◌≡◌, refl}
use Prim.Native.Nat.{ℕ}
use Rattle.common.proofs.Outcomes.{clash}
use Rattle.row_spec.specs.Varint.{on_varint}
use Rattle.row_spec.specs.Schema.{with_number}
use Rattle.row_spec.specs.declared.Varint.{Varint}
use Rattle.row_spec.specs.declared.ReadFault.{ReadFault}
use Rattle.row_spec.specs.declared.ReadFault.TheVariants.{CutShort, IllFormed}
use Rattle.row_spec.specs.declared.ColumnType.{ColumnType}
use Rattle.row_spec.specs.declared.ColumnType.TheVariants as type

-- which types carry no number
pub record Plain (t : ColumnType) : Type 0 where
  pub not-Char : (n : ℕ) → t ≡ type.Char n → ⊥
  pub not-Varchar : (n : ℕ) → t ≡ type.Varchar n → ⊥
  pub not-Binary : (n : ℕ) → t ≡ type.Binary n → ⊥
  pub not-Varbinary : (n : ℕ) → t ≡ type.Varbinary n → ⊥
  pub not-Time : (n : ℕ) → t ≡ type.Time n → ⊥
  pub not-Timestamp : (n : ℕ) → t ≡ type.Timestamp n → ⊥
  pub not-Decimal : (p n : ℕ) → t ≡ type.Decimal p n → ⊥

pub plain-number : (t : ColumnType) (n : ℕ) → Plain t → t ≡ with_number t n
plain-number type.Boolean n h = refl
plain-number type.TinyInt n h = refl
plain-number type.SmallInt n h = refl
plain-number type.Int n h = refl
plain-number type.BigInt n h = refl
plain-number type.Float n h = refl
plain-number type.Double n h = refl
plain-number type.Date n h = refl
plain-number type.String n h = refl
plain-number type.Bytes n h = refl
plain-number (type.Char k) n h = absurd (h.not-Char k refl)
plain-number (type.Varchar k) n h = absurd (h.not-Varchar k refl)
plain-number (type.Binary k) n h = absurd (h.not-Binary k refl)
plain-number (type.Varbinary k) n h = absurd (h.not-Varbinary k refl)
plain-number (type.Time k) n h = absurd (h.not-Time k refl)
plain-number (type.Timestamp k) n h = absurd (h.not-Timestamp k refl)
plain-number (type.Decimal p k) n h = absurd (h.not-Decimal p k refl)
