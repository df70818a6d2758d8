-- What the calls that ask for a column or a field return and leave in their outputs.
use Rattle.std.specs.Prelude.{ℕ}
use Rattle.common.specs.Outcome.{Outcome, one, Call}
use Rattle.row_spec.specs.Answer.{shown, type_shown}
use Rattle.row_spec.specs.declared.Column.{Column}
use Rattle.row_spec.specs.declared.Field.{Field}
use Rattle.row_spec.specs.declared.Shown.{Shown}

-- a column as plain numbers: its type's, and 1 where it may be null, else 0
pub record ColumnShown : Type 0 where
  pub id : ℕ
  pub nullable : ℕ
  pub size : ℕ
  pub scale : ℕ

unfoldable pub column_shown : Column → ColumnShown
column_shown c = record {
  id = (type_shown c.ty).id;
  nullable = one c.nullable;
  size = (type_shown c.ty).size;
  scale = (type_shown c.ty).scale;
}

-- a column call of outcome o returns r and turns its outputs before into now
abbrev pub ColumnCall : Outcome Column → ℕ → ColumnShown → ColumnShown → Type 0
ColumnCall o r before now = Call o column_shown r before now

-- a field call of outcome o returns r and turns its outputs before into now
abbrev pub FieldCall : Outcome Field → ℕ → Shown → Shown → Type 0
FieldCall o r before now = Call o shown r before now
