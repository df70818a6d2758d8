-- What was read, and the place of the next byte.
use Rattle.std.specs.Prelude.{ℕ}
use Rattle.row_spec.specs.declared.Read.{Read}

abbrev pub read : {A : Type 0} → A → ℕ → Read A
read x next = record { value = x; next = next }
