-- What a fault in the code tells.
use Rattle.std.specs.Prelude.{◌≡◌, Option, None, Some, Result, Ok, Err}
use Rattle.common.specs.Refusal.{number}
use Rattle.bitmap_explain_spec.specs.declared.Fault as code
use Rattle.bitmap_explain_spec.specs.Explain.{Fault, fault, Told, faulty, fine}

-- its five numbers
unfoldable pub numbers : code.Fault → Fault
numbers f = fault (number f.refusal) f.index f.byte f.found f.wanted

-- zeros where there is none
abbrev pub told : Option code.Fault → Fault
told None = fault 0 0 0 0 0
told (Some f) = numbers f

-- the fault told, or none
abbrev pub Finds : {A B : Type 0} → Told A → Result B code.Fault → Type 0
Finds t (Err f) = t ≡ faulty (numbers f)
Finds {A} t (Ok b) = (a : A) × (t ≡ fine a)
