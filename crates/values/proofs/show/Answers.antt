-- Case by case; the stored count of a time fits its 64 bits. Assumes nothing.
use mathlib.Core.Bool.{Bool, true, false}
use lib.IntN.{ℤ, pos}
use mir.Val.{to_z, bool_byte}
use Rattle.common.specs.Outcome.{one}
use mir.Facts.{to_z-of_z}
use mir.Syntax.{w64}
use Rattle.row_spec.specs.Answer.{shown, as_plain}
use mathlib.Core.Path.{◌≡◌, refl, ap, ◌∙◌}
use borrow.Author.Rules.{rules}
use Rattle.values.proofs.show.Goals as goal

bool-number : (b : Bool) → to_z w64 (bool_byte b) ≡ pos (one b)
bool-number true = refl
bool-number false = refl

pub returns-in-Null : goal.returns-in-Null
unfolding shown
returns-in-Null c = rw c.in-Null.is c.plain.ensures

pub returns-in-Bool : goal.returns-in-Bool
unfolding shown
returns-in-Bool c =
    rw c.in-Bool.is (c.plain-in-Bool.ensures ∙ ap (λ (z : ℤ). as_plain 1 z 0) (bool-number c.in-Bool.b))

pub returns-in-Whole : goal.returns-in-Whole
unfolding shown
returns-in-Whole c =
    rw c.in-Whole.is
    (c.plain-in-Whole.ensures ∙ ap (λ (z : ℤ). as_plain 2 z 0)
    (to_z-of_z {w = w64} (search rules)))

pub returns-in-F32 : goal.returns-in-F32
unfolding shown
returns-in-F32 c =
    rw (c.in-F32.is, ← c.float_bits.ensures) c.plain-in-F32.ensures

pub returns-in-NanF32 : goal.returns-in-NanF32
unfolding shown
returns-in-NanF32 c = rw c.in-NanF32.is c.plain-in-NanF32.ensures

pub returns-in-F64 : goal.returns-in-F64
unfolding shown
returns-in-F64 c =
    rw (c.in-F64.is, ← c.double_bits.ensures) c.plain-in-F64.ensures

pub returns-in-NanF64 : goal.returns-in-NanF64
unfolding shown
returns-in-NanF64 c = rw c.in-NanF64.is c.plain-in-NanF64.ensures

pub returns-in-Time : goal.returns-in-Time
unfolding shown
returns-in-Time c =
    rw c.in-Time.is
    (ap (λ (z : ℤ). record { kind = 5; whole = z; bits = 0; nanos = c.in-Time.nanos; start = 0; length = 0 })
    (to_z-of_z {w = w64} (search rules)))

pub returns-in-Place : goal.returns-in-Place
unfolding shown
returns-in-Place c = rw c.in-Place.is
