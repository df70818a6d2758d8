-- A bool as a byte is 1 or 0. Assumes nothing.
use mathlib.Core.Path.{◌≡◌, refl}
use mathlib.Core.Bool.{Bool, true, false}
use mir.Val.{bool_byte}
use Rattle.common.specs.Outcome.{one}

pub bool-byte : (b : Bool) → bool_byte b ≡ one b
bool-byte true = refl
bool-byte false = refl
