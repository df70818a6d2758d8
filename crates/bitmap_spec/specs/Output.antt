-- What a call that writes a bitmap answers, and what it leaves in its output.
use Rattle.std.specs.Prelude.{ℕ, ◌+◌, ◌≡◌, List, ◌++◌, length, take, drop, leb, Result}
use Rattle.common.specs.Outcome.{Outcome, refused, found, then, need}
use Rattle.common.specs.Lists.{rising}
use Rattle.common.specs.Refusal.{outcome}
use Rattle.common.specs.declared.Refusal.{Refusal}
use Rattle.bitmap_spec.specs.Judge.{judge}
use Rattle.bitmap_spec.specs.Form.{form}
use Rattle.bitmap_spec.specs.Sets.{combine}
use Rattle.bitmap_spec.specs.declared.Operation.{Operation}

-- "room (13) is last": 13 where the form is longer than the room, else the form
unfoldable pub placed : List ℕ → ℕ → Outcome (List ℕ)
placed w room = need (leb (length w) room) 13 (found w)

-- Writing a list of positions: "12: not strictly rising, or a position too large".
unfoldable pub write : List ℕ → ℕ → Outcome (List ℕ)
write l room = need (rising 2097152 0 l) 12 (placed (form l) room)

-- A combining call on the bytes a and b: "the first bitmap is judged wholly before the second".
unfoldable pub called : Operation → List ℕ → List ℕ → ℕ → Outcome (List ℕ)
called o a b room = then (judge a) (λ x. then (judge b) (λ y. placed (form (combine o x y)) room))

-- the output after the call: "that many first bytes of the output hold the form and the rest is unchanged"; unchanged after a refusal
unfoldable pub after : Outcome (List ℕ) → List ℕ → List ℕ
after (refused n) before = before
after (found w) before = w ++ drop (length w) before

-- "the call gives the form's length"
unfoldable pub length_of : Outcome (List ℕ) → Outcome ℕ
length_of (refused n) = refused n
length_of (found w) = found (length w)

-- both at once: a call of outcome o answers r and turns the output before into rest
pub record Gives (o : Outcome (List ℕ)) (before rest : List ℕ) (r : Result ℕ Refusal) : Type 0 where
  pub says : outcome r ≡ length_of o
  pub holds : rest ≡ after o before

-- the bytes l from at on, and all else as before: what a part of the writer leaves
unfoldable pub written : List ℕ → ℕ → List ℕ → List ℕ
written before at l = take at before ++ (l ++ drop (at + length l) before)
