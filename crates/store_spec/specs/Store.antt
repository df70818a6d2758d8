-- A store of bitmaps (02: a shelf of zone masks): a directory of numbers and a buffer of bytes, what the two mean, and
-- what a call makes of that meaning. All of it is of a share: 2n numbers and the bytes they speak of. An owner's is one
-- of 32 slots.
-- Slot k of a share has its numbers 2k, where its form starts in the share's bytes, and 2k + 1, how long it is; a
-- length of 0 is an empty slot, whatever its start says. An entry is the bytes that a slot holds: none, or the one
-- written form of a set, which has at least six.
use Rattle.std.specs.Prelude.{ℕ, ◌+◌, ◌*◌, ◌≡◌, Bool, true, false, List, [], ◌∷◌, map, length, get_or, set, take, drop, leb, eqb, Result, Ok, Err}
use Rattle.common.specs.Outcome.{both, either, Outcome, refused, found, then, need}
use Rattle.common.specs.Lists.{from, every}
use Rattle.bitmap_spec.specs.Judge.{judge}
use Rattle.bitmap_spec.specs.Form.{form}
use Rattle.bitmap_spec.specs.Output.{placed}
use Rattle.common.specs.declared.Refusal.{Refusal}
use Rattle.common.specs.Refusal.{number}

-- ---- written forms

-- whether two lists are the same
unfoldable pub same : List ℕ → List ℕ → Bool
same [] [] = true
same [] (y ∷ ys) = false
same (x ∷ xs) [] = false
same (x ∷ xs) (y ∷ ys) = both (eqb x y) (same xs ys)

-- whether what was judged has w as its written form
abbrev pub form_is : List ℕ → Outcome (List ℕ) → Bool
form_is w (refused n) = false
form_is w (found l) = same w (form l)

-- "forms alone": whether w is accepted, and is the written form of the set that it stands for
unfoldable pub is_form : List ℕ → Bool
is_form w = form_is w (judge w)

-- ---- where a slot's form lies

unfoldable pub start_at : List ℕ → ℕ → ℕ
start_at dir k = get_or dir (2 * k) 0

unfoldable pub length_at : List ℕ → ℕ → ℕ
length_at dir k = get_or dir (2 * k + 1) 0

unfoldable pub end_at : List ℕ → ℕ → ℕ
end_at dir k = start_at dir k + length_at dir k

-- the entry of slot k
unfoldable pub entry_at : List ℕ → List ℕ → ℕ → List ℕ
entry_at dir buf k = take (length_at dir k) (drop (start_at dir k) buf)

-- ---- the meaning of a share of n slots

-- an empty slot, or one whose part lies inside the buffer and is a written form
unfoldable pub slot_ok : List ℕ → List ℕ → ℕ → Bool
slot_ok dir buf k = either (eqb (length_at dir k) 0) (both (leb (end_at dir k) (length buf)) (is_form (entry_at dir buf k)))

-- two slots of which one is empty, or whose parts do not overlap; parts that touch do not
unfoldable pub apart : List ℕ → ℕ → ℕ → Bool
apart dir k j =
    either (eqb (length_at dir k) 0)
    (either (eqb (length_at dir j) 0)
    (either (leb (end_at dir k) (start_at dir j)) (leb (end_at dir j) (start_at dir k))))

-- "forms lying apart"
unfoldable pub sound : ℕ → List ℕ → List ℕ → Bool
sound n dir buf = both (every (slot_ok dir buf) (from 0 n)) (every (λ k. every (apart dir k) (from 0 k)) (from 0 n))

unfoldable pub entries_of : ℕ → List ℕ → List ℕ → List (List ℕ)
entries_of n dir buf = map (entry_at dir buf) (from 0 n)

-- "42 a shelf whose own bytes aren't forms lying apart", or whose directory has another length; else its entries
unfoldable pub entries : ℕ → List ℕ → List ℕ → Outcome (List (List ℕ))
entries n dir buf = need (eqb (length dir) (2 * n)) 42 (need (sound n dir buf) 42 (found (entries_of n dir buf)))

-- ---- what a call makes of the entries es, where k is the slot and room the length of the share's bytes

-- how long the entries are together
unfoldable pub total : List (List ℕ) → ℕ
total [] = 0
total (e ∷ es) = length e + total es

-- whether a slot holds a form
abbrev pub some : List ℕ → Bool
some [] = false
some (x ∷ xs) = true

-- entries that a put would leave: "refused for room exactly if the forms in the other slots plus the new one are longer
-- than the buffer"
unfoldable pub room_for : ℕ → List (List ℕ) → Outcome (List (List ℕ))
room_for room es = need (leb (total es) room) 13 (found es)

-- "put stores the written form and replaces what the slot held"; "last 13, in put after the mask's own"
unfoldable pub put_in : ℕ → ℕ → List ℕ → List (List ℕ) → Outcome (List (List ℕ))
put_in room k bitmap es = then (judge bitmap) (λ l. room_for room (set es k (form l)))

-- "41 fetch or drop of an empty slot; last 13"; out is the output's length
unfoldable pub fetch_in : ℕ → ℕ → List (List ℕ) → Outcome (List ℕ)
fetch_in out k es = need (some (get_or es k [])) 41 (placed (get_or es k []) out)

unfoldable pub drop_in : ℕ → List (List ℕ) → Outcome (List (List ℕ))
drop_in k es = need (some (get_or es k [])) 41 (found (set es k []))

-- ---- what a call answers, and the store that it leaves

-- the answer that a result stands for: the refusal, or no bytes
abbrev pub told : Result (Unit {0}) Refusal → Outcome (List ℕ)
told (Err r) = refused (number r)
told (Ok u) = found []

unfoldable pub done_of : Outcome (List (List ℕ)) → Outcome (List ℕ)
done_of (refused n) = refused n
done_of (found es) = found []

-- A refused call leaves directory and buffer as they were. Else the directory and the buffer, which keep their lengths,
-- mean the entries es: "where forms lie, and all other bytes, are free".
unfoldable pub Left : Outcome (List (List ℕ)) → ℕ → List ℕ → List ℕ → List ℕ → List ℕ → Type 0
Left (refused m) n dir buf dir' buf' = (dir' ≡ dir) × (buf' ≡ buf)
Left (found es) n dir buf dir' buf' =
    (length dir' ≡ length dir) × (length buf' ≡ length buf) × (entries n dir' buf' ≡ found es)

-- put: a call of outcome o on a share of n slots answers r and turns dir and buf into dir' and buf'
pub record Changes (o : Outcome (List (List ℕ))) (n : ℕ) (dir buf dir' buf' : List ℕ) (r : Result (Unit {0}) Refusal) : Type 0 where
  pub says : told r ≡ done_of o
  pub left : Left o n dir buf dir' buf'

-- the directory after a drop of slot k: its length is 0, all else is as it was
unfoldable pub emptied : Outcome (List (List ℕ)) → ℕ → List ℕ → List ℕ
emptied (refused m) k dir = dir
emptied (found es) k dir = set dir (2 * k + 1) 0

-- drop: the same with the buffer as it was, and the directory to the number
pub record Drops (o : Outcome (List (List ℕ))) (n k : ℕ) (dir buf dir' : List ℕ) (r : Result (Unit {0}) Refusal) : Type 0 where
  pub says : told r ≡ done_of o
  pub numbers : dir' ≡ emptied o k dir
  pub left : Left o n dir buf dir' buf
