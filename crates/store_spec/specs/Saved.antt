-- A saved store: "64 entries, each a length in groups of seven bits and then the bytes, 0 for an empty slot".
use Rattle.std.specs.Prelude.{Result, Ok, Err, ℕ, zero, suc, ◌+◌, Bool, List, [], ◌∷◌, ◌++◌, length, take, drop, leb, eqb}
use Rattle.common.specs.Outcome.{pick, either, Outcome, refused, found, then, need}
use Rattle.bitmap_spec.specs.Output.{placed}
use Rattle.row_spec.specs.Varint.{varint_at, shortest}
use Rattle.row_spec.specs.declared.Varint.{Varint}
use Rattle.row_spec.specs.declared.ReadFault.{ReadFault}
use Rattle.store_spec.specs.Store.{is_form, total}
use Rattle.store_spec.specs.Owners.{all_entries}

-- ---- saving

-- "each a length in groups of seven bits and then the bytes"
unfoldable pub saved : List (List ℕ) → List ℕ
saved [] = []
saved (e ∷ es) = shortest (length e) ++ (e ++ saved es)

-- 42, then 13; out is the output's length
unfoldable pub save_on : ℕ → List ℕ → List ℕ → Outcome (List ℕ)
save_on out dir buf = then (all_entries dir buf) (λ es. placed (saved es) out)

-- ---- loading

-- what a slot may hold: nothing, or a written form
unfoldable pub is_entry : List ℕ → Bool
is_entry e = either (eqb (length e) 0) (is_form e)

-- "with shortest lengths": a padded length is as bad as none
abbrev pub on_shortest : {A : Type 0} → Result Varint ReadFault → A → (ℕ → ℕ → A) → A
on_shortest (Err e) bad f = bad
on_shortest (Ok r) bad f = pick r.shortest (f r.number r.next) bad

-- an entry read, and the byte after it
pub record Taken : Type 0 where
  pub entry : List ℕ
  pub next : ℕ

-- "exactly such entries, of forms alone, with shortest lengths"
unfoldable pub entry_from : List ℕ → ℕ → Outcome Taken
entry_from s at =
    on_shortest (varint_at s at) (refused 42)
    (λ n next. need (leb (next + n) (length s)) 42
    (need (is_entry (take n (drop next s))) 42 (found (record { entry = take n (drop next s); next = next + n }))))

-- the entries read, and the byte after them
pub record Scan : Type 0 where
  pub held : List (List ℕ)
  pub next : ℕ

-- n entries from at on; acc holds those before them
unfoldable pub scan : List ℕ → ℕ → List (List ℕ) → ℕ → Outcome Scan
scan s at acc zero = found (record { held = acc; next = at })
scan s at acc (suc n) = then (entry_from s at) (λ t. scan s t.next (acc ++ (t.entry ∷ [])) n)

-- "and nothing behind"; 42 "for a saved half that doesn't fit": the first 32 forms or the last; room is a half's length
unfoldable pub fitting : ℕ → List ℕ → Scan → Outcome (List (List ℕ))
fitting room s r =
    need (eqb r.next (length s)) 42
    (need (leb (total (take 32 r.held)) room) 42
    (need (leb (total (drop 32 r.held)) room) 42 (found r.held)))

-- "load doesn't judge the shelf it replaces"; a directory of another length is 42
unfoldable pub load_on : List ℕ → ℕ → List ℕ → Outcome (List (List ℕ))
load_on dir room s = need (eqb (length dir) 128) 42 (then (scan s 0 [] 64) (fitting room s))
