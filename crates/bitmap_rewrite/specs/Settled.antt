-- What settling does to the descriptors of a judged bitmap.
use Rattle.std.specs.Prelude.{ℕ, ◌/◌, ◌≤◌, ◌<◌, min, ◌≡◌, List, ◌++◌, length, get_or, take, drop, Result, Ok, Err}
use Rattle.common.specs.Outcome.{refused, found}
use Rattle.bitmap_spec.specs.Judge.{judge}
use Rattle.bitmap_spec.specs.Form.{form, write_chunks}
use Rattle.bitmap_laws.proofs.Round.{header}
use Rattle.bitmap_laws.proofs.Values.{AllLe}
use Rattle.form_write.specs.Described.{Trimmed}
use Rattle.bitmap_rewrite.specs.declared.Prepared.{Prepared}
use Rattle.common.specs.declared.Refusal.{Refusal}
use Rattle.common.specs.Refusal.{number}

-- the first n descriptors are at most 32, and the last ones of them that are 0 are dropped: m are left
pub record Settled (d d' : List ℕ) (n m : ℕ) : Type 0 where
  pub levelled : (k : ℕ) → k < n → get_or d' k 0 ≡ min (get_or d k 0) 32
  pub trimmed : Trimmed d' n m

-- header and chunks of the descriptors ds, and then the bytes of s from start on
unfoldable pub laid : List ℕ → ℕ → List ℕ → ℕ → List ℕ
laid s start ds card = header card (length ds) ++ (write_chunks (length ds / 256) ds ++ drop start s)

-- the set l has a form of the first n descriptors of d and the bytes of s from start on
pub record Ready (s d l : List ℕ) (n start card size : ℕ) : Type 0 where
  pub few : n ≤ 8192
  pub long : length d ≡ 8192
  pub inside : start ≤ length s
  pub fine : AllLe 63 (take n d)
  pub whole : form l ≡ laid s start (take n d) card
  pub sized : size ≡ length (form l)

unfoldable pub Prepares : List ℕ → List ℕ → Result Prepared Refusal → Type 0
Prepares s d (Err r) = judge s ≡ refused (number r)
Prepares s d (Ok p) = (l : List ℕ) × (judge s ≡ found l) × Ready s d l p.count p.start p.cardinality p.size
