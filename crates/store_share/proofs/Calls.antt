-- What the calls on a share give, from what their code found out.
-- Assumes nothing.
use mathlib.Core.Path.{◌≡◌, refl, sym, ap, ◌∙◌}
use mathlib.Core.Logic.{◌⊎◌, inl, inr, ⊎_elim}
use mathlib.Core.Bool.{Bool, true, false}
use mathlib.Core.List.{List}
use Prim.Native.Nat.{ℕ, zero, suc, ◌+◌, ◌*◌, ◌≤◌, ◌<◌}
use native.Mathlib.Omega.{arith}
use lib.ListN.{length, take, drop}
use Rattle.common.specs.Outcome.{Outcome, refused, then}
use Rattle.bitmap_spec.specs.Output.{written, after, length_of, Gives}
use Rattle.std.specs.Prelude.{Result, Ok, Err}
use Rattle.common.specs.declared.Refusal.{Refusal}
use Rattle.common.specs.declared.Refusal.TheVariants as refusal
use Rattle.common.specs.Refusal.{number}
use Rattle.bitmap_laws.proofs.Output.{refuse13, give, from_start}
use Rattle.store_spec.specs.Store.{start_at, length_at, entry_at, sound, entries, fetch_in}
use Rattle.store_laws.proofs.Slots.{Lies, sound-lies, entry-long}
use Rattle.store_laws.proofs.Changes.{bad-entries, fetch-some, end_is}

pub lies : (n : ℕ) (dir buf : List ℕ) (r : Bool) → r ≡ sound n dir buf → r ≡ true → Lies n dir buf
lies n dir buf r e q = sound-lies n dir buf (sym e ∙ q)

pub bad : {A : Type 0} (n : ℕ) (dir buf : List ℕ) (f : List (List ℕ) → Outcome A) (r : Bool) → length dir ≡ 2 * n
    → r ≡ sound n dir buf → r ≡ false → then (entries n dir buf) f ≡ refused 42
bad n dir buf f r len e q = bad-entries n dir buf f len (sym e ∙ q)

pub gives-refused : (o : Outcome (List ℕ)) (m : Refusal) (before : List ℕ) → o ≡ refused (number m)
    → Gives o before before (Err m)
unfolding after length_of
gives-refused o m before e = record { says = rw e; holds = rw e }

pub gives_as : (o p : Outcome (List ℕ)) (before rest : List ℕ) (r : Result ℕ Refusal) → o ≡ p → Gives p before rest r
    → Gives o before rest r
gives_as o p before rest r e g = rw e g

module _ (n : ℕ) (dir buf : List ℕ) (k m : ℕ) (s : Lies n dir buf) (len : length dir ≡ 2 * n) (h : k < n)
    (em : m ≡ length_at dir k) (some : m ≡ 0 → ⊥) where
  there : 0 < length_at dir k
  there = ⊎_elim (λ q. absurd (some (em ∙ sym q))) (λ q. q) (zero_or (length_at dir k))
    where
      zero_or : (x : ℕ) → (0 ≡ x) ⊎ (0 < x)
      zero_or zero = inl refl
      zero_or (suc x) = inr (omega arith)

  pub ends-inside : start_at dir k + m ≤ length buf
  ends-inside = omega (arith, end_is dir k, s.inside k h there)

  pub fetch-13 : (out : List ℕ) → length out < m
      → Gives (then (entries n dir buf) (fetch_in (length out) k)) out out (Err refusal.Room)
  fetch-13 out l =
      gives_as _ _ out out (Err refusal.Room) (fetch-some n dir buf k s len h (length out) there)
      (refuse13 (entry_at dir buf k) out (omega (arith, entry-long n dir buf k s h)))

  pub fetch-done : (out out' : List ℕ) (a : ℕ) → a ≡ start_at dir k → m ≤ length out
      → out' ≡ written out 0 (take m (drop a buf))
      → Gives (then (entries n dir buf) (fetch_in (length out) k)) out out' (Ok m)
  unfolding entry_at
  fetch-done out out' a ea room e =
      let part : take m (drop a buf) ≡ entry_at dir buf k = rw (ea, em) in
      gives_as _ _ out out' (Ok m) (fetch-some n dir buf k s len h (length out) there)
      (give (entry_at dir buf k) out out' m (omega (arith, entry-long n dir buf k s h))
      (e ∙ ap (written out 0) part ∙ from_start out (entry_at dir buf k))
      (em ∙ sym (entry-long n dir buf k s h)))
