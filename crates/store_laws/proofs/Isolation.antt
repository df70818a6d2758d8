-- "Two runs from one shelf, handed on unchanged, that agree in one crew's calls, whatever the other crew does, give
-- that crew the same answers." The runs are any that keep the calls' contracts, from any store, also one that is bad.
-- Why: an owner's answers follow from its own calls, what its own slots mean at first and the length of its half
-- (`replay`), and another owner's call and a save leave these as they are.
-- Assumes nothing.
use mathlib.Core.Path.{◌≡◌, refl, sym, ap, ap₂, ◌∙◌}
use mathlib.Core.Logic.{◌⊎◌, inl, inr}
use mathlib.Core.List.{List, [], ◌∷◌}
use Prim.Native.Nat.{ℕ, ◌%◌}
use borrow.Author.Tests.{eq-eqb, ne_eqb}
use lib.ListN.{length}
use lib.Dec.{eqb}
use Rattle.common.specs.Outcome.{pick, Outcome, refused, found, then}
use Rattle.store_spec.specs.Store.{put_in, fetch_in, drop_in, done_of}
use Rattle.store_spec.specs.Owners.{half, part, own_entries, on_slot, put_on, fetch_on, drop_on, OwnLeft}
use Rattle.store_spec.specs.Runs.{Call, puts, fetches, drops, answer, Leaves, Step, Turn, Run}
use Rattle.store_spec.specs.Runs.{over, called, saved, calls_of, answers_of}
use Rattle.store_laws.proofs.Slots.{same_or}
use Rattle.store_laws.proofs.Halves.{own-only, half-same, half-left, other-left}

-- ---- an owner's answers from its own calls: m is what its slots mean, room its half's length

answer_to : ℕ → ℕ → Call → Outcome (List (List ℕ)) → Outcome (List ℕ)
answer_to o room (puts k bitmap) m = done_of (on_slot o k (then m (put_in room (k % 32) bitmap)))
answer_to o room (fetches k out) m = on_slot o k (then m (fetch_in out (k % 32)))
answer_to o room (drops k) m = done_of (on_slot o k (then m (drop_in (k % 32))))

-- what its slots mean after a change of outcome x
after : Outcome (List (List ℕ)) → Outcome (List (List ℕ)) → Outcome (List (List ℕ))
after (refused n) m = m
after (found es) m = found es

next : ℕ → ℕ → Call → Outcome (List (List ℕ)) → Outcome (List (List ℕ))
next o room (puts k bitmap) m = after (on_slot o k (then m (put_in room (k % 32) bitmap))) m
next o room (fetches k out) m = m
next o room (drops k) m = after (on_slot o k (then m (drop_in (k % 32)))) m

replay : ℕ → ℕ → List Call → Outcome (List (List ℕ)) → List (Outcome (List ℕ))
replay o room [] m = []
replay o room (c ∷ cs) m = answer_to o room c m ∷ replay o room cs (next o room c m)

answer-is : (o : ℕ) (c : Call) (dir buf : List ℕ) → answer o c dir buf ≡ answer_to o (half buf) c (own_entries o dir buf)
unfolding answer answer_to put_on fetch_on drop_on
answer-is o (puts k bitmap) dir buf = refl
answer-is o (fetches k out) dir buf = refl
answer-is o (drops k) dir buf = refl

-- ---- one step
after-left : (o : ℕ) (x : Outcome (List (List ℕ))) (dir buf dir' buf' : List ℕ) → OwnLeft o x dir buf dir' buf'
    → own_entries o dir' buf' ≡ after x (own_entries o dir buf)
unfolding OwnLeft after
after-left o (refused n) dir buf dir' buf' h = ap₂ (λ (d b : List ℕ). own_entries o d b) h.0 h.1
after-left o (found es) dir buf dir' buf' h = h.2

module _ (o : ℕ) (dir buf dir' buf' : List ℕ) where
  leaves-half : (c : Call) → Leaves o c dir buf dir' buf' → half buf' ≡ half buf
  unfolding Leaves
  leaves-half (puts k bitmap) h = half-left o _ dir buf dir' buf' h
  leaves-half (fetches k out) h = ap half h.1
  leaves-half (drops k) h = half-left o _ dir buf dir' buf' h

  -- the owner's own slots then mean what its own meaning and call say
  leaves-own : (c : Call) → Leaves o c dir buf dir' buf'
      → own_entries o dir' buf' ≡ next o (half buf) c (own_entries o dir buf)
  unfolding Leaves next put_on drop_on
  leaves-own (puts k bitmap) h = after-left o _ dir buf dir' buf' h
  leaves-own (fetches k out) h = ap₂ (λ (d b : List ℕ). own_entries o d b) h.0 h.1
  leaves-own (drops k) h = after-left o _ dir buf dir' buf' h

  leaves-other : (p : ℕ) → (p ≡ o → ⊥) → (c : Call) → Leaves o c dir buf dir' buf'
      → own_entries p dir' buf' ≡ own_entries p dir buf
  unfolding Leaves
  leaves-other p d (puts k bitmap) h = other-left o p _ dir buf dir' buf' d h
  leaves-other p d (fetches k out) h = ap₂ (λ (d b : List ℕ). own_entries p d b) h.0 h.1
  leaves-other p d (drops k) h = other-left o p _ dir buf dir' buf' d h

-- another owner's step keeps what an owner's slots mean
pub step_other : (o p : ℕ) (c : Call) (dir buf dir' buf' : List ℕ) (a : Outcome (List ℕ)) → (p ≡ o → ⊥)
    → Step o c dir buf dir' buf' a → own_entries p dir' buf' ≡ own_entries p dir buf
step_other o p c dir buf dir' buf' a d s = leaves-other o dir buf dir' buf' p d c s.left

-- ---- a run: an owner's answers are those of its own calls replayed
module _ (o : ℕ) where
  played : {dir buf dir' buf' : List ℕ} {ts : List Turn} → Run dir buf ts dir' buf'
      → answers_of o ts ≡ replay o (half buf) (calls_of o ts) (own_entries o dir buf)
  unfolding answers_of calls_of replay
  played over = refl
  played (saved e r) = played r
  played {dir} {buf} (called {dir₁ = dir₁} {buf₁ = buf₁} {o = p} {c = c} {a = a} {ts = ts} s r) =
      go (same_or p o) (played r)
    where
      halves : half buf₁ ≡ half buf
      halves = leaves-half p dir buf dir₁ buf₁ c s.left

      go : (p ≡ o) ⊎ (p ≡ o → ⊥)
          → answers_of o ts ≡ replay o (half buf₁) (calls_of o ts) (own_entries o dir₁ buf₁)
          → pick (eqb p o) (a ∷ answers_of o ts) (answers_of o ts)
          ≡ replay o (half buf) (pick (eqb p o) (c ∷ calls_of o ts) (calls_of o ts)) (own_entries o dir buf)
      go (inl q) e =
          let own : Step o c dir buf dir₁ buf₁ a = rw q at s in
          rw (eq-eqb p o q)
          (ap₂ (λ (x : Outcome (List ℕ)) (xs : List (Outcome (List ℕ))). x ∷ xs)
          (own.says ∙ answer-is o c dir buf)
          (e ∙ rw (halves, leaves-own o dir buf dir₁ buf₁ c own.left)))
      go (inr d) e =
          rw (ne_eqb p o d) (e ∙ rw (halves, leaves-other p dir buf dir₁ buf₁ o (λ q. d (sym q)) c s.left))

  -- from two stores that are as long and agree in the owner's numbers and half, whatever the rest holds: one in which
  -- another owner has spoiled its own numbers and half is as good as any
  pub owners-apart-from : {dir buf dir₁ buf₁ dir₂ buf₂ dir₃ buf₃ : List ℕ} {ts us : List Turn}
      → Run dir buf ts dir₁ buf₁ → Run dir₂ buf₂ us dir₃ buf₃ → length dir₂ ≡ length dir → length buf₂ ≡ length buf
      → part o 64 dir₂ ≡ part o 64 dir → part o (half buf) buf₂ ≡ part o (half buf) buf → calls_of o ts ≡ calls_of o us
      → answers_of o ts ≡ answers_of o us
  owners-apart-from {dir} {buf} {dir₂ = dir₂} {buf₂ = buf₂} {ts = ts} {us = us} r s ld lb ed eb e =
      played r
      ∙ ap (λ (cs : List Call). replay o (half buf) cs (own_entries o dir buf)) e
      ∙ sym (ap₂ (λ (h : ℕ) (m : Outcome (List (List ℕ))). replay o h (calls_of o us) m)
      (half-same buf buf₂ lb) (own-only o dir buf dir₂ buf₂ ld lb ed eb))
      ∙ sym (played s)

  pub owners-apart : {dir buf dir₁ buf₁ dir₂ buf₂ : List ℕ} {ts us : List Turn} → Run dir buf ts dir₁ buf₁
      → Run dir buf us dir₂ buf₂ → calls_of o ts ≡ calls_of o us → answers_of o ts ≡ answers_of o us
  owners-apart r s e = owners-apart-from r s refl refl refl refl e
