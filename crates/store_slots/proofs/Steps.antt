-- The tests of a share from their parts.
-- Assumes nothing.
use mathlib.Core.Path.{◌≡◌, sym, ◌∙◌}
use mathlib.Core.Bool.{Bool, true, false}
use mathlib.Core.List.{List}
use Prim.Native.Nat.{ℕ, ◌+◌, ◌-◌, ◌≤◌, ◌<◌}
use native.Mathlib.Nat.{zero-add}
use native.Mathlib.Omega.{arith}
use borrow.Author.Tests.{eq-eqb, ne_eqb, le-leb, lt-leb}
use lib.ListN.{length, take, drop}
use lib.Dec.{leb}
use Rattle.common.specs.Lists.{from, every}
use Rattle.common.proofs.Lists.{every-hit, every-all}
use Rattle.store_spec.specs.Store.{is_form, start_at, length_at, end_at, entry_at, slot_ok, apart, sound}

-- ---- one slot
module _ (dir buf : List ℕ) (k n : ℕ) (hn : n ≡ length_at dir k) where
  pub ok-empty : n ≡ 0 → true ≡ slot_ok dir buf k
  unfolding slot_ok
  ok-empty e = sym (rw (eq-eqb (length_at dir k) 0 (sym hn ∙ e)))

  pub ok-outside : (a : ℕ) → a ≡ start_at dir k → (n ≡ 0 → ⊥) → length buf < a + n → false ≡ slot_ok dir buf k
  unfolding slot_ok end_at
  ok-outside a ha h l = sym (rw (ne_eqb (length_at dir k) 0 (λ q. h (hn ∙ q)), ← ha, ← hn, lt-leb _ _ l))

  pub ok-inside : (a : ℕ) → a ≡ start_at dir k → (n ≡ 0 → ⊥) → a + n ≤ length buf
      → is_form (take (a + n - a) (drop a buf)) ≡ slot_ok dir buf k
  unfolding slot_ok end_at entry_at
  ok-inside a ha h l =
      let z : a + n - a ≡ n = omega arith in
      sym (rw (ne_eqb (length_at dir k) 0 (λ q. h (hn ∙ q)), ← ha, ← hn, le-leb _ _ l, z))

-- ---- two slots
module _ (dir : List ℕ) (k j m : ℕ) (hm : m ≡ length_at dir k) where
  pub apart-one : m ≡ 0 → true ≡ apart dir k j
  unfolding apart
  apart-one e = sym (rw (eq-eqb (length_at dir k) 0 (sym hm ∙ e)))

  module _ (n : ℕ) (hn : n ≡ length_at dir j) (some : m ≡ 0 → ⊥) where
    pub apart-two : n ≡ 0 → true ≡ apart dir k j
    unfolding apart
    apart-two e = sym (rw (ne_eqb (length_at dir k) 0 (λ q. some (hm ∙ q)), eq-eqb (length_at dir j) 0 (sym hn ∙ e)))

    module _ (a b : ℕ) (ha : a ≡ start_at dir k) (hb : b ≡ start_at dir j) (other : n ≡ 0 → ⊥) where
      pub apart-before : a + m ≤ b → true ≡ apart dir k j
      unfolding apart end_at
      apart-before l =
          sym
          (rw (
            ne_eqb (length_at dir k) 0 (λ q. some (hm ∙ q)),
            ne_eqb (length_at dir j) 0 (λ q. other (hn ∙ q)),
            ← ha,
            ← hb,
            ← hm,
            le-leb _ _ l,
          ))

      pub apart-after : b < a + m → leb (b + n) a ≡ apart dir k j
      unfolding apart end_at
      apart-after l =
          sym
          (rw (
            ne_eqb (length_at dir k) 0 (λ q. some (hm ∙ q)),
            ne_eqb (length_at dir j) 0 (λ q. other (hn ∙ q)),
            ← ha,
            ← hb,
            ← hm,
            ← hn,
            lt-leb (a + m) b l,
          ))

-- ---- a test of all
pub one-fails : (f : ℕ → Bool) (n i : ℕ) (r : Bool) → i < n → r ≡ f i → r ≡ false → false ≡ every f (from 0 n)
one-fails f n i r h e q = sym (every-hit f 0 n i h (rw (zero-add i) (sym e ∙ q)))

pub all_hold : (f : ℕ → Bool) (n i : ℕ) → n ≤ i → ((j : ℕ) → j < i → f j ≡ true) → true ≡ every f (from 0 n)
all_hold f n i h g = sym (every-all f 0 n (λ j l. rw (zero-add j) (g j (omega arith))))

pub slots-fail : (n : ℕ) (dir buf : List ℕ) (r : Bool) → r ≡ every (slot_ok dir buf) (from 0 n) → r ≡ false
    → false ≡ sound n dir buf
unfolding sound
slots-fail n dir buf r e q = sym (rw (← e, q))

pub slots-hold : (n : ℕ) (dir buf : List ℕ) (r t : Bool) → r ≡ every (slot_ok dir buf) (from 0 n) → r ≡ true
    → t ≡ every (λ k. every (apart dir k) (from 0 k)) (from 0 n) → t ≡ sound n dir buf
unfolding sound
slots-hold n dir buf r t e q p = p ∙ sym (rw (← e, q))
