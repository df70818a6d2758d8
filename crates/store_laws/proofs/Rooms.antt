-- Forms that lie apart are together no longer than the buffer: each place is counted by one of them at most.
-- Assumes nothing.
use mathlib.Core.Path.{◌≡◌, refl, ◌∙◌}
use mathlib.Core.Logic.{⊎_elim}
use mathlib.Core.Bool.{Bool, true, false}
use mathlib.Core.List.{List}
use Prim.Native.Nat.{ℕ, zero, suc, ◌+◌, ◌-◌, ◌≤◌, ◌<◌}
use native.Mathlib.Nat.{zero-add}
use native.Mathlib.Omega.{arith}
use borrow.Author.Tests.{lt-ltb, le-ltb, le-leb, lt-leb}
use lib.ListN.{length}
use lib.Dec.{leb, ltb}
use Rattle.common.specs.Outcome.{both, one}
use Rattle.bitmap_spec.proofs.Window.{below_or}
use Rattle.bitmap_spec.proofs.Tally.{tally, tally-same}
use Rattle.store_spec.specs.Store.{start_at, length_at, end_at, entries_of, total}
use Rattle.store_laws.proofs.Slots.{Lies, total-is}

-- ---- sums of sums
tally-both : (f g : ℕ → ℕ) (n : ℕ) → tally (λ k. f k + g k) 0 n ≡ tally f 0 n + tally g 0 n
unfolding tally
tally-both f g zero = refl
tally-both f g (suc n) = omega (arith, tally-both f g n)

tally-none : (n : ℕ) → tally (λ k. 0) 0 n ≡ 0
unfolding tally
tally-none zero = refl
tally-none (suc n) = omega (arith, tally-none n)

tally-swap : (f : ℕ → ℕ → ℕ) (n m : ℕ) → tally (λ k. tally (f k) 0 m) 0 n ≡ tally (λ p. tally (λ k. f k p) 0 n) 0 m
unfolding tally
tally-swap f n zero = tally-none n
tally-swap f n (suc m) = tally-both (λ k. tally (f k) 0 m) (λ k. f k (0 + m)) n ∙ rw (tally-swap f n m)

tally-ones : (f : ℕ → ℕ) (n : ℕ) → ((i : ℕ) → i < n → f i ≤ 1) → tally f 0 n ≤ n
unfolding tally
tally-ones f zero h = omega arith
tally-ones f (suc n) h = omega (arith, tally-ones f n (λ i l. h i (omega arith)), h (0 + n) (omega arith))

-- where no two are over 0, and none over 1, the sum is 1 at most
tally-one : (f : ℕ → ℕ) (n : ℕ) → ((i : ℕ) → f i ≤ 1)
    → ((i j : ℕ) → i < n → j < n → (i ≡ j → ⊥) → 0 < f i → 0 < f j → ⊥) → tally f 0 n ≤ 1
unfolding tally
tally-one f zero h d = omega arith
tally-one f (suc n) h d =
    ⊎_elim
    (λ p. omega (
      arith,
      h (0 + n),
      tally-none n,
      tally-same f (λ k. 0) 0 0 n
          (λ i l. none i l (d (0 + i) (0 + n) (omega arith) (omega arith) (λ q. omega arith)) p),
    ))
    (λ p. omega (arith, tally-one f n h (λ i j a b. d i j (omega arith) (omega arith)))) (below_or 0 (f (0 + n)))
  where
    none : (i : ℕ) → i < n → (0 < f (0 + i) → 0 < f (0 + n) → ⊥) → 0 < f (0 + n) → f (0 + i) ≡ 0
    none i l g p = ⊎_elim (λ q. absurd (g q p)) (λ q. omega arith) (below_or 0 (f (0 + i)))

-- ---- how many places a part counts
inside : ℕ → ℕ → ℕ → ℕ
inside a e p = one (both (leb a p) (ltb p e))

in-at : (a e p : ℕ) → a ≤ p → p < e → inside a e p ≡ 1
unfolding inside
in-at a e p h g = rw (le-leb a p h, lt-ltb p e g)

out-before : (a e p : ℕ) → p < a → inside a e p ≡ 0
unfolding inside
out-before a e p h = rw (lt-leb a p h)

out-behind : (a e p : ℕ) → e ≤ p → inside a e p ≡ 0
unfolding inside
out-behind a e p h = rw (le-ltb p e h) (go (leb a p))
  where
    go : (b : Bool) → one (both b false) ≡ 0
    go true = refl
    go false = refl

places : (a e n : ℕ) → a ≤ e → tally (inside a e) 0 n ≡ (n - a) - (n - e)
unfolding tally
places a e zero h = omega arith
places a e (suc n) h =
    ⊎_elim (λ p. omega (arith, places a e n h, out-before a e (0 + n) (omega arith)))
    (λ p.
    ⊎_elim (λ q. omega (arith, places a e n h, in-at a e (0 + n) (omega arith) (omega arith)))
    (λ q. omega (arith, places a e n h, out-behind a e (0 + n) (omega arith))) (below_or n e))
    (below_or n a)

-- ---- the room
module _ (n : ℕ) (dir buf : List ℕ) (s : Lies n dir buf) where
  one_at_most : (k p : ℕ) → inside (start_at dir k) (end_at dir k) p ≤ 1
  unfolding inside
  one_at_most k p = go (both (leb (start_at dir k) p) (ltb p (end_at dir k)))
    where
      go : (b : Bool) → one b ≤ 1
      go true = omega arith
      go false = omega arith

  within : (k p : ℕ) → 0 < inside (start_at dir k) (end_at dir k) p → (start_at dir k ≤ p) × (p < end_at dir k)
  within k p h = (
    ⊎_elim (λ q. absurd (omega (arith, out-before (start_at dir k) (end_at dir k) p q))) (λ q. q)
        (below_or p (start_at dir k)),
    ⊎_elim (λ q. q) (λ q. absurd (omega (arith, out-behind (start_at dir k) (end_at dir k) p q)))
        (below_or p (end_at dir k)),
  )

  some : (k p : ℕ) → start_at dir k ≤ p → p < end_at dir k → 0 < length_at dir k
  unfolding end_at
  some k p h g = omega arith

  not-two : (p k j : ℕ) → k < n → j < n → (k ≡ j → ⊥) → 0 < inside (start_at dir k) (end_at dir k) p
      → 0 < inside (start_at dir j) (end_at dir j) p → ⊥
  not-two p k j l m d x y =
      let a = within k p x in
      let b = within j p y in
      ⊎_elim (λ q. omega (arith, a.1, b.0)) (λ q. omega (arith, b.1, a.0))
      (s.clear k j l m d (some k p a.0 a.1) (some j p b.0 b.1))

  counted : (k : ℕ) → k < n → length_at dir k ≡ tally (inside (start_at dir k) (end_at dir k)) 0 (length buf)
  unfolding end_at
  counted k h =
      ⊎_elim
      (λ l.
      omega (
        arith,
        s.inside k h l,
        places (start_at dir k) (start_at dir k + length_at dir k) (length buf) (omega arith),
      ))
      (λ l. omega (arith, places (start_at dir k) (start_at dir k + length_at dir k) (length buf) (omega arith)))
      (below_or 0 (length_at dir k))

  pub lengths-fit : tally (length_at dir) 0 n ≤ length buf
  lengths-fit =
      let e =
      tally-same (length_at dir) (λ k. tally (inside (start_at dir k) (end_at dir k)) 0 (length buf)) 0 0 n
      (λ i l. rw (zero-add i) (counted i l))
      ∙ tally-swap (λ k. inside (start_at dir k) (end_at dir k)) n (length buf) in
      omega (
        arith,
        e,
        tally-ones (λ p. tally (λ k. inside (start_at dir k) (end_at dir k) p) 0 n) (length buf)
            (λ p l. tally-one (λ k. inside (start_at dir k) (end_at dir k) p) n (λ k. one_at_most k p) (not-two p)),
      )

  pub entries_fit : total (entries_of n dir buf) ≤ length buf
  entries_fit = omega (arith, total-is n dir buf s, lengths-fit)
