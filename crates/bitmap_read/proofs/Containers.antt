-- The bytes of one container: whether a number is among them, and how many are below it, byte by byte.
-- Assumes nothing.
use Rattle.common.proofs.Lists.{run-cons}
use mathlib.Core.Path.{◌≡◌, refl, sym, ◌∙◌}
use mathlib.Core.Bool.{Bool, true, false, ◌||◌}
use mathlib.Core.List.{List, [], ◌∷◌}
use Prim.Native.Nat.{ℕ, ◌+◌, ◌-◌, ◌*◌, ◌/◌, ◌%◌, ◌^◌, ◌≤◌, ◌<◌}
use native.Mathlib.Omega.{arith}
use borrow.Author.Tests.{lt-ltb, le-ltb}
use Rattle.std.proofs.lemmas.Bool.Decides.{nat_tests}
use lib.ListN.{length, get_or, take, drop, length-drop}
use lib.Seq.{length-take-le}
use lib.Dec.{ltb, eqb, leb}
use mathlib.Core.Logic.{⊎_elim}
use Rattle.common.specs.Outcome.{pick}
use Rattle.common.specs.Lists.{keep, mem, rising}
use Rattle.std.specs.List.{list_any}
use Rattle.bitmap_spec.specs.Bits.{bit}
use Rattle.bitmap_spec.specs.Judge.{size_of, dense, container, container_ok}
use Rattle.bitmap_spec.specs.Ask.{below}
use Rattle.bitmap_spec.proofs.Tally.{bit_at}
use Rattle.bitmap_spec.proofs.Window.{below_or}
use Rattle.bitmap_laws.proofs.Members.{mem-keep, rising-keep}
use Rattle.judge.proofs.Walking.{dense-few}

-- the library's search for an element is membership
pub mem-any : (j : ℕ) (l : List ℕ) → list_any (λ x. eqb x j) l ≡ mem j l
unfolding mem
mem-any j [] = refl
mem-any j (x ∷ l) = rw (mem-any j l, eqb-swap x j) (either-is (eqb j x) (mem j l))
  where
    eqb-swap : (a b : ℕ) → eqb a b ≡ eqb b a
    eqb-swap a b = grind (arith, nat_tests)

    either-is : (a b : Bool) → (a || b) ≡ pick a true b
    either-is true b = refl
    either-is false b = refl

-- ---- what is left of a run of n bytes from at on
module _ (s : List ℕ) (at n i j : ℕ) where
  pub below_on : i < n → at + n ≤ length s → get_or s (at + i) 0 < j → below j (take (n - i) (drop (at + i) s)) ≡ 1 + below j (take (n - (i + 1)) (drop (at + (i + 1)) s))
  unfolding below keep
  below_on h g e = rw (run-cons s at n i h g, lt-ltb (get_or s (at + i) 0) j e) (omega arith)

  pub below-off : i < n → at + n ≤ length s → j ≤ get_or s (at + i) 0 → below j (take (n - i) (drop (at + i) s)) ≡ below j (take (n - (i + 1)) (drop (at + (i + 1)) s))
  unfolding below keep
  below-off h g e = rw (run-cons s at n i h g, le-ltb (get_or s (at + i) 0) j e)

  pub below_end : n ≤ i → below j (take (n - i) (drop (at + i) s)) ≡ 0
  unfolding below keep
  below_end h =
      let e : n - i ≡ 0 = omega arith in
      rw e

-- ---- one container
module _ (s : List ℕ) (at d : ℕ) where
  pub sparse-is : d < 32 → take d (drop at s) ≡ container s at d
  unfolding container
  sparse-is h = rw (lt-ltb d 32 h)

  pub dense-is : 32 ≤ d → dense s at ≡ container s at d
  unfolding container
  dense-is h = rw (le-ltb d 32 h)

  pub dense-has : (j : ℕ) → 32 ≤ d → j < 256 → eqb (get_or s (at + j / 8) 0 / 2 ^ (7 - j % 8) % 2) 1 ≡ mem j (container s at d)
  unfolding dense
  dense-has j h g =
      let e : at * 8 + j ≡ (at + j / 8) * 8 + j % 8 = omega arith in
      rw (← dense-is h) (sym (mem-keep (λ i. eqb (bit s (at * 8 + i)) 1) 0 256 j (omega arith) (omega arith) ∙ rw (e, bit_at s (at + j / 8) (j % 8) (omega arith))))

  pub sparse-count : d < 32 → at + d ≤ length s → d ≡ length (container s at d)
  sparse-count h g = rw (← sparse-is h) (sym (length-take-le d (drop at s) (rw length-drop (omega arith))))

  pub few : at + size_of d ≤ length s → length (container s at d) ≤ 256
  unfolding size_of
  few g =
      ⊎_elim (λ l. let e : pick (ltb d 32) d 32 ≡ d = rw (lt-ltb d 32 l) in omega (arith, sparse-count l (omega arith)))
      (λ l. rw (← dense-is l) (dense-few s at)) (below_or d 32)

-- an accepted container's members rise, below 256
pub container-up : (s : List ℕ) (at d : ℕ) → container_ok s at d ≡ true → rising 256 0 (container s at d) ≡ true
unfolding container_ok container dense
container-up s at d e = go (ltb d 32) e
  where
    go : (b : Bool) → pick b (rising 256 0 (pick b (take d (drop at s)) (dense s at))) (leb 32 (length (pick b (take d (drop at s)) (dense s at)))) ≡ true
        → rising 256 0 (pick b (take d (drop at s)) (dense s at)) ≡ true
    go true e = e
    go false e = rising-keep (λ j. eqb (bit s (at * 8 + j)) 1) 256 0 256 (omega arith)
