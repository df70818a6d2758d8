-- One value more, of what is told of the values from i on.
-- Assumes nothing.
use mathlib.Core.Path.{◌≡◌, refl, ap, ◌∙◌}
use mathlib.Core.Bool.{Bool, true, false}
use mathlib.Core.List.{List, [], ◌∷◌, map}
use Prim.Native.Nat.{ℕ, suc, ◌+◌, ◌-◌, ◌≤◌, ◌<◌, min, max}
use native.Mathlib.Nat.{not-suc-le-zero, add_comm}
use native.Mathlib.Numerals.{add-one}
use native.Mathlib.Omega.{arith}
use borrow.Author.Tests.{lt-ltb, le-ltb}
use lib.Dec.{ltb}
use lib.ListN.{length, length-drop, get_or, take, drop, drop_of_length-le}
use lib.Seq.{drop-cons, get_or-drop, take-length}
use Rattle.common.specs.Lists.{keep}
use Rattle.common.specs.Outcome.{pick}
use Rattle.width_choice.specs.Over.{over}
use Rattle.bitmap_spec.specs.Form.{smallest, least, largest, width, wider, cost, cheapest}

pub drop-one : (l : List ℕ) (i : ℕ) → i < length l → drop i l ≡ get_or l i 0 ∷ drop (i + 1) l
drop-one l i h = rw (add-one i) (drop-cons l i 0 h)

pub least_start : (ds : List ℕ) → 0 < length ds → smallest (get_or ds 0 0) (drop 1 ds) ≡ least ds
unfolding least
least_start [] h = absurd (not-suc-le-zero h)
least_start (d ∷ ds) h = refl

pub least_step : (ds : List ℕ) (m i n : ℕ) → i < length ds → n ≡ min m (get_or ds i 0)
    → smallest n (drop (i + 1) ds) ≡ smallest m (drop i ds)
unfolding smallest
least_step ds m i n h e = rw (drop-one ds i h, e)

-- what stands behind the first
pub tail_is : (ds : List ℕ) → take (length ds - 1) (drop 1 ds) ≡ drop 1 ds
tail_is ds = rw (← length-drop 1 ds) (take-length (drop 1 ds))

pub tail-at : (ds : List ℕ) (i : ℕ) → get_or (take (length ds - 1) (drop 1 ds)) i 0 ≡ get_or ds (i + 1) 0
tail-at ds i = rw (tail_is ds) (get_or-drop 1 ds i 0 ∙ ap (λ (k : ℕ). get_or ds k 0) (add_comm 1 i))

pub tail-long : (ds : List ℕ) → length (take (length ds - 1) (drop 1 ds)) ≡ length ds - 1
tail-long ds = rw (tail_is ds) (length-drop 1 ds)

pub least-end : (ds : List ℕ) (m i : ℕ) → length ds ≤ i → smallest m (drop i ds) ≡ m
unfolding smallest
least-end ds m i h = rw (drop_of_length-le ds h)

pub largest_step : (ws : List ℕ) (m i n : ℕ) → i < length ws → n ≡ max m (get_or ws i 0)
    → max n (largest (drop (i + 1) ws)) ≡ max m (largest (drop i ws))
unfolding largest
largest_step ws m i n h e = rw (drop-one ws i h, e) (omega arith)

pub largest-end : (ws : List ℕ) (m i : ℕ) → length ws ≤ i → max m (largest (drop i ws)) ≡ m
unfolding largest
largest-end ws m i h = rw (drop_of_length-le ws h) (omega arith)

pub over-on : (ws : List ℕ) (b i : ℕ) → i < length ws → b < get_or ws i 0
    → length (over b (drop i ws)) ≡ 1 + length (over b (drop (i + 1) ws))
unfolding over keep
over-on ws b i h g = rw (drop-one ws i h, lt-ltb _ _ g) (omega arith)

pub over-off : (ws : List ℕ) (b i : ℕ) → i < length ws → get_or ws i 0 ≤ b
    → length (over b (drop i ws)) ≡ length (over b (drop (i + 1) ws))
unfolding over keep
over-off ws b i h g = rw (drop-one ws i h, le-ltb _ _ g)

pub over-end : (ws : List ℕ) (b i : ℕ) → length ws ≤ i → length (over b (drop i ws)) ≡ 0
unfolding over keep
over-end ws b i h = rw (drop_of_length-le ws h)

-- as many widths are over b as values are wider than b
pub over-wider : (vs : List ℕ) (b : ℕ) → length (over b (map width vs)) ≡ length (wider b vs)
unfolding over wider keep
over-wider [] b = refl
over-wider (v ∷ vs) b = by-test (ltb b (width v)) (over-wider vs b)
  where
    by-test : (t : Bool) → length (keep (λ w. ltb b w) (map width vs)) ≡ length (keep (λ x. ltb b (width x)) vs)
        → length (pick t (width v ∷ keep (λ w. ltb b w) (map width vs)) (keep (λ w. ltb b w) (map width vs)))
        ≡ length (pick t (v ∷ keep (λ x. ltb b (width x)) vs) (keep (λ x. ltb b (width x)) vs))
    by-test true e = ap suc e
    by-test false e = e

pub cheapest-on : (vs : List ℕ) (b : ℕ) → cost vs (b + 1) < cost vs (cheapest vs b) → cheapest vs (b + 1) ≡ b + 1
unfolding cheapest
cheapest-on vs b h = rw (add-one b) (rw (lt-ltb (cost vs (suc b)) (cost vs (cheapest vs b)) (rw (add-one b) at h)))

pub cheapest-off : (vs : List ℕ) (b : ℕ) → cost vs (cheapest vs b) ≤ cost vs (b + 1)
    → cheapest vs (b + 1) ≡ cheapest vs b
unfolding cheapest
cheapest-off vs b h = rw (add-one b) (rw (le-ltb (cost vs (suc b)) (cost vs (cheapest vs b)) (rw (add-one b) at h)))
