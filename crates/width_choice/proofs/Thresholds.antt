-- Descriptors less m compared as they stand: a value is wider than b if its descriptor is over m + 2^b - 1, the widest
-- is that of the largest descriptor, and the least descriptor is over no such threshold.
-- Assumes nothing.
use mathlib.Core.Path.{◌≡◌, refl, sym, ap, ◌∙◌}
use mathlib.Core.Bool.{Bool, true, false}
use mathlib.Core.Logic.{⊎_elim}
use mathlib.Core.List.{List, [], ◌∷◌, map}
use Prim.Native.Nat.{ℕ, zero, suc, ◌+◌, ◌-◌, ◌*◌, ◌/◌, ◌%◌, ◌^◌, ◌≤◌, ◌<◌, min, max}
use native.Mathlib.Nat.{not-suc-le-zero, sub-zero}
use native.Mathlib.Omega.{arith}
use borrow.Author.Tests.{lt-ltb, le-ltb}
use lib.Count.{count_leading_zeros, leading_le, leading_length}
use lib.Dec.{ltb}
use lib.Pow.{pow_mono, pow_pos}
use mir.Val.{bool_byte}
use lib.ListN.{length, get_or, drop, length-map}
use Rattle.common.specs.Lists.{keep}
use Rattle.common.specs.Bytes.{ceil8}
use Rattle.common.specs.Outcome.{pick}
use Rattle.bitmap_spec.proofs.Window.{below_or, shifted_one}
use Rattle.bitmap_spec.specs.Form.{smallest, least, largest, width, wider, cost}
use Rattle.bitmap_laws.proofs.Except.{narrow}
use Rattle.bitmap_laws.proofs.Length.{cost-widest}
use Rattle.bitmap_laws.proofs.Values.{smallest-le}
use Rattle.width_choice.proofs.Steps.{over-on, over-off}
use Rattle.width_choice.specs.Over.{over}

-- the values: the descriptors less m
abbrev pub less : ℕ → List ℕ → List ℕ
less m ds = map (λ d. d - m) ds

pub length-less : (m : ℕ) (ds : List ℕ) → length ds ≡ length (less m ds)
length-less m ds = sym (length-map ds (λ d. d - m))

pub less_none : (ds : List ℕ) → less 0 ds ≡ ds
less_none [] = refl
less_none (d ∷ ds) = rw (less_none ds, sub-zero d)

-- ---- widths

leading_falls : (k a b : ℕ) → a ≤ b → count_leading_zeros k b ≤ count_leading_zeros k a
unfolding count_leading_zeros
leading_falls zero a b h = omega arith
leading_falls (suc k) zero b h = leading_le (suc k) b
leading_falls (suc k) (suc a) zero h = absurd (not-suc-le-zero h)
leading_falls (suc k) (suc a) (suc b) h = leading_falls k (suc a / 2) (suc b / 2) (omega arith)

width-rises : (a b : ℕ) → a ≤ b → width a ≤ width b
unfolding width
width-rises a b h = omega (arith, leading_falls 8 a b h)

pub width-le : (a : ℕ) → width a ≤ 8
unfolding width
width-le a = omega arith

-- a value below 2 ^ b is no wider than b
fits : (v b : ℕ) → v < 256 → v < 2 ^ b → width v ≤ b
unfolding width
fits v b small h =
    let t = leading_length 8 v small in
    ⊎_elim (λ g. absurd (wide t.0 t.3 g)) (λ g. omega (arith, t.1)) (below_or b t.0)
  where
    wide : (n : ℕ) → 2 ^ n ≤ 2 * v + 1 → b < n → ⊥
    wide n top g =
        let more : 2 ^ suc b ≤ 2 ^ n = pow_mono {i = suc b} {j = n} g in
        omega (arith, more, top, h)

-- ---- the largest width

nothing-wide : (m : ℕ) → width (0 - m) ≡ 0
unfolding width count_leading_zeros
nothing-wide m = let e : 0 - m ≡ 0 = omega arith in rw e

pub widest-is : (m : ℕ) (ds : List ℕ) → width (largest ds - m) ≡ largest (map width (map (λ d. d - m) ds))
unfolding largest
widest-is m [] = nothing-wide m
widest-is m (d ∷ ds) = rw (← widest-is m ds) (⊎_elim later first (below_or d (largest ds)))
  where
    later : d < largest ds → width (max d (largest ds) - m) ≡ max (width (d - m)) (width (largest ds - m))
    later g =
        let e : max d (largest ds) ≡ largest ds = omega arith in
        rw e (omega (arith, width-rises (d - m) (largest ds - m) (omega arith)))

    first : largest ds ≤ d → width (max d (largest ds) - m) ≡ max (width (d - m)) (width (largest ds - m))
    first g =
        let e : max d (largest ds) ≡ d = omega arith in
        rw e (omega (arith, width-rises (largest ds - m) (d - m) (omega arith)))

-- the least is at most the largest
pub least-largest : (ds : List ℕ) → least ds ≤ largest ds
unfolding least largest
least-largest [] = omega arith
least-largest (d ∷ ds) = omega (arith, smallest-le d ds)

-- ---- counting

-- one more, in a byte
pub over-more : (ds : List ℕ) (t i : ℕ) → i < length ds
    → bool_byte (ltb t (get_or ds i 0)) + length (over t (drop (i + 1) ds)) ≡ length (over t (drop i ds))
over-more ds t i h =
    ⊎_elim (λ g. rw (lt-ltb t (get_or ds i 0) g) (sym (over-on ds t i h g)))
    (λ g. rw (le-ltb t (get_or ds i 0) g) (omega (arith, over-off ds t i h g))) (below_or t (get_or ds i 0))

over-le : (t : ℕ) (ds : List ℕ) → length (over t ds) ≤ length ds
unfolding over keep
over-le t [] = omega arith
over-le t (d ∷ ds) =
    ⊎_elim (λ g. rw (lt-ltb t d g) (omega (arith, over-le t ds)))
    (λ g. rw (le-ltb t d g) (omega (arith, over-le t ds))) (below_or t d)

-- not all are over t, where the least is not
some-under : (t d : ℕ) (ds : List ℕ) → smallest d ds ≤ t → length (over t (d ∷ ds)) ≤ length ds
unfolding over keep smallest
some-under t d [] h = rw (le-ltb t d h) (omega arith)
some-under t d (x ∷ ds) h =
    ⊎_elim (above (some-under t (min d x) ds h)) (λ g. rw (le-ltb t d g) (over-le t (x ∷ ds))) (below_or t d)
  where
    above : length (keep (λ w. ltb t w) (min d x ∷ ds)) ≤ length ds → t < d
        → length (keep (λ w. ltb t w) (d ∷ x ∷ ds)) ≤ length (x ∷ ds)
    above less g = ⊎_elim
        (λ f. let some = rw (lt-ltb t (min d x) (omega arith)) at less in
        rw (lt-ltb t d g, lt-ltb t x f) (omega (arith, some)))
        (λ f. rw (lt-ltb t d g, le-ltb t x f) (omega (arith, over-le t ds))) (below_or t x)

pub over-few : (t : ℕ) (ds : List ℕ) → least ds ≤ t → length ds ≤ 256 → length (over t ds) ≤ 255
unfolding least
over-few t [] h few = omega (arith, over-le t [])
over-few t (d ∷ ds) h few = omega (arith, some-under t d ds h)

-- none is over what a byte holds
pub over_none : (t : ℕ) (ds : List ℕ) → ((k : ℕ) → get_or ds k 0 < 256) → 255 ≤ t → length (over t ds) ≡ 0
unfolding over keep
over_none t [] small h = refl
over_none t (d ∷ ds) small h = rw (le-ltb t d (omega (arith, small 0))) (over_none t ds (λ k. small (suc k)) h)

-- ---- the values wider than b

wider-test : (m b d : ℕ) → d < 256 → ltb (m + 2 ^ b - 1) d ≡ ltb b (width (d - m))
wider-test m b d small = ⊎_elim above below (below_or (m + 2 ^ b - 1) d)
  where
    some : 0 < 2 ^ b
    some = pow_pos b

    above : m + 2 ^ b - 1 < d → ltb (m + 2 ^ b - 1) d ≡ ltb b (width (d - m))
    above g = ⊎_elim (λ f. rw (lt-ltb (m + 2 ^ b - 1) d g, lt-ltb b (width (d - m)) f))
        (λ f. absurd (omega (arith, narrow (d - m) b (omega arith) f, some))) (below_or b (width (d - m)))

    below : d ≤ m + 2 ^ b - 1 → ltb (m + 2 ^ b - 1) d ≡ ltb b (width (d - m))
    below g =
        rw (le-ltb (m + 2 ^ b - 1) d g, le-ltb b (width (d - m)) (fits (d - m) b (omega arith) (omega (arith, some))))

pub over-values : (m b : ℕ) (ds : List ℕ) → ((k : ℕ) → get_or ds k 0 < 256)
    → length (over (m + 2 ^ b - 1) ds) ≡ length (wider b (map (λ d. d - m) ds))
unfolding over wider keep
over-values m b [] small = refl
over-values m b (d ∷ ds) small =
    rw (wider-test m b d (small 0)) (by-test (ltb b (width (d - m))) (over-values m b ds (λ k. small (suc k))))
  where
    by-test : (t : Bool)
        → length (keep (λ w. ltb (m + 2 ^ b - 1) w) ds) ≡ length (keep (λ v. ltb b (width v)) (map (λ d. d - m) ds))
        → length (pick t (d ∷ keep (λ w. ltb (m + 2 ^ b - 1) w) ds) (keep (λ w. ltb (m + 2 ^ b - 1) w) ds))
        ≡ length (pick t ((d - m) ∷ keep (λ v. ltb b (width v)) (map (λ d. d - m) ds))
        (keep (λ v. ltb b (width v)) (map (λ d. d - m) ds)))
    by-test true e = ap suc e
    by-test false e = e

-- the threshold as it is computed; it has no more than ten bits
module _ (m b : ℕ) (narrow : b ≤ 8) where
  pub step-some : 1 ≤ 1 * 2 ^ b % 4294967296
  step-some = rw (shifted_one b narrow) (pow_pos b)

  pub step-few : 1 * 2 ^ b % 4294967296 ≤ 256
  step-few = rw (shifted_one b narrow) (pow_mono {i = b} {j = 8} narrow)

  pub under-step : (ds : List ℕ) → length ds ≤ 256 → m ≡ least ds
      → length (over (m + 1 * 2 ^ b % 4294967296 - 1) ds) ≤ 255
  under-step ds few is =
      let under : least ds ≤ m + 1 * 2 ^ b % 4294967296 - 1 = rw (← is) (omega (arith, step-some)) in
      over-few (m + 1 * 2 ^ b % 4294967296 - 1) ds under few

  module _ (ds : List ℕ) (small : (k : ℕ) → get_or ds k 0 < 256) where
    pub over-step : length (over (m + 1 * 2 ^ b % 4294967296 - 1) ds) ≡ length (wider b (map (λ d. d - m) ds))
    over-step = rw (shifted_one b narrow) (over-values m b ds small)

    pub over-all : 255 < m + 1 * 2 ^ b % 4294967296 - 1 → 0 ≡ length (wider b (map (λ d. d - m) ds))
    over-all h = sym (over_none (m + 1 * 2 ^ b % 4294967296 - 1) ds small (omega arith)) ∙ over-step

-- ---- costs

-- the cost by the count of wider values and the largest width
pub cost-is : (vs : List ℕ) (n b e w : ℕ) → n ≡ length vs → e ≡ length (wider b vs) → w ≡ largest (map width vs)
    → ceil8 (n * b) + e + ceil8 (e * (w - b)) ≡ cost vs b
unfolding cost
cost-is vs n b e w long count top = rw (long, count, top)

-- and that of the largest width
pub cost-most : (vs : List ℕ) (n w : ℕ) → n ≡ length vs → w ≡ largest (map width vs) → ceil8 (n * w) ≡ cost vs w
cost-most vs n w long top = rw long (sym (cost-widest vs w (omega arith)))
