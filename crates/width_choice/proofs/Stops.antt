-- Where the search for the width may end before the largest: a width costs at least its low parts, and below the
-- largest two bytes more, since some value is wider.
-- Assumes nothing.
use mathlib.Core.Path.{◌≡◌, ◌∙◌}
use mathlib.Core.Logic.{◌⊎◌, inl, inr, ⊎_elim}
use mathlib.Core.List.{List, [], ◌∷◌, map}
use Prim.Native.Nat.{ℕ, zero, suc, ◌+◌, ◌-◌, ◌*◌, ◌≤◌, ◌<◌}
use native.Mathlib.Nat.{add-zero, not-suc-le-zero, add_assoc}
use native.Mathlib.Numerals.{add-one}
use native.Mathlib.Omega.{arith}
use borrow.Author.Tests.{lt-ltb, le-ltb}
use lib.Dec.{ltb}
use lib.ListN.{length}
use Rattle.common.specs.Lists.{keep}
use Rattle.common.specs.Bytes.{ceil8}
use Rattle.common.specs.Outcome.{pick}
use Rattle.bitmap_laws.proofs.Length.{ceil-wider}
use Rattle.bitmap_spec.proofs.Parts.{prod}
use Rattle.bitmap_spec.proofs.Window.{below_or}
use Rattle.bitmap_spec.specs.Form.{largest, width, wider, cost, cheapest}
use Rattle.width_choice.proofs.Steps.{cheapest-on, cheapest-off}

-- no width costs less than its low parts
pub cost-from : (vs : List ℕ) (b : ℕ) → ceil8 (length vs * b) ≤ cost vs b
unfolding cost
cost-from vs b = omega arith

-- where the least cost so far is at most the bytes of low parts at b + 1, no larger width is cheaper
pub cheapest-stop : (vs : List ℕ) (b k : ℕ) → cost vs (cheapest vs b) ≤ ceil8 (length vs * (b + 1))
    → cheapest vs (b + k) ≡ cheapest vs b
cheapest-stop vs b zero h = rw (add-zero b)
cheapest-stop vs b (suc k) h =
    let e = cheapest-stop vs b k h in
    let low = cost-from vs (b + k + 1) in
    let more = ceil-wider (length vs) (b + 1) (b + k + 1) (omega arith) in
    let g : cost vs (cheapest vs (b + k)) ≤ cost vs (b + k + 1) = rw e (omega (arith, low, more)) in
    rw (← add-one k, ← add_assoc b k 1) (cheapest-off vs (b + k) g ∙ e)

-- ---- below the largest width there is an exception
some-wider : (vs : List ℕ) (b : ℕ) → b < largest (map width vs) → 0 < length (wider b vs)
unfolding largest wider keep
some-wider [] b h = absurd (not-suc-le-zero h)
some-wider (v ∷ vs) b h =
    ⊎_elim (λ g. rw (lt-ltb b (width v) g) (omega arith))
    (λ g. rw (le-ltb b (width v) g) (some-wider vs b (omega arith))) (below_or b (width v))

-- and it takes two bytes
cost-below : (vs : List ℕ) (b : ℕ) → b < largest (map width vs) → ceil8 (length vs * b) + 2 ≤ cost vs b
unfolding cost ceil8
cost-below vs b h =
    let e = some-wider vs b h in
    let parts = prod (length (wider b vs)) (largest (map width vs) - b) 1 1 e (omega arith) in
    omega (arith, e, parts)

-- the cheapest up to n is that up to b, or costs more than w and no more than that up to b
abbrev Either : List ℕ → ℕ → ℕ → ℕ → Type 0
Either vs w b n =
    (cheapest vs n ≡ cheapest vs b)
    ⊎ ((cost vs w < cost vs (cheapest vs n)) × (cost vs (cheapest vs n) ≤ cost vs (cheapest vs b)))

-- where w costs less than each width between b and w
between : (vs : List ℕ) (w b k : ℕ) → ((c : ℕ) → b < c → c ≤ b + k → cost vs w < cost vs c) → Either vs w b (b + k)
between vs w b zero h = inl (rw (add-zero b))
between vs w b (suc k) h =
    let before = between vs w b k (λ c p q. h c p (omega arith)) in
    rw (← add-one k, ← add_assoc b k 1) (⊎_elim (taken before) (left before) (below_or (cost vs (b + k + 1)) _))
  where
    taken : Either vs w b (b + k) → cost vs (b + k + 1) < cost vs (cheapest vs (b + k)) → Either vs w b (b + k + 1)
    taken before g =
        let here = h (b + k + 1) (omega arith) (omega arith) in
        let at : cost vs (cheapest vs (b + k)) ≤ cost vs (cheapest vs b) =
        ⊎_elim (λ e. rw e (omega arith)) (λ e. e.1) before in
        rw (cheapest-on vs (b + k) g) (inr (here, omega (arith, g, at)))

    left : Either vs w b (b + k) → cost vs (cheapest vs (b + k)) ≤ cost vs (b + k + 1) → Either vs w b (b + k + 1)
    left before g = rw (cheapest-off vs (b + k) g) before

-- then it is the cheaper of w and the cheapest up to b
pub cheapest-over : (vs : List ℕ) (w b : ℕ) → w ≡ largest (map width vs) → b < w
    → cost vs w < ceil8 (length vs * (b + 1)) + 2
    → cheapest vs w ≡ pick (ltb (cost vs w) (cost vs (cheapest vs b))) w (cheapest vs b)
cheapest-over vs w b top h less = ⊎_elim same other (between vs w b k each)
  where
    k : ℕ
    k = w - 1 - b

    last : b + k + 1 ≡ w
    last = omega arith

    each : (c : ℕ) → b < c → c ≤ b + k → cost vs w < cost vs c
    each c p q = omega (arith, less, cost-below vs c (omega arith), ceil-wider (length vs) (b + 1) c (omega arith))

    same : cheapest vs (b + k) ≡ cheapest vs b
        → cheapest vs w ≡ pick (ltb (cost vs w) (cost vs (cheapest vs b))) w (cheapest vs b)
    same e = ⊎_elim
        (λ g. let on = cheapest-on vs (b + k) (rw (last, e) g) in
        rw (lt-ltb (cost vs w) (cost vs (cheapest vs b)) g) (rw last at on))
        (λ g. let off = cheapest-off vs (b + k) (rw (last, e) g) in
        rw (le-ltb (cost vs w) (cost vs (cheapest vs b)) g) ((rw last at off) ∙ e))
        (below_or (cost vs w) (cost vs (cheapest vs b)))

    other : (cost vs w < cost vs (cheapest vs (b + k))) × (cost vs (cheapest vs (b + k)) ≤ cost vs (cheapest vs b))
        → cheapest vs w ≡ pick (ltb (cost vs w) (cost vs (cheapest vs b))) w (cheapest vs b)
    other e =
        let on = cheapest-on vs (b + k) (rw last e.0) in
        rw (lt-ltb (cost vs w) (cost vs (cheapest vs b)) (omega (arith, e.0, e.1))) (rw last at on)
