-- Which bytes are no number: cut short exactly if fewer than five are left, all with the high bit; ill-formed exactly
-- if a fifth byte, behind four with the high bit, is over 0F. Why: group by group; the weight of the fifth group is 128
-- ^ 4, and the groups before it make less than one of it. Assumes nothing.
use Rattle.std.specs.Prelude.{Result, Err}
use mathlib.Core.Path.{◌≡◌, refl, sym, ap, ◌∙◌}
use mathlib.Core.Bool.{Bool, true, false}
use mathlib.Core.List.{List}
use Prim.Native.Nat.{ℕ, zero, suc, ◌+◌, ◌-◌, ◌*◌, ◌^◌, ◌≤◌, ◌<◌}
use native.Mathlib.Nat.{mul_assoc, mul-le-mul_left, mul-le-mul_right, lt_of_not-le, pow-suc, pow-le-pow_right}
use native.Mathlib.Nat.{zero-lt-suc}
use native.Mathlib.Omega.{arith}
use borrow.Author.Tests.{leb-true, leb-false, ltb-true, ltb-false}
use lib.ListN.{length, get_or}
use lib.Dec.{leb, ltb}
use Rattle.common.proofs.Outcomes.{clash}
use Rattle.row_spec.specs.Varint.{varint_at, groups, last_group}
use Rattle.row_spec.specs.declared.Varint.{Varint}
use Rattle.row_spec.specs.declared.ReadFault.{ReadFault}
use Rattle.row_spec.specs.declared.ReadFault.TheVariants.{CutShort, IllFormed}
use Rattle.row_laws.specs.Forms.{Bytes, Cut, Over}
use Rattle.row_laws.proofs.Varints.{last_fits, last-large, groups-cut, groups-last, groups-more}

-- what the next byte says: there is none, it is the last, or more follow
record Next (s : List ℕ) (k at w v : ℕ) (r : Result Varint ReadFault) : Type 0 where
  last : at < length s → get_or s at 0 < 128 → last_group (get_or s at 0) w v (at + 1) ≡ r
  more : at < length s → 128 ≤ get_or s at 0 → groups s k (at + 1) (w * 128) (v + (get_or s at 0 - 128) * w) ≡ r
  none : length s ≤ at → Err CutShort ≡ r

next : (s : List ℕ) (k at w v : ℕ) (r : Result Varint ReadFault) → groups s (suc k) at w v ≡ r → Next s k at w v r
next s k at w v r e =
    let less : suc k - 1 ≡ k = omega arith in
    record {
      last = λ there low. sym (groups-last s (suc k) at w v (omega arith) there low) ∙ e;
      more = λ there high. rw less at (sym (groups-more s (suc k) at w v (omega arith) there high) ∙ e);
      none = λ end. sym (groups-cut s (suc k) at w v (omega arith) end) ∙ e;
    }

last-not-cut : (b w v p : ℕ) → last_group b w v p ≡ Err CutShort → ⊥
last-not-cut b w v p e = by-test (leb (v + b * w) 4294967295) refl
  where
    by-test : (t : Bool) → leb (v + b * w) 4294967295 ≡ t → ⊥
    by-test true q = let x = sym (last_fits b w v p (leb-true (v + b * w) 4294967295 q)) ∙ e in clash (cc)
    by-test false q = let x = sym (last-large b w v p (leb-false (v + b * w) 4294967295 q)) ∙ e in clash (cc)

last-ill : (b w v p : ℕ) → last_group b w v p ≡ Err IllFormed → 4294967295 < v + b * w
last-ill b w v p e = by-test (leb (v + b * w) 4294967295) refl
  where
    by-test : (t : Bool) → leb (v + b * w) 4294967295 ≡ t → 4294967295 < v + b * w
    by-test true q = let x = sym (last_fits b w v p (leb-true (v + b * w) 4294967295 q)) ∙ e in clash (cc)
    by-test false q = leb-false (v + b * w) 4294967295 q

-- ---- cut short
module _ (s : List ℕ) where
  -- every byte from at on has the high bit
  abbrev High : ℕ → Type 0
  High at = (i : ℕ) → at + i < length s → 128 ≤ get_or s (at + i) 0

  high-on : (at : ℕ) → 128 ≤ get_or s at 0 → High (at + 1) → High at
  high-on at first rest zero h = let e : at + 0 ≡ at = omega arith in rw e first
  high-on at first rest (suc i) h =
      let e : at + 1 + i ≡ at + suc i = omega arith in
      rw (sym e) (rest i (omega arith))

  high-off : (at : ℕ) → High at → High (at + 1)
  high-off at all i h = let e : at + suc i ≡ at + 1 + i = omega arith in rw (sym e) (all (suc i) (omega arith))

  cut_of : (k at w v : ℕ) → groups s k at w v ≡ Err CutShort → (length s < at + k) × High at
  unfolding groups
  cut_of zero at w v e = clash (cc)
  cut_of (suc k) at w v e =
      by-test (ltb at (length s)) (ltb (get_or s at 0) 128) refl refl (λ q. cut_of k (at + 1) (w * 128) _ q)
    where
      step : Next s k at w v (Err CutShort)
      step = next s k at w v (Err CutShort) e

      by-test : (t u : Bool) → ltb at (length s) ≡ t → ltb (get_or s at 0) 128 ≡ u
          → (groups s k (at + 1) (w * 128) (v + (get_or s at 0 - 128) * w) ≡ Err CutShort
          → (length s < at + 1 + k) × High (at + 1))
          → (length s < at + suc k) × High at
      by-test true true p q more =
          absurd (last-not-cut _ _ _ _ (step.last (ltb-true at (length s) p) (ltb-true (get_or s at 0) 128 q)))
      by-test true false p q more =
          let high = ltb-false (get_or s at 0) 128 q in
          let r = more (step.more (ltb-true at (length s) p) high) in
          (omega (arith, r.0), high-on at high r.1)
      by-test false u p q more =
          let end = ltb-false at (length s) p in
          (omega arith, λ i h. absurd (omega arith))

  of_cut : (k at w v : ℕ) → 0 < k → length s < at + k → High at → groups s k at w v ≡ Err CutShort
  of_cut zero at w v some few high = absurd (omega arith)
  of_cut (suc k) at w v some few high =
      by-test (ltb at (length s)) refl (λ some less. of_cut k (at + 1) (w * 128) _ some less (high-off at high))
    where
      less : suc k - 1 ≡ k
      less = omega arith

      by-test : (t : Bool) → ltb at (length s) ≡ t
          → (0 < k → length s < at + 1 + k
          → groups s k (at + 1) (w * 128) (v + (get_or s at 0 - 128) * w) ≡ Err CutShort)
          → groups s (suc k) at w v ≡ Err CutShort
      by-test true p more =
          let there = ltb-true at (length s) p in
          let e : at + 0 ≡ at = omega arith in
          let first : 128 ≤ get_or s at 0 = rw e at (high 0 (omega arith)) in
          groups-more s (suc k) at w v (omega arith) there first ∙ rw less (more (omega arith) (omega arith))
      by-test false p more = groups-cut s (suc k) at w v (omega arith) (ltb-false at (length s) p)

  -- a number is cut short exactly if fewer than five bytes are left, all with the high bit
  pub cut_short : (at : ℕ) → (varint_at s at ≡ Err CutShort → Cut s at) × (Cut s at → varint_at s at ≡ Err CutShort)
  unfolding varint_at
  cut_short at = (
    (λ e. let r = cut_of 5 at 1 0 e in record { few = r.0; high = r.1 }),
    (λ c. of_cut 5 at 1 0 (omega arith) c.few c.high),
  )

-- ---- ill-formed
-- the weight of the group k places on is that of the fifth
weight-on : (k w : ℕ) → w * 128 ^ suc k ≡ 268435456 → w * 128 * 128 ^ k ≡ 268435456
weight-on k w e =
    let power : 128 * 128 ^ k ≡ 128 ^ suc k = omega (arith, pow-suc 128 k) in
    mul_assoc w 128 (128 ^ k) ∙ ap (λ (x : ℕ). w * x) power ∙ e

-- a group before the fifth weighs at most 128 ^ 3
weight-low : (k w : ℕ) → w * 128 ^ suc k ≡ 268435456 → w ≤ 2097152
weight-low k w e =
    let some : 1 ≤ suc k = omega arith in
    let power : 128 ^ 1 ≤ 128 ^ suc k = pow-le-pow_right {n = 128} (zero-lt-suc 127) some in
    let l : w * 128 ≤ w * 128 ^ suc k = mul-le-mul_left w power in
    omega arith

module _ (s : List ℕ) where
  of-ill : (k at w v : ℕ) → w * 128 ^ k ≡ 268435456 → Over s k at → groups s (suc k) at w v ≡ Err IllFormed
  unfolding groups
  of-ill zero at w v e f = by-test (ltb (get_or s at 0) 128) refl
    where
      place : at + 0 ≡ at
      place = omega arith

      there : at < length s
      there = omega (arith, f.there)

      over : 15 < get_or s at 0
      over = rw place at f.over

      by-test : (t : Bool) → ltb (get_or s at 0) 128 ≡ t → groups s 1 at w v ≡ Err IllFormed
      by-test true q =
          let l : 16 * w ≤ get_or s at 0 * w = mul-le-mul_right w over in
          groups-last s 1 at w v (omega arith) there (ltb-true (get_or s at 0) 128 q)
          ∙ last-large (get_or s at 0) w v (at + 1) (omega arith)
      by-test false q = groups-more s 1 at w v (omega arith) there (ltb-false (get_or s at 0) 128 q)
  of-ill (suc k) at w v e f =
      let less : suc (suc k) - 1 ≡ suc k = omega arith in
      let place : at + 0 ≡ at = omega arith in
      let last : at + 1 + k ≡ at + suc k = omega arith in
      let first : 128 ≤ get_or s at 0 = rw place at (f.high 0 (omega arith)) in
      let rest : Over s k (at + 1) = record {
        there = omega (arith, f.there);
        high = λ i h. let q : at + 1 + i ≡ at + suc i = omega arith in rw q (f.high (suc i) (omega arith));
        over = rw last f.over;
      } in
      groups-more s (suc (suc k)) at w v (omega arith) (omega (arith, f.there)) first
      ∙ rw less (of-ill k (at + 1) (w * 128) _ (weight-on k w e) rest)

  module _ (small : Bytes s) where
    ill-of : (k at w v : ℕ) → w * 128 ^ k ≡ 268435456 → v < w → groups s (suc k) at w v ≡ Err IllFormed → Over s k at
    ill-of zero at w v weight under e = by-test (ltb at (length s)) (ltb (get_or s at 0) 128) refl refl
      where
        step : Next s 0 at w v (Err IllFormed)
        step = next s 0 at w v (Err IllFormed) e

        place : at + 0 ≡ at
        place = omega arith

        ended : at < length s → 15 < get_or s at 0 → Over s 0 at
        ended there over = record {
          there = omega arith;
          high = λ i h. absurd (omega arith);
          over = rw place over;
        }

        by-test : (t u : Bool) → ltb at (length s) ≡ t → ltb (get_or s at 0) 128 ≡ u → Over s 0 at
        by-test true true p q =
            let there = ltb-true at (length s) p in
            let large = last-ill _ _ _ _ (step.last there (ltb-true (get_or s at 0) 128 q)) in
            ended there (lt_of_not-le (λ l.
            let m : get_or s at 0 * w ≤ 15 * w = mul-le-mul_right w l in
            omega arith))
        by-test true false p q =
            let high = ltb-false (get_or s at 0) 128 q in
            ended (ltb-true at (length s) p) (omega arith)
        by-test false u p q = let x = step.none (ltb-false at (length s) p) in clash (cc)
    ill-of (suc k) at w v weight under e =
        by-test (ltb at (length s)) (ltb (get_or s at 0) 128) refl refl (λ h q.
        ill-of k (at + 1) (w * 128) _ (weight-on k w weight) h q)
      where
        step : Next s (suc k) at w v (Err IllFormed)
        step = next s (suc k) at w v (Err IllFormed) e

        low : w ≤ 2097152
        low = weight-low k w weight

        by-test : (t u : Bool) → ltb at (length s) ≡ t → ltb (get_or s at 0) 128 ≡ u
            → (v + (get_or s at 0 - 128) * w < w * 128
            → groups s (suc k) (at + 1) (w * 128) (v + (get_or s at 0 - 128) * w) ≡ Err IllFormed → Over s k (at + 1))
            → Over s (suc k) at
        by-test true true p q more =
            let byte = ltb-true (get_or s at 0) 128 q in
            let large = last-ill _ _ _ _ (step.last (ltb-true at (length s) p) byte) in
            let m : get_or s at 0 * w ≤ 127 * w = mul-le-mul_right w (omega arith) in
            absurd (omega (arith, low))
        by-test true false p q more =
            let high = ltb-false (get_or s at 0) 128 q in
            let byte = small at in
            let m : (get_or s at 0 - 128) * w ≤ 127 * w = mul-le-mul_right w (omega arith) in
            let r = more (omega arith) (step.more (ltb-true at (length s) p) high) in
            let last : at + 1 + k ≡ at + suc k = omega arith in
            record { there = omega (arith, r.there); high = highs high r.high; over = rw last at r.over }
          where
            highs : 128 ≤ get_or s at 0 → ((i : ℕ) → i < k → 128 ≤ get_or s (at + 1 + i) 0)
                → (i : ℕ) → i < suc k → 128 ≤ get_or s (at + i) 0
            highs first rest zero h = let z : at + 0 ≡ at = omega arith in rw z first
            highs first rest (suc i) h =
                let z : at + 1 + i ≡ at + suc i = omega arith in
                rw (sym z) (rest i (omega arith))
        by-test false u p q more = let x = step.none (ltb-false at (length s) p) in clash (cc)

    -- a number is ill-formed exactly if a fifth byte, behind four with the high bit, is over 0F
    pub ill-formed : (at : ℕ)
        → (varint_at s at ≡ Err IllFormed → Over s 4 at) × (Over s 4 at → varint_at s at ≡ Err IllFormed)
    unfolding varint_at
    ill-formed at = (ill-of 4 at 1 0 refl (omega arith), of-ill 4 at 1 0 refl)
