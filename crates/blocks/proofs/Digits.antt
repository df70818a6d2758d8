-- The digits of a joined byte, and the block of joined bytes.
-- Assumes nothing.
use mathlib.Core.Path.{◌≡◌, refl, sym, ap, ap₂, ◌∙◌}
use mathlib.Core.Bool.{Bool, true, false}
use mathlib.Core.List.{List, ◌∷◌, ◌++◌}
use Prim.Native.Nat.{ℕ, zero, suc, ◌+◌, ◌-◌, ◌*◌, ◌/◌, ◌%◌, ◌^◌, ◌≤◌, ◌<◌}
use native.Mathlib.Nat.{mod-lt, not-suc-le-zero, le_of_suc-le-suc, zero-add, add-zero, suc-add, div-eq_of_lt}
use native.Mathlib.Omega.{arith}
use lib.Dec.{eqb}
use lib.Count.{ones}
use lib.ListN.{length, get_or, set, get_or-eq_default}
use lib.Seq.{get_or-append-add, get_or-set_same, get_or-set_other, ext_get_or}
use lib.Bits.{bit_and, bit_xor, and_shr, xor_shr, and_mod, xor_mod, and_lt, xor_lt}
use lib.Pow.{pow_pos}
use Rattle.common.specs.Lists.{keep, from, table}
use Rattle.common.specs.Outcome.{one}
use Rattle.common.proofs.Lists.{length-table}
use Rattle.bitmap_spec.proofs.Window.{below_or}
use Rattle.bitmap_spec.specs.Bits.{bit}
use Rattle.bitmap_spec.specs.Judge.{dense}
use Rattle.bitmap_spec.proofs.Tally.{tally, tally-cat, tally-same, tally-more, dense-length}
use Rattle.bitmap_spec.specs.Output.{written}
use Rattle.bitmap_laws.proofs.Members.{mem-keep}
use Rattle.bitmap_laws.proofs.Output.{written-cat}
use Rattle.bitmap_laws.proofs.Pack.{get_or-table, bit-before, bit-after}
use Rattle.bitmap_spec.specs.Sets.{holds}
use Rattle.blocks.proofs.Blocks.{shows-block, block-members}
use Rattle.blocks.specs.Block.{block, mask, mix, on_first, on_second, on_both, joined_bytes, joins}
use Rattle.bitmap_spec.specs.declared.Operation.{Operation}
use Rattle.bitmap_spec.specs.declared.Operation.TheVariants.{Union, Intersection, Difference, SymmetricDifference}
use mathlib.Core.Logic.{⊎_elim}

-- tables in parts
table-cat : (f : ℕ → ℕ) (k m n : ℕ) → table f k (m + n) ≡ table f k m ++ table f (k + m) n
unfolding table
table-cat f k zero n = rw (zero-add n, add-zero k)
table-cat f k (suc m) n =
    let e : suc k + m ≡ k + suc m = omega arith in
    rw (suc-add m n) (ap (λ (l : List ℕ). f k ∷ l) (table-cat f (suc k) m n ∙ rw e))

table-run : (f g : ℕ → ℕ) (k l n : ℕ) → ((i : ℕ) → i < n → f (k + i) ≡ g (l + i)) → table f k n ≡ table g l n
unfolding table
table-run f g k l zero h = refl
table-run f g k l (suc n) h =
    let a : f k ≡ g l = rw (add-zero k, add-zero l) at (h 0 (omega arith)) in
    rw a (ap (λ (m : List ℕ). g l ∷ m) (table-run f g (suc k) (suc l) n
    (λ i m. let e : suc k + i ≡ k + suc i = omega arith in
    let d : suc l + i ≡ l + suc i = omega arith in rw (e, d) (h (suc i) (omega arith)))))

-- a loop that fills a list from the front by a rule
pub set_more : (F : ℕ → ℕ) (r : List ℕ) (i v : ℕ) → i < length r → v ≡ F i → ((k : ℕ) → k < i → get_or r k 0 ≡ F k)
    → (k : ℕ) → k < i + 1 → get_or (set r i v) k 0 ≡ F k
set_more F r i v l e h k g =
    ⊎_elim (λ m. get_or-set_other r i k v 0 (λ q. omega arith) ∙ h k m)
    (λ m. let q : k ≡ i = omega arith in rw q (get_or-set_same r i v 0 l ∙ e)) (below_or k i)

-- ---- operations on numbers that act digit by digit
and-digit : (x y j : ℕ) → bit_and x y / 2 ^ j % 2 ≡ bit_and (x / 2 ^ j % 2) (y / 2 ^ j % 2)
and-digit x y j = ap (λ (z : ℕ). z % 2) (and_shr x y j) ∙ and_mod (x / 2 ^ j) (y / 2 ^ j) 1

xor-digit : (x y j : ℕ) → bit_xor x y / 2 ^ j % 2 ≡ bit_xor (x / 2 ^ j % 2) (y / 2 ^ j % 2)
xor-digit x y j = ap (λ (z : ℕ). z % 2) (xor_shr x y j) ∙ xor_mod (x / 2 ^ j) (y / 2 ^ j) 1

mix-digit : (p q w x y j : ℕ)
    → mix p q w x y / 2 ^ j % 2 ≡ mix (p / 2 ^ j % 2) (q / 2 ^ j % 2) (w / 2 ^ j % 2) (x / 2 ^ j % 2) (y / 2 ^ j % 2)
unfolding mix
mix-digit p q w x y j =
    xor-digit (bit_xor (bit_and x p) (bit_and y q)) (bit_and (bit_and x y) w) j
    ∙ ap₂ (λ (s t : ℕ). bit_xor s t)
    (xor-digit (bit_and x p) (bit_and y q) j ∙ ap₂ (λ (s t : ℕ). bit_xor s t) (and-digit x p j) (and-digit y q j))
    (and-digit (bit_and x y) w j ∙ ap (λ (s : ℕ). bit_and s (w / 2 ^ j % 2)) (and-digit x y j))

mask-digit : (b : Bool) (j : ℕ) → j < 8 → mask b / 2 ^ j % 2 ≡ one b
unfolding mask
mask-digit true zero h = refl
mask-digit true (suc zero) h = refl
mask-digit true (suc (suc zero)) h = refl
mask-digit true (suc (suc (suc zero))) h = refl
mask-digit true (suc (suc (suc (suc zero)))) h = refl
mask-digit true (suc (suc (suc (suc (suc zero))))) h = refl
mask-digit true (suc (suc (suc (suc (suc (suc zero)))))) h = refl
mask-digit true (suc (suc (suc (suc (suc (suc (suc zero))))))) h = refl
mask-digit true (suc (suc (suc (suc (suc (suc (suc (suc j)))))))) h = absurd (omega arith)
mask-digit false j h = rw (div-eq_of_lt (pow_pos j))

-- at digits it is the operation on truth values
corner : (o : Operation) (a b : Bool)
    → mix (one (on_first o)) (one (on_second o)) (one (on_both o)) (one a) (one b)
    ≡ one (holds o (eqb (one a) 1) (eqb (one b) 1))
unfolding mix on_first on_second on_both
corner Union true true = refl
corner Union true false = refl
corner Union false true = refl
corner Union false false = refl
corner Intersection true true = refl
corner Intersection true false = refl
corner Intersection false true = refl
corner Intersection false false = refl
corner Difference true true = refl
corner Difference true false = refl
corner Difference false true = refl
corner Difference false false = refl
corner SymmetricDifference true true = refl
corner SymmetricDifference true false = refl
corner SymmetricDifference false true = refl
corner SymmetricDifference false false = refl

digit-cases : (P : ℕ → Type 0) → P 0 → P 1 → (d : ℕ) → d < 2 → P d
digit-cases P p q zero h = p
digit-cases P p q (suc zero) h = q
digit-cases P p q (suc (suc d)) h = absurd (not-suc-le-zero (le_of_suc-le-suc (le_of_suc-le-suc h)))

at-digits : (o : Operation) (d e : ℕ) → d < 2 → e < 2
    → mix (one (on_first o)) (one (on_second o)) (one (on_both o)) d e ≡ one (holds o (eqb d 1) (eqb e 1))
at-digits o d e h g =
    digit-cases
    (λ (d : ℕ). mix (one (on_first o)) (one (on_second o)) (one (on_both o)) d e ≡ one (holds o (eqb d 1) (eqb e 1)))
    (digit-cases
    (λ (e : ℕ). mix (one (on_first o)) (one (on_second o)) (one (on_both o)) 0 e ≡ one (holds o (eqb 0 1) (eqb e 1)))
    (corner o false false) (corner o false true) e g)
    (digit-cases
    (λ (e : ℕ). mix (one (on_first o)) (one (on_second o)) (one (on_both o)) 1 e ≡ one (holds o (eqb 1 1) (eqb e 1)))
    (corner o true false) (corner o true true) e g)
    d h

op-digit : (o : Operation) (x y j : ℕ) → j < 8
    → mix (mask (on_first o)) (mask (on_second o)) (mask (on_both o)) x y / 2 ^ j % 2
    ≡ one (holds o (eqb (x / 2 ^ j % 2) 1) (eqb (y / 2 ^ j % 2) 1))
op-digit o x y j h =
    mix-digit (mask (on_first o)) (mask (on_second o)) (mask (on_both o)) x y j
    ∙ rw (mask-digit (on_first o) j h, mask-digit (on_second o) j h, mask-digit (on_both o) j h)
    (at-digits o (x / 2 ^ j % 2) (y / 2 ^ j % 2) (mod-lt (x / 2 ^ j) (omega arith)) (mod-lt (y / 2 ^ j) (omega arith)))

pub mix-lt : (p q w x y : ℕ) → p < 256 → q < 256 → w < 256 → x < 256 → y < 256 → mix p q w x y < 256
unfolding mix
mix-lt p q w x y hp hq hw hx hy =
    xor_lt 8 _ _ (xor_lt 8 _ _ (and_lt 8 x p hx hp) (and_lt 8 y q hy hq)) (and_lt 8 _ w (and_lt 8 x y hx hy) hw)

-- ---- joined bytes
module _ (p q w : ℕ) (a : List ℕ) (at : ℕ) (b : List ℕ) (bt : ℕ) where
  pub joined_length : (n : ℕ) → length (joined_bytes p q w a at b bt n) ≡ n
  unfolding joined_bytes
  joined_length n = length-table (λ i. mix p q w (get_or a (at + i) 0) (get_or b (bt + i) 0)) 0 n

  pub joined_at : (n k : ℕ) → k < n
      → get_or (joined_bytes p q w a at b bt n) k 0 ≡ mix p q w (get_or a (at + k) 0) (get_or b (bt + k) 0)
  unfolding joined_bytes
  joined_at n k h = get_or-table (λ i. mix p q w (get_or a (at + i) 0) (get_or b (bt + i) 0)) 0 n k h ∙ rw (zero-add k)

  -- the set bits of one byte more
  pub ones-turn : (n i v t : ℕ) → v ≡ get_or (joined_bytes p q w a at b bt n) i 0 → v < 256
      → t ≡ tally (bit (joined_bytes p q w a at b bt n)) 0 (i * 8)
      → t + ones v ≡ tally (bit (joined_bytes p q w a at b bt n)) 0 ((i + 1) * 8)
  ones-turn n i v t e h r =
      let z : get_or (joined_bytes p q w a at b bt n) (0 + i) 0 ≡ v =
      ap (λ (j : ℕ). get_or (joined_bytes p q w a at b bt n) j 0) (zero-add i) ∙ sym e in
      let m = tally-more (joined_bytes p q w a at b bt n) 0 i (rw z h) in
      omega (arith, r, m, ap ones z)

  -- filled in by the rule
  pub joined_is : (r : List ℕ) → length r ≡ 16
      → ((k : ℕ) → k < 16 → get_or r k 0 ≡ get_or (joined_bytes p q w a at b bt 16) k 0) → r ≡ joined_bytes p q w a at b bt 16
  joined_is r n h = ext_get_or 0 r (joined_bytes p q w a at b bt 16) (n ∙ sym (joined_length 16)) (λ k l. h k (rw n at l))

  -- two halves are the whole
  pub halves : joined_bytes p q w a at b bt 16 ++ joined_bytes p q w a (at + 16) b (bt + 16) 16
      ≡ joined_bytes p q w a at b bt 32
  unfolding joined_bytes
  halves =
      ap (λ (l : List ℕ). table (λ i. mix p q w (get_or a (at + i) 0) (get_or b (bt + i) 0)) 0 16 ++ l)
      (table-run (λ i. mix p q w (get_or a (at + 16 + i) 0) (get_or b (bt + 16 + i) 0))
      (λ i. mix p q w (get_or a (at + i) 0) (get_or b (bt + i) 0)) 0 (0 + 16) 16
      (λ i l. let x : at + 16 + (0 + i) ≡ at + (0 + 16 + i) = omega arith in
      let y : bt + 16 + (0 + i) ≡ bt + (0 + 16 + i) = omega arith in rw (x, y)))
      ∙ sym (table-cat (λ i. mix p q w (get_or a (at + i) 0) (get_or b (bt + i) 0)) 0 16 16)

-- ---- the masks of an operation
module _ (o : Operation) (a : List ℕ) (at : ℕ) (b : List ℕ) (bt : ℕ) where
  abbrev Joined : List ℕ → ℕ → List ℕ → ℕ → ℕ → List ℕ
  Joined a at b bt n = joined_bytes (mask (on_first o)) (mask (on_second o)) (mask (on_both o)) a at b bt n

  -- the bits of joined bytes are those of the operation
  pub joined-bit : (p : ℕ) → p < 256 → bit (Joined a at b bt 32) p ≡ one (joins o a at b bt p)
  unfolding bit joins dense
  joined-bit p l =
      let x : (at * 8 + p) / 8 ≡ at + p / 8 = omega arith in
      let y : (at * 8 + p) % 8 ≡ p % 8 = omega arith in
      let u : (bt * 8 + p) / 8 ≡ bt + p / 8 = omega arith in
      let v : (bt * 8 + p) % 8 ≡ p % 8 = omega arith in
      rw (
        joined_at (mask (on_first o)) (mask (on_second o)) (mask (on_both o)) a at b bt 32 (p / 8) (omega arith),
        mem-keep (λ j. eqb (get_or a ((at * 8 + j) / 8) 0 / 2 ^ (7 - (at * 8 + j) % 8) % 2) 1) 0 256 p (omega arith)
            (omega arith),
        mem-keep (λ j. eqb (get_or b ((bt * 8 + j) / 8) 0 / 2 ^ (7 - (bt * 8 + j) % 8) % 2) 1) 0 256 p (omega arith)
            (omega arith),
        x,
        y,
        u,
        v,
      )
      (op-digit o (get_or a (at + p / 8) 0) (get_or b (bt + p / 8) 0) (7 - p % 8) (omega arith))

  -- ---- both halves written and counted
  module _ (sx : (k : ℕ) → k < 16 → get_or (Joined a at b bt 16) k 0 < 256)
      (sy : (k : ℕ) → k < 16 → get_or (Joined a (at + 16) b (bt + 16) 16) k 0 < 256) where
    small : (q : ℕ) → get_or (Joined a at b bt 32) q 0 < 256
    small q = ⊎_elim
        (λ l. rw (
          joined_at (mask (on_first o)) (mask (on_second o)) (mask (on_both o)) a at b bt 32 q (omega arith),
          ← joined_at (mask (on_first o)) (mask (on_second o)) (mask (on_both o)) a at b bt 16 q l,
        ) (sx q l))
        (λ l. ⊎_elim (λ m. let e : q ≡ 16 + (q - 16) = omega arith in
        rw (← halves (mask (on_first o)) (mask (on_second o)) (mask (on_both o)) a at b bt)
        (high (q - 16) q e (omega arith))) (λ m. rw (get_or-eq_default (Joined a at b bt 32) 0 {n = q}
        (rw (joined_length (mask (on_first o)) (mask (on_second o)) (mask (on_both o)) a at b bt 32) m))
        (omega arith)) (below_or q 32))
        (below_or q 16)
      where
        high : (k q : ℕ) → q ≡ 16 + k → k < 16
            → get_or (Joined a at b bt 16 ++ Joined a (at + 16) b (bt + 16) 16) q 0 < 256
        high k q e h =
            let z = get_or-append-add (Joined a at b bt 16) (Joined a (at + 16) b (bt + 16) 16) k 0 in
            rw (e, rw (joined_length (mask (on_first o)) (mask (on_second o)) (mask (on_both o)) a at b bt 16) at z)
            (sy k h)

    pub joined-block : Joined a at b bt 16 ++ Joined a (at + 16) b (bt + 16) 16 ≡ block (joins o a at b bt)
    joined-block =
        halves (mask (on_first o)) (mask (on_second o)) (mask (on_both o)) a at b bt
        ∙ shows-block (Joined a at b bt 32) (joins o a at b bt) (record {
          long = joined_length (mask (on_first o)) (mask (on_second o)) (mask (on_both o)) a at b bt 32;
          small = small;
          is = joined-bit;
        })

    pub joined-count : (x y : ℕ) → x ≡ tally (bit (Joined a at b bt 16)) 0 128
        → y ≡ tally (bit (Joined a (at + 16) b (bt + 16) 16)) 0 128
        → x + y ≡ length (keep (joins o a at b bt) (from 0 256))
    joined-count x y hx hy =
        let s = Joined a at b bt 16 in
        let t = Joined a (at + 16) b (bt + 16) 16 in
        let c : tally (bit (s ++ t)) 0 256 ≡ tally (bit (s ++ t)) 0 128 + tally (bit (s ++ t)) (0 + 128) 128 =
        tally-cat (bit (s ++ t)) 0 128 128 in
        let p : tally (bit (s ++ t)) 0 128 ≡ tally (bit s) 0 128 =
        tally-same (bit (s ++ t)) (bit s) 0 0 128 (λ i l. bit-before s t (0 + i)
        (rw (joined_length (mask (on_first o)) (mask (on_second o)) (mask (on_both o)) a at b bt 16) (omega arith))) in
        let q : tally (bit (s ++ t)) (0 + 128) 128 ≡ tally (bit t) 0 128 =
        tally-same (bit (s ++ t)) (bit t) (0 + 128) 0 128
        (λ i l. let z : 0 + 128 + i ≡ 16 * 8 + (0 + i) = omega arith in
        rw z (rw (joined_length (mask (on_first o)) (mask (on_second o)) (mask (on_both o)) a at b bt 16) at
        (bit-after s t (0 + i)))) in
        let d : length (dense (s ++ t) 0) ≡ tally (bit (s ++ t)) (0 * 8) 256 = dense-length (s ++ t) 0 in
        let m : length (dense (s ++ t) 0) ≡ length (keep (joins o a at b bt) (from 0 256)) =
        ap (λ (l : List ℕ). length (dense l 0)) joined-block ∙ ap length (block-members (joins o a at b bt)) in
        omega (arith, hx, hy, c, p, q, d, m)

-- ---- both halves, as the code has them
abbrev pub Half : ℕ → ℕ → ℕ → List ℕ → ℕ → List ℕ → ℕ → List ℕ → List ℕ → ℕ → ℕ → Type 0
Half p q w a at b bt before out to x =
    (x ≡ tally (bit (joined_bytes p q w a at b bt 16)) 0 128)
    × (x ≤ 128)
    × (out ≡ written before to (joined_bytes p q w a at b bt 16))
    × ((k : ℕ) → k < 16 → get_or (joined_bytes p q w a at b bt 16) k 0 < 256)

pub both_halves : (o : Operation) (a : List ℕ) (at : ℕ) (b : List ℕ) (bt p q w : ℕ) → p ≡ mask (on_first o)
    → q ≡ mask (on_second o) → w ≡ mask (on_both o)
    → (before out out' : List ℕ) (to x y : ℕ) → to + 32 ≤ length before → Half p q w a at b bt before out to x
    → Half p q w a (at + 16) b (bt + 16) out out' (to + 16) y
    → (x + y ≡ length (keep (joins o a at b bt) (from 0 256))) × (out' ≡ written before to (block (joins o a at b bt)))
both_halves o a at b bt p q w hp hq hw before out out' to x y room f g =
    let i = rw (hp, hq, hw) at f in
    let j = rw (hp, hq, hw) at g in
    let n : length (joined_bytes (mask (on_first o)) (mask (on_second o)) (mask (on_both o)) a at b bt 16) ≡ 16 =
    joined_length (mask (on_first o)) (mask (on_second o)) (mask (on_both o)) a at b bt 16 in
    let m : length (joined_bytes (mask (on_first o)) (mask (on_second o)) (mask (on_both o)) a (at + 16) b (bt + 16) 16)
    ≡ 16 =
    joined_length (mask (on_first o)) (mask (on_second o)) (mask (on_both o)) a (at + 16) b (bt + 16) 16 in (
      joined-count o a at b bt i.3 j.3 x y i.0 j.0,
      j.2
          ∙ rw i.2 (written-cat before
          (joined_bytes (mask (on_first o)) (mask (on_second o)) (mask (on_both o)) a at b bt 16)
          (joined_bytes (mask (on_first o)) (mask (on_second o)) (mask (on_both o)) a (at + 16) b (bt + 16) 16) to (to + 16)
          (omega (arith, n)) (omega (arith, n, m)))
          ∙ ap (λ (l : List ℕ). written before to l) (joined-block o a at b bt i.3 j.3),
    )
