-- Blocks by their bits: one bit set, and a block from its bits.
-- Assumes nothing.
use mathlib.Core.Path.{◌≡◌, refl, sym, ap, ◌∙◌}
use mathlib.Core.Logic.{⊎_elim}
use mathlib.Core.Bool.{Bool, true, false}
use mathlib.Core.List.{List, [], ◌∷◌, ◌++◌}
use Prim.Native.Nat.{ℕ, zero, suc, ◌+◌, ◌-◌, ◌*◌, ◌/◌, ◌%◌, ◌^◌, ◌≤◌, ◌<◌}
use native.Mathlib.Nat.{eq-or-lt_of_le, zero-add, mod-lt, div-eq_of_lt, pow-suc, not-suc-le-zero, le_of_suc-le-suc}
use native.Mathlib.Nat
use native.Mathlib.Decide.{ℕ_discrete}
use native.Mathlib.Numerals.{add-one}
use native.Mathlib.Omega.{arith}
use borrow.Author.Tests.{eq-eqb, ne_eqb, lt-ltb, le-ltb}
use lib.Dec.{eqb}
use lib.ListN.{length, get_or, set, take, drop, replicate, length-set, length-drop, get_or-eq_default}
use borrow.Rule.Slice.PartMut.{put_mid}
use lib.Seq.{drop-drop, get_or-set_same, get_or-set_other, get_or-drop, take-suc, length-take-le}
use lib.Pow.{pow-add, pow-lt, pow_pos, shl-shr}
use lib.Bits.{bit_or, or_shr, or_mod, or_zero_r, or_lt}
use Rattle.common.specs.Lists.{mem, keep, from}
use Rattle.common.specs.Outcome.{pick, one}
use Rattle.bitmap_spec.proofs.Tally.{bit-lt, one-eqb}
use Rattle.bitmap_spec.proofs.Window.{below_or}
use Rattle.bitmap_spec.specs.Bits.{bit, packed, bytes_of}
use Rattle.bitmap_laws.proofs.Pack.{packed-same, bit-bytes_of}
use Rattle.bitmap_laws.proofs.Back.{table_same}
use Rattle.bitmap_laws.proofs.Containers.{keep_same}
use Rattle.bitmap_laws.proofs.Members.{mem-keep}
use Rattle.bitmap_spec.specs.Judge.{dense}
use Rattle.bitmap_spec.specs.Form.{descriptor_of, write_container}
use Rattle.bitmap_spec.specs.Output.{written}
use Rattle.bitmap_laws.proofs.Output.{written-more}
use Rattle.bitmap_laws.proofs.Stored.{by_bits}
use Rattle.blocks.specs.Block.{block, is_set}

-- the one set digit of a power
power-digit : (k j : ℕ) → 2 ^ k / 2 ^ j % 2 ≡ one (eqb j k)
power-digit k j = ⊎_elim low (λ l. ⊎_elim same high (eq-or-lt_of_le l)) (below_or j k)
  where
    low : j < k → 2 ^ k / 2 ^ j % 2 ≡ one (eqb j k)
    low l =
        let e : k ≡ suc (k - j - 1) + j = omega arith in
        rw (ne_eqb j k (λ q. omega arith)) (ap (λ (x : ℕ). 2 ^ x / 2 ^ j % 2) e
        ∙ rw (pow-add 2 (suc (k - j - 1)) j, shl-shr (2 ^ suc (k - j - 1)) j, pow-suc 2 (k - j - 1)) (omega arith))

    same : k ≡ j → 2 ^ k / 2 ^ j % 2 ≡ one (eqb j k)
    same e = rw (eq-eqb j k (sym e), e) (ap (λ (x : ℕ). x % 2) (native.Mathlib.Nat.div_self (pow_pos j)))

    high : k < j → 2 ^ k / 2 ^ j % 2 ≡ one (eqb j k)
    high l = rw (ne_eqb j k (λ q. omega arith), div-eq_of_lt (pow-lt l))

-- a digit of a number with digit k set besides
digit_or : (v k j : ℕ) → bit_or v (2 ^ k) / 2 ^ j % 2 ≡ pick (eqb j k) 1 (v / 2 ^ j % 2)
digit_or v k j =
    ap (λ (x : ℕ). x % 2) (or_shr v (2 ^ k) j) ∙ or_mod (v / 2 ^ j) (2 ^ k / 2 ^ j) 1
    ∙ ap (λ (x : ℕ). bit_or (v / 2 ^ j % 2) x) (power-digit k j)
    ∙ go (eqb j k) (v / 2 ^ j % 2) (mod-lt (v / 2 ^ j) (omega arith))
  where
    go : (b : Bool) (d : ℕ) → d < 2 → bit_or d (one b) ≡ pick b 1 d
    go false d h = or_zero_r d
    go true zero h = refl
    go true (suc zero) h = refl
    go true (suc (suc d)) h = absurd (not-suc-le-zero (le_of_suc-le-suc (le_of_suc-le-suc h)))

-- a block with the bit x set besides
pub bit-set : (b : List ℕ) (x p : ℕ) → x / 8 < length b
    → bit (set b (x / 8) (bit_or (get_or b (x / 8) 0) (2 ^ (7 - x % 8)))) p ≡ pick (eqb p x) 1 (bit b p)
unfolding bit
bit-set b x p h = go (ℕ_discrete (p / 8) (x / 8))
  where
    eqs : (u v : ℕ) (i j : ℕ) → (u ≡ v → i ≡ j) → (i ≡ j → u ≡ v) → eqb u v ≡ eqb i j
    eqs u v i j f g = try (ℕ_discrete u v)
      where
        try : Dec (u ≡ v) → eqb u v ≡ eqb i j
        try (yes e) = eq-eqb u v e ∙ sym (eq-eqb i j (f e))
        try (no e) = ne_eqb u v e ∙ sym (ne_eqb i j (λ q. e (g q)))

    go : Dec (p / 8 ≡ x / 8)
        → get_or (set b (x / 8) (bit_or (get_or b (x / 8) 0) (2 ^ (7 - x % 8)))) (p / 8) 0 / 2 ^ (7 - p % 8) % 2
        ≡ pick (eqb p x) 1 (get_or b (p / 8) 0 / 2 ^ (7 - p % 8) % 2)
    go (yes e) =
        rw (e, get_or-set_same b (x / 8) (bit_or (get_or b (x / 8) 0) (2 ^ (7 - x % 8))) 0 h)
        (digit_or (get_or b (x / 8) 0) (7 - x % 8) (7 - p % 8)
        ∙ ap (λ (t : Bool). pick t 1 (get_or b (x / 8) 0 / 2 ^ (7 - p % 8) % 2))
        (eqs (7 - p % 8) (7 - x % 8) p x (λ q. omega arith) (λ q. omega arith)))
    go (no e) =
        rw (
          get_or-set_other b (x / 8) (p / 8) (bit_or (get_or b (x / 8) 0) (2 ^ (7 - x % 8))) 0 e,
          ne_eqb p x (λ q. e (ap (λ (y : ℕ). y / 8) q)),
        )

-- a block whose bits say f
pub record Shows (b : List ℕ) (f : ℕ → Bool) : Type 0 where
  pub long : length b ≡ 32
  pub small : (q : ℕ) → get_or b q 0 < 256
  pub is : (p : ℕ) → p < 256 → bit b p ≡ one (f p)

pub shows-block : (b : List ℕ) (f : ℕ → Bool) → Shows b f → b ≡ block f
unfolding block
shows-block b f h = by_bits b (λ p. one (f p)) 32 h.long (λ i l. h.small i) h.is

-- ---- members one by one
pub mem-snoc : (p y : ℕ) (l : List ℕ) → mem p (l ++ (y ∷ [])) ≡ pick (eqb p y) true (mem p l)
unfolding mem
mem-snoc p y [] = refl
mem-snoc p y (x ∷ xs) = rw (mem-snoc p y xs) (swap (eqb p x) (eqb p y))
  where
    swap : (a b : Bool) → pick a true (pick b true (mem p xs)) ≡ pick b true (pick a true (mem p xs))
    swap true true = refl
    swap true false = refl
    swap false true = refl
    swap false false = refl

pub shows-none : (b : List ℕ) → length b ≡ 32 → ((q : ℕ) → get_or b q 0 ≡ 0) → Shows b (λ p. mem p [])
unfolding mem bit
shows-none b e h =
    record {
      long = e;
      small = λ q. rw (h q) (omega arith);
      is = λ p l. rw (h (p / 8)) (zero-digit (2 ^ (7 - p % 8)) (pow_pos (7 - p % 8)));
    }
  where
    zero-digit : (k : ℕ) → 0 < k → 0 / k % 2 ≡ 0
    zero-digit k l = rw (div-eq_of_lt l)

-- one member more
pub shows_more : (b l : List ℕ) (i : ℕ) → Shows b (λ p. mem p (take i l)) → i < length l → get_or l i 0 < 256
    → Shows (set b (get_or l i 0 / 8) (bit_or (get_or b (get_or l i 0 / 8) 0) (2 ^ (7 - get_or l i 0 % 8))))
    (λ p. mem p (take (i + 1) l))
shows_more b l i h g k = record {
  long = length-set b (get_or l i 0 / 8) _ ∙ h.long;
  small = λ q. small q (ℕ_discrete q (get_or l i 0 / 8));
  is = λ p m.
      bit-set b (get_or l i 0) p at
      ∙ rw (h.is p m, add-one i, take-suc l i 0 g, mem-snoc p (get_or l i 0) (take i l))
      (push (eqb p (get_or l i 0)) (mem p (take i l)));
}
  where
    at : get_or l i 0 / 8 < length b
    at = rw h.long (omega arith)

    push : (a b : Bool) → pick a 1 (one b) ≡ one (pick a true b)
    push true b = refl
    push false b = refl

    small : (q : ℕ) → Dec (q ≡ get_or l i 0 / 8)
        → get_or (set b (get_or l i 0 / 8) (bit_or (get_or b (get_or l i 0 / 8) 0) (2 ^ (7 - get_or l i 0 % 8)))) q
        0 < 256
    small q (yes e) =
        rw (
          e,
          get_or-set_same b (get_or l i 0 / 8) (bit_or (get_or b (get_or l i 0 / 8) 0)
              (2 ^ (7 - get_or l i 0 % 8))) 0 at,
        )
        (or_lt
        8 (get_or b (get_or l i 0 / 8) 0) (2 ^ (7 - get_or l i 0 % 8)) (h.small (get_or l i 0 / 8))
        (pow-lt {i = 7 - get_or l i 0 % 8} {j = 8} (omega arith)))
    small q (no e) =
        rw (get_or-set_other b (get_or l i 0 / 8) q (bit_or (get_or b (get_or l i 0 / 8) 0)
        (2 ^ (7 - get_or l i 0 % 8))) 0 e)
        (h.small q)

pub from-top : (k : ℕ) → k < 8 → 128 / 2 ^ k ≡ 2 ^ (7 - k)
from-top k h =
    let e : 7 ≡ (7 - k) + k = omega arith in
    ap (λ (x : ℕ). 2 ^ x / 2 ^ k) e ∙ rw (pow-add 2 (7 - k) k) (shl-shr (2 ^ (7 - k)) k)

pub zeros : (n q : ℕ) → ◌≡◌ {A = ℕ} (get_or (replicate n 0) q 0) 0
zeros zero q = refl
zeros (suc n) zero = refl
zeros (suc n) (suc q) = zeros n q

pub load-none : Shows (replicate 32 0) (λ p. mem p [])
load-none = shows-none (replicate 32 0) refl (zeros 32)

pub load-more : (b s : List ℕ) (at i : ℕ) → Shows b (λ p. mem p (take i (drop at s))) → at + i < length s
    → get_or s (at + i) 0 < 256
    → Shows
    (set b (get_or s (at + i) 0 / 8) (bit_or (get_or b (get_or s (at + i) 0 / 8) 0)
    (128 / 2 ^ (get_or s (at + i) 0 % 8))))
    (λ p. mem p (take (i + 1) (drop at s)))
load-more b s at i h g k =
    let e : get_or (drop at s) i 0 ≡ get_or s (at + i) 0 = get_or-drop at s i 0 in
    let r = shows_more b (drop at s) i h (rw length-drop (omega arith)) (rw e k) in
    rw (from-top (get_or s (at + i) 0 % 8) (omega arith)) (rw e at r)

-- ---- 32 bytes copied
pub copied : (b s : List ℕ) (at : ℕ) → length b ≡ 32 → ((k : ℕ) → k < 32 → get_or b k 0 ≡ get_or s (at + k) 0)
    → ((k : ℕ) → k < 32 → get_or b k 0 < 256) → b ≡ block (λ p. mem p (dense s at))
unfolding dense bit
copied b s at len same small = shows-block b (λ p. mem p (dense s at)) (record {
  long = len;
  small = λ q. ⊎_elim (λ l. small q l) (λ l. rw (get_or-eq_default b 0 {n = q} (omega arith)) (omega arith))
      (below_or q 32);
  is = λ p l.
      let a : (at * 8 + p) / 8 ≡ at + p / 8 = omega arith in
      let m : (at * 8 + p) % 8 ≡ p % 8 = omega arith in
      sym (ap one (mem-keep (λ j. eqb (bit s (at * 8 + j)) 1) 0 256 p (omega arith) (omega arith))
      ∙ one-eqb (bit s (at * 8 + p)) (bit-lt s (at * 8 + p)) ∙ rw (a, m, same (p / 8) (omega arith)));
})

-- ---- blocks by their bits
pub block-bit : (f : ℕ → Bool) (p : ℕ) → p < 256 → bit (block f) p ≡ one (f p)
unfolding block
block-bit f p l = bit-bytes_of (λ p. one (f p)) 32 p (λ i. one-lt (f i)) (omega arith)
  where
    one-lt : (b : Bool) → one b < 2
    one-lt true = omega arith
    one-lt false = omega arith

pub block-is : (f : ℕ → Bool) (p : ℕ) → p < 256 → is_set (block f) p ≡ f p
block-is f p l = rw (block-bit f p l) (test (f p))
  where
    test : (b : Bool) → eqb (one b) 1 ≡ b
    test true = refl
    test false = refl

pub block_same : (f g : ℕ → Bool) → ((p : ℕ) → p < 256 → f p ≡ g p) → block f ≡ block g
unfolding block bytes_of
block_same f g h =
    table_same (λ i. packed (λ p. one (f p)) (i * 8) 8) (λ i. packed (λ p. one (g p)) (i * 8) 8) 0 32
    (λ i l. packed-same (λ p. one (f p)) (λ p. one (g p)) ((0 + i) * 8) ((0 + i) * 8) 8
    (λ j m. ap one (h ((0 + i) * 8 + j) (omega arith))))

pub block-members : (f : ℕ → Bool) → dense (block f) 0 ≡ keep f (from 0 256)
unfolding dense
block-members f =
    keep_same (λ j. eqb (bit (block f) (0 * 8 + j)) 1) f 0 256
    (λ i l. let e : 0 * 8 + (0 + i) ≡ 0 + i = omega arith in rw e (block-is f (0 + i) (omega arith)))

-- one byte more of a list that is copied
pub copy-turn : (b before out : List ℕ) (at i x : ℕ) → i < length b → at + length b ≤ length before → x ≡ get_or b i 0
    → out ≡ written before at (take i b) → set out (at + i) x ≡ written before at (take (i + 1) b)
copy-turn b before out at i x h room e q =
    let n : length (take i b) ≡ i = length-take-le i b (omega arith) in
    let m = rw n at (written-more before (take i b) at x (rw n (omega arith))) in
    ap (λ (o : List ℕ). set o (at + i) x) q ∙ m ∙ rw (add-one i, take-suc b i 0 (omega arith), e)

-- a part overwritten by l
pub put-part : (out l l' : List ℕ) (to k : ℕ) → l' ≡ l → k ≡ length l → put_mid to k out l' ≡ written out to l
unfolding written
put-part out l l' to k e n = rw (e, n, drop-drop (length l) to out)

-- ---- the container of a block
pub block-sparse : (b : List ℕ) (d : ℕ) → d ≡ descriptor_of (dense b 0) → d < 32
    → dense b 0 ≡ write_container (dense b 0)
unfolding descriptor_of write_container
block-sparse b d e h = sym (rw (lt-ltb (length (dense b 0)) 32 (omega arith)))

pub block-dense : (b : List ℕ) (d : ℕ) → d ≡ descriptor_of (dense b 0) → 32 ≤ d → length b ≡ 32
    → ((k : ℕ) → get_or b k 0 < 256) → b ≡ write_container (dense b 0)
unfolding descriptor_of write_container dense block
block-dense b d e h len small =
    sym (rw (le-ltb (length (dense b 0)) 32 (omega arith)) (sym (whole ∙ plain)))
  where
    whole : b ≡ block (λ p. mem p (dense b 0))
    whole = copied b b 0 len (λ k l. ap (λ (j : ℕ). get_or b j 0) (sym (zero-add k))) (λ k l. small k)

    plain : block (λ p. mem p (dense b 0)) ≡ bytes_of (λ j. one (mem j (dense b 0))) 32
    plain = refl
