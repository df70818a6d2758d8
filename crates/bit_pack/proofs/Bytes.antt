-- Packed bits and bytes, one more.
-- Assumes nothing.
use mathlib.Core.Path.{◌≡◌, refl, sym, ap, ◌∙◌}
use mathlib.Core.Bool.{Bool, true, false}
use mathlib.Core.List.{List, []}
use Prim.Native.Nat.{ℕ, zero, suc, ◌+◌, ◌-◌, ◌*◌, ◌/◌, ◌%◌, ◌^◌, ◌≤◌, ◌<◌}
use native.Mathlib.Nat.{add-zero, zero-add, zero-mul, suc-mul, mul-le-mul_right, mul-zero, div-lt_iff_lt-mul, mod-lt, mod-le}
use native.Mathlib.Numerals.{add-one}
use native.Mathlib.Omega.{arith}
use borrow.Author.Tests.{le-ltb, ltb-true}
use lib.Dec.{ltb}
use lib.ListN.{length, set}
use lib.Pow.{pow_mono, pow_pos, field, mod-mod-pow}
use lib.Arith.{digits_div, digits_mod}
use Rattle.common.proofs.Lists.{table-snoc, length-table}
use Rattle.common.specs.Bytes.{ceil8}
use Rattle.common.specs.Lists.{table}
use Rattle.common.specs.Outcome.{pick}
use Rattle.bitmap_spec.proofs.Parts.{within, prod}
use Rattle.bitmap_spec.proofs.Window.{shifted_one}
use Rattle.bitmap_spec.specs.Bits.{value_bit, packed, pack_values, bytes_of}
use Rattle.bitmap_spec.specs.Output.{written}
use Rattle.bitmap_laws.proofs.Back.{table_same}
use Rattle.bitmap_laws.proofs.Packed.{packed_lt, packed_byte, packed-cat}
use Rattle.bitmap_laws.proofs.Pack.{value_bit-lt, value_bit-at, packed-same, packed-digits}
use Rattle.bitmap_laws.proofs.Output.{written_none, written-more, length-written}

packed_zero : (f : ℕ → ℕ) (p w : ℕ) → ((j : ℕ) → j < w → f (p + j) ≡ 0) → packed f p w ≡ 0
unfolding packed
packed_zero f p zero h = refl
packed_zero f p (suc w) h = rw (packed_zero f p w (λ j l. h j (omega arith)), h w (omega arith))

pub spare : (f : ℕ → ℕ) (w n p : ℕ) → n * w ≤ p → value_bit f w n p ≡ 0
unfolding value_bit
spare f w n p h = rw (le-ltb _ _ h)

-- a digit below the w-th is a digit of the low w bits
low_digit : (v w k : ℕ) → k < w → v / 2 ^ k % 2 ≡ v % 2 ^ w / 2 ^ k % 2
low_digit v w k l =
    let e : (w - k - 1) + (1 + k) ≡ w = omega arith in
    sym (field v 1 k) ∙ ap (λ (x : ℕ). x / 2 ^ k) (sym (mod-mod-pow v (w - k - 1) (1 + k)) ∙ rw e) ∙ field (v % 2 ^ w) 1 k

-- value i in its place: its low w bits
pub packed-value : (f : ℕ → ℕ) (w n i : ℕ) → i < n → packed (value_bit f w n) (i * w) w ≡ f i % 2 ^ w
packed-value f w n i h =
    packed-same (value_bit f w n) (λ j. f i % 2 ^ w / 2 ^ (w - 1 - j) % 2) (i * w) 0 w
    (λ j l. value_bit-at f w n i j l (omega (arith, within n i w h)) ∙ rw (zero-add j) (low_digit (f i) w (w - 1 - j) (omega arith)))
    ∙ packed-digits w (f i % 2 ^ w) (mod-lt (f i) (pow_pos w))

pub some : (n w p : ℕ) → p < n * w → 0 < w
some n zero p h = absurd (omega (arith, mul-zero n))
some n (suc w) p h = omega arith

pub index-lt : (n w p : ℕ) → p < n * w → p / w < n
index-lt n w p h = (div-lt_iff_lt-mul {k = w} {x = p} {y = n} (some n w p h)).1 h

-- the bytes so far, and one more
unfoldable pub bytes_to : (ℕ → ℕ) → ℕ → List ℕ
bytes_to f q = table (λ i. packed f (i * 8) 8) 0 q

pub length_to : (f : ℕ → ℕ) (q : ℕ) → length (bytes_to f q) ≡ q
unfolding bytes_to
length_to f q = length-table (λ i. packed f (i * 8) 8) 0 q

pub to-all : (f : ℕ → ℕ) (w n : ℕ) → bytes_to (value_bit f w n) (ceil8 (n * w)) ≡ pack_values f w n
unfolding pack_values bytes_of bytes_to
to-all f w n = refl

pub to_none : (f : ℕ → ℕ) → bytes_to f 0 ≡ []
unfolding bytes_to table
to_none f = refl

pub to-more : (f : ℕ → ℕ) (before : List ℕ) (at q x : ℕ) → at + q < length before → x ≡ packed f (q * 8) 8
    → set (written before at (bytes_to f q)) (at + q) x ≡ written before at (bytes_to f (q + 1))
unfolding bytes_to
to-more f before at q x h e =
    let l : length (table (λ i. packed f (i * 8) 8) 0 q) ≡ q = length-table (λ i. packed f (i * 8) 8) 0 q in
    let m = rw l at (written-more before (table (λ i. packed f (i * 8) 8) 0 q) at x (rw l h)) in
    m ∙ rw (add-one q, table-snoc (λ i. packed f (i * 8) 8) 0 q, zero-add q, e)

pub to-length : (f : ℕ → ℕ) (before : List ℕ) (at q : ℕ) → at + q ≤ length before → length (written before at (bytes_to f q)) ≡ length before
unfolding bytes_to
to-length f before at q h =
    let l : length (table (λ i. packed f (i * 8) 8) 0 q) ≡ q = length-table (λ i. packed f (i * 8) 8) 0 q in
    length-written before (table (λ i. packed f (i * 8) 8) 0 q) at (rw l h)

-- ---- the loop: q bytes are written, and acc has the r bits that follow them, up to value i
pub record Packing (f : ℕ → ℕ) (w n : ℕ) (before out : List ℕ) (at acc r q i : ℕ) : Type 0 where
  pub upto : i ≤ n
  pub few : r < 8
  pub place : q * 8 + r ≡ i * w
  pub have : acc ≡ packed (value_bit f w n) (q * 8) r
  pub holds : out ≡ written before at (bytes_to (value_bit f w n) q)

module _ (f : ℕ → ℕ) (w n : ℕ) (before : List ℕ) (at : ℕ) (room : at + ceil8 (n * w) ≤ length before) where
  pub start : Packing f w n before before at 0 0 0 0
  unfolding packed
  start = record { upto = omega arith; few = omega arith; place = sym (zero-mul w); have = refl; holds = rw (to_none (value_bit f w n)) (written_none before at) }

  module _ (out : List ℕ) (acc r q i : ℕ) (g : Packing f w n before out at acc r q i) where
    pub small : acc < 256
    small = rw g.have (packed_byte (value_bit f w n) (q * 8) r (value_bit-lt f w n) (omega (arith, g.few)))

    bytes_le : q ≤ ceil8 (n * w)
    unfolding ceil8
    bytes_le = omega (arith, g.place, mul-le-mul_right w g.upto)

    pub long : length out ≡ length before
    long = ap length g.holds ∙ to-length (value_bit f w n) before at q (omega (arith, bytes_le))

    module _ (all : ℕ) (h : i < n) (e : all ≡ acc * 2 ^ w + f i % 2 ^ w) where
      whole : all ≡ packed (value_bit f w n) (q * 8) (r + w)
      whole = e ∙ rw (packed-cat (value_bit f w n) (q * 8) r w, g.place, packed-value f w n i h, ← g.have)

      next : (i + 1) * w ≡ q * 8 + r + w
      next = let z : suc i * w ≡ i * w + w = suc-mul i w in rw (add-one i) (omega (arith, g.place))

      pub more : r + w < 8 → Packing f w n before out at all (r + w) q (i + 1)
      more l = record { upto = omega arith; few = l; place = omega (arith, next); have = whole; holds = g.holds }

      module _ (l : 8 ≤ r + w) (w8 : w ≤ 8) where
        split : all ≡ packed (value_bit f w n) (q * 8) 8 * 2 ^ (r + w - 8) + packed (value_bit f w n) (q * 8 + 8) (r + w - 8)
        split = let z : r + w ≡ 8 + (r + w - 8) = omega arith in whole ∙ ap (λ (k : ℕ). packed (value_bit f w n) (q * 8) k) z ∙ packed-cat (value_bit f w n) (q * 8) 8 (r + w - 8)

        under : packed (value_bit f w n) (q * 8 + 8) (r + w - 8) < 2 ^ (r + w - 8)
        under = packed_lt (value_bit f w n) (q * 8 + 8) (r + w - 8) (value_bit-lt f w n)

        pub byte : all / 2 ^ (r + w - 8) ≡ packed (value_bit f w n) (q * 8) 8
        byte = rw split (digits_div (packed (value_bit f w n) (q * 8) 8) under)

        pub byte-lt : all / 2 ^ (r + w - 8) < 256
        byte-lt = rw byte (packed_byte (value_bit f w n) (q * 8) 8 (value_bit-lt f w n) (omega arith))

        left : all % 2 ^ (r + w - 8) ≡ packed (value_bit f w n) ((q + 1) * 8) (r + w - 8)
        left = let z : (q + 1) * 8 ≡ q * 8 + 8 = omega arith in rw (z, split) (digits_mod (packed (value_bit f w n) (q * 8) 8) under)

        fits : q < ceil8 (n * w)
        unfolding ceil8
        fits = omega (arith, next, mul-le-mul_right w (suc-up h))
          where
            suc-up : i < n → i + 1 ≤ n
            suc-up m = omega arith

        pub at-fits : at + q < length out
        at-fits = rw long (omega (arith, fits))

        pub emit : (x a : ℕ) → x ≡ all / 2 ^ (r + w - 8) → a ≡ all % 2 ^ (r + w - 8) → Packing f w n before (set out (at + q) x) at a (r + w - 8) (q + 1) (i + 1)
        emit x a ex ea = record {
          upto = omega arith;
          few = omega (arith, g.few);
          place = omega (arith, next);
          have = ea ∙ left;
          holds = ap (λ (o : List ℕ). set o (at + q) x) g.holds ∙ to-more (value_bit f w n) before at q x (omega (arith, fits)) (ex ∙ byte);
        }

    module _ (done : n ≤ i) where
      ended : q * 8 + r ≡ n * w
      ended = let z : i ≡ n = omega (arith, g.upto) in g.place ∙ ap (λ (k : ℕ). k * w) z

      pub full : r ≡ 0 → (q ≡ ceil8 (n * w)) × (out ≡ written before at (pack_values f w n))
      unfolding ceil8
      full e =
          let z : q ≡ ceil8 (n * w) = omega (arith, ended) in
          (z, g.holds ∙ ap (λ (l : List ℕ). written before at l) (ap (bytes_to (value_bit f w n)) z ∙ to-all f w n))

      module _ (some_left : 0 < r) where
        pub last : acc * 2 ^ (8 - r) ≡ packed (value_bit f w n) (q * 8) 8
        last =
            let z : 8 ≡ r + (8 - r) = omega (arith, g.few) in
            sym (ap (λ (k : ℕ). packed (value_bit f w n) (q * 8) k) z ∙ packed-cat (value_bit f w n) (q * 8) r (8 - r)
            ∙ rw (packed_zero (value_bit f w n) (q * 8 + r) (8 - r) (λ j l. spare f w n (q * 8 + r + j) (omega (arith, ended))), ← g.have) (add-zero (acc * 2 ^ (8 - r))))

        pub last-lt : acc * 2 ^ (8 - r) < 256
        last-lt = rw last (packed_byte (value_bit f w n) (q * 8) 8 (value_bit-lt f w n) (omega arith))

        pub last_fits : at + q < length out
        unfolding ceil8
        last_fits = rw long (omega (arith, ended))

        pub closed : (x : ℕ) → x ≡ acc * 2 ^ (8 - r) → (q + 1 ≡ ceil8 (n * w)) × (set out (at + q) x ≡ written before at (pack_values f w n))
        unfolding ceil8
        closed x e =
            let z : q + 1 ≡ ceil8 (n * w) = omega (arith, ended, g.few) in (
              z,
              ap (λ (o : List ℕ). set o (at + q) x) g.holds ∙ to-more (value_bit f w n) before at q x (omega (arith, ended)) (e ∙ last)
                  ∙ ap (λ (l : List ℕ). written before at l) (ap (bytes_to (value_bit f w n)) z ∙ to-all f w n),
            )

-- ---- a power of two as a shift gives it
power_le : (w : ℕ) → w ≤ 8 → 2 ^ w ≤ 256
power_le w h = pow_mono {i = w} {j = 8} h

pub push-le : (acc w : ℕ) → w ≤ 8 → acc < 256 → acc * (1 * 2 ^ w % 4294967296) ≤ 65280
push-le acc w h g = rw (shifted_one w h) (prod 255 256 acc (2 ^ w) (omega arith) (power_le w h))

pub shift-pos : (w : ℕ) → w ≤ 8 → 0 < 1 * 2 ^ w % 4294967296
shift-pos w h = rw (shifted_one w h) (pow_pos w)

pub rem-le : (v w : ℕ) → v % (1 * 2 ^ w % 4294967296) ≤ v
rem-le v w = mod-le v (1 * 2 ^ w % 4294967296)

pub push-is : (acc w v : ℕ) → w ≤ 8 → acc * (1 * 2 ^ w % 4294967296) + v % (1 * 2 ^ w % 4294967296) ≡ acc * 2 ^ w + v % 2 ^ w
push-is acc w v h = rw (shifted_one w h)

-- values that agree in their low w bits are packed alike
pub pack-same : (f g : ℕ → ℕ) (w n : ℕ) → ((i : ℕ) → i < n → f i % 2 ^ w ≡ g i % 2 ^ w) → pack_values f w n ≡ pack_values g w n
unfolding pack_values bytes_of value_bit
pack-same f g w n h =
    table_same (λ i. packed (value_bit f w n) (i * 8) 8) (λ i. packed (value_bit g w n) (i * 8) 8) 0 (ceil8 (n * w))
    (λ i l. packed-same (value_bit f w n) (value_bit g w n) ((0 + i) * 8) ((0 + i) * 8) 8 (λ j m. go ((0 + i) * 8 + j) (ltb ((0 + i) * 8 + j) (n * w)) refl))
  where
    go : (p : ℕ) (t : Bool) → ltb p (n * w) ≡ t → pick t (f (p / w) / 2 ^ (w - 1 - p % w) % 2) 0 ≡ pick t (g (p / w) / 2 ^ (w - 1 - p % w) % 2) 0
    go p true e =
        let l : p < n * w = ltb-true p (n * w) e in
        let k : w - 1 - p % w < w = omega (arith, some n w p l) in
        low_digit (f (p / w)) w (w - 1 - p % w) k
        ∙ ap (λ (x : ℕ). x / 2 ^ (w - 1 - p % w) % 2) (h (p / w) (index-lt n w p l))
        ∙ sym (low_digit (g (p / w)) w (w - 1 - p % w) k)
    go p false e = refl
