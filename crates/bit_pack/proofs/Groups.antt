-- Values packed eight at a time: eight values of w bits are w whole bytes, and what follows begins with a byte of its own.
-- Assumes nothing.
use mathlib.Core.Path.{◌≡◌, refl, sym, ap, ap₂, ◌∙◌}
use mathlib.Core.Logic.{⊎_elim}
use mathlib.Core.List.{List, [], ◌∷◌, ◌++◌, append_assoc, append-nil}
use Prim.Native.Nat.{ℕ, zero, suc, ◌+◌, ◌-◌, ◌*◌, ◌/◌, ◌%◌, ◌^◌, ◌≤◌, ◌<◌}
use native.Mathlib.Nat.{add-zero, zero-add, add-suc, add-mul, mul_assoc, one-mul}
use native.Mathlib.Nat.{mul-zero, zero-mul, mod-lt, div-add-mod', lt_of_lt_of_le, lt_of_le_of_lt, le-add_right}
use native.Mathlib.Numerals.{add-one}
use native.Mathlib.Omega.{arith}
use borrow.Author.Tests.{lt-ltb}
use lib.Arith.{digits_div, digits_mod}
use lib.ListN.{length, length-drop, get_or, set, take, drop}
use lib.Seq.{get_or-drop, take-length}
use lib.Pow.{pow_mono, pow_pos, shl_exact}
use Rattle.common.proofs.Lists.{table-snoc, length-table}
use Rattle.common.specs.Bytes.{ceil8}
use Rattle.common.specs.Lists.{table}
use Rattle.bitmap_spec.proofs.Parts.{prod}
use Rattle.bitmap_spec.proofs.Window.{below_or}
use Rattle.bitmap_spec.specs.Bits.{value_bit, packed, pack_values, bytes_of}
use Rattle.bitmap_laws.proofs.Back.{length-pack, table_same}
use Rattle.bitmap_spec.specs.Output.{written}
use Rattle.bitmap_laws.proofs.Output.{written-cat, written-more, written_none}
use Rattle.bitmap_laws.proofs.Packed.{packed_lt, packed-cat}
use Rattle.bitmap_laws.proofs.Pack.{value_bit-lt, value_bit-at, packed-same}
use Rattle.bit_pack.proofs.Bytes.{pack-same, packed-value, some, spare}

-- ---- tables
table-cat : (f : ℕ → ℕ) (a b : ℕ) → table f 0 (a + b) ≡ table f 0 a ++ table (λ i. f (a + i)) 0 b
unfolding table
table-cat f a zero = ap (table f 0) (add-zero a) ∙ sym (append-nil (table f 0 a))
table-cat f a (suc b) =
    let front : table f 0 (suc (a + b)) ≡ table f 0 (a + b) ++ (f (a + b) ∷ []) =
    rw (zero-add (a + b)) at (table-snoc f 0 (a + b)) in
    let back : table (λ i. f (a + i)) 0 (suc b) ≡ table (λ i. f (a + i)) 0 b ++ (f (a + b) ∷ []) =
    rw (zero-add b) at (table-snoc (λ i. f (a + i)) 0 b) in
    ap (table f 0) (add-suc a b) ∙ front ∙ ap (λ (l : List ℕ). l ++ (f (a + b) ∷ [])) (table-cat f a b)
    ∙ append_assoc (table f 0 a) (table (λ i. f (a + i)) 0 b) (f (a + b) ∷ [])
    ∙ ap (λ (l : List ℕ). table f 0 a ++ l) (sym back)

-- ---- the bits of the values from k on are those of the values behind
module _ (f : ℕ → ℕ) (w k m : ℕ) where
  all : (k + m) * w ≡ k * w + m * w
  all = add-mul k m w

  low_bits : (p : ℕ) → p < k * w → value_bit f w (k + m) p ≡ value_bit f w k p
  unfolding value_bit
  low_bits p h = rw (lt-ltb p ((k + m) * w) (omega (arith, all)), lt-ltb p (k * w) h)

  high_bits : (p : ℕ) → value_bit f w (k + m) (k * w + p) ≡ value_bit (λ i. f (k + i)) w m p
  high_bits p = ⊎_elim inside past (below_or p (m * w))
    where
      past : m * w ≤ p → value_bit f w (k + m) (k * w + p) ≡ value_bit (λ i. f (k + i)) w m p
      past h = spare f w (k + m) (k * w + p) (omega (arith, all)) ∙ sym (spare (λ i. f (k + i)) w m p h)

      inside : p < m * w → value_bit f w (k + m) (k * w + p) ≡ value_bit (λ i. f (k + i)) w m p
      inside h =
          let z : p / w * w + p % w ≡ p = div-add-mod' p w in
          let l : p % w < w = mod-lt p (some m w p h) in
          let e : (k + p / w) * w + p % w ≡ k * w + p = omega (arith, z, add-mul k (p / w) w) in
          (rw e at (value_bit-at f w (k + m) (k + p / w) (p % w) l (omega (arith, e, all))))
          ∙ sym (rw z at (value_bit-at (λ i. f (k + i)) w m (p / w) (p % w) l (omega (arith, z))))

-- ---- g groups of eight, and m values more
module _ (f : ℕ → ℕ) (w g m : ℕ) where
  bytes : 8 * g * w ≡ g * w * 8
  bytes = mul_assoc 8 g w ∙ (omega arith)

  many : ceil8 ((8 * g + m) * w) ≡ g * w + ceil8 (m * w)
  unfolding ceil8
  many = omega (arith, add-mul (8 * g) m w, bytes)

  pub groups : ceil8 (8 * g * w) ≡ g * w
  unfolding ceil8
  groups = omega (arith, bytes)

  first : (i : ℕ) → i < g * w → packed (value_bit f w (8 * g + m)) ((0 + i) * 8) 8 ≡ packed (value_bit f w (8 * g)) ((0 + i) * 8) 8
  first i l = packed-same (value_bit f w (8 * g + m)) (value_bit f w (8 * g)) ((0 + i) * 8) ((0 + i) * 8) 8
      (λ j h. low_bits f w (8 * g) m ((0 + i) * 8 + j) (omega (arith, bytes)))

  behind : (i : ℕ) → packed (value_bit f w (8 * g + m)) ((g * w + (0 + i)) * 8) 8 ≡ packed (value_bit (λ t. f (8 * g + t)) w m) ((0 + i) * 8) 8
  behind i = packed-same (value_bit f w (8 * g + m)) (value_bit (λ t. f (8 * g + t)) w m) ((g * w + (0 + i)) * 8) ((0 + i) * 8) 8
      (λ j h. let e : (g * w + (0 + i)) * 8 + j ≡ 8 * g * w + ((0 + i) * 8 + j) = omega (arith, bytes) in
      rw e (high_bits f w (8 * g) m ((0 + i) * 8 + j)))

  pub pack-cat : pack_values f w (8 * g + m) ≡ pack_values f w (8 * g) ++ pack_values (λ i. f (8 * g + i)) w m
  unfolding pack_values bytes_of
  pack-cat =
      ap (table (λ i. packed (value_bit f w (8 * g + m)) (i * 8) 8) 0) many
      ∙ table-cat (λ i. packed (value_bit f w (8 * g + m)) (i * 8) 8) (g * w) (ceil8 (m * w))
      ∙ ap₂ (λ (a b : List ℕ). a ++ b)
      (table_same (λ i. packed (value_bit f w (8 * g + m)) (i * 8) 8) (λ i. packed (value_bit f w (8 * g)) (i * 8) 8) 0 (g * w) first
      ∙ ap (table (λ i. packed (value_bit f w (8 * g)) (i * 8) 8) 0) (sym groups))
      (table_same (λ i. packed (value_bit f w (8 * g + m)) ((g * w + i) * 8) 8) (λ i. packed (value_bit (λ t. f (8 * g + t)) w m) (i * 8) 8) 0
      (ceil8 (m * w)) (λ i l. behind i))

-- ---- a power of two as a shift gives it at 64 bits
pub shifted-word : (w : ℕ) → w ≤ 8 → 1 * 2 ^ w % 18446744073709551616 ≡ 2 ^ w
shifted-word w h = shl_exact {a = 1} 1 w 64 (omega arith) (omega arith) ∙ one-mul (2 ^ w)

pub shift-word-pos : (w : ℕ) → w ≤ 8 → 0 < 1 * 2 ^ w % 18446744073709551616
shift-word-pos w h = rw (shifted-word w h) (pow_pos w)

-- ---- one group as a number
pub word_none : (f : ℕ → ℕ) (w : ℕ) → 0 ≡ packed (value_bit f w 8) 0 (0 * w)
unfolding packed
word_none f w = rw (zero-mul w)

module _ (f : ℕ → ℕ) (w : ℕ) (h : w ≤ 8) where
  -- one value more
  word_more : (t x v : ℕ) → t < 8 → x ≡ packed (value_bit f w 8) 0 (t * w) → v ≡ f t
      → x * 2 ^ w + v % 2 ^ w ≡ packed (value_bit f w 8) 0 ((t + 1) * w)
  word_more t x v l e q =
      let z : (t + 1) * w ≡ t * w + w = add-mul t 1 w ∙ (omega arith) in
      sym (rw z (packed-cat (value_bit f w 8) 0 (t * w) w
      ∙ rw (zero-add (t * w), packed-value f w 8 t l, ← e, q)))

  -- which fits 64 bits
  pub word_fits : (t : ℕ) → t ≤ 8 → packed (value_bit f w 8) 0 (t * w) < 18446744073709551616
  word_fits t l =
      let few : t * w ≤ 64 = prod 8 8 t w l h in
      lt_of_lt_of_le (packed_lt (value_bit f w 8) 0 (t * w) (value_bit-lt f w 8)) (pow_mono {i = t * w} {j = 64} few)

  -- as the code has it
  module _ (t x v : ℕ) (l : t < 8) (e : x ≡ packed (value_bit f w 8) 0 (t * w)) (q : v ≡ f t) where
    pub word-step : x * (1 * 2 ^ w % 18446744073709551616) + v % (1 * 2 ^ w % 18446744073709551616)
        ≡ packed (value_bit f w 8) 0 ((t + 1) * w)
    word-step = rw (shifted-word w h) (word_more t x v l e q)

    pub step_fits : x * (1 * 2 ^ w % 18446744073709551616) + v % (1 * 2 ^ w % 18446744073709551616) < 18446744073709551616
    step_fits = rw word-step (word_fits (t + 1) (omega arith))

    pub shift_fits : x * (1 * 2 ^ w % 18446744073709551616) < 18446744073709551616
    shift_fits = lt_of_le_of_lt (le-add_right (x * (1 * 2 ^ w % 18446744073709551616)) (v % (1 * 2 ^ w % 18446744073709551616))) step_fits

  -- its bytes, highest first
  word_byte : (b x : ℕ) → b < w → x ≡ packed (value_bit f w 8) 0 (8 * w)
      → x / 2 ^ (8 * (w - 1 - b)) % 256 ≡ packed (value_bit f w 8) (b * 8) 8
  word_byte b x l e =
      let F = value_bit f w 8 in
      let low = 8 * (w - 1 - b) in
      let z : 8 * w ≡ (b * 8 + 8) + low = omega arith in
      let under = packed_lt F (0 + (b * 8 + 8)) low (value_bit-lt f w 8) in
      let top : x / 2 ^ low ≡ packed F 0 (b * 8 + 8) =
      rw (e, ap (packed F 0) z ∙ packed-cat F 0 (b * 8 + 8) low) (digits_div (packed F 0 (b * 8 + 8)) under) in
      rw (top, packed-cat F 0 (b * 8) 8) (digits_mod (packed F 0 (b * 8)) (packed_lt F (0 + b * 8) 8 (value_bit-lt f w 8)))
      ∙ ap (λ (p : ℕ). packed F p 8) (zero-add (b * 8))

  pub word_bytes : (x : ℕ) → x ≡ packed (value_bit f w 8) 0 (8 * w)
      → table (λ b. x / 2 ^ (8 * (w - 1 - b)) % 256) 0 w ≡ pack_values f w 8
  unfolding pack_values bytes_of ceil8
  word_bytes x e =
      let n : (8 * w + 7) / 8 ≡ w = omega arith in
      table_same (λ b. x / 2 ^ (8 * (w - 1 - b)) % 256) (λ b. packed (value_bit f w 8) (b * 8) 8) 0 w
      (λ b l. rw (zero-add b) (word_byte b x l e))
      ∙ ap (table (λ b. packed (value_bit f w 8) (b * 8) 8) 0) (sym n)

-- ---- one byte more
pub table_none : (f : ℕ → ℕ) (before : List ℕ) (at : ℕ) → before ≡ written before at (table f 0 0)
unfolding table
table_none f before at = written_none before at

pub table_more : (f : ℕ → ℕ) (before : List ℕ) (at b x : ℕ) → at + b < length before → x ≡ f b
    → set (written before at (table f 0 b)) (at + b) x ≡ written before at (table f 0 (b + 1))
table_more f before at b x h e =
    let l = length-table f 0 b in
    let more : table f 0 (b + 1) ≡ table f 0 b ++ (x ∷ []) =
    ap (table f 0) (add-one b) ∙ table-snoc f 0 b ∙ rw (zero-add b, e) in
    (rw l at (written-more before (table f 0 b) at x (rw l h))) ∙ ap (λ (z : List ℕ). written before at z) (sym more)

-- ---- groups one after the other
pub groups_none : (f : ℕ → ℕ) (w : ℕ) (before : List ℕ) (at : ℕ) → before ≡ written before at (pack_values f w (8 * 0))
unfolding pack_values bytes_of ceil8 table
groups_none f w before at = rw (zero-mul w) (written_none before at)

pub group-long : (f : ℕ → ℕ) (w g : ℕ) → length (pack_values f w (8 * g)) ≡ g * w
group-long f w g = length-pack f w (8 * g) ∙ groups f w g 0

pub groups-more : (f : ℕ → ℕ) (w : ℕ) → w ≤ 8 → (before out out' : List ℕ) (at j q x : ℕ) → at + (j + 1) * w ≤ length before
    → q ≡ j * w → out ≡ written before at (pack_values f w (8 * j))
    → x ≡ packed (value_bit (λ t. f (8 * j + t)) w 8) 0 (8 * w)
    → out' ≡ written out (at + q) (table (λ b. x / 2 ^ (8 * (w - 1 - b)) % 256) 0 w)
    → out' ≡ written before at (pack_values f w (8 * (j + 1)))
groups-more f w h before out out' at j q x room eq e ex ew =
    let n : 8 * (j + 1) ≡ 8 * j + 8 = omega arith in
    let first = group-long f w j in
    let second = group-long (λ t. f (8 * j + t)) w 1 in
    let z : (j + 1) * w ≡ j * w + 1 * w = add-mul j 1 w in
    ew ∙ ap (λ (l : List ℕ). written l (at + q) (table (λ b. x / 2 ^ (8 * (w - 1 - b)) % 256) 0 w)) e
    ∙ ap (λ (l : List ℕ). written (written before at (pack_values f w (8 * j))) (at + q) l)
    (word_bytes (λ t. f (8 * j + t)) w h x ex)
    ∙ written-cat before (pack_values f w (8 * j)) (pack_values (λ t. f (8 * j + t)) w 8) at (at + q)
    (omega (arith, eq, first)) (omega (arith, first, second, z))
    ∙ ap (λ (l : List ℕ). written before at l) (sym (rw n (pack-cat f w j 8)))

-- ---- groups, and the values behind them
pub rest-is : (vals : List ℕ) (k : ℕ) → take (length vals - k) (drop k vals) ≡ drop k vals
rest-is vals k = rw (← length-drop k vals) (take-length (drop k vals))

-- what the groups and the rest take
module _ (vals : List ℕ) (w : ℕ) where
  pub rest-long : length (take (length vals - 8 * (length vals / 8)) (drop (8 * (length vals / 8)) vals))
      ≡ length vals - 8 * (length vals / 8)
  rest-long = ap length (rest-is vals (8 * (length vals / 8))) ∙ length-drop (8 * (length vals / 8)) vals

  pub all-bytes : length vals / 8 * w
      + ceil8 (length (take (length vals - 8 * (length vals / 8)) (drop (8 * (length vals / 8)) vals)) * w)
      ≡ ceil8 (length vals * w)
  all-bytes =
      let n : 8 * (length vals / 8) + (length vals - 8 * (length vals / 8)) ≡ length vals = omega arith in
      rw rest-long (sym (rw n at (many (λ i. get_or vals i 0) w (length vals / 8) (length vals - 8 * (length vals / 8)))))

pub nothing-packed : (f : ℕ → ℕ) (n w : ℕ) (before : List ℕ) (at : ℕ) → w ≡ 0
    → (0 ≡ ceil8 (n * w)) × (before ≡ written before at (pack_values f w n))
unfolding pack_values bytes_of ceil8 table
nothing-packed f n w before at e = rw (e, mul-zero n) (refl, written_none before at)

pub groups-few : (vals rest before out out' : List ℕ) (w g at q r : ℕ) → rest ≡ drop (8 * g) vals → 8 * g ≤ length vals
    → at + ceil8 (length vals * w) ≤ length before → q ≡ g * w
    → out ≡ written before at (pack_values (λ i. get_or vals i 0) w (8 * g)) → r ≡ ceil8 (length rest * w)
    → out' ≡ written out (at + q) (pack_values (λ i. get_or rest i 0) w (length rest))
    → (q + r ≡ ceil8 (length vals * w)) × (out' ≡ written before at (pack_values (λ i. get_or vals i 0) w (length vals)))
groups-few vals rest before out out' w g at q r er h room eq e en ew =
    let few : length rest ≡ length vals - 8 * g = ap length er ∙ length-drop (8 * g) vals in
    let n : length vals ≡ 8 * g + length rest = omega (arith, few) in
    let f : ℕ → ℕ = λ i. get_or vals i 0 in
    let m : ceil8 (length vals * w) ≡ g * w + ceil8 (length rest * w) =
    ap (λ (z : ℕ). ceil8 (z * w)) n ∙ many f w g (length rest) in
    let same : pack_values (λ i. get_or rest i 0) w (length rest) ≡ pack_values (λ i. f (8 * g + i)) w (length rest) =
    pack-same (λ i. get_or rest i 0) (λ i. f (8 * g + i)) w (length rest)
    (λ i l. ap (λ (z : ℕ). z % 2 ^ w) (rw er (get_or-drop (8 * g) vals i 0))) in
    let first = group-long f w g in
    let second = length-pack (λ i. f (8 * g + i)) w (length rest) in (
      omega (arith, eq, en, m),
      ew ∙ ap (λ (l : List ℕ). written l (at + q) (pack_values (λ i. get_or rest i 0) w (length rest))) e
          ∙ ap (λ (l : List ℕ). written (written before at (pack_values f w (8 * g))) (at + q) l) same
          ∙ written-cat before (pack_values f w (8 * g)) (pack_values (λ i. f (8 * g + i)) w (length rest)) at (at + q)
          (omega (arith, eq, first)) (omega (arith, first, second, m, room))
          ∙ ap (λ (l : List ℕ). written before at l) (sym (rw n (pack-cat f w g (length rest)))),
    )
