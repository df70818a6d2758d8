-- The set bits of a block, word by word: the highest set bit of what is left of a word is the next member.
-- Assumes nothing.
use mathlib.Core.Path.{◌≡◌, refl, sym, ap, ◌∙◌}
use mathlib.Core.Logic.{⊎_elim}
use mathlib.Core.Bool.{Bool, false}
use mathlib.Core.List.{List, [], ◌∷◌, ◌++◌, append_assoc, append-nil}
use Prim.Native.Nat.{ℕ, zero, suc, ◌+◌, ◌-◌, ◌*◌, ◌/◌, ◌%◌, ◌^◌, ◌≤◌, ◌<◌}
use native.Mathlib.Nat.{add-zero, lt_of_lt_of_le, lt_of_le_of_lt, one-mul, mod-lt}
use native.Mathlib.Omega.{arith}
use borrow.Author.Tests.{eq-eqb}
use lib.Dec.{eqb}
use lib.Pow.{pow_mono, pow_pos, shl_exact}
use lib.Count.{count_leading_zeros, leading_top}
use lib.ListN.{length, get_or, set, length-append}
use Rattle.common.specs.Lists.{keep, from}
use Rattle.bitmap_spec.specs.Bits.{bit, packed}
use Rattle.bitmap_spec.specs.Judge.{dense}
use Rattle.bitmap_spec.specs.Output.{written}
use Rattle.bitmap_spec.proofs.Tally.{bit-lt}
use Rattle.bitmap_spec.proofs.Window.{below_or}
use Rattle.bitmap_laws.proofs.Pack.{packed-same, packed-digit, packed-digits}
use Rattle.bitmap_laws.proofs.Packed.{packed_lt, packed-cat, packed-of-byte, packed_none, packed-top, Top}
use Rattle.bitmap_laws.proofs.Cuts.{from-cat, keep_append}
use Rattle.bitmap_laws.proofs.Containers.{keep_same}
use Rattle.bitmap_laws.proofs.Output.{written-more, written_none, length-written}
use Rattle.blocks.specs.Block.{word_bit, is_on, word_members}

-- ---- bits of words
word_bit-lt : (ws : List ℕ) (p : ℕ) → word_bit ws p < 2
unfolding word_bit
word_bit-lt ws p = mod-lt (get_or ws (p / 64) 0 / 2 ^ (63 - p % 64)) (omega arith)

-- word q packs its bits
pub word-is : (ws : List ℕ) (q : ℕ) → get_or ws q 0 < 18446744073709551616 → get_or ws q 0 ≡ packed (word_bit ws) (q * 64) 64
unfolding word_bit
word-is ws q h =
    sym (packed-same (λ p. get_or ws (p / 64) 0 / 2 ^ (63 - p % 64) % 2)
    (λ j. get_or ws q 0 / 2 ^ (64 - 1 - j) % 2) (q * 64) 0 64
    (λ j l.
    let d : (q * 64 + j) / 64 ≡ q = omega arith in
    let m : (q * 64 + j) % 64 ≡ j = omega arith in
    let z : 64 - 1 - (0 + j) ≡ 63 - j = omega arith in
    rw (d, m, z))
    ∙ packed-digits 64 (get_or ws q 0) h)

-- ---- runs in which no bit, or one bit, is set
keep-none : (f : ℕ → Bool) (p w : ℕ) → ((i : ℕ) → i < w → f (p + i) ≡ false) → keep f (from p w) ≡ []
unfolding keep from
keep-none f p zero h = refl
keep-none f p (suc w) h =
    rw (rw (add-zero p) at (h 0 (omega arith)))
    (keep-none f (suc p) w (λ i l. let e : suc p + i ≡ p + suc i = omega arith in rw e (h (suc i) (omega arith))))

keep_run : (f : ℕ → Bool) (p a c : ℕ) → keep f (from p (a + c)) ≡ keep f (from p a) ++ keep f (from (p + a) c)
keep_run f p a c = ap (keep f) (from-cat p a c) ∙ keep_append f (from p a) (from (p + a) c)

unset : (b : List ℕ) (p : ℕ) → word_bit b p ≡ 0 → is_on b p ≡ false
unset b p e = rw e

-- no bit is set in what is left
pub none_left : (b : List ℕ) (p w : ℕ) → packed (word_bit b) p w ≡ 0 → keep (is_on b) (from p w) ≡ []
none_left b p w e = keep-none (is_on b) p w (λ i l. unset b (p + i) (packed_none (word_bit b) p w e i l))

-- the first set bit, and what is left after it
pub next-member : (b : List ℕ) (p w t x : ℕ) → t < w → Top (word_bit b) p w t x
    → keep (is_on b) (from p w) ≡ (p + (w - 1 - t)) ∷ keep (is_on b) (from (p + (w - 1 - t) + 1) t)
unfolding keep from
next-member b p w t x l top =
    let e : w ≡ (w - 1 - t) + (1 + t) = omega arith in
    let m : ℕ = p + (w - 1 - t) in
    ap (λ (k : ℕ). keep (is_on b) (from p k)) e ∙ keep_run (is_on b) p (w - 1 - t) (1 + t)
    ∙ ap (λ (k : List ℕ). k ++ keep (is_on b) (from (p + (w - 1 - t)) (1 + t)))
    (keep-none (is_on b) p (w - 1 - t) (λ i g. unset b (p + i) (top.before i g)))
    ∙ keep_run (is_on b) (p + (w - 1 - t)) 1 t
    ∙ rw (eq-eqb (word_bit b (p + (w - 1 - t))) 1 top.here)

-- ---- the loop over a word: out has the members before place p, x is what is left of the word, w bits
pub record Word (b before out : List ℕ) (at q x n p w : ℕ) : Type 0 where
  pub fits : p + w ≡ q * 64 + 64
  pub word : w ≤ 64
  pub left : x ≡ packed (word_bit b) p w
  pub done : List ℕ
  pub holds : out ≡ written before at done
  pub many : n ≡ length done
  pub whole : done ++ keep (is_on b) (from p w) ≡ keep (is_on b) (from (q * 64) 64)

module _ (b before : List ℕ) (at q : ℕ) (room : at + length (keep (is_on b) (from (q * 64) 64)) ≤ length before) where
  pub start : (x : ℕ) → x ≡ packed (word_bit b) (q * 64) 64 → Word b before before at q x 0 (q * 64) 64
  start x e =
      record {
        fits = refl;
        word = omega arith;
        left = e;
        done = [];
        holds = written_none before at;
        many = refl;
        whole = refl;
      }

  module _ (out : List ℕ) (x n p w : ℕ) (g : Word b before out at q x n p w) where
    room-left : n + length (keep (is_on b) (from p w)) ≡ length (keep (is_on b) (from (q * 64) 64))
    room-left = omega (arith, ap length g.whole, length-append g.done (keep (is_on b) (from p w)), g.many)

    pub long : length out ≡ length before
    long = ap length g.holds ∙ length-written before g.done at (omega (arith, room-left, g.many))

    pub end : x ≡ 0
        → (n ≡ length (keep (is_on b) (from (q * 64) 64))) × (out ≡ written before at (keep (is_on b) (from (q * 64) 64)))
    end e =
        let z = none_left b p w (sym g.left ∙ e) in
        let d : g.done ≡ keep (is_on b) (from (q * 64) 64) =
        sym (append-nil g.done) ∙ ap (λ (l : List ℕ). g.done ++ l) (sym z) ∙ g.whole in
        (g.many ∙ ap length d, g.holds ∙ ap (λ (l : List ℕ). written before at l) d)

    module _ (t : ℕ) (l : t < w) (top : Top (word_bit b) p w t x) where
      place : p + (w - 1 - t) ≡ q * 64 + (63 - t)
      place = omega (arith, g.fits, g.word)

      pub next_fits : at + n < length out
      next_fits = rw long (omega (arith, room-left, ap length (next-member b p w t x l top)))

      pub turn : (v : ℕ) → v ≡ q * 64 + (63 - t)
          → Word b before (set out (at + n) v) at q (x - 2 ^ t) (n + 1) (p + (w - 1 - t) + 1) t
      turn v e = record {
        fits = omega (arith, g.fits, g.word);
        word = omega (arith, g.word);
        left = top.rest;
        done = g.done ++ (v ∷ []);
        holds = rw (g.holds, g.many) (written-more before g.done at v (omega (arith, g.many, long, next_fits)));
        many = omega (arith, g.many, length-append g.done (v ∷ []));
        whole = rw (
          append_assoc g.done (v ∷ []) (keep (is_on b) (from (p + (w - 1 - t) + 1) t)),
          e,
          ← place,
          ← next-member b p w t x l top,
        ) g.whole;
      }

-- the highest set bit by its leading zeros
pub record Found (x z w : ℕ) : Type 0 where
  pub t : ℕ
  pub low : t < w
  pub at : z + suc t ≡ 64
  pub ge : 2 ^ t ≤ x
  pub lt : x < 2 ^ suc t

exponent : (t w : ℕ) → 2 ^ t < 2 ^ w → t < w
exponent t w h = ⊎_elim (λ l. l) (λ l. absurd (omega (arith, h, pow_mono {i = w} {j = t} l))) (below_or t w)

pub find : (x w : ℕ) → (x ≡ 0 → ⊥) → x < 2 ^ w → w ≤ 64 → Found x (count_leading_zeros 64 x) w
find x w h g l =
    let s = leading_top 64 x (omega arith) (lt_of_lt_of_le g (pow_mono {i = w} {j = 64} l)) in
    record { t = s.0; low = exponent s.0 w (lt_of_le_of_lt s.2 g); at = s.1; ge = s.2; lt = s.3 }

-- one turn of the loop: z leading zeros, and the bit there taken away
abbrev pub top_bit : ℕ → ℕ
top_bit z = 1 * 2 ^ (63 - z) % 18446744073709551616

pub record Next (b before out : List ℕ) (at q x n z : ℕ) : Type 0 where
  pub small : z < 64
  pub le : top_bit z ≤ x
  pub pos : 0 < top_bit z
  pub fits : at + n < length out
  pub again : (v : ℕ) → v ≡ q * 64 + z
      → (p : ℕ) × (w : ℕ) × Word b before (set out (at + n) v) at q (x - top_bit z) (n + 1) p w

pub step : (b before : List ℕ) (at q : ℕ) → at + length (keep (is_on b) (from (q * 64) 64)) ≤ length before
    → (out : List ℕ) (x n p w : ℕ) → Word b before out at q x n p w → (x ≡ 0 → ⊥)
    → Next b before out at q x n (count_leading_zeros 64 x)
step b before at q room out x n p w g h =
    let f = find x w h (rw g.left (packed_lt (word_bit b) p w (word_bit-lt b))) g.word in
    let top = packed-top (word_bit b) p w f.t x (word_bit-lt b) g.left f.low f.ge f.lt in
    let e : 63 - count_leading_zeros 64 x ≡ f.t = omega (arith, f.at) in
    let s : top_bit (count_leading_zeros 64 x) ≡ 2 ^ f.t =
    rw e (shl_exact {a = 1} 1 f.t 64 (omega arith) (omega (arith, f.at)) ∙ one-mul (2 ^ f.t)) in
    record {
      small = omega (arith, f.at);
      le = rw s f.ge;
      pos = rw s (pow_pos f.t);
      fits = next_fits b before at q room out x n p w g f.t f.low top;
      again = λ v k. (
        p + (w - 1 - f.t) + 1,
        f.t,
        rw s (turn b before at q room out x n p w g f.t f.low top v (omega (arith, f.at, k))),
      );
    }

-- ---- a word from its bytes
pub word-start : (s : List ℕ) (at : ℕ) → 0 ≡ packed (bit s) (at * 8) (0 * 8)
unfolding packed
word-start s at = refl

pub word_more : (s : List ℕ) (at i v : ℕ) → v ≡ packed (bit s) (at * 8) (i * 8) → get_or s (at + i) 0 < 256
    → v * 256 + get_or s (at + i) 0 ≡ packed (bit s) (at * 8) ((i + 1) * 8)
word_more s at i v e h =
    let a : (i + 1) * 8 ≡ i * 8 + 8 = omega arith in
    let p : at * 8 + i * 8 ≡ (at + i) * 8 = omega arith in
    rw (a, packed-cat (bit s) (at * 8) (i * 8) 8, p, packed-of-byte s (at + i) h, ← e)

pub word_fits : (s : List ℕ) (at i v : ℕ) → v ≡ packed (bit s) (at * 8) (i * 8) → i < 8 → v < 72057594037927936
word_fits s at i v e h =
    rw e (lt_of_lt_of_le (packed_lt (bit s) (at * 8) (i * 8) (bit-lt s)) (pow_mono {i = i * 8} {j = 56} (omega arith)))

-- four words of a block have its members
words_are : (s ws : List ℕ) (at : ℕ) → ((q : ℕ) → q < 4 → get_or ws q 0 ≡ packed (bit s) (at * 8 + q * 64) 64)
    → word_members ws ≡ dense s at
unfolding word_members dense word_bit
words_are s ws at h =
    keep_same (λ p. eqb (get_or ws (p / 64) 0 / 2 ^ (63 - p % 64) % 2) 1) (λ j. eqb (bit s (at * 8 + j)) 1) 0 256
    (λ i l. ap (λ (x : ℕ). eqb x 1) (same (0 + i) (omega arith)))
  where
    same : (p : ℕ) → p < 256 → get_or ws (p / 64) 0 / 2 ^ (63 - p % 64) % 2 ≡ bit s (at * 8 + p)
    same p l =
        let z : 63 - p % 64 ≡ 64 - 1 - p % 64 = omega arith in
        let e : at * 8 + p / 64 * 64 + p % 64 ≡ at * 8 + p = omega arith in
        rw (
          h (p / 64) (omega arith),
          z,
          packed-digit (bit s) (at * 8 + p / 64 * 64) 64 (p % 64) (bit-lt s) (omega arith),
          e,
        )

pub four-words : (s : List ℕ) (at w x y z : ℕ) → w ≡ packed (bit s) (at * 8) 64 → x ≡ packed (bit s) ((at + 8) * 8) 64
    → y ≡ packed (bit s) ((at + 16) * 8) 64 → z ≡ packed (bit s) ((at + 24) * 8) 64
    → word_members (w ∷ x ∷ y ∷ z ∷ []) ≡ dense s at
four-words s at w x y z hw hx hy hz = words_are s (w ∷ x ∷ y ∷ z ∷ []) at pickq
  where
    pickq : (q : ℕ) → q < 4 → get_or (w ∷ x ∷ y ∷ z ∷ []) q 0 ≡ packed (bit s) (at * 8 + q * 64) 64
    pickq zero l = let e : at * 8 ≡ at * 8 + 0 * 64 = omega arith in hw ∙ ap (λ (p : ℕ). packed (bit s) p 64) e
    pickq (suc zero) l =
        let e : (at + 8) * 8 ≡ at * 8 + 1 * 64 = omega arith in hx ∙ ap (λ (p : ℕ). packed (bit s) p 64) e
    pickq (suc (suc zero)) l =
        let e : (at + 16) * 8 ≡ at * 8 + 2 * 64 = omega arith in hy ∙ ap (λ (p : ℕ). packed (bit s) p 64) e
    pickq (suc (suc (suc zero))) l =
        let e : (at + 24) * 8 ≡ at * 8 + 3 * 64 = omega arith in hz ∙ ap (λ (p : ℕ). packed (bit s) p 64) e
    pickq (suc (suc (suc (suc q)))) l = absurd (omega arith)

-- ---- word by word
pub words-all : (b : List ℕ) → keep (is_on b) (from (0 * 64) (256 - 0 * 64)) ≡ word_members b
unfolding word_members
words-all b = refl

pub words_step : (b : List ℕ) (q : ℕ) → q < 4
    → keep (is_on b) (from (q * 64) (256 - q * 64))
    ≡ keep (is_on b) (from (q * 64) 64) ++ keep (is_on b) (from ((q + 1) * 64) (256 - (q + 1) * 64))
words_step b q h =
    let e : 256 - q * 64 ≡ 64 + (256 - (q + 1) * 64) = omega arith in
    let p : (q + 1) * 64 ≡ q * 64 + 64 = omega arith in
    rw (e, keep_run (is_on b) (q * 64) 64 (256 - (q + 1) * 64), p)

pub words-none : (b : List ℕ) (q : ℕ) → 4 ≤ q → keep (is_on b) (from (q * 64) (256 - q * 64)) ≡ []
unfolding keep from
words-none b q h = let e : 256 - q * 64 ≡ 0 = omega arith in rw e
