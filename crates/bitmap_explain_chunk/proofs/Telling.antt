-- Test by test: what is told of a chunk, and the first at fault by what is left to read.
-- Assumes nothing.
use mathlib.Core.Path.{◌≡◌, refl, sym, ◌∙◌}
use mathlib.Core.Bool.{Bool, true, false}
use mathlib.Core.List.{List, [], ◌∷◌}
use Prim.Native.Nat.{ℕ, suc, ◌+◌, ◌-◌, ◌*◌, ◌/◌, ◌≤◌, ◌<◌}
use native.Mathlib.Omega.{arith}
use borrow.Author.Tests.{le-leb, lt-leb, lt-ltb, le-ltb}
use native.Mathlib.Numerals.{add-one}
use lib.ListN.{length, get_or, take, drop, length-drop, drop_of_length-le}
use lib.Seq.{length-take-le, drop-cons}
use lib.Dec.{leb, ltb, leb-suc-suc, leb-suc-zero}
use Rattle.common.specs.Lists.{rising}
use Rattle.common.specs.Outcome.{pick, both}
use Rattle.bitmap_spec.specs.Bits.{spare_zero}
use Rattle.bitmap_spec.specs.Judge.{Chunk, descriptor, widths_ok, head_at, chunk_end}
use Rattle.bitmap_spec.specs.declared.ChunkHead.{ChunkHead}
use Rattle.bitmap_explain_spec.specs.Explain.{Fault}
use Rattle.bitmap_explain_spec.specs.Explain.{fault, Told, fine, need_at, risen, first_over, spare_byte, offsets_of}
use Rattle.bitmap_explain_spec.specs.Explain.{explained_with, explained_chunk}
use Rattle.bitmap_explain_chunk.specs.Post.{Tells}

-- ---- the offsets that are left

module _ (n low : ℕ) (l : List ℕ) (i : ℕ) where
  risen-step : i < length l → risen n low (drop i l) ≡ pick (both (leb low (get_or l i 0)) (ltb (get_or l i 0) n))
      (suc (risen n (get_or l i 0 + 1) (drop (i + 1) l))) 0
  unfolding risen
  risen-step h = rw (add-one i, add-one (get_or l i 0), drop-cons l i 0 h)

  pub risen-low : i < length l → get_or l i 0 < low → risen n low (drop i l) ≡ 0
  risen-low h g = risen-step h ∙ rw (lt-leb _ _ g)

  pub risen-high : i < length l → low ≤ get_or l i 0 → n ≤ get_or l i 0 → risen n low (drop i l) ≡ 0
  risen-high h g m = risen-step h ∙ rw (le-leb _ _ g, le-ltb _ _ m)

  pub risen-on : i < length l → low ≤ get_or l i 0 → get_or l i 0 < n
      → risen n low (drop i l) ≡ suc (risen n (get_or l i 0 + 1) (drop (i + 1) l))
  risen-on h g m = risen-step h ∙ rw (le-leb _ _ g, lt-ltb _ _ m)

  pub risen-end : length l ≤ i → risen n low (drop i l) ≡ 0
  unfolding risen
  risen-end h = rw (drop_of_length-le l {i = i} h)

-- the part of s between the offsets and what follows them
pub risen-part : (n : ℕ) (s : List ℕ) (o e p j : ℕ) → p ≡ o + e → j ≡ risen n 0 (take (p - o) (drop o s))
    → j ≡ risen n 0 (take e (drop o s))
risen-part n s o e p j q h =
    let m : p - o ≡ e = omega arith in
    rw m at h

-- a list rises exactly if none of it is the first wrong one
rising-risen : (n lo : ℕ) (l : List ℕ) → rising n lo l ≡ leb (length l) (risen n lo l)
unfolding rising risen
rising-risen n lo [] = refl
rising-risen n lo (x ∷ xs) = go (rising-risen n (suc x) xs) (both (leb lo x) (ltb x n))
  where
    go : rising n (suc x) xs ≡ leb (length xs) (risen n (suc x) xs) → (b : Bool)
        → both b (rising n (suc x) xs) ≡ leb (suc (length xs)) (pick b (suc (risen n (suc x) xs)) 0)
    go ih true = ih ∙ sym (leb-suc-suc (length xs) (risen n (suc x) xs))
    go ih false = sym (leb-suc-zero (length xs))

module _ (n : ℕ) (s : List ℕ) (o e j : ℕ) (room : o + e ≤ length s) (is : j ≡ risen n 0 (take e (drop o s))) where
  by_length : rising n 0 (take e (drop o s)) ≡ leb e j
  by_length =
      rising-risen n 0 (take e (drop o s)) ∙ rw (← is, length-take-le e (drop o s) (rw length-drop (omega arith)))

  pub not-risen : j < e → rising n 0 (take e (drop o s)) ≡ false
  not-risen l = by_length ∙ lt-leb e j l

  pub all-risen : e ≤ j → rising n 0 (take e (drop o s)) ≡ true
  all-risen l = by_length ∙ le-leb e j l

-- ---- the descriptors that are left

module _ (f : ℕ → ℕ) (n i : ℕ) where
  pub over-here : i < n → 63 < f i → first_over f i (n - i) ≡ f i
  unfolding first_over
  over-here l h =
      let a : n - i ≡ suc (n - (i + 1)) = omega arith in
      rw (a, lt-leb _ _ h)

  pub over-on : i < n → f i ≤ 63 → first_over f i (n - i) ≡ first_over f (i + 1) (n - (i + 1))
  unfolding first_over
  over-on l h =
      let a : n - i ≡ suc (n - (i + 1)) = omega arith in
      let b : i + 1 ≡ suc i = omega arith in
      rw (a, le-leb _ _ h, b)

  pub over_none : n ≤ i → first_over f i (n - i) ≡ 0
  unfolding first_over
  over_none l =
      let a : n - i ≡ 0 = omega arith in
      rw a

-- ---- what is told

tells-false : (b : Bool) (f : Fault) (r : Told Chunk) → b ≡ false → Tells (need_at b f r) f
unfolding need_at
tells-false true f r e g q = absurd (let z : ◌≡◌ {A = ℕ} 0 1 = cc in omega arith)
tells-false false f r e g q = cc

tells-true : (b : Bool) (f : Fault) (r : Told Chunk) (g : Fault) → b ≡ true → Tells r g → Tells (need_at b f r) g
unfolding need_at
tells-true true f r g e t = t
tells-true false f r g e t = absurd (let z : ◌≡◌ {A = ℕ} 0 1 = cc in omega arith)

-- the last rule: it is broken, or nothing is told
tells-last : (b : Bool) (f : Fault) (c : Chunk) → Tells (need_at b f (fine c)) f
unfolding need_at
tells-last true f c g q = absurd (let z : ◌≡◌ {A = ℕ} 0 1 = cc in omega arith)
tells-last false f c g q = cc

module _ (s : List ℕ) (i at n : ℕ) (h : ChunkHead) where
  pub with4 : length s < chunk_end h → Tells (explained_with s i at n h) (fault 4 i at 0 0)
  unfolding explained_with
  with4 g = tells-false _ _ _ (lt-leb _ _ g)

  module _ (room : chunk_end h ≤ length s) where
    pub with6 : (j : ℕ) → j ≡ risen n 0 (take h.e (drop h.offsets s))
        → rising n 0 (take h.e (drop h.offsets s)) ≡ false
        → Tells (explained_with s i at n h) (fault 6 i (h.offsets + j) 0 0)
    unfolding explained_with offsets_of
    with6 j e g = rw e (tells-true _ _ _ _ (le-leb _ _ room) (tells-false _ _ _ g))

    module _ (six : rising n 0 (take h.e (drop h.offsets s)) ≡ true) where
      pub with7 : spare_zero s h.primary h.b1 n ≡ false
          → Tells (explained_with s i at n h) (fault 7 i (h.primary + n * h.b1 / 8) 0 0)
      unfolding explained_with offsets_of spare_byte
      with7 g = tells-true _ _ _ _ (le-leb _ _ room) (tells-true _ _ _ _ six (tells-false _ _ _ g))

      module _ (seven : spare_zero s h.primary h.b1 n ≡ true) where
        pub with7b : spare_zero s h.parts h.b2 h.e ≡ false
            → Tells (explained_with s i at n h) (fault 7 i (h.parts + h.e * h.b2 / 8) 0 0)
        unfolding explained_with offsets_of spare_byte
        with7b g =
            tells-true _ _ _ _ (le-leb _ _ room) (tells-true _ _ _ _ six
            (tells-true _ _ _ _ seven (tells-false _ _ _ g)))

        pub with8 : (v : ℕ) → v ≡ first_over (descriptor s h) 0 n → spare_zero s h.parts h.b2 h.e ≡ true
            → Tells (explained_with s i at n h) (fault 8 i at v 63)
        unfolding explained_with offsets_of
        with8 v e seven' =
            rw e (tells-true _ _ _ _ (le-leb _ _ room) (tells-true _ _ _ _ six
            (tells-true _ _ _ _ seven (tells-true _ _ _ _ seven' (tells-last _ _ _)))))

module _ (s : List ℕ) (i at n : ℕ) where
  pub chunk4 : length s < at + 3 → Tells (explained_chunk s i at n) (fault 4 i at 0 0)
  unfolding explained_chunk
  chunk4 h = tells-false _ _ _ (lt-leb _ _ h)

  module _ (room : at + 3 ≤ length s) where
    pub chunk5 : widths_ok (head_at s at n) ≡ false → Tells (explained_chunk s i at n) (fault 5 i at 0 0)
    unfolding explained_chunk
    chunk5 h = tells-true _ _ _ _ (le-leb _ _ room) (tells-false _ _ _ h)

    pub chunk-rest : (r : Fault) → widths_ok (head_at s at n) ≡ true → Tells (explained_with s i at n (head_at s at n)) r
        → Tells (explained_chunk s i at n) r
    unfolding explained_chunk
    chunk-rest r h t = tells-true _ _ _ _ (le-leb _ _ room) (tells-true _ _ _ _ h t)
