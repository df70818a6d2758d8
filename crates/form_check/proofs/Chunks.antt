-- An accepted chunk that begins with the written chunk's three bytes is that chunk: its descriptors tell its values,
-- offsets and parts, as spare bits are 0 and the exceptions are just the values that are wider.
-- Assumes nothing.
use mathlib.Core.Path.{◌≡◌, refl, sym, ap, ◌∙◌}
use mathlib.Core.Logic.{⊎_elim}
use mathlib.Core.Bool.{Bool, true, false}
use mathlib.Core.List.{List, [], ◌∷◌, ◌++◌, map}
use Prim.Native.Nat.{ℕ, zero, suc, ◌+◌, ◌-◌, ◌*◌, ◌/◌, ◌%◌, ◌^◌, ◌≤◌, ◌<◌}
use native.Mathlib.Nat.{zero-add, zero-mul, mul-zero, mod-lt, div-add-mod', div-lt_iff_lt-mul, pow-suc, le_trans}
use native.Mathlib.Nat.{eq-or-lt_of_le}
use native.Mathlib.Omega.{arith}
use borrow.Author.Tests.{leb-true, ltb-true, lt-ltb, le-ltb, eqb-true, eq-eqb}
use lib.Dec.{leb, ltb, eqb}
use lib.ListN.{length, get_or, take, drop, length-drop, length-map}
use lib.Seq.{get_or-take, get_or-drop, length-take-le, take-add, drop-drop, drop-cons}
use lib.Count.{leading_length}
use lib.Pow.{pow_mono, high, low}
use Rattle.common.specs.Outcome.{pick, found}
use Rattle.common.specs.Lists.{from, keep, mem, rising, table}
use Rattle.common.specs.Bytes.{ceil8}
use Rattle.common.proofs.Lists.{both_left, both_right, every-each, length-table, rising-range, rising-less}
use Rattle.common.proofs.Outcomes.{same-found, clash}
use Rattle.bitmap_spec.specs.declared.ChunkHead.{ChunkHead}
use Rattle.bitmap_spec.specs.Bits.{bit, bits, value, spare_zero, packed, value_bit, pack_values}
use Rattle.bitmap_spec.specs.Judge.{Chunk, chunk, chunk_with, chunk_end, head_at, head_with, part, descriptor}
use Rattle.bitmap_spec.specs.Form.{least, largest, width, wider, cheapest, cost, chunk_at, chunk_of, write_chunk}
use Rattle.bitmap_spec.proofs.Parts.{part_none, part-one}
use Rattle.bitmap_spec.proofs.Reading.{need-found}
use Rattle.bitmap_spec.proofs.Tally.{bit-lt}
use Rattle.bitmap_spec.proofs.Window.{below_or, value-lt}
use Rattle.bitmap_laws.proofs.Length.{by_place}
use Rattle.bitmap_laws.proofs.Members.{head_ok, mem-head, mem-low, mem-tail, mem-keep, mem-high, rising-keep}
use Rattle.bitmap_laws.proofs.Pack.{get_or-table, packed-digit, bits-packed}
use Rattle.bitmap_laws.proofs.Packed.{packed_none}
use Rattle.bitmap_laws.proofs.Rise.{cons_ok}
use Rattle.bitmap_laws.proofs.Stored.{by_bits}
use Rattle.bitmap_laws.proofs.Values.{map_at, cheapest-by, chosen-le}
use Rattle.bitmap_laws.specs.Widths.{chosen_by}
use Rattle.form_check.specs.Heads.{head_of, head_is}

-- ---- a packed array whose spare bits are 0 is what packs its values
own_bits : (s : List ℕ) (p w : ℕ) → bits s p w ≡ packed (bit s) p w
own_bits s p w = bits-packed s (bit s) p p w (λ j l. refl)

value-digit : (s : List ℕ) (at w i j : ℕ) → j < w → value s at w i / 2 ^ (w - 1 - j) % 2 ≡ bit s (at * 8 + i * w + j)
unfolding value
value-digit s at w i j l = rw (own_bits s (at * 8 + i * w) w) (packed-digit (bit s) (at * 8 + i * w) w j (bit-lt s) l)

spare-bit : (s : List ℕ) (at w n p : ℕ) → spare_zero s at w n ≡ true → n * w ≤ p → p < ceil8 (n * w) * 8
    → bit s (at * 8 + p) ≡ 0
unfolding spare_zero
spare-bit s at w n p z lo hi =
    let none = sym (own_bits s (at * 8 + n * w) (ceil8 (n * w) * 8 - n * w)) ∙ eqb-true _ 0 z in
    let here : at * 8 + p ≡ at * 8 + n * w + (p - n * w) = omega arith in
    rw here (packed_none (bit s) (at * 8 + n * w) (ceil8 (n * w) * 8 - n * w) none (p - n * w) (omega arith))

module _ (s : List ℕ) (at w n : ℕ) (small : (k : ℕ) → get_or s k 0 < 256) (room : at + ceil8 (n * w) ≤ length s) where
  own-byte : (k : ℕ) → k < ceil8 (n * w) → get_or (take (ceil8 (n * w)) (drop at s)) k 0 ≡ get_or s (at + k) 0
  own-byte k l = get_or-take (ceil8 (n * w)) (drop at s) k 0 l ∙ get_or-drop at s k 0

  own-bit : (p : ℕ) → p < ceil8 (n * w) * 8 → bit (take (ceil8 (n * w)) (drop at s)) p ≡ bit s (at * 8 + p)
  unfolding bit
  own-bit p l =
      let a : (at * 8 + p) / 8 ≡ at + p / 8 = omega arith in
      let m : (at * 8 + p) % 8 ≡ p % 8 = omega arith in
      rw (a, m, own-byte (p / 8) (omega arith))

  module _ (f : ℕ → ℕ) (spare : spare_zero s at w n ≡ true) (is : (i : ℕ) → i < n → value s at w i ≡ f i) where
    inner : (p : ℕ) → p < n * w → bit s (at * 8 + p) ≡ value_bit f w n p
    unfolding value_bit
    inner p l =
        let some : 0 < w = positive w (λ e. omega (arith, mul-zero n, rw e at l)) in
        let i : p / w < n = (div-lt_iff_lt-mul some).1 l in
        let e : at * 8 + p / w * w + p % w ≡ at * 8 + p = omega (arith, div-add-mod' p w) in
        rw (lt-ltb p (n * w) l, ← is (p / w) i, value-digit s at w (p / w) (p % w) (mod-lt p some), e)
      where
        positive : (w : ℕ) → (w ≡ 0 → ⊥) → 0 < w
        positive w h = omega arith

    outer : (p : ℕ) → n * w ≤ p → p < ceil8 (n * w) * 8 → bit s (at * 8 + p) ≡ value_bit f w n p
    unfolding value_bit
    outer p l h = rw (le-ltb p (n * w) l) (spare-bit s at w n p spare l h)

    pub packed-is : take (ceil8 (n * w)) (drop at s) ≡ pack_values f w n
    unfolding pack_values
    packed-is =
        by_bits (take (ceil8 (n * w)) (drop at s)) (value_bit f w n) (ceil8 (n * w))
        (length-take-le (ceil8 (n * w)) (drop at s) (rw length-drop (omega arith)))
        (λ i l. rw (own-byte i l) (small (at + i)))
        (λ p l. own-bit p l ∙ ⊎_elim (λ h. inner p h) (λ h. outer p h l) (below_or p (n * w)))

-- ---- of two rising lists the one inside the other is no longer, and is the other if it is as long
pub inside : (n lo : ℕ) (a b : List ℕ) → rising n lo a ≡ true → rising n lo b ≡ true
    → ((z : ℕ) → mem z a ≡ true → mem z b ≡ true) → (length a ≤ length b) × (length b ≤ length a → a ≡ b)
unfolding mem
inside n lo [] [] p q h = (omega arith, λ l. refl)
inside n lo [] (y ∷ ys) p q h = (omega arith, λ l. absurd (omega arith))
inside n lo (x ∷ xs) [] p q h = clash (let z : false ≡ true = h x (mem-head x xs) in cc)
inside n lo (x ∷ xs) (y ∷ ys) p q h =
    ⊎_elim (λ l. clash (let f : false ≡ true = sym (low l) ∙ h x (mem-head x xs) in cc))
    (λ l. ⊎_elim
    (λ e. equal e (inside n (suc y) xs ys (rw (sym e) at o.2) u.2 (same e)))
    (λ g. later g (inside n (suc y) (x ∷ xs) ys (up g) u.2 (rest g))) (eq-or-lt_of_le l)) (below_or x y)
  where
    o : (lo ≤ x) × (x < n) × (rising n (suc x) xs ≡ true)
    o = head_ok n lo x xs p

    u : (lo ≤ y) × (y < n) × (rising n (suc y) ys ≡ true)
    u = head_ok n lo y ys q

    low : x < y → mem x (y ∷ ys) ≡ false
    low l = mem-low n y (y ∷ ys) x (cons_ok n y y ys (omega arith) u.1 u.2) l

    up : y < x → rising n (suc y) (x ∷ xs) ≡ true
    up g = cons_ok n (suc y) x xs g o.1 o.2

    same : y ≡ x → (z : ℕ) → mem z xs ≡ true → mem z ys ≡ true
    same e z t =
        ⊎_elim (λ l. clash (let f : false ≡ true = sym (mem-low n (suc x) xs z o.2 l) ∙ t in cc))
        (λ l. sym (mem-tail z y ys (λ f. omega arith)) ∙ h z (mem-tail z x xs (λ f. omega arith) ∙ t))
        (below_or z (suc x))

    rest : y < x → (z : ℕ) → mem z (x ∷ xs) ≡ true → mem z ys ≡ true
    rest g z t =
        ⊎_elim (λ l. clash (let f : false ≡ true = sym (mem-low n (suc y) (x ∷ xs) z (up g) l) ∙ t in cc))
        (λ l. sym (mem-tail z y ys (λ f. omega arith)) ∙ h z t) (below_or z (suc y))

    equal : y ≡ x → (length xs ≤ length ys) × (length ys ≤ length xs → xs ≡ ys)
        → (length (x ∷ xs) ≤ length (y ∷ ys)) × (length (y ∷ ys) ≤ length (x ∷ xs) → x ∷ xs ≡ y ∷ ys)
    equal e r = (omega arith, λ l. rw (e, r.1 (omega arith)))

    later : y < x → (length (x ∷ xs) ≤ length ys) × (length ys ≤ length (x ∷ xs) → x ∷ xs ≡ ys)
        → (length (x ∷ xs) ≤ length (y ∷ ys)) × (length (y ∷ ys) ≤ length (x ∷ xs) → x ∷ xs ≡ y ∷ ys)
    later g r = (omega arith, λ l. absurd (omega arith))

mem-at : (l : List ℕ) (j z : ℕ) → j < length l → get_or l j 0 ≡ z → mem z l ≡ true
unfolding mem
mem-at [] j z h e = absurd (omega arith)
mem-at (x ∷ xs) zero z h e = rw (eq-eqb z x (sym e))
mem-at (x ∷ xs) (suc j) z h e = go (eqb z x) (mem-at xs j z (omega arith) e)
  where
    go : (t : Bool) → mem z xs ≡ true → pick t true (mem z xs) ≡ true
    go true ih = refl
    go false ih = ih

-- a value that is wider than b is no less than 2 ^ b
pub wide : (v b : ℕ) → v < 256 → b < width v → 2 ^ b ≤ v
unfolding width
wide v b h l =
    let t = leading_length 8 v h in
    let up = le_trans (pow_mono {i = suc b} {j = t.0} (omega (arith, t.1))) t.3 in
    omega (arith, up, pow-suc 2 b)

-- ---- an accepted chunk
record Accepted (s : List ℕ) (n : ℕ) (h : ChunkHead) (c : Chunk) : Type 0 where
  room : chunk_end h ≤ length s
  up : rising n 0 (take h.e (drop h.offsets s)) ≡ true
  first : spare_zero s h.primary h.b1 n ≡ true
  second : spare_zero s h.parts h.b2 h.e ≡ true
  low : (i : ℕ) → i < n → descriptor s h i ≤ 63
  descs : c.descs ≡ table (descriptor s h) 0 n
  next : c.next ≡ chunk_end h

accepted : (s : List ℕ) (n : ℕ) (h : ChunkHead) (c : Chunk) → chunk_with s n h ≡ found c → Accepted s n h c
unfolding chunk_with
accepted s n h c q =
    let a = need-found _ _ _ c q in
    let b = need-found _ _ _ c a.1 in
    let d = need-found _ _ _ c b.1 in
    let e = need-found _ _ _ c d.1 in
    let f = need-found _ _ _ c e.1 in
    let z : record { descs = table (descriptor s h) 0 n; next = chunk_end h } ≡ c = same-found f.1 in
    record {
      room = leb-true _ _ a.0;
      up = b.0;
      first = d.0;
      second = e.0;
      low = λ i l. leb-true _ 63 (every-each (λ i. leb (descriptor s h i) 63) n i f.0 l);
      descs = rw (← z);
      next = rw (← z);
    }

-- its arrays lie one behind the other
record Places (h : ChunkHead) (n : ℕ) : Type 0 where
  offset : h.offsets ≡ h.primary + ceil8 (n * h.b1)
  part : h.parts ≡ h.offsets + h.e

-- the descriptors less m
abbrev less : List ℕ → ℕ → List ℕ
less ds m = map (λ d. d - m) ds

module _ (s : List ℕ) (n : ℕ) (h : ChunkHead) (c : Chunk) (small : (k : ℕ) → get_or s k 0 < 256) (a : Accepted s n h c)
    (p : Places h n) where
  all_room : h.parts + ceil8 (h.e * h.b2) ≤ length s
  unfolding chunk_end
  all_room = a.room

  many : length (less c.descs h.m) ≡ n
  many = length-map c.descs (λ d. d - h.m) ∙ ap length a.descs ∙ length-table (descriptor s h) 0 n

  is_at : (i : ℕ) → i < n
      → get_or (less c.descs h.m) i 0 ≡ part s h h.e i * 2 ^ h.b1 + value s h.primary h.b1 i
  unfolding descriptor
  is_at i l =
      let e : get_or c.descs i 0 ≡ descriptor s h i =
      ap (λ (x : List ℕ). get_or x i 0) a.descs ∙ get_or-table (descriptor s h) 0 n i l ∙ rw (zero-add i) in
      map_at (λ d. d - h.m) c.descs i (rw (a.descs, length-table (descriptor s h) 0 n) l) ∙ rw e (omega arith)

  few-at : (i : ℕ) → i < n → get_or (less c.descs h.m) i 0 < 256
  unfolding descriptor
  few-at i l = omega (arith, a.low i l, is_at i l)

  low_part : (i : ℕ) → i < n → value s h.primary h.b1 i ≡ get_or (less c.descs h.m) i 0 % 2 ^ h.b1
  low_part i l = rw (is_at i l) (sym (low (part s h h.e i) h.b1 (value-lt s h.primary h.b1 i)))

  high_part : (i : ℕ) → i < n → part s h h.e i ≡ get_or (less c.descs h.m) i 0 / 2 ^ h.b1
  high_part i l = rw (is_at i l) (sym (high (part s h h.e i) h.b1 (value-lt s h.primary h.b1 i)))

  -- the offsets
  offs : List ℕ
  offs = take h.e (drop h.offsets s)

  offs-many : length offs ≡ h.e
  unfolding offs
  offs-many = length-take-le h.e (drop h.offsets s) (rw length-drop (omega (arith, all_room, p.part)))

  offs-at : (j : ℕ) → j < h.e → get_or offs j 0 ≡ get_or s (h.offsets + j) 0
  unfolding offs
  offs-at j l = get_or-take h.e (drop h.offsets s) j 0 l ∙ get_or-drop h.offsets s j 0

  -- the values that are wider than b1 are among the exceptions
  wider-in : (i : ℕ) → i < n → h.b1 < width (get_or (less c.descs h.m) i 0) → mem i offs ≡ true
  wider-in i l w = go (mem i offs) refl
    where
      go : (t : Bool) → mem i offs ≡ t → t ≡ true
      go true e = refl
      go false e =
          let none : part s h h.e i ≡ 0 = part_none s h i h.e
          (λ j g q. clash (let f : false ≡ true = sym e ∙ mem-at offs j i (rw offs-many g) (offs-at j g ∙ q) in cc)) in
          let v = is_at i l in
          let v_low : get_or (less c.descs h.m) i 0 < 2 ^ h.b1 =
          rw (v, none, zero-mul (2 ^ h.b1), zero-add) (value-lt s h.primary h.b1 i) in
          absurd (omega (arith, wide (get_or (less c.descs h.m) i 0) h.b1 (few-at i l) w))

  -- as they are just as many, they are all
  wide_at : ℕ → Bool
  wide_at i = ltb h.b1 (width (get_or (less c.descs h.m) i 0))

  kept_in : (z : ℕ) → mem z (keep wide_at (from 0 n)) ≡ true → mem z offs ≡ true
  unfolding wide_at
  kept_in z t =
      ⊎_elim
      (λ l. wider-in z l (ltb-true _ _ (sym (mem-keep wide_at 0 n z (omega arith) (omega arith)) ∙ t)))
      (λ l. let none = mem-high n 0 (keep wide_at (from 0 n)) z (rising-keep wide_at n 0 n (omega arith)) l in
      clash (let f : false ≡ true = sym none ∙ t in cc)) (below_or z n)

  kept-many : length (keep wide_at (from 0 n)) ≡ length (wider h.b1 (less c.descs h.m))
  unfolding wide_at wider
  kept-many =
      ap (λ (k : ℕ). length (keep wide_at (from 0 k))) (sym many)
      ∙ by_place (λ v. ltb h.b1 (width v)) (less c.descs h.m)

  module _ (exact : h.e ≡ length (wider h.b1 (less c.descs h.m))) where
    kept-are : keep wide_at (from 0 n) ≡ offs
    unfolding offs
    kept-are =
        (inside n 0 (keep wide_at (from 0 n)) offs (rising-keep wide_at n 0 n (omega arith)) a.up kept_in).1
        (omega (arith, kept-many, offs-many))

  -- the exceptions' parts
  only : (j k : ℕ) → j < h.e → k < h.e → get_or s (h.offsets + k) 0 ≡ get_or offs j 0 → k ≡ j
  unfolding offs
  only j k l g e =
      ⊎_elim (λ q. absurd (omega (arith, rising-less n 0 offs k j a.up q (rw offs-many l), offs-at k g)))
      (λ q. ⊎_elim (λ z. sym z)
      (λ z. absurd (omega (arith, rising-less n 0 offs j k a.up z (rw offs-many g), offs-at k g)))
      (eq-or-lt_of_le q)) (below_or k j)

  part_at : (j : ℕ) → j < h.e
      → value s h.parts h.b2 j ≡ get_or (less c.descs h.m) (get_or offs j 0) 0 / 2 ^ h.b1
  unfolding offs
  part_at j l =
      let r = rising-range n 0 offs j a.up (rw offs-many l) in
      sym (part-one s h (get_or offs j 0) h.e j l (sym (offs-at j l)) (λ k g e. only j k l g e))
      ∙ high_part (get_or offs j 0) r.1

  -- the arrays' bytes
  first-bytes : take (ceil8 (n * h.b1)) (drop h.primary s)
      ≡ pack_values (λ i. get_or (less c.descs h.m) i 0 % 2 ^ h.b1) h.b1 n
  first-bytes =
      packed-is s h.primary h.b1 n small (omega (arith, all_room, p.part, p.offset))
      (λ i. get_or (less c.descs h.m) i 0 % 2 ^ h.b1) a.first low_part

  second-bytes : take (ceil8 (h.e * h.b2)) (drop h.parts s)
      ≡ pack_values (λ j. get_or (less c.descs h.m) (get_or offs j 0) 0 / 2 ^ h.b1) h.b2 h.e
  second-bytes =
      packed-is s h.parts h.b2 h.e small all_room
      (λ j. get_or (less c.descs h.m) (get_or offs j 0) 0 / 2 ^ h.b1) a.second part_at

-- ---- a chunk's bytes: three, and its arrays
three-more : (s : List ℕ) (at k : ℕ) → at + 3 ≤ length s
    → take (3 + k) (drop at s) ≡ get_or s at 0 ∷ get_or s (at + 1) 0 ∷ get_or s (at + 2) 0 ∷ take k (drop (at + 3) s)
three-more s at k room =
    let a : 3 + k ≡ suc (suc (suc k)) = omega arith in
    let b : at + 1 ≡ suc at = omega arith in
    let c : at + 2 ≡ suc (suc at) = omega arith in
    let d : at + 3 ≡ suc (suc (suc at)) = omega arith in
    rw (
      a,
      b,
      c,
      d,
      drop-cons s at 0 (omega arith),
      drop-cons s (suc at) 0 (omega arith),
      drop-cons s (suc (suc at)) 0 (omega arith),
    )

three-runs : (s : List ℕ) (at x y z : ℕ) → take (x + (y + z)) (drop at s)
    ≡ take x (drop at s) ++ (take y (drop (at + x) s) ++ take z (drop (at + x + y) s))
three-runs s at x y z =
    take-add x (y + z) (drop at s)
    ∙ rw (drop-drop x at s, take-add y z (drop (at + x) s), drop-drop y (at + x) s)

module _ (s : List ℕ) (at n : ℕ) (h : ChunkHead) (c : Chunk) (small : (k : ℕ) → get_or s k 0 < 256)
    (a : Accepted s n h c) (p : Places h n) (front : h.primary ≡ at + 3) where
  chunk_bytes : take (c.next - at) (drop at s)
      ≡ get_or s at 0 ∷ get_or s (at + 1) 0 ∷ get_or s (at + 2) 0
      ∷ (take (ceil8 (n * h.b1)) (drop h.primary s)
      ++ (take h.e (drop h.offsets s) ++ take (ceil8 (h.e * h.b2)) (drop h.parts s)))
  unfolding chunk_end
  chunk_bytes =
      let size : c.next - at ≡ 3 + (ceil8 (n * h.b1) + (h.e + ceil8 (h.e * h.b2))) =
      omega (arith, a.next, p.part, p.offset) in
      let room : at + 3 ≤ length s = omega (arith, a.room, p.part, p.offset) in
      rw (size, three-more s at (ceil8 (n * h.b1) + (h.e + ceil8 (h.e * h.b2))) room, p.part, p.offset, front)
      (ap (λ (l : List ℕ). get_or s at 0 ∷ get_or s (at + 1) 0 ∷ get_or s (at + 2) 0 ∷ l)
      (three-runs s (at + 3) (ceil8 (n * h.b1)) h.e (ceil8 (h.e * h.b2))))

  written_is : get_or s at 0 ≡ h.b1 + 16 * h.b2 → get_or s (at + 1) 0 ≡ h.e → get_or s (at + 2) 0 ≡ h.m
      → h.e ≡ length (wider h.b1 (less c.descs h.m))
      → take (c.next - at) (drop at s)
      ≡ chunk_at (less c.descs h.m) h.m h.b1 h.b2
      (keep (λ i. ltb h.b1 (width (get_or (less c.descs h.m) i 0))) (from 0 (length (less c.descs h.m))))
  unfolding chunk_at wide_at offs
  written_is zeroth first second exact =
      chunk_bytes
      ∙ rw (
        zeroth,
        first,
        second,
        first-bytes s n h c small a p,
        second-bytes s n h c small a p,
        many s n h c small a p,
        kept-are s n h c small a p exact,
        offs-many s n h c small a p,
      )

-- ---- the three first bytes, and the written chunk's
record Begins (h : ChunkHead) (vs : List ℕ) (m b : ℕ) : Type 0 where
  least : h.m ≡ m
  first : h.b1 ≡ b
  count : h.e ≡ length (wider b vs)
  second : h.b2 ≡ pick (eqb (length (wider b vs)) 0) 0 (largest (map width vs) - b)

begins : (h : ChunkHead) (vs : List ℕ) (m b : ℕ) → head_of h vs m b ≡ true → Begins h vs m b
unfolding head_of
begins h vs m b e =
    let f = both_right (eqb h.m m) _ e in
    let g = both_right (eqb h.b1 b) _ f in
    record {
      least = eqb-true _ _ (both_left (eqb h.m m) _ e);
      first = eqb-true _ _ (both_left (eqb h.b1 b) _ f);
      count = eqb-true _ _ (both_left (eqb h.e (length (wider b vs))) _ g);
      second = eqb-true _ _ (both_right (eqb h.e (length (wider b vs))) _ g);
    }

begun : (h : ChunkHead) (vs : List ℕ) (m b : ℕ) → Begins h vs m b → head_of h vs m b ≡ true
unfolding head_of
begun h vs m b r =
    rw (eq-eqb _ _ r.least, eq-eqb _ _ r.first, eq-eqb _ _ r.count, eq-eqb _ _ r.second)

-- the chosen width has four bits
widest-low : (vs : List ℕ) → largest (map width vs) ≤ 8
unfolding largest width
widest-low [] = omega arith
widest-low (v ∷ vs) = omega (arith, widest-low vs)

chosen-low : (vs : List ℕ) → cheapest vs (largest (map width vs)) ≤ 8
unfolding chosen_by
chosen-low vs = omega (arith, cheapest-by vs (largest (map width vs)), chosen-le cost vs, widest-low vs)

module _ (s : List ℕ) (at n : ℕ) (c : Chunk) (small : (k : ℕ) → get_or s k 0 < 256) (ok : chunk s at n ≡ found c) where
  taken : Accepted s n (head_at s at n) c
  unfolding chunk
  taken = accepted s n (head_at s at n) c (need-found _ _ _ c (need-found _ _ _ c ok).1).1

  placed : Places (head_at s at n) n
  unfolding head_at head_with
  placed = record { offset = refl; part = refl }

  front : (head_at s at n).primary ≡ at + 3
  unfolding head_at head_with
  front = refl

  zeroth : get_or s at 0 ≡ (head_at s at n).b1 + 16 * (head_at s at n).b2
  unfolding head_at head_with
  zeroth = omega arith

  next-two : (get_or s (at + 1) 0 ≡ (head_at s at n).e) × (get_or s (at + 2) 0 ≡ (head_at s at n).m)
  unfolding head_at head_with
  next-two = (refl, refl)

  to-written : (m b : ℕ) → Begins (head_at s at n) (less c.descs m) m b
      → take (c.next - at) (drop at s) ≡ chunk_of (less c.descs m) m b
  unfolding chunk_of
  to-written m b r =
      let count = r.count in
      let exact : (head_at s at n).e ≡ length (wider (head_at s at n).b1 (less c.descs (head_at s at n).m)) =
      rw (r.least, r.first) count in
      rw (r.least, r.first, r.second) at
      (written_is s at n (head_at s at n) c small taken placed front zeroth next-two.0 next-two.1 exact)

  of-written : (m b : ℕ) → b ≤ 8 → (rest post : List ℕ)
      → take (c.next - at) (drop at s) ++ rest ≡ chunk_of (less c.descs m) m b ++ post
      → Begins (head_at s at n) (less c.descs m) m b
  unfolding chunk_of chunk_at head_at head_with wider
  of-written m b low rest post e =
      let own = chunk_bytes s at n (head_at s at n) c small taken placed front in
      let same = ap (λ (l : List ℕ). l ++ rest) (sym own) ∙ e in
      let x : get_or s at 0
      ≡ b + 16 * pick (eqb (length (wider b (less c.descs m))) 0) 0 (largest (map width (less c.descs m)) - b) =
      ap (λ (l : List ℕ). get_or l 0 0) same in
      let y : get_or s (at + 1) 0 ≡ length (wider b (less c.descs m)) =
      ap (λ (l : List ℕ). get_or l 1 0) same ∙ by_place (λ v. ltb b (width v)) (less c.descs m) in
      let z : get_or s (at + 2) 0 ≡ m = ap (λ (l : List ℕ). get_or l 2 0) same in
      record { least = z; first = omega arith; count = y; second = omega arith }

  -- where it ends
  pub chunk-ends : (c.next ≡ chunk_end (head_at s at n)) × (at ≤ c.next)
  unfolding chunk_end
  chunk-ends = (taken.next, omega (arith, taken.next, placed.part, placed.offset, front))

  pub chunk-is : head_is (head_at s at n) c.descs ≡ true → take (c.next - at) (drop at s) ≡ write_chunk c.descs
  unfolding head_is write_chunk
  chunk-is e =
      let vs : List ℕ = less c.descs (least c.descs) in
      let b : ℕ = cheapest vs (largest (map width vs)) in
      to-written (least c.descs) b (begins (head_at s at n) vs (least c.descs) b e)

  -- the other way round with other bytes behind both
  pub chunk-heads : (rest post : List ℕ) → take (c.next - at) (drop at s) ++ rest ≡ write_chunk c.descs ++ post
      → head_is (head_at s at n) c.descs ≡ true
  unfolding head_is write_chunk
  chunk-heads rest post e =
      let vs : List ℕ = less c.descs (least c.descs) in
      let b : ℕ = cheapest vs (largest (map width vs)) in
      begun (head_at s at n) vs (least c.descs) b (of-written (least c.descs) b (chosen-low vs) rest post e)

  pub chunk-if : (head_is (head_at s at n) c.descs ≡ true → take (c.next - at) (drop at s) ≡ write_chunk c.descs)
      × (take (c.next - at) (drop at s) ≡ write_chunk c.descs → head_is (head_at s at n) c.descs ≡ true)
  chunk-if = (chunk-is, λ e. chunk-heads [] [] (rw e))
