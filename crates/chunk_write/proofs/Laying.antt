-- One written part after another; the parts of a chunk.
-- Assumes nothing.
use mathlib.Core.Path.{◌≡◌, refl, sym, ap, ◌∙◌}
use lib.Count
use Rattle.bitmap_spec.proofs.Window
use mathlib.Core.Bool.{Bool, true, false}
use mathlib.Core.List
use mathlib.Core.List.{List, [], ◌∷◌, ◌++◌, map, append-nil}
use Prim.Native.Nat.{ℕ, ◌+◌, ◌-◌, ◌*◌, ◌/◌, ◌%◌, ◌^◌, ◌≤◌, min}
use native.Mathlib.Nat.{add-zero, mod-mod}
use native.Mathlib.Omega.{arith}
use borrow.Author.Tests
use Rattle.bit_pack.proofs.Bytes.{pack-same}
use borrow.Author.Tests.{ne_eqb, eq-eqb}
use lib.Dec.{ltb, eqb}
use lib.ListN.{length, get_or, set, take, drop, length-append, length-map, length-drop}
use lib.Seq.{drop_at, take-append_seam, length-take-le}
use Rattle.common.specs.Bytes.{ceil8}
use Rattle.common.specs.Lists.{from, mem}
use Rattle.common.specs.Outcome.{pick}
use Rattle.bitmap_spec.specs.Bits.{pack_values}
use Rattle.bitmap_spec.specs.Form.{width, wider, largest, least, smallest, cheapest, chunk_at, chunk_of, write_chunk}
use Rattle.bitmap_spec.specs.Output.{written}
use Rattle.bitmap_laws.proofs.Back.{length-pack}
use Rattle.bitmap_laws.proofs.Containers.{keep_same}
use Rattle.width_choice.specs.Over.{over}
use Rattle.width_choice.proofs.Steps.{over-wider}
use Rattle.bitmap_laws.proofs.Length.{size_at, length-chunk_of, by_place}
use Rattle.bitmap_laws.proofs.Values.{AllLe, second, map_at, le-map, widest-small}
use Rattle.bitmap_laws.proofs.Output.{written_none, written-more, written-cat, taken}
use Rattle.chunk_parts.specs.Kept.{offsets, is_over}
use Rattle.chunk_write.specs.Exceptions.{exceptions_of}
use Rattle.bitmap_laws.proofs.Pack

pub three : (before : List ℕ) (at x y z : ℕ) → at + 3 ≤ length before → set (set (set before at x) (at + 1) y) (at + 2) z ≡ written before at (x ∷ y ∷ z ∷ [])
three before at x y z h =
    let a : set before at x ≡ written before at (x ∷ []) = ap (λ (o : List ℕ). set o at x) (written_none before at) ∙ (rw (add-zero at) at (written-more before [] at x (omega arith))) in
    let b : set (written before at (x ∷ [])) (at + 1) y ≡ written before at (x ∷ y ∷ []) = written-more before (x ∷ []) at y (omega arith) in
    let d : set (written before at (x ∷ y ∷ [])) (at + 2) z ≡ written before at (x ∷ y ∷ z ∷ []) = written-more before (x ∷ y ∷ []) at z (omega arith) in
    rw (a, b) d

pub low-packed : (vs : List ℕ) (b : ℕ) → pack_values (λ i. get_or vs i 0) b (length vs) ≡ pack_values (λ i. get_or vs i 0 % 2 ^ b) b (length vs)
low-packed vs b = pack-same (λ i. get_or vs i 0) (λ i. get_or vs i 0 % 2 ^ b) b (length vs) (λ i h. sym (mod-mod (get_or vs i 0) (2 ^ b)))

pub high-packed : (vs offs l : List ℕ) (b b2 : ℕ) → l ≡ map (λ i. get_or vs i 0 / 2 ^ b) offs
    → pack_values (λ i. get_or l i 0) b2 (length l) ≡ pack_values (λ j. get_or vs (get_or offs j 0) 0 / 2 ^ b) b2 (length offs)
high-packed vs offs l b b2 e =
    rw (e, length-map offs (λ i. get_or vs i 0 / 2 ^ b))
    (pack-same (λ i. get_or (map (λ i. get_or vs i 0 / 2 ^ b) offs) i 0) (λ j. get_or vs (get_or offs j 0) 0 / 2 ^ b) b2 (length offs)
    (λ i h. ap (λ (x : ℕ). x % 2 ^ b2) (map_at (λ i. get_or vs i 0 / 2 ^ b) offs i h)))

pub two-some : (w b e : ℕ) → (e ≡ 0 → ⊥) → w - b ≡ pick (eqb e 0) 0 (w - b)
two-some w b e h = rw (ne_eqb e 0 h)

pub two_none : (w b e : ℕ) → e ≡ 0 → 0 ≡ pick (eqb e 0) 0 (w - b)
two_none w b e h = rw (eq-eqb e 0 h)

-- what was written at at lies there
pub written-part : (before l : List ℕ) (at : ℕ) → at + length l ≤ length before → take (length l) (drop at (written before at l)) ≡ l
unfolding written
written-part before l at h =
    let front = length-take-le at before (omega arith) in
    ap (λ (x : List ℕ). take (length l) x) (drop_at (take at before) (l ++ drop (at + length l) before) at front)
    ∙ take-append_seam l (drop (at + length l) before)

pub no_bits : (b2 : ℕ) → ceil8 (0 * b2) ≡ 0
unfolding ceil8
no_bits b2 = omega arith

-- the bytes of the exceptions
exceptions-long : (vs offs : List ℕ) (b b2 e : ℕ) → e ≡ length offs → length (exceptions_of vs b b2 offs) ≡ e + ceil8 (e * b2)
unfolding exceptions_of
exceptions-long vs offs b b2 e many =
    length-append offs (pack_values (λ j. get_or vs (get_or offs j 0) 0 / 2 ^ b) b2 (length offs))
    ∙ rw (length-pack (λ j. get_or vs (get_or offs j 0) 0 / 2 ^ b) b2 (length offs), many)

-- a chunk without exceptions: three bytes and the primary values
pub chunk-bare : (before vs : List ℕ) (m b b2 e at : ℕ) (offs o1 o2 : List ℕ) → e ≡ length offs → e ≡ 0
    → at + (3 + ceil8 (length vs * b) + e + ceil8 (e * b2)) ≤ length before → o1 ≡ written before at ((b + 16 * b2) ∷ e ∷ m ∷ [])
    → o2 ≡ written o1 (at + 3) (pack_values (λ i. get_or vs i 0 % 2 ^ b) b (length vs)) → o2 ≡ written before at (chunk_at vs m b b2 offs)
unfolding chunk_at
chunk-bare before vs m b b2 e at offs o1 o2 many none room q1 q2 =
    let low : List ℕ = pack_values (λ i. get_or vs i 0 % 2 ^ b) b (length vs) in
    let long = length-pack (λ i. get_or vs i 0 % 2 ^ b) b (length vs) in
    let empty : offs ≡ [] = no-offsets offs (sym many ∙ none) in
    let two : o2 ≡ written before at (((b + 16 * b2) ∷ e ∷ m ∷ []) ++ low) =
    q2 ∙ rw q1 (written-cat before ((b + 16 * b2) ∷ e ∷ m ∷ []) low at (at + 3) refl (omega arith)) in
    let high = pack_values (λ j. get_or vs (get_or offs j 0) 0 / 2 ^ b) b2 (length offs) in
    let bare : high ≡ [] = no-offsets high (length-pack (λ j. get_or vs (get_or offs j 0) 0 / 2 ^ b) b2 (length offs) ∙ rw (← many, none) (no_bits b2)) in
    two ∙ rw many (ap (λ (l : List ℕ). written before at l) (sym (plain (b + 16 * b2) (length offs) m low offs high empty bare)))
  where
    plain : (x y z : ℕ) (low offs high : List ℕ) → offs ≡ [] → high ≡ [] → (x ∷ y ∷ z ∷ (low ++ (offs ++ high))) ≡ (x ∷ y ∷ z ∷ []) ++ low
    plain x y z low offs high p q = rw (p, q, append-nil low)

    no-offsets : (l : List ℕ) → length l ≡ 0 → l ≡ []
    no-offsets [] e = refl
    no-offsets (x ∷ xs) e = absurd (omega arith)

-- the exceptions behind three bytes and the primary values make the chunk
pub chunk-parts : (before vs offs : List ℕ) (m b b2 e at p : ℕ) (o1 o2 o3 : List ℕ) → e ≡ length offs
    → at + (3 + ceil8 (length vs * b) + e + ceil8 (e * b2)) ≤ length before → p ≡ ceil8 (length vs * b)
    → o1 ≡ written before at ((b + 16 * b2) ∷ e ∷ m ∷ [])
    → o2 ≡ written o1 (at + 3) (pack_values (λ i. get_or vs i 0 % 2 ^ b) b (length vs))
    → o3 ≡ written o2 (at + 3 + p) (exceptions_of vs b b2 offs) → o3 ≡ written before at (chunk_at vs m b b2 offs)
unfolding chunk_at exceptions_of
chunk-parts before vs offs m b b2 e at p o1 o2 o3 he room hp q1 q2 q3 =
    let low : List ℕ = pack_values (λ i. get_or vs i 0 % 2 ^ b) b (length vs) in
    let rest = exceptions_of vs b b2 offs in
    let lp : length low ≡ ceil8 (length vs * b) = length-pack (λ i. get_or vs i 0 % 2 ^ b) b (length vs) in
    let lx : length rest ≡ e + ceil8 (e * b2) = exceptions-long vs offs b b2 e he in
    let head = (b + 16 * b2) ∷ e ∷ m ∷ [] in
    let two : o2 ≡ written before at (head ++ low) = q2 ∙ rw q1 (written-cat before head low at (at + 3) refl (omega arith)) in
    let three : o3 ≡ written before at ((head ++ low) ++ rest) =
    q3 ∙ rw two (written-cat before (head ++ low) rest at (at + 3 + p) (omega arith) (omega arith)) in
    three ∙ rw he

-- what put_high finds and leaves
module _ (vs out : List ℕ) (from at b b2 : ℕ) (start : from ≤ at) (room : at ≤ length out) where
  abbrev held : List ℕ
  held = take (at - from) (drop from out)

  pub held-long : length held ≡ at - from
  held-long = length-take-le (at - from) (drop from out) (rw (length-drop from out) (omega arith))

  module _ (r : ℕ) (a a₀ : List ℕ) (many : r ≡ length held) (filled : a ≡ written a₀ 0 (map (λ i. get_or vs i 0 / 2 ^ b) held)) where
    pub high-front : take r a ≡ map (λ i. get_or vs i 0 / 2 ^ b) held
    high-front = taken a a₀ (map (λ i. get_or vs i 0 / 2 ^ b) held) r filled (many ∙ sym (length-map held (λ i. get_or vs i 0 / 2 ^ b)))

    pub high-long : length (take r a) ≡ at - from
    high-long = ap length high-front ∙ length-map held (λ i. get_or vs i 0 / 2 ^ b) ∙ held-long

    pub high_is : pack_values (λ i. get_or (take r a) i 0) b2 (length (take r a)) ≡ pack_values (λ j. get_or vs (get_or held j 0) 0 / 2 ^ b) b2 (at - from)
    high_is =
        high-packed vs held (take r a) b b2 high-front
        ∙ ap (λ (n : ℕ). pack_values (λ j. get_or vs (get_or held j 0) 0 / 2 ^ b) b2 n) held-long

-- what put_exceptions finds and leaves: the offsets lie where they were put
module _ (vs offs before o1 : List ℕ) (b b2 at o : ℕ) (many : o ≡ length offs) (room : at + o ≤ length before) (put : o1 ≡ written before at offs) where
  pub put-held : take (at + o - at) (drop at o1) ≡ offs
  put-held =
      let n : at + o - at ≡ length offs = omega arith in
      rw (put, n) (written-part before offs at (omega arith))

  pub put_both : (o2 : List ℕ) → at + o + ceil8 (o * b2) ≤ length before
      → o2 ≡ written o1 (at + o) (pack_values (λ j. get_or vs (get_or (take (at + o - at) (drop at o1)) j 0) 0 / 2 ^ b) b2 (at + o - at))
      → o2 ≡ written before at (exceptions_of vs b b2 offs)
  unfolding exceptions_of
  put_both o2 fits q =
      let n : at + o - at ≡ length offs = omega arith in
      let high = pack_values (λ j. get_or vs (get_or offs j 0) 0 / 2 ^ b) b2 (length offs) in
      let long : length high ≡ ceil8 (o * b2) = length-pack (λ j. get_or vs (get_or offs j 0) 0 / 2 ^ b) b2 (length offs) ∙ rw many in
      let same : pack_values (λ j. get_or vs (get_or (take (at + o - at) (drop at o1)) j 0) 0 / 2 ^ b) b2 (at + o - at) ≡ high = rw (put-held, n) in
      q ∙ rw (same, put) (written-cat before offs high at (at + o) (omega arith) (omega arith))

-- how many exceptions there are
over-many : (ws : List ℕ) (b : ℕ) → length (over b ws) ≡ length (offsets ws b (length ws))
unfolding over offsets is_over
over-many ws b = sym (by_place (λ w. ltb b w) ws)

-- as many as values are wider than b
pub wider-many : (vs ws : List ℕ) (b e : ℕ) → ws ≡ map width vs → e ≡ length (wider b vs)
    → e ≡ length (offsets ws b (length ws))
wider-many vs ws b e same count = count ∙ sym (over-wider vs b) ∙ rw (← same) (over-many ws b)

-- a member, first or later
pub mem-here : (z x : ℕ) (xs : List ℕ) → z ≡ x → mem z (x ∷ xs) ≡ true
unfolding mem
mem-here z x xs e = rw (eq-eqb z x e)

pub mem-later : (z x : ℕ) (xs : List ℕ) → mem z xs ≡ true → mem z (x ∷ xs) ≡ true
unfolding mem
mem-later z x xs h = rw h (go (eqb z x))
  where
    go : (t : Bool) → pick t true true ≡ true
    go true = refl
    go false = refl

-- the least value less itself is 0
small-less : (k m : ℕ) (xs : List ℕ) → smallest (m - k) (map (λ d. d - k) xs) ≡ smallest m xs - k
unfolding smallest
small-less k m [] = refl
small-less k m (x ∷ xs) =
    let e : min (m - k) (x - k) ≡ min m x - k = omega arith in
    rw (smallest, e) (small-less k (min m x) xs)

least-less : (ds : List ℕ) → 0 ≡ least (map (λ d. d - least ds) ds)
unfolding least
least-less [] = refl
least-less (d ∷ ds) = sym (small-less (smallest d ds) d ds ∙ omega arith)

module _ (vs : List ℕ) (b b2 e w : ℕ) (he : e ≡ length (wider b vs)) (hw : w ≡ largest (map width vs)) (h2 : b2 ≡ pick (eqb e 0) 0 (w - b)) where
  b2-is : b2 ≡ second vs b
  unfolding second
  b2-is = h2 ∙ rw (he, hw)

  pub size_is : 3 + ceil8 (length vs * b) + e + ceil8 (e * b2) ≡ size_at vs b
  unfolding size_at
  size_is = rw (b2-is, he)

  pub chunk-is : (ws : List ℕ) (m : ℕ) → ws ≡ map width vs → chunk_at vs m b b2 (offsets ws b (length ws)) ≡ chunk_of vs m b
  unfolding chunk_of offsets is_over second
  chunk-is ws m same =
      let exceptions = keep_same (λ i. ltb b (get_or (map width vs) i 0)) (λ i. ltb b (width (get_or vs i 0))) 0 (length vs)
      (λ i h. ap (λ (w : ℕ). ltb b w) (map_at width vs (0 + i) (omega arith))) in
      rw (same, length-map vs width, exceptions, b2-is)

pub chosen : (vs : List ℕ) (b w : ℕ) → w ≡ largest (map width vs) → b ≡ cheapest vs w → b ≡ cheapest vs (largest (map width vs))
chosen vs b w hw hb = hb ∙ rw hw

-- ---- a chunk of descriptors
pub whole_chunk : (ds vs : List ℕ) (m : ℕ) → m ≡ least ds → vs ≡ map (λ d. d - m) ds → chunk_of vs m (cheapest vs (largest (map width vs))) ≡ write_chunk ds
unfolding write_chunk
whole_chunk ds vs m hm hv = rw (hv, hm)

pub whole-size : (ds vs : List ℕ) (m : ℕ) → m ≡ least ds → vs ≡ map (λ d. d - m) ds → size_at vs (cheapest vs (largest (map width vs))) ≡ length (write_chunk ds)
whole-size ds vs m hm hv = sym (length-chunk_of vs m (cheapest vs (largest (map width vs)))) ∙ ap length (whole_chunk ds vs m hm hv)

pub whole-narrow : (ds vs : List ℕ) (m : ℕ) → AllLe 63 ds → vs ≡ map (λ d. d - m) ds → largest (map width vs) ≤ 6
whole-narrow ds vs m a hv = rw hv (widest-small (map (λ d. d - m) ds) (le-map m 63 ds a))

pub whole-zero : (ds vs : List ℕ) (m : ℕ) → m ≡ least ds → vs ≡ map (λ d. d - m) ds → 0 ≡ least vs
whole-zero ds vs m hm hv = rw (hv, hm) (least-less ds)
