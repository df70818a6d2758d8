-- A chunk that is laid out as the writer lays it out is read back.
-- Assumes nothing.
use mathlib.Core.Path.{◌≡◌, refl, sym, ap, ◌∙◌}
use mathlib.Core.Bool.{true}
use mathlib.Core.List.{List, ◌∷◌, ◌++◌, append_assoc}
use Prim.Native.Nat.{ℕ, zero, suc, ◌+◌, ◌-◌, ◌*◌, ◌^◌, ◌≤◌, ◌<◌}
use native.Mathlib.Nat.{zero-add, add-zero}
use native.Mathlib.Omega.{arith}
use borrow.Author.Tests
use borrow.Author.Tests.{le-leb, eq-eqb}
use lib.Dec.{leb, eqb}
use lib.ListN.{length, get_or, take, drop, length-append, get_or-append}
use lib.Seq.{get_or-append-add, drop_at, take_at}
use Rattle.common.proofs.Lists.{every-all}
use Rattle.common.specs.Bytes.{ceil8}
use Rattle.common.specs.Lists.{from, rising, every, table}
use Rattle.common.specs.Outcome.{found, need, pick}
use Rattle.bitmap_spec.specs.Bits.{bit, value, spare_zero, packed, bytes_of, value_bit, pack_values}
use Rattle.bitmap_spec.specs.Judge.{chunk_with, chunk_end, part, descriptor}
use Rattle.bitmap_spec.specs.declared.ChunkHead.{ChunkHead}
use Rattle.bitmap_laws.proofs.Pack.{value-packed, bits-packed, bit-after, bit-before, bit-bytes_of, length-bytes_of, value_bit-lt}

pub table_same : (f g : ℕ → ℕ) (k n : ℕ) → ((i : ℕ) → i < n → f (k + i) ≡ g (k + i)) → table f k n ≡ table g k n
unfolding table
table_same f g k zero h = refl
table_same f g k (suc n) h =
    let a : f k ≡ g k = rw (add-zero k) at (h 0 (omega arith)) in
    rw a (ap (λ (l : List ℕ). g k ∷ l) (table_same f g (suc k) n (λ i l. let e : suc k + i ≡ k + suc i = omega arith in rw e (h (suc i) (omega arith)))))

pub length-pack : (f : ℕ → ℕ) (w n : ℕ) → length (pack_values f w n) ≡ ceil8 (n * w)
unfolding pack_values
length-pack f w n = length-bytes_of (value_bit f w n) (ceil8 (n * w))

packed_zero : (f : ℕ → ℕ) (p w : ℕ) → ((j : ℕ) → j < w → f (p + j) ≡ 0) → packed f p w ≡ 0
unfolding packed
packed_zero f p zero h = refl
packed_zero f p (suc w) h = rw (packed_zero f p w (λ j l. h j (omega arith)), h w (omega arith))

value_bit-spare : (f : ℕ → ℕ) (w n p : ℕ) → n * w ≤ p → value_bit f w n p ≡ 0
unfolding value_bit
value_bit-spare f w n p h = rw (borrow.Author.Tests.le-ltb _ _ h)

-- the spare bits after packed values are 0
pub spare-packed : (pre post : List ℕ) (f : ℕ → ℕ) (w n : ℕ) → spare_zero (pre ++ (pack_values f w n ++ post)) (length pre) w n ≡ true
unfolding spare_zero pack_values
spare-packed pre post f w n =
    eq-eqb _ 0 (bits-packed (pre ++ (bytes_of (value_bit f w n) (ceil8 (n * w)) ++ post)) (value_bit f w n) (length pre * 8 + n * w) (n * w) (ceil8 (n * w) * 8 - n * w) at
    ∙ packed_zero (value_bit f w n) (n * w) (ceil8 (n * w) * 8 - n * w) (λ j l. value_bit-spare f w n (n * w + j) (omega arith)))
  where
    at : (j : ℕ) → j < ceil8 (n * w) * 8 - n * w → bit (pre ++ (bytes_of (value_bit f w n) (ceil8 (n * w)) ++ post)) (length pre * 8 + n * w + j) ≡ value_bit f w n (n * w + j)
    at j l =
        let e : length pre * 8 + n * w + j ≡ length pre * 8 + (n * w + j) = omega arith in
        let c : n * w + j < ceil8 (n * w) * 8 = omega arith in
        rw (e, bit-after pre (bytes_of (value_bit f w n) (ceil8 (n * w)) ++ post) (n * w + j), bit-before (bytes_of (value_bit f w n) (ceil8 (n * w))) post (n * w + j) (rw (length-bytes_of (value_bit f w n) (ceil8 (n * w))) c), bit-bytes_of (value_bit f w n) (ceil8 (n * w)) (n * w + j) (value_bit-lt f w n) c)

-- the part that listed exceptions add
unfoldable pub part_of : List ℕ → (ℕ → ℕ) → ℕ → ℕ → ℕ
part_of offs g zero i = 0
part_of offs g (suc e) i = part_of offs g e i + pick (eqb (get_or offs e 0) i) (g e) 0

-- A holds what comes before; then the primary values f, the offsets, the exception parts g, and what comes after
module _ (A offs post : List ℕ) (m b1 b2 n : ℕ) (f g : ℕ → ℕ) where
  unfoldable pub laid : List ℕ
  laid = A ++ (pack_values f b1 n ++ (offs ++ (pack_values g b2 (length offs) ++ post)))

  abbrev pub laid_head : ChunkHead
  laid_head = record {
    b1 = b1;
    b2 = b2;
    e = length offs;
    m = m;
    primary = length A;
    offsets = length A + ceil8 (n * b1);
    parts = length A + ceil8 (n * b1) + length offs;
  }

  at-offs : laid ≡ (A ++ pack_values f b1 n) ++ (offs ++ (pack_values g b2 (length offs) ++ post))
  unfolding laid
  at-offs = sym (append_assoc A (pack_values f b1 n) _)

  at-parts : laid ≡ ((A ++ pack_values f b1 n) ++ offs) ++ (pack_values g b2 (length offs) ++ post)
  at-parts = at-offs ∙ sym (append_assoc (A ++ pack_values f b1 n) offs _)

  len-o : length (A ++ pack_values f b1 n) ≡ length A + ceil8 (n * b1)
  len-o = length-append A (pack_values f b1 n) ∙ ap (λ (k : ℕ). length A + k) (length-pack f b1 n)

  len-x : length ((A ++ pack_values f b1 n) ++ offs) ≡ length A + ceil8 (n * b1) + length offs
  len-x = length-append (A ++ pack_values f b1 n) offs ∙ ap (λ (k : ℕ). k + length offs) len-o

  value-f : (i : ℕ) → i < n → f i < 2 ^ b1 → value laid (length A) b1 i ≡ f i
  unfolding laid
  value-f i h b = value-packed A (offs ++ (pack_values g b2 (length offs) ++ post)) f b1 n i h b

  value-g : (j : ℕ) → j < length offs → g j < 2 ^ b2 → value laid (length A + ceil8 (n * b1) + length offs) b2 j ≡ g j
  value-g j h b = rw (at-parts, ← len-x) (value-packed ((A ++ pack_values f b1 n) ++ offs) post g b2 (length offs) j h b)

  offs-at : (j : ℕ) → j < length offs → get_or laid (length A + ceil8 (n * b1) + j) 0 ≡ get_or offs j 0
  offs-at j h = rw (at-offs, ← len-o, get_or-append-add (A ++ pack_values f b1 n) (offs ++ (pack_values g b2 (length offs) ++ post)) j 0) (get_or-append offs _ 0 j h)

  part-is : (e i : ℕ) → e ≤ length offs → ((j : ℕ) → j < length offs → g j < 2 ^ b2)
      → part laid laid_head e i ≡ part_of offs g e i
  unfolding part part_of
  part-is zero i h b = refl
  part-is (suc e) i h b = rw (part-is e i (omega arith) b, offs-at e (omega arith), value-g e (omega arith) (b e (omega arith)))

  spare-f : spare_zero laid (length A) b1 n ≡ true
  unfolding laid
  spare-f = spare-packed A (offs ++ (pack_values g b2 (length offs) ++ post)) f b1 n

  desc-is : ((i : ℕ) → i < n → f i < 2 ^ b1) → ((j : ℕ) → j < length offs → g j < 2 ^ b2) → (i : ℕ) → i < n
      → descriptor laid laid_head i ≡ m + f i + part_of offs g (length offs) i * 2 ^ b1
  unfolding descriptor
  desc-is bf bg i l = rw (value-f i l (bf i l), part-is (length offs) i (omega arith) bg)

  pub with-back : ((i : ℕ) → i < n → f i < 2 ^ b1) → ((j : ℕ) → j < length offs → g j < 2 ^ b2) → rising n 0 offs ≡ true
      → ((i : ℕ) → i < n → m + f i + part_of offs g (length offs) i * 2 ^ b1 ≤ 63)
      → chunk_with laid n laid_head
      ≡ found (record { descs = table (λ i. m + f i + part_of offs g (length offs) i * 2 ^ b1) 0 n; next = length A + ceil8 (n * b1) + length offs + ceil8 (length offs * b2) })
  unfolding chunk_with chunk_end need
  with-back bf bg up small = rw (le-leb _ _ room, six, seven, eight, every-ok, descs-are)
    where
      room : length A + ceil8 (n * b1) + length offs + ceil8 (length offs * b2) ≤ length laid
      room = rw (at-parts, length-append ((A ++ pack_values f b1 n) ++ offs) (pack_values g b2 (length offs) ++ post), len-x, length-append (pack_values g b2 (length offs)) post, length-pack g b2 (length offs)) (omega arith)

      six : rising n 0 (take (length offs) (drop (length A + ceil8 (n * b1)) laid)) ≡ true
      six = rw (at-offs, drop_at (A ++ pack_values f b1 n) (offs ++ (pack_values g b2 (length offs) ++ post)) (length A + ceil8 (n * b1)) len-o, take_at offs (pack_values g b2 (length offs) ++ post) (length offs) refl) up

      seven : spare_zero laid (length A) b1 n ≡ true
      seven = spare-f

      eight : spare_zero laid (length A + ceil8 (n * b1) + length offs) b2 (length offs) ≡ true
      eight = rw (at-parts, ← len-x) (spare-packed ((A ++ pack_values f b1 n) ++ offs) post g b2 (length offs))

      same : (i : ℕ) → i < n → descriptor laid laid_head i ≡ m + f i + part_of offs g (length offs) i * 2 ^ b1
      same i l = desc-is bf bg i l

      every-ok : every (λ i. leb (descriptor laid laid_head i) 63) (from 0 n) ≡ true
      every-ok = every-all _ 0 n (λ i l. rw (zero-add i, same i l) (le-leb _ 63 (small i l)))

      descs-are : table (descriptor laid laid_head) 0 n ≡ table (λ i. m + f i + part_of offs g (length offs) i * 2 ^ b1) 0 n
      descs-are = table_same _ _ 0 n (λ i l. rw (zero-add i) (same i l))
