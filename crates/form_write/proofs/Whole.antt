-- The parts of a form, one after the other, and the form of a described set.
-- Assumes nothing.
use mathlib.Core.Path.{◌≡◌, sym, ap, ◌∙◌}
use mathlib.Core.List.{List, [], ◌∷◌, ◌++◌, map, append_assoc}
use Prim.Native.Nat.{ℕ, ◌+◌, ◌*◌, ◌/◌, ◌%◌, ◌≤◌, ◌<◌}
use native.Mathlib.Numerals.{add-one}
use native.Mathlib.Omega.{arith}
use borrow.Author.Tests.{lt-ltb, le-ltb}
use lib.ListN.{length, get_or, drop, length-append, drop_of_length-le}
use lib.Seq.{drop-cons}
use Rattle.common.specs.Lists.{from, sum, keep, mem}
use Rattle.bitmap_spec.specs.Judge.{size_of}
use Rattle.bitmap_spec.specs.Form.{form, cut, count_of, write_chunks, write_containers}
use Rattle.bitmap_spec.specs.Output.{written}
use Rattle.bitmap_spec.specs.Sets.{IsSet}
use Rattle.bitmap_laws.proofs.Bodies.{descs-le, sizes-are}
use Rattle.bitmap_laws.proofs.Cuts.{joined-form, joined-cut, length-cuts}
use Rattle.bitmap_laws.proofs.Length.{form-bound}
use Rattle.bitmap_laws.proofs.Output.{written-cat, from_start}
use Rattle.bitmap_laws.proofs.Rise.{count-bound}
use Rattle.bitmap_laws.proofs.Round.{header, form-is, six-is}
use Rattle.bitmap_laws.proofs.Values.{AllLe}
use Rattle.form_write.specs.Described.{descs_to, Describes}
use Rattle.form_write.proofs.Cells.{desc-length}

pub size_step : (ds : List ℕ) (i x : ℕ) → i < length ds → x ≡ size_of (get_or ds i 0)
    → sum size_of (drop i ds) ≡ x + sum size_of (drop (i + 1) ds)
unfolding sum
size_step ds i x h e = rw (drop-cons ds i 0 h, add-one i, e)

pub size-end : (ds : List ℕ) (i : ℕ) → length ds ≤ i → sum size_of (drop i ds) ≡ 0
unfolding sum
size-end ds i h = rw (drop_of_length-le ds h)

pub size_low : (d x : ℕ) → d < 32 → x ≡ d → x ≡ size_of d
unfolding size_of
size_low d x h e = e ∙ sym (rw (lt-ltb d 32 h))

pub size-high : (d x : ℕ) → 32 ≤ d → x ≡ 32 → x ≡ size_of d
unfolding size_of
size-high d x h e = e ∙ sym (rw (le-ltb d 32 h))

pub head-parts : (before o1 o2 : List ℕ) (card n : ℕ) → 6 ≤ length before
    → o1 ≡ written before 0 (1 ∷ (card % 256) ∷ (card / 256 % 256) ∷ [])
    → o2 ≡ written o1 3 ((card / 256 / 256 % 256) ∷ (n % 256) ∷ (n / 256 % 256) ∷ [])
    → o2 ≡ written before 0 (header card n)
unfolding header
head-parts before o1 o2 card n h p q =
    q
    ∙ rw p
    (written-cat before (1 ∷ (card % 256) ∷ (card / 256 % 256) ∷ [])
    ((card / 256 / 256 % 256) ∷ (n % 256) ∷ (n / 256 % 256) ∷ []) 0 3 (omega arith) (omega arith))

-- header, then chunks
pub head-chunks : (before o1 o2 ds : List ℕ) (card : ℕ) → 6 + length (write_chunks (length ds / 256) ds) ≤ length before
    → o1 ≡ written before 0 (header card (length ds)) → o2 ≡ written o1 6 (write_chunks (length ds / 256) ds)
    → o2 ≡ written before 0 (header card (length ds) ++ write_chunks (length ds / 256) ds)
head-chunks before o1 o2 ds card room p q =
    q
    ∙ rw p
    (written-cat before (header card (length ds)) (write_chunks (length ds / 256) ds) 0 6
    (omega (arith, six-is card (length ds))) (omega (arith, six-is card (length ds))))

-- ---- a described set
module _ (l : List ℕ) (n card : ℕ) (ds : List ℕ) (d : Describes l n card ds) where
  pub many : length ds ≡ n
  many = ap length d.descs ∙ desc-length l n

  pub few : n ≤ 8192
  few = rw d.count (count-bound l d.is_set)

  pub fine : AllLe 63 ds
  unfolding descs_to
  fine = rw d.descs (descs-le (map (cut l) (from 0 n)))

  -- the form, from its parts
  parts :
      form l ≡ header card (length ds) ++ (write_chunks (length ds / 256) ds ++ write_containers (map (cut l) (from 0 n)))
  unfolding form descs_to
  parts =
      form-is (length l) (map (cut l) (from 0 (count_of l))) ∙ rw (many, d.descs, d.count, length-cuts l, d.cardinality)

  parts-length :
      length (form l) ≡ 6 +
      (length (write_chunks (length ds / 256) ds) + length (write_containers (map (cut l) (from 0 n))))
  parts-length =
      ap length parts ∙ length-append (header card (length ds)) _
      ∙ rw (
        six-is card (length ds),
        length-append (write_chunks (length ds / 256) ds) (write_containers (map (cut l) (from 0 n))),
      )

  pub size : 6 + length (write_chunks (length ds / 256) ds) + sum size_of ds ≡ length (form l)
  unfolding descs_to
  size = omega (arith, parts-length, ap (λ (x : List ℕ). sum size_of x) d.descs, sizes-are (map (cut l) (from 0 n)))

  pub bound : length (form l) ≤ 268390
  bound = form-bound l d.is_set

  pub body-room : (t room : ℕ) → t ≡ 6 + length (write_chunks (length ds / 256) ds) → length (form l) ≤ room
      → t + length (write_containers (map (cut l) (from 0 n))) ≤ room
  body-room t room e h = omega (arith, parts-length)

  -- header and chunks, then the containers
  pub all-parts : (before o1 o2 : List ℕ) (t : ℕ) → length (form l) ≤ length before
      → t ≡ 6 + length (write_chunks (length ds / 256) ds)
      → o1 ≡ written before 0 (header card (length ds) ++ write_chunks (length ds / 256) ds) → o2 ≡ written o1 t
      (write_containers (map (cut l) (from 0 n)))
      → o2 ≡ form l ++ drop (length (form l)) before
  all-parts before o1 o2 t room et q1 q2 =
      let s = six-is card (length ds) in
      let z = parts-length in
      let m : length (header card (length ds) ++ write_chunks (length ds / 256) ds) ≡ t =
      length-append (header card (length ds)) (write_chunks (length ds / 256) ds) ∙ omega (arith, s) in
      let x : o2 ≡ written before 0
      ((header card (length ds) ++ write_chunks (length ds / 256) ds) ++ write_containers (map (cut l) (from 0 n))) =
      q2
      ∙ rw q1
      (written-cat before (header card (length ds) ++ write_chunks (length ds / 256) ds)
      (write_containers (map (cut l) (from 0 n))) 0 t (omega arith) (omega arith))
      in
      x ∙ ap (λ (w : List ℕ). written before 0 w) (append_assoc (header card (length ds)) _ _ ∙ sym parts)
      ∙ from_start before (form l)

-- every member of a set lies in its containers
pub card-all : (l : List ℕ) → IsSet l → length (keep (λ x. mem x l) (from 0 (count_of l * 256))) ≡ length l
card-all l s = ap length (sym (joined-cut l 0 (count_of l)) ∙ joined-form l s)
