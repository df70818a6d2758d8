-- Containers put behind one another, and header and chunks before them: the form, and all else as it was.
-- Assumes nothing.
use mathlib.Core.Path.{◌≡◌, refl, sym, ap, ◌∙◌}
use mathlib.Core.Bool.{Bool, true, false}
use mathlib.Core.List.{List, ◌++◌, map}
use Prim.Native.Nat.{ℕ, ◌+◌, ◌*◌, ◌/◌, ◌≤◌, ◌<◌}
use native.Mathlib.Omega.{arith}
use borrow.Author.Tests.{leb-true, leb-false, le-leb}
use lib.Dec.{leb}
use lib.ListN.{replicate, length-replicate, length, take, drop, length-append}
use lib.Seq.{take_all}
use Rattle.common.specs.Lists.{from, sum}
use Rattle.bitmap_spec.specs.Judge.{size_of}
use Rattle.bitmap_spec.specs.Form.{form, cut, write_chunks, write_containers}
use Rattle.bitmap_spec.specs.Output.{written, placed, Gives}
use Rattle.std.specs.Prelude.{Ok}
use Rattle.bitmap_laws.proofs.Length.{chunks_size}
use Rattle.bitmap_laws.proofs.Output.{written-cat, written_none, taken, give}
use Rattle.bitmap_laws.proofs.Values.{AllLe}
use Rattle.bitmap_laws.proofs.Round.{header, six-is}
use Rattle.byte_move.proofs.Moves.{written-before, written_over, read_back}
use Rattle.form_write.specs.Described.{descs_to, Describes}
use Rattle.form_write.proofs.Whole.{size, all-parts}
use Rattle.pair_write.specs.Sides.{Reaches}
use Rattle.pair_write.specs.declared.Reached.{Reached}
use Rattle.judge.specs.declared.set.Set.{Set}
use Rattle.pair_write.proofs.Passing.{cells-sum}
use Rattle.form_write.proofs.Trimming.{no_cells}
use Rattle.pair_place.specs.Forms.{FormOf, Passed}

-- room in an array of zeros
pub room : (n m : ℕ) → n ≤ m → n ≤ length {A = ℕ} (replicate m 0)
room n m h = rw (length-replicate {A = ℕ} m 0) h

-- a whole slice that is copied
pub same_bytes : (before out s l : List ℕ) (to n : ℕ) → n ≡ length s → out ≡ written before to (take n (drop 0 s))
    → s ≡ l → out ≡ written before to l
same_bytes before out s l to n h q e = q ∙ ap (λ (w : List ℕ). written before to w) (take_all n s (omega arith) ∙ e)

-- the bytes of one chunk more
pub chunk-turn : (before out out' done body next : List ℕ) (to at n : ℕ) → out ≡ written before to done
    → at ≡ length done → out' ≡ written out (to + at) (take n (drop 0 body)) → done ++ take n body ≡ next
    → to + length next ≤ length before → out' ≡ written before to next
chunk-turn before out out' done body next to at n q e w d room =
    let l : length done + length (take n body) ≡ length next = sym (length-append done (take n body)) ∙ ap length d in
    w ∙ rw q (written-cat before done (take n body) to (to + at) (omega arith) (omega arith)) ∙ ap (written before to) d

pub no_chunk : (l before : List ℕ) (to : ℕ) → before ≡ written before to (write_containers (map (cut l) (from 0 0)))
no_chunk l before to = rw (← no_cells l) (written_none before to)

-- the last chunk ends at n
pub all-passed : (l : List ℕ) (x y : Set) (n k : ℕ) (ds₀ ds before out : List ℕ) (at : ℕ)
    (r : Reached)
    → k ≡ n → Reaches l x y k r → ds ≡ written ds₀ 0 (descs_to l k)
    → out ≡ written before at (write_containers (map (cut l) (from 0 k))) → Passed l x y n ds₀ ds before out at r
all-passed l x y n k ds₀ ds before out at r e p q w =
    record { reached = rw e at p; descs = rw e at q; bytes = rw e at w }

-- header and chunks before the containers that were moved up
pub head-length : (card : ℕ) (ds : List ℕ)
    → length (header card (length ds) ++ write_chunks (length ds / 256) ds)
    ≡ 6 + length (write_chunks (length ds / 256) ds)
head-length card ds =
    length-append (header card (length ds)) (write_chunks (length ds / 256) ds)
    ∙ ap (λ (i : ℕ). i + length (write_chunks (length ds / 256) ds)) (six-is card (length ds))

-- at most 32 chunks of 195 bytes
pub head-most : (ds : List ℕ) → AllLe 63 ds → length ds ≤ 8192 → 6 + length (write_chunks (length ds / 256) ds) ≤ 6246
head-most ds a h = omega (arith, chunks_size (length ds / 256) ds a (omega arith) (omega arith))

-- made apart and copied
pub head-copied : (blank head h o1 o2 : List ℕ) (n : ℕ) → head ≡ written blank 0 h → n ≡ length h
    → o2 ≡ written o1 0 (take n (drop 0 head)) → o2 ≡ written o1 0 h
head-copied blank head h o1 o2 n e q w = w ∙ ap (λ (s : List ℕ). written o1 0 s) (taken head blank h n e q)

pub head-before : (before o1 o2 h body : List ℕ) (p : ℕ) → p ≡ length h → p + length body ≤ length before
    → o1 ≡ written before p body → o2 ≡ written o1 0 h → o2 ≡ written before 0 (h ++ body)
head-before before o1 o2 h body p e room q w = w ∙ rw q (written-before before body h 0 p (omega arith) room)

module _ (l : List ℕ) (n card : ℕ) (ds : List ℕ) (d : Describes l n card ds) where
  -- the containers at byte 6 and on, then the whole form over them
  pub placed-form : (before o1 o2 : List ℕ) (k len : ℕ) → k ≡ sum size_of ds → length (form l) ≤ length before
      → o1 ≡ written before 6 (write_containers (map (cut l) (from 0 n)))
      → o2 ≡ written o1 0 ((header card (length ds) ++ write_chunks (length ds / 256) ds) ++ take k (drop 6 o1))
      → len ≡ 6 + length (write_chunks (length ds / 256) ds) + k
      → Gives (placed (form l) (length before)) before o2 (Ok len)
  placed-form before o1 o2 k len ek room q1 q2 el =
      let w = write_containers (map (cut l) (from 0 n)) in
      let h = header card (length ds) ++ write_chunks (length ds / 256) ds in
      let z : 6 + length (write_chunks (length ds / 256) ds) + sum size_of ds ≡ length (form l) = size l n card ds d in
      let s : sum size_of ds ≡ length w = cells-sum l n card ds d in
      let lh : length h ≡ 6 + length (write_chunks (length ds / 256) ds) = head-length card ds in
      let lw : length (h ++ w) ≡ length h + length w = length-append h w in
      let b : take k (drop 6 o1) ≡ w = rw q1 (read_back before w 6 k (omega arith) (ek ∙ s)) in
      let e : o2 ≡ written before 0 (h ++ w) =
      q2 ∙ rw (b, q1) (written_over before w (h ++ w) 6 (omega arith) (omega arith)) in
      let c : o2 ≡ written (written before 0 h) (6 + length (write_chunks (length ds / 256) ds)) w =
      e ∙ sym (written-cat before h w 0 (6 + length (write_chunks (length ds / 256) ds)) (omega arith) (omega arith)) in
      give (form l) before o2 len room (all-parts l n card ds d before (written before 0 h) o2
      (6 + length (write_chunks (length ds / 256) ds)) room refl refl c)
      (el ∙ ap (λ (i : ℕ). 6 + length (write_chunks (length ds / 256) ds) + i) ek ∙ z)

-- the containers take what their descriptors say
pub body-size : (l : List ℕ) (card : ℕ) (ds body : List ℕ) → FormOf l card ds body → length body ≡ sum size_of ds
body-size l card ds body f = ap length f.bytes ∙ sym (cells-sum l (length ds) card ds f.describes)

-- ---- what the test of room says
module _ (ds : List ℕ) (size room : ℕ) (r : Bool)
    (e : r ≡ leb (6 + length (write_chunks (length ds / 256) ds) + size) room) where
  pub fits-yes : r ≡ true → 6 + length (write_chunks (length ds / 256) ds) + size ≤ room
  fits-yes h = leb-true (6 + length (write_chunks (length ds / 256) ds) + size) room (sym e ∙ h)

  pub fits-no : r ≡ false → room < 6 + length (write_chunks (length ds / 256) ds) + size
  fits-no h = leb-false (6 + length (write_chunks (length ds / 256) ds) + size) room (sym e ∙ h)

pub fits_bound : (ds : List ℕ) (size room : ℕ) → AllLe 63 ds → 6 + 195 * ((length ds + 255) / 256) + size ≤ room
    → true ≡ leb (6 + length (write_chunks (length ds / 256) ds) + size) room
fits_bound ds size room a h =
    sym (le-leb (6 + length (write_chunks (length ds / 256) ds) + size) room
    (omega (arith, chunks_size (length ds / 256) ds a (omega arith) (omega arith))))
