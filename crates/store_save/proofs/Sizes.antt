-- Lengths in groups of seven bits, and the bytes of saved entries one behind the other.
-- Assumes nothing.
use mathlib.Core.Path.{◌≡◌, refl, sym, ap, ap₂, ◌∙◌}
use mathlib.Core.Logic.{⊎_elim}
use mathlib.Core.List.{List, [], ◌∷◌, ◌++◌, map, append_assoc, append-nil}
use Prim.Native.Nat.{ℕ, zero, suc, ◌+◌, ◌-◌, ◌/◌, ◌%◌, ◌≤◌, ◌<◌}
use native.Mathlib.Nat.{add-zero, zero-add, suc-add, add-suc}
use native.Mathlib.Numerals.{add-one}
use native.Mathlib.Omega.{arith}
use borrow.Author.Tests.{lt-ltb, le-ltb}
use lib.ListN.{length, set, take, drop, length-append}
use Rattle.common.specs.Lists.{from}
use Rattle.bitmap_spec.specs.Output.{written}
use Rattle.bitmap_spec.proofs.Tally.{tally, tally-cons}
use Rattle.bitmap_spec.proofs.Window.{below_or}
use Rattle.bitmap_laws.proofs.Cuts.{from_cons, from-none}
use Rattle.bitmap_laws.proofs.Output.{written_none, written-more, written-cat, Along}
use Rattle.bitmap_laws.proofs.Output.{along-room, along-length}
use Rattle.bitmap_laws.proofs.Parts.{part_length}
use Rattle.store_spec.specs.Store.{start_at, length_at, end_at, entry_at, entries_of}
use Rattle.store_laws.proofs.Slots.{Lies, form-few, entry-long}
use Rattle.store_save.specs.Size.{entry_size}
use Rattle.row_spec.specs.Varint.{padded, least_from, groups_of, shortest}
use Rattle.store_spec.specs.Saved.{saved}

-- ---- lengths
module _ (n : ℕ) where
  pub one-group : n < 128 → shortest n ≡ n ∷ []
  unfolding shortest groups_of least_from padded
  one-group h = rw (lt-ltb n 128 h)

  pub two-groups : 128 ≤ n → n < 16384 → shortest n ≡ (n % 128 + 128) ∷ (n / 128) ∷ []
  unfolding shortest groups_of least_from padded
  two-groups h g = rw (le-ltb n 128 h, lt-ltb n 16384 g)

  pub three-groups : 16384 ≤ n → n < 2097152
      → shortest n ≡ (n % 128 + 128) ∷ (n / 128 % 128 + 128) ∷ (n / 128 / 128) ∷ []
  unfolding shortest groups_of least_from padded
  three-groups h g = rw (le-ltb n 128 (omega arith), le-ltb n 16384 h, lt-ltb n 2097152 g)

pub one_written : (out : List ℕ) (at x : ℕ) → at < length out → set out at x ≡ written out at (x ∷ [])
one_written out at x h =
    let m : set (written out at []) (at + 0) x ≡ written out at (x ∷ []) = written-more out [] at x (omega arith) in
    ap₂ (λ (o : List ℕ) (i : ℕ). set o i x) (written_none out at) (sym (add-zero at)) ∙ m

pub two-written : (out : List ℕ) (at x y : ℕ) → at + 1 < length out
    → set (set out at x) (at + 1) y ≡ written out at (x ∷ y ∷ [])
two-written out at x y h =
    ap (λ (o : List ℕ). set o (at + 1) y) (one_written out at x (omega arith)) ∙ written-more out (x ∷ []) at y h

-- ---- an entry's bytes
pub size_is : (dir : List ℕ) (k x m : ℕ) → m ≡ length_at dir k → x ≡ length (shortest m) → x + m ≡ entry_size dir k
unfolding entry_size
size_is dir k x m e q = rw (q, e)

saved-map : (f : ℕ → List ℕ) (g : ℕ → ℕ) (k n : ℕ)
    → ((i : ℕ) → i < n → length (shortest (length (f (k + i)))) + length (f (k + i)) ≡ g (k + i))
    → length (saved (map f (from k n))) ≡ tally g k n
unfolding saved from tally
saved-map f g k zero h = refl
saved-map f g k (suc n) h =
    let a : length (shortest (length (f k))) + length (f k) ≡ g k = rw (add-zero k) at (h 0 (omega arith)) in
    let b = saved-map f g (suc k) n (λ i l. rw (suc-add k i, ← add-suc k i) (h (suc i) (omega arith))) in
    let p = length-append (shortest (length (f k))) (f k ++ saved (map f (from (suc k) n))) in
    let q = length-append (f k) (saved (map f (from (suc k) n))) in
    omega (arith, a, b, p, q, tally-cons g k n)

pub saved-size : (n : ℕ) (dir buf : List ℕ) → Lies n dir buf
    → length (saved (entries_of n dir buf)) ≡ tally (entry_size dir) 0 n
unfolding entries_of entry_size
saved-size n dir buf s =
    saved-map (entry_at dir buf) (λ k. length (shortest (length_at dir k)) + length_at dir k) 0 n
    (λ i l. rw (zero-add i, entry-long n dir buf i s l))

pub lengths-few : (n : ℕ) (dir buf : List ℕ) → Lies n dir buf → (k : ℕ) → k < n → length_at dir k < 2097152
lengths-few n dir buf s k h =
    ⊎_elim (λ a. omega (arith, entry-long n dir buf k s h, form-few (entry_at dir buf k) (s.forms k h a)))
    (λ a. omega arith) (below_or 0 (length_at dir k))

-- ---- one entry more
pub rest-step : (n : ℕ) (dir buf : List ℕ) (k : ℕ) → Lies n dir buf → k < n
    → saved (map (entry_at dir buf) (from k (n - k)))
    ≡ (shortest (length_at dir k) ++ entry_at dir buf k)
    ++ saved (map (entry_at dir buf) (from (k + 1) (n - (k + 1))))
unfolding saved
rest-step n dir buf k s h =
    let e : n - k ≡ suc (n - (k + 1)) = omega arith in
    rw (e, from_cons k (n - (k + 1)), add-one k, entry-long n dir buf k s h)
    (sym (append_assoc (shortest (length_at dir k)) (entry_at dir buf k) _))

pub rest-none : (n : ℕ) (dir buf : List ℕ) (k : ℕ) → n ≤ k → saved (map (entry_at dir buf) (from k (n - k))) ≡ []
unfolding saved
rest-none n dir buf k h = let e : n - k ≡ 0 = omega arith in rw (e, from-none k)

pub rest_all : (n : ℕ) (dir buf : List ℕ)
    → saved (map (entry_at dir buf) (from 0 (n - 0))) ≡ saved (entries_of n dir buf)
unfolding entries_of
rest_all n dir buf = let e : n - 0 ≡ n = omega arith in rw e

-- ---- an entry of one part or two
pub entry-nothing : (dir buf out out' : List ℕ) (k at m x : ℕ) → m ≡ length_at dir k → m ≡ 0 → x ≡ length (shortest m)
    → out' ≡ written out at (shortest m)
    → (x ≡ length (shortest (length_at dir k) ++ entry_at dir buf k))
    × (out' ≡ written out at (shortest (length_at dir k) ++ entry_at dir buf k))
unfolding entry_at
entry-nothing dir buf out out' k at m x e z ex eo = let q : length_at dir k ≡ 0 = sym e ∙ z in (
  ex ∙ rw (e, q) (ap length (sym (append-nil (shortest 0)))),
  eo ∙ rw (e, q) (ap (written out at) (sym (append-nil (shortest 0)))),
)

pub entry-both : (dir buf out o1 o2 : List ℕ) (k at a m x : ℕ) → m ≡ length_at dir k → a ≡ start_at dir k
    → end_at dir k ≤ length buf → x ≡ length (shortest m) → o1 ≡ written out at (shortest m)
    → o2 ≡ written o1 (at + x) (take m (drop a buf))
    → at + length (shortest (length_at dir k) ++ entry_at dir buf k) ≤ length out
    → (x + m ≡ length (shortest (length_at dir k) ++ entry_at dir buf k))
    × (o2 ≡ written out at (shortest (length_at dir k) ++ entry_at dir buf k))
unfolding entry_at end_at
entry-both dir buf out o1 o2 k at a m x em ea h ex e1 e2 room =
    let p : take m (drop a buf) ≡ take (length_at dir k) (drop (start_at dir k) buf) = rw (em, ea) in
    let y : length (take (length_at dir k) (drop (start_at dir k) buf)) ≡ length_at dir k =
    part_length buf (start_at dir k) (length_at dir k) h in
    let n = length-append (shortest (length_at dir k)) (take (length_at dir k) (drop (start_at dir k) buf)) in
    let l : x ≡ length (shortest (length_at dir k)) = ex ∙ rw em in
    let q : o1 ≡ written out at (shortest (length_at dir k)) = e1 ∙ rw em in (
      omega (arith, n, l, y),
      e2 ∙ rw (p, q)
          (written-cat out (shortest (length_at dir k)) (take (length_at dir k) (drop (start_at dir k) buf)) at
          (at + x) (omega arith) (omega (arith, n))),
    )

pub entry-room : (dir buf out : List ℕ) (k at m x : ℕ) → m ≡ length_at dir k → end_at dir k ≤ length buf
    → x ≡ length (shortest m) → at + length (shortest (length_at dir k) ++ entry_at dir buf k) ≤ length out
    → at + x + m ≤ length out
unfolding entry_at end_at
entry-room dir buf out k at m x em h ex room =
    omega (
      arith,
      part_length buf (start_at dir k) (length_at dir k) h,
      length-append (shortest (length_at dir k)) (take (length_at dir k) (drop (start_at dir k) buf)),
      ap (λ y. length (shortest y)) em,
    )

pub save-room : {before out all : List ℕ} {at t : ℕ} (n : ℕ) (dir buf : List ℕ) (k : ℕ) → Lies n dir buf → k < n
    → Along before out at t (saved (map (entry_at dir buf) (from k (n - k)))) all → at + length all ≤ length before
    → at + t + length (shortest (length_at dir k) ++ entry_at dir buf k) ≤ length out
save-room n dir buf k s h g room =
    omega (
      arith,
      along-room g,
      along-length g room,
      ap length (rest-step n dir buf k s h),
      length-append (shortest (length_at dir k) ++ entry_at dir buf k)
          (saved (map (entry_at dir buf) (from (k + 1) (n - (k + 1))))),
    )
