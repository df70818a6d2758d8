-- Containers that are empty in both bitmaps: past them nothing has changed but the number of descriptors.
-- Assumes nothing.
use mathlib.Core.Path.{◌≡◌, refl, sym, ap, ◌∙◌}
use mathlib.Core.List.{List, [], ◌∷◌, ◌++◌, map, append_assoc, append-nil}
use mathlib.Core.Logic.{⊎_elim}
use Prim.Native.Nat.{ℕ, zero, suc, ◌+◌, ◌-◌, ◌*◌, ◌≤◌, ◌<◌, min}
use native.Mathlib.Nat.{add-zero}
use native.Mathlib.Numerals.{add-one}
use native.Mathlib.Omega.{arith}
use lib.ListN.{length, get_or, get_or-eq_default, set, drop, length-append, replicate, length-replicate}
use lib.ListN.{replicate-append-replicate}
use lib.Seq.{set_at}
use Rattle.common.specs.Lists.{keep, from, mem}
use Rattle.bitmap_spec.specs.Form.{cut, descriptor_of, write_containers}
use Rattle.bitmap_spec.specs.Judge.{size_of}
use Rattle.bitmap_spec.specs.Output.{written}
use Rattle.bitmap_spec.proofs.Window.{below_or}
use Rattle.bitmap_laws.proofs.Output.{from_start, length-written, written-cat, written-more}
use Rattle.bitmap_spec.specs.declared.Operation.{Operation}
use Rattle.form_write.specs.Described.{descs_to}
use Rattle.form_write.proofs.Cells.{desc-more, desc-length, card-more}
use Rattle.form_write.proofs.Trimming.{cells-trim}
use Rattle.pair_write.specs.Sides.{desc_at, place_at, result_of}
use Rattle.judge.specs.declared.set.Set.{Set}
use Rattle.pair_write.proofs.Pairs.{place-next, size-zero}
use Rattle.pair_write.proofs.Result.{cut-pair, pair-none}

-- from k on, up to r, both bitmaps' containers are empty
abbrev pub Empty : List ℕ → List ℕ → ℕ → ℕ → Type 0
Empty d e k r = (j : ℕ) → k ≤ j → j < r → (desc_at d j ≡ 0) × (desc_at e j ≡ 0)

pub desc-word : (d : List ℕ) (i r : ℕ) → ((j : ℕ) → j < r → get_or d (i + j) 0 ≡ 0) → (j : ℕ) → j < r
    → desc_at d (i + j) ≡ 0
unfolding desc_at
desc-word d i r z j l = z j l

pub desc-beyond : (d : List ℕ) (i j : ℕ) → length d ≤ i → desc_at d (i + j) ≡ 0
unfolding desc_at
desc-beyond d i j h = get_or-eq_default d 0 {n = i + j} (omega arith)

-- r containers more, of which each bitmap is known to have as many or more empty ones
pub empty-more : (d e : List ℕ) (k i r s t : ℕ) → Empty d e k i
    → ((j : ℕ) → j < s → desc_at d (i + j) ≡ 0) → ((j : ℕ) → j < t → desc_at e (i + j) ≡ 0) → r ≤ s → r ≤ t
    → Empty d e k (i + r)
empty-more d e k i r s t m f g p q j a b = ⊎_elim (λ l. m j a l)
    (λ l. let z : i + (j - i) ≡ j = omega arith in
    (rw z at (f (j - i) (omega arith)), rw z at (g (j - i) (omega arith)))) (below_or j i)

-- a container that is empty before others that are
pub empty-first : (d e : List ℕ) (k r : ℕ) → desc_at d k ≡ 0 → desc_at e k ≡ 0 → Empty d e (k + 1) r → Empty d e k r
empty-first d e k r p q m j a b = ⊎_elim (λ l. let z : k ≡ j = omega arith in (rw z at p, rw z at q))
    (λ l. m j l b) (below_or j (k + 1))

-- ---- zeros in the place of descriptors
pub zeros-more : (before : List ℕ) (at m : ℕ) → at + m < length before
    → set (written before at (replicate m 0)) (at + m) 0 ≡ written before at (replicate (m + 1) 0)
zeros-more before at m h =
    let n : length (replicate {A = ℕ} m 0) ≡ m = length-replicate m 0 in
    (rw n at (written-more before (replicate m 0) at 0 (rw n h)))
    ∙ ap (λ (z : List ℕ). written before at z) (replicate-append-replicate m 1 0)

pub cleared-length : (before out : List ℕ) (k n : ℕ) → k ≤ n → n ≤ length before
    → out ≡ written before k (replicate (n - k) 0) → length out ≡ length before
cleared-length before out k n h g e =
    let z : length (replicate {A = ℕ} (n - k) 0) ≡ n - k = length-replicate (n - k) 0 in
    ap length e ∙ length-written before (replicate (n - k) 0) k (omega (arith, z))

-- behind the descriptors that are known
pub cleared : (l first before out : List ℕ) (k n : ℕ) → k ≤ n → n ≤ length first
    → before ≡ written first 0 (descs_to l k)
    → out ≡ written before k (replicate (n - k) 0) → out ≡ written first 0 (descs_to l k ++ replicate (n - k) 0)
cleared l first before out k n h g q e =
    let z : length (replicate {A = ℕ} (n - k) 0) ≡ n - k = length-replicate (n - k) 0 in
    let d = desc-length l k in
    e ∙ ap (λ (s : List ℕ). written s k (replicate (n - k) 0)) q
    ∙ written-cat first (descs_to l k) (replicate (n - k) 0) 0 k (omega (arith, d)) (omega (arith, d, z))

-- none of them is left
pub zeros-end : (l first : List ℕ) (k n : ℕ) → k ≡ n
    → written first 0 (descs_to l k ++ replicate (n - k) 0) ≡ written first 0 (descs_to l k)
zeros-end l first k n e =
    let z : n - k ≡ 0 = omega (arith, e) in
    rw z (ap (λ (s : List ℕ). written first 0 s) (append-nil (descs_to l k)))

-- the first of them becomes a descriptor
pub desc-over : (l first out : List ℕ) (n k t c : ℕ) → k < n → c ≡ length (cut l k) → t ≡ min c 32
    → out ≡ written first 0 (descs_to l k ++ replicate (n - k) 0)
    → set out k t ≡ written first 0 (descs_to l (k + 1) ++ replicate (n - (k + 1)) 0)
unfolding descriptor_of
desc-over l first out n k t c h e q w =
    let m : n - k ≡ suc (n - (k + 1)) = omega arith in
    let v : t ≡ descriptor_of (cut l k) = q ∙ rw e in
    let ds = descs_to l k in
    let zs : List ℕ = replicate (n - (k + 1)) 0 in
    let rest = drop (length (ds ++ (0 ∷ zs))) first in
    let long : length (ds ++ (0 ∷ zs)) ≡ length ((ds ++ (t ∷ [])) ++ zs) =
    rw (length-append ds (0 ∷ zs), length-append (ds ++ (t ∷ [])) zs, length-append ds (t ∷ [])) (omega arith) in
    let held : out ≡ ds ++ (0 ∷ (zs ++ rest)) =
    (rw m at w) ∙ from_start first (ds ++ (0 ∷ zs)) ∙ append_assoc ds (0 ∷ zs) rest in
    let put : ds ++ (t ∷ (zs ++ rest)) ≡ ((ds ++ (t ∷ [])) ++ zs) ++ rest =
    sym (append_assoc ds (t ∷ []) (zs ++ rest)) ∙ sym (append_assoc (ds ++ (t ∷ [])) zs rest) in
    let form : ((ds ++ (t ∷ [])) ++ zs) ++ rest ≡ written first 0 ((ds ++ (t ∷ [])) ++ zs) =
    rw long (sym (from_start first ((ds ++ (t ∷ [])) ++ zs))) in
    ap (λ (z : List ℕ). set z k t) held ∙ set_at ds 0 (zs ++ rest) t k (desc-length l k) ∙ put ∙ form
    ∙ ap (λ (z : List ℕ). written first 0 (z ++ zs)) (ap (λ (z : ℕ). ds ++ (z ∷ [])) v ∙ sym (desc-more l k))

-- ---- one bitmap
place-past : (x : Set) → (k m : ℕ)
    → ((j : ℕ) → k ≤ j → j < k + m → desc_at x.descriptors.now j ≡ 0) → place_at x (k + m) ≡ place_at x k
place-past x k zero h = ap (place_at x) (add-zero k)
place-past x k (suc m) h =
    let n : k + suc m ≡ (k + m) + 1 = omega arith in
    let none : 0 ≡ size_of (desc_at x.descriptors.now (k + m)) =
    sym (ap size_of (h (k + m) (omega arith) (omega arith)) ∙ size-zero) in
    let more = place-next x (k + m) (place_at x (k + m)) 0 refl none in
    rw n (sym more ∙ add-zero (place_at x (k + m)) ∙ place-past x k m (λ j p q. h j p (omega arith)))

-- ---- containers of a set that are empty
card-past : (l : List ℕ) (k m : ℕ) → ((j : ℕ) → k ≤ j → j < k + m → cut l j ≡ [])
    → length (keep (λ z. mem z l) (from 0 ((k + m) * 256))) ≡ length (keep (λ z. mem z l) (from 0 (k * 256)))
card-past l k zero h = rw (add-zero k)
card-past l k (suc m) h =
    let n : k + suc m ≡ (k + m) + 1 = omega arith in
    rw n (omega (
      arith,
      card-more l (k + m),
      ap length (h (k + m) (omega arith) (omega arith)),
      card-past l k m (λ j p q. h j p (omega arith)),
    ))

descs-past : (l : List ℕ) (k m : ℕ) → ((j : ℕ) → k ≤ j → j < k + m → cut l j ≡ [])
    → descs_to l (k + m) ≡ descs_to l k ++ replicate m 0
unfolding descriptor_of
descs-past l k zero h = ap (descs_to l) (add-zero k) ∙ sym (append-nil (descs_to l k))
descs-past l k (suc m) h =
    let n : k + suc m ≡ (k + m) + 1 = omega arith in
    let last : descriptor_of (cut l (k + m)) ≡ 0 = ap descriptor_of (h (k + m) (omega arith) (omega arith)) in
    rw n (desc-more l (k + m)
    ∙ rw (descs-past l k m (λ j p q. h j p (omega arith)), last)
    (append_assoc (descs_to l k) (replicate m 0) (0 ∷ [])
    ∙ ap (λ (z : List ℕ). descs_to l k ++ z) (replicate-append-replicate m 1 0
    ∙ ap (λ (z : ℕ). replicate z 0) (add-one m))))

-- ---- two bitmaps
module _ (o : Operation) (x y : Set) (k r : ℕ)
    (h : k ≤ r) (empty : Empty x.descriptors.now y.descriptors.now k r) where
  all : k + (r - k) ≡ r
  all = omega arith

  none : (j : ℕ) → k ≤ j → j < k + (r - k) → cut (result_of o x y) j ≡ []
  none j p q =
      let e = empty j p (omega arith) in
      rw (e.0, e.1) at (cut-pair o x y j (place_at x j) (place_at y j) refl refl)
      ∙ pair-none o x.bytes.now (place_at x j) y.bytes.now (place_at y j)

  pub first_past : place_at x r ≡ place_at x k
  first_past = rw all at (place-past x k (r - k) (λ j p q. (empty j p (omega arith)).0))

  pub second_past : place_at y r ≡ place_at y k
  second_past = rw all at (place-past y k (r - k) (λ j p q. (empty j p (omega arith)).1))

  pub members-past : length (keep (λ z. mem z (result_of o x y)) (from 0 (r * 256)))
      ≡ length (keep (λ z. mem z (result_of o x y)) (from 0 (k * 256)))
  members-past = rw all at (card-past (result_of o x y) k (r - k) none)

  pub cells-past : write_containers (map (cut (result_of o x y)) (from 0 r))
      ≡ write_containers (map (cut (result_of o x y)) (from 0 k))
  cells-past = rw all at (cells-trim (result_of o x y) k (r - k) (λ j p q. ap length (none j p q)))

  -- the descriptors of what was passed are 0
  pub zeros-past : (n : ℕ) → r ≤ n
      → descs_to (result_of o x y) k ++ replicate (n - k) 0
      ≡ descs_to (result_of o x y) r ++ replicate (n - r) 0
  zeros-past n g =
      let e : (r - k) + (n - r) ≡ n - k = omega arith in
      let d : descs_to (result_of o x y) r ≡ descs_to (result_of o x y) k ++ replicate (r - k) 0 =
      rw all at (descs-past (result_of o x y) k (r - k) none) in
      ap (λ (z : List ℕ). descs_to (result_of o x y) k ++ z)
      (ap (λ (z : ℕ). replicate z 0) (sym e) ∙ sym (replicate-append-replicate (r - k) (n - r) 0))
      ∙ sym (append_assoc (descs_to (result_of o x y) k) (replicate (r - k) 0) (replicate (n - r) 0))
      ∙ ap (λ (z : List ℕ). z ++ replicate (n - r) 0) (sym d)
