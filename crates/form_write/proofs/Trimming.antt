-- Descriptors without the last zeros describe the set: a container of descriptor 0 is empty, and takes no bytes.
-- Assumes nothing.
use mathlib.Core.Path.{◌≡◌, refl, sym, ap, ◌∙◌}
use mathlib.Core.Logic.{⊎_elim}
use mathlib.Core.Bool.{false}
use mathlib.Core.List.{List, [], ◌∷◌, ◌++◌, map, append_assoc, append-nil}
use Prim.Native.Nat.{ℕ, zero, suc, ◌+◌, ◌-◌, ◌*◌, ◌/◌, ◌≤◌, ◌<◌, min}
use native.Mathlib.Nat.{add-zero, zero-add}
use native.Mathlib.Omega.{arith}
use borrow.Author.Tests.{lt-ltb, le-ltb}
use lib.ListN.{length, get_or, take}
use lib.Seq.{take_at, take-take, get_or-take, get_or-append_seam}
use Rattle.common.specs.Lists.{keep, from, mem}
use Rattle.bitmap_spec.specs.Form.{cut, count_of, descriptor_of, write_container, write_containers}
use Rattle.bitmap_spec.specs.Judge.{size_of}
use Rattle.bitmap_spec.specs.Sets.{IsSet}
use Rattle.bitmap_spec.proofs.Window.{below_or}
use Rattle.bitmap_laws.proofs.Bodies.{size_is}
use Rattle.bitmap_laws.proofs.Cuts.{from-cat, from_cons, from-none}
use Rattle.bitmap_laws.proofs.Members.{ext, mem-high, mem-keep, rising-keep}
use Rattle.form_write.specs.Described.{descs_to, Describes, Trimmed}
use Rattle.form_write.proofs.Cells.{desc-length, empty-cell, some-cell, count_none, count-some}

-- ---- descriptors of a set's first containers
pub map-cat : (f : ℕ → List ℕ) (s t : List ℕ) → map f (s ++ t) ≡ map f s ++ map f t
map-cat f [] t = refl
map-cat f (x ∷ xs) t = ap (λ (l : List (List ℕ)). f x ∷ l) (map-cat f xs t)

map-cat' : (f : List ℕ → ℕ) (s t : List (List ℕ)) → map f (s ++ t) ≡ map f s ++ map f t
map-cat' f [] t = refl
map-cat' f (x ∷ xs) t = ap (λ (l : List ℕ). f x ∷ l) (map-cat' f xs t)

descs-split : (l : List ℕ) (n k : ℕ) → k ≤ n
    → descs_to l n ≡ descs_to l k ++ map descriptor_of (map (cut l) (from k (n - k)))
unfolding descs_to
descs-split l n k h =
    let e : n ≡ k + (n - k) = omega arith in
    ap (λ (m : ℕ). map descriptor_of (map (cut l) (from 0 m))) e
    ∙ rw (
      from-cat 0 k (n - k),
      zero-add k,
      map-cat (cut l) (from 0 k) (from k (n - k)),
      map-cat' descriptor_of (map (cut l) (from 0 k)) (map (cut l) (from k (n - k))),
    )

descs-take : (l : List ℕ) (n k : ℕ) → k ≤ n → take k (descs_to l n) ≡ descs_to l k
descs-take l n k h =
    ap (take k) (descs-split l n k h)
    ∙ take_at (descs_to l k) (map descriptor_of (map (cut l) (from k (n - k)))) k (desc-length l k)

pub desc-at : (l : List ℕ) (n k : ℕ) → k < n → get_or (descs_to l n) k 0 ≡ descriptor_of (cut l k)
desc-at l n k h =
    let e : n - k ≡ suc (n - k - 1) = omega arith in
    let s : descs_to l n
    ≡ descs_to l k ++ (descriptor_of (cut l k) ∷ map descriptor_of (map (cut l) (from (suc k) (n - k - 1)))) =
    descs-split l n k (omega arith)
    ∙ ap (λ (m : List ℕ). descs_to l k ++ map descriptor_of (map (cut l) m)) (ap (from k) e ∙ from_cons k (n - k - 1)) in
    let z : get_or (descs_to l k ++ (descriptor_of (cut l k) ∷ map descriptor_of (map (cut l) (from (suc k) (n - k - 1)))))
    (length (descs_to l k)) 0
    ≡ descriptor_of (cut l k) =
    get_or-append_seam (descs_to l k) (descriptor_of (cut l k)) (map descriptor_of (map (cut l) (from (suc k) (n - k - 1))))
    0 in
    ap (λ (m : List ℕ). get_or m k 0) s ∙ rw (desc-length l k) at z

pub desc-zero : (c : List ℕ) → descriptor_of c ≡ 0 → length c ≡ 0
unfolding descriptor_of
desc-zero c e = omega arith

empty-bytes : (c : List ℕ) → length c ≡ 0 → write_container c ≡ []
unfolding write_container
empty-bytes [] e = refl
empty-bytes (x ∷ xs) e = absurd (omega arith)

zero-desc : (c : List ℕ) → length c ≡ 0 → descriptor_of c ≡ 0
unfolding descriptor_of
zero-desc c e = omega arith

-- ---- the bytes of a set's first containers
pub write-size : (c : List ℕ) (m : ℕ) → m ≡ min (length c) 32 → length (write_container c) ≡ m
unfolding size_of descriptor_of
write-size c m e =
    sym (size_is c) ∙ ⊎_elim (λ h. rw (lt-ltb (min (length c) 32) 32 h) (sym e))
    (λ h. rw (le-ltb (min (length c) 32) 32 h) (omega arith)) (below_or (min (length c) 32) 32)

pub containers-cat : (s t : List (List ℕ)) → write_containers (s ++ t) ≡ write_containers s ++ write_containers t
unfolding write_containers
containers-cat [] t = refl
containers-cat (c ∷ s) t =
    rw (containers-cat s t) (sym (append_assoc (write_container c) (write_containers s) (write_containers t)))

last : (c : List ℕ) → write_containers (c ∷ []) ≡ write_container c
unfolding write_containers
last c = append-nil (write_container c)

pub cells-more : (l : List ℕ) (k : ℕ)
    → write_containers (map (cut l) (from 0 (k + 1)))
    ≡ write_containers (map (cut l) (from 0 k)) ++ write_container (cut l k)
cells-more l k =
    ap (λ (s : List ℕ). write_containers (map (cut l) s))
    (from-cat 0 k 1 ∙ ap (λ (m : List ℕ). from 0 k ++ m) (one_more (0 + k) k (zero-add k)))
    ∙ ap write_containers (map-cat (cut l) (from 0 k) (k ∷ [])) ∙ containers-cat (map (cut l) (from 0 k)) (cut l k ∷ [])
    ∙ ap (λ (s : List ℕ). write_containers (map (cut l) (from 0 k)) ++ s) (last (cut l k))
  where
    one_more : (a k : ℕ) → a ≡ k → from a 1 ≡ k ∷ []
    one_more a k e = rw (from_cons a 0, from-none (suc a), e)

pub no_cells : (l : List ℕ) → [] ≡ write_containers (map (cut l) (from 0 0))
unfolding write_containers
no_cells l = rw (from-none 0)

-- empty containers at the end take no bytes
pub cells-trim : (l : List ℕ) (m j : ℕ) → ((k : ℕ) → m ≤ k → k < m + j → length (cut l k) ≡ 0)
    → write_containers (map (cut l) (from 0 (m + j))) ≡ write_containers (map (cut l) (from 0 m))
cells-trim l m zero h = rw (add-zero m)
cells-trim l m (suc j) h =
    let e : m + suc j ≡ m + j + 1 = omega arith in
    rw e (cells-more l (m + j)
    ∙ rw (empty-bytes (cut l (m + j)) (h (m + j) (omega arith) (omega arith)))
    (append-nil (write_containers (map (cut l) (from 0 (m + j)))) ∙ cells-trim l m j (λ k p q. h k p (omega arith))))

-- ---- where descriptors can be trimmed
pub trims : (ds : List ℕ) (n : ℕ) → (m : ℕ) × Trimmed ds n m
trims ds zero = (
  0,
  record { within = omega arith; zeros = λ k h g. absurd (omega arith); last = λ h. absurd (omega arith) },
)
trims ds (suc n) = ⊎_elim some (none (trims ds n)) (below_or 0 (get_or ds n 0))
  where
    some : 0 < get_or ds n 0 → (m : ℕ) × Trimmed ds (suc n) m
    some p = (
      suc n,
      record {
        within = omega arith;
        zeros = λ k h g. absurd (omega arith);
        last = λ h q. let e : suc n - 1 ≡ n = omega arith in absurd (omega (arith, rw e at q));
      },
    )

    none : (m : ℕ) × Trimmed ds n m → get_or ds n 0 ≤ 0 → (m : ℕ) × Trimmed ds (suc n) m
    none r p = (
      r.0,
      record {
        within = omega (arith, r.1.within);
        zeros = λ k h g. ⊎_elim (λ b. r.1.zeros k h b) (λ b. let e : n ≡ k = omega arith in rw (← e) (omega arith))
            (below_or k n);
        last = r.1.last;
      },
    )

-- ---- a set whose members all lie in the first n containers, whose descriptors are the first n of ds
module _ (l : List ℕ) (n : ℕ) (set : IsSet l) (most : n ≤ 8192) (far : (z : ℕ) → n * 256 ≤ z → mem z l ≡ false)
    (ds : List ℕ) (first : take n ds ≡ descs_to l n) (m : ℕ) (t : Trimmed ds n m) where
  entry : (k : ℕ) → k < n → get_or ds k 0 ≡ descriptor_of (cut l k)
  entry k h = sym (get_or-take n ds k 0 h) ∙ ap (λ (s : List ℕ). get_or s k 0) first ∙ desc-at l n k h

  beyond : (z : ℕ) → m * 256 ≤ z → mem z l ≡ false
  beyond z h = ⊎_elim
      (λ b. empty-cell l (z / 256) z
      (desc-zero _ (sym (entry (z / 256) (omega arith)) ∙ t.zeros (z / 256) (omega arith) (omega arith))) (omega arith)
      (omega arith))
      (λ b. far z b) (below_or z (n * 256))

  count : m ≡ count_of l
  count = ⊎_elim
      (λ b. let w = some-cell l (m - 1) (λ q. t.last b (entry (m - 1) (omega (arith, t.within)) ∙ zero-desc _ q)) in
      count-some l m w.0 b beyond w.1 w.2)
      (λ b. let e : m ≡ 0 = omega arith in e ∙ count_none l (λ z. beyond z (omega arith))) (below_or 0 m)

  whole : keep (λ z. mem z l) (from 0 (n * 256)) ≡ l
  whole =
      ext 2097152 0 _ l (rising-keep (λ z. mem z l) 2097152 0 (n * 256) (omega (arith, most))) set
      (λ z. ⊎_elim (λ b. mem-keep (λ z. mem z l) 0 (n * 256) z (omega arith) (omega arith))
      (λ b. mem-high (n * 256) 0 _ z (rising-keep (λ z. mem z l) (n * 256) 0 (n * 256) (omega arith)) b ∙ sym (far z b))
      (below_or z (n * 256)))

  left : take m ds ≡ descs_to l m
  left = sym (take-take m n ds t.within) ∙ ap (take m) first ∙ descs-take l n m t.within

  pub trim-long : length (take m ds) ≡ m
  trim-long = ap length left ∙ desc-length l m

  -- and the bytes
  pub trim-bytes : write_containers (map (cut l) (from 0 n))
      ≡ write_containers (map (cut l) (from 0 (length (take m ds))))
  trim-bytes =
      let e : n ≡ m + (n - m) = omega (arith, t.within) in
      ap (λ (k : ℕ). write_containers (map (cut l) (from 0 k))) e
      ∙ cells-trim l m (n - m) (λ k p q. desc-zero _ (sym (entry k (omega arith)) ∙ t.zeros k p (omega arith)))
      ∙ rw trim-long

  pub trim-describes : (card : ℕ) → card ≡ length (keep (λ z. mem z l) (from 0 (n * 256)))
      → Describes l (length (take m ds)) card (take m ds)
  trim-describes card e = record {
    is_set = set;
    count = trim-long ∙ count;
    cardinality = e ∙ ap length whole;
    descs = left ∙ ap (descs_to l) (sym trim-long);
  }
