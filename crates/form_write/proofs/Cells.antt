-- The containers of a set, one by one: how many there are, their descriptors, their members and their bytes.
-- Assumes nothing.
use mathlib.Core.Path.{◌≡◌, refl, sym, ap, ◌∙◌}
use mathlib.Core.Logic.{⊎_elim}
use mathlib.Core.Bool.{Bool, true, false}
use mathlib.Core.List.{List, [], ◌∷◌, ◌++◌, map}
use Prim.Native.Nat.{ℕ, suc, ◌+◌, ◌-◌, ◌*◌, ◌≤◌, ◌<◌, min, max}
use native.Mathlib.Nat.{zero-add}
use native.Mathlib.Numerals.{add-one}
use native.Mathlib.Omega.{arith}
use lib.ListN.{length, set, length-append, length-map}
use Rattle.common.specs.Lists.{keep, from, mem}
use Rattle.bitmap_spec.proofs.Window.{below_or}
use Rattle.bitmap_spec.specs.Form.{cut, count_of, largest, descriptor_of, write_container, write_containers}
use Rattle.bitmap_spec.specs.Output.{written}
use Rattle.form_write.specs.Described.{descs_to}
use Rattle.chunk_write.proofs.Laying.{mem-here, mem-later}
use Rattle.bitmap_laws.proofs.Output.{Along, along-room, along-length, written-more, written_none}
use Rattle.bitmap_laws.proofs.Cuts.{length_from, from-cat, from_cons, from-none, cut-shift, two_runs}
use Rattle.bitmap_laws.proofs.Cuts.{cut_up}
use Rattle.bitmap_laws.proofs.Members.{mem-keep, mem-high, mem-large, mem-head}
use Rattle.bitmap_laws.proofs.Rise.{rising-length}

not-both : (b : Bool) → b ≡ true → b ≡ false → ⊥
not-both b p q = let z : ◌≡◌ {A = ℕ} 0 1 = cc in omega arith

pub cut-few : (l : List ℕ) (k : ℕ) → length (cut l k) ≤ 256
cut-few l k = omega (arith, rising-length 256 0 (cut l k) (omega arith) (cut_up l k))

mem-cut : (l : List ℕ) (k j : ℕ) → j < 256 → mem j (cut l k) ≡ mem (k * 256 + j) l
unfolding cut
mem-cut l k j h = mem-keep (λ j. mem (k * 256 + j) l) 0 256 j (omega arith) (omega arith)

-- ---- how many containers
empty-mem : (c : List ℕ) (j : ℕ) → length c ≡ 0 → mem j c ≡ false
unfolding mem
empty-mem [] j e = refl
empty-mem (x ∷ xs) j e = absurd (omega arith)

some-mem : (c : List ℕ) → (length c ≡ 0 → ⊥) → (j : ℕ) × (mem j c ≡ true)
some-mem [] h = absurd (h refl)
some-mem (x ∷ xs) h = (x, mem-head x xs)

pub empty-cell : (l : List ℕ) (k z : ℕ) → length (cut l k) ≡ 0 → k * 256 ≤ z → z < k * 256 + 256 → mem z l ≡ false
empty-cell l k z e h g =
    let q : k * 256 + (z - k * 256) ≡ z = omega arith in
    ap (λ (p : ℕ). mem p l) (sym q) ∙ sym (mem-cut l k (z - k * 256) (omega arith))
    ∙ empty-mem (cut l k) (z - k * 256) e

pub some-cell : (l : List ℕ) (k : ℕ) → (length (cut l k) ≡ 0 → ⊥) → (z : ℕ) × (k * 256 ≤ z) × (mem z l ≡ true)
some-cell l k h =
    let s = some-mem (cut l k) h in
    let lt : s.0 < 256 = ⊎_elim (λ a. a)
    (λ a.
    absurd
    (not-both (mem s.0 (cut l k)) s.1
    (mem-high 256 0 (cut l k) s.0 (cut_up l k) a)))
    (below_or s.0 256) in
    (k * 256 + s.0, omega arith, sym (mem-cut l k s.0 lt) ∙ s.1)

largest-mem : (x : ℕ) (xs : List ℕ) → mem (largest (x ∷ xs)) (x ∷ xs) ≡ true
unfolding largest
largest-mem x [] = mem-here (max x 0) x [] (omega arith)
largest-mem x (y ∷ ys) = ⊎_elim
    (λ l.
    let e : max x (max y (largest ys)) ≡ max y (largest ys) = omega arith in rw e
    (mem-later (max y (largest ys)) x (y ∷ ys) (largest-mem y ys)))
    (λ l. mem-here (max x (max y (largest ys))) x (y ∷ ys) (omega arith)) (below_or x (max y (largest ys)))

pub count_none : (l : List ℕ) → ((z : ℕ) → mem z l ≡ false) → 0 ≡ count_of l
unfolding count_of
count_none [] h = refl
count_none (x ∷ xs) h = absurd (not-both (mem x (x ∷ xs)) (mem-head x xs) (h x))

pub count-some : (l : List ℕ) (n z : ℕ) → 0 < n → ((y : ℕ) → n * 256 ≤ y → mem y l ≡ false) → (n - 1) * 256 ≤ z
    → mem z l ≡ true → n ≡ count_of l
unfolding count_of
count-some [] n z p h g m = absurd (not-both (mem z []) m (empty-mem [] z refl))
count-some (x ∷ xs) n z p h g m =
    let lo : z ≤ largest (x ∷ xs) = ⊎_elim (λ a. absurd (not-both (mem z (x ∷ xs)) m (mem-large (x ∷ xs) z a))) (λ a. a)
    (below_or (largest (x ∷ xs)) z) in
    let hi : largest (x ∷ xs) < n * 256 = ⊎_elim (λ a. a)
    (λ a.
    absurd
    (not-both (mem (largest (x ∷ xs)) (x ∷ xs)) (largest-mem x xs)
    (h (largest (x ∷ xs)) a)))
    (below_or (largest (x ∷ xs)) (n * 256)) in
    omega arith

pub trim-turn : (l : List ℕ) (n : ℕ) → 0 < n → ((y : ℕ) → n * 256 ≤ y → mem y l ≡ false) → length (cut l (n - 1)) ≡ 0
    → (y : ℕ) → (n - 1) * 256 ≤ y → mem y l ≡ false
trim-turn l n p h e y g = ⊎_elim (λ a. empty-cell l (n - 1) y e g (omega arith)) (λ a. h y a) (below_or y (n * 256))

-- ---- descriptors and members, one container more
pub desc-more : (l : List ℕ) (k : ℕ) → descs_to l (k + 1) ≡ descs_to l k ++ (descriptor_of (cut l k) ∷ [])
unfolding descs_to
desc-more l k =
    ap (λ (s : List ℕ). map descriptor_of (map (cut l) s)) (from-cat 0 k 1) ∙ cat (from 0 k)
    ∙ ap (λ (t : List ℕ). descs_to l k ++ t) (one_more (0 + k) k (zero-add k))
  where
    cat : (s : List ℕ)
        → map descriptor_of (map (cut l) (s ++ from (0 + k) 1))
        ≡ map descriptor_of (map (cut l) s) ++ map descriptor_of (map (cut l) (from (0 + k) 1))
    cat [] = refl
    cat (x ∷ xs) = ap (λ (t : List ℕ). descriptor_of (cut l x) ∷ t) (cat xs)

    one_more : (a k : ℕ) → a ≡ k → map descriptor_of (map (cut l) (from a 1)) ≡ descriptor_of (cut l k) ∷ []
    one_more a k e = rw (from_cons a 0, from-none (suc a), e)

pub desc-length : (l : List ℕ) (k : ℕ) → length (descs_to l k) ≡ k
unfolding descs_to
desc-length l k = length-map (map (cut l) (from 0 k)) descriptor_of ∙ length-map (from 0 k) (cut l) ∙ length_from 0 k

pub card-more : (l : List ℕ) (k : ℕ)
    → length (keep (λ x. mem x l) (from 0 ((k + 1) * 256)))
    ≡ length (keep (λ x. mem x l) (from 0 (k * 256))) + length (cut l k)
card-more l k =
    let e : (k + 1) * 256 ≡ k * 256 + 256 = omega arith in
    rw e
    (ap length (two_runs (λ x. mem x l) 0 (k * 256) 256)
    ∙ length-append (keep (λ x. mem x l) (from 0 (k * 256))) (keep (λ x. mem x l) (from (0 + k * 256) 256))
    ∙ ap (λ (n : ℕ). length (keep (λ x. mem x l) (from 0 (k * 256))) + n)
    (rw (zero-add (k * 256), ← cut-shift l k) (length-map (cut l k) (λ j. k * 256 + j))))

pub desc-turn : (l before out : List ℕ) (k t c : ℕ) → k < length before → c ≡ length (cut l k) → t ≡ min c 32
    → out ≡ written before 0 (descs_to l k)
    → set out k t ≡ written before 0 (descs_to l (k + 1))
unfolding descriptor_of
desc-turn l before out k t c h e g q =
    let n = desc-length l k in
    let v : t ≡ min (length (cut l k)) 32 = g ∙ rw e in
    let m : set (written before 0 (descs_to l k)) (0 + length (descs_to l k)) t
    ≡ written before 0 (descs_to l k ++ (t ∷ [])) =
    written-more before (descs_to l k) 0 t (omega (arith, n)) in
    let i : 0 + length (descs_to l k) ≡ k = omega (arith, n) in
    ap (λ (o : List ℕ). set o k t) q ∙ (rw i at m)
    ∙ ap (λ (s : List ℕ). written before 0 s) (ap (λ (x : ℕ). descs_to l k ++ (x ∷ [])) v ∙ sym (desc-more l k))

-- ---- all containers
pub cells-step : (l : List ℕ) (k n : ℕ) → k < n
    → write_containers (map (cut l) (from k (n - k)))
    ≡ write_container (cut l k) ++ write_containers (map (cut l) (from (k + 1) (n - (k + 1))))
unfolding write_containers
cells-step l k n h =
    let e : n - k ≡ suc (n - (k + 1)) = omega arith in
    rw (e, from_cons k (n - (k + 1)), add-one k)

pub cells-none : (l : List ℕ) (k n : ℕ) → n ≤ k → write_containers (map (cut l) (from k (n - k))) ≡ []
unfolding write_containers
cells-none l k n h =
    let e : n - k ≡ 0 = omega arith in
    rw (e, from-none k)

pub no-members : (l : List ℕ) → 0 ≡ length (keep (λ x. mem x l) (from 0 0))
unfolding keep from
no-members l = refl

pub no-descs : (l before : List ℕ) → before ≡ written before 0 (descs_to l 0)
unfolding descs_to
no-descs l before = rw (from-none 0) (written_none before 0)

pub cell_room : {before out : List ℕ} {at t : ℕ} {all : List ℕ} (l : List ℕ) (k n : ℕ)
    → Along before out at t (write_containers (map (cut l) (from k (n - k)))) all → at + length all ≤ length before
    → k < n
    → at + t + length (write_container (cut l k)) ≤ length out
cell_room l k n a room h =
    omega (
      arith,
      along-room a,
      along-length a room,
      ap length (cells-step l k n h),
      length-append (write_container (cut l k)) (write_containers (map (cut l) (from (k + 1) (n - (k + 1))))),
    )

pub cells-all : (l : List ℕ) (n : ℕ)
    → write_containers (map (cut l) (from 0 (n - 0))) ≡ write_containers (map (cut l) (from 0 n))
cells-all l n = let e : n - 0 ≡ n = omega arith in rw e
