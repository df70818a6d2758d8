-- A sparse container's members tested one by one by the bits of another: those of the pair, where the operation keeps
-- no member that is not in the first.
-- Assumes nothing.
use mathlib.Core.Path.{◌≡◌, refl, sym, ap, ◌∙◌}
use mathlib.Core.Bool.{Bool, true, false, not}
use mathlib.Core.List.{List, [], ◌∷◌, ◌++◌, append_assoc, append-nil}
use Prim.Native.Nat.{ℕ, suc, ◌+◌, ◌-◌, ◌*◌, ◌/◌, ◌%◌, ◌^◌, ◌≤◌, ◌<◌}
use native.Mathlib.Nat.{add-zero}
use native.Mathlib.Numerals.{add-one}
use native.Mathlib.Omega.{arith}
use mathlib.Core.Logic.{⊎_elim}
use mir.Val.{bool_byte}
use lib.Dec.{eqb}
use lib.ListN.{length, length-append, get_or, set, take, drop, length-drop}
use lib.Seq.{take-suc, take-suc-set, take-set-le, get_or-drop}
use Rattle.common.specs.Lists.{keep, from, mem}
use Rattle.common.specs.Outcome.{pick}
use Rattle.bitmap_spec.specs.Bits.{bit}
use Rattle.bitmap_spec.specs.Judge.{container, container_ok, dense}
use Rattle.bitmap_spec.specs.Form.{write_container}
use Rattle.bitmap_spec.specs.Sets.{holds}
use Rattle.bitmap_spec.specs.declared.Operation.{Operation}
use Rattle.bitmap_spec.specs.declared.Operation.TheVariants.{Union, Intersection, Difference, SymmetricDifference}
use Rattle.bitmap_spec.proofs.Window.{below_or}
use Rattle.bitmap_laws.proofs.Containers.{keep_same, picked}
use Rattle.bitmap_laws.proofs.Cuts.{keep_append}
use Rattle.bitmap_laws.proofs.Members.{mem-keep}
use Rattle.bitmap_laws.proofs.Stored.{short}
use Rattle.bitmap_read.proofs.Containers.{container-up, sparse-is}
use Rattle.pair_write.specs.Sides.{pair_holds, pair_members, want_of, kept}
use Rattle.pair_write.proofs.Alone.{second-lost}

true-false : true ≡ false → ⊥
true-false e = let z : ◌≡◌ {A = ℕ} 0 1 = cc in omega arith

-- ---- one member more
pub byte_le : (b : Bool) → bool_byte b ≤ 1
byte_le true = omega arith
byte_le false = omega arith

pub bit_at : (t : List ℕ) (start x : ℕ) → get_or t (start + x / 8) 0 / 2 ^ (7 - x % 8 % 8) % 2 ≡ bit t (start * 8 + x)
unfolding bit
bit_at t start x =
    let p : (start * 8 + x) / 8 ≡ start + x / 8 = omega arith in
    let q : (start * 8 + x) % 8 ≡ x % 8 % 8 = omega arith in
    sym (rw (p, q))

keep_one : (f : ℕ → Bool) (x : ℕ) → keep f (x ∷ []) ≡ pick (f x) (x ∷ []) []
unfolding keep
keep_one f x = refl

kept_next : (s : List ℕ) (at i : ℕ) (t : List ℕ) (start want : ℕ) → at + i < length s
    → kept s at (i + 1) t start want
    ≡ kept s at i t start want
    ++ pick (eqb (bit t (start * 8 + get_or s (at + i) 0)) want) (get_or s (at + i) 0 ∷ []) []
unfolding kept
kept_next s at i t start want h =
    let l : i < length (drop at s) = rw (length-drop at s) (omega arith) in
    rw (
      add-one i,
      take-suc (drop at s) i 0 l,
      get_or-drop at s i 0,
      keep_append (λ x. eqb (bit t (start * 8 + x)) want) (take i (drop at s)) (get_or s (at + i) 0 ∷ []),
    )
    (ap (λ (z : List ℕ). keep (λ x. eqb (bit t (start * 8 + x)) want) (take i (drop at s)) ++ z)
    (keep_one (λ x. eqb (bit t (start * 8 + x)) want) (get_or s (at + i) 0)))

kept-none : (s : List ℕ) (at : ℕ) (t : List ℕ) (start want : ℕ) → kept s at 0 t start want ≡ []
unfolding kept keep
kept-none s at t start want = refl

pub kept-start : (s : List ℕ) (at : ℕ) (t : List ℕ) (start want : ℕ) (before : List ℕ) (to : ℕ)
    → (0 ≡ length (kept s at 0 t start want)) × (take (to + 0) before ≡ take to before ++ kept s at 0 t start want)
kept-start s at t start want before to =
    rw (kept-none s at t start want, add-zero to, append-nil (take to before)) (refl, refl)

module _ (k before out : List ℕ) (to m x : ℕ) (em : m ≡ length k) (q : take (to + m) out ≡ take to before ++ k)
    (h : to + m < length out) where
  put_one : (b : Bool)
      → (m + bool_byte b ≡ length (k ++ pick b (x ∷ []) []))
      × (take (to + (m + bool_byte b)) (set out (to + m) x) ≡ take to before ++ (k ++ pick b (x ∷ []) []))
  put_one true =
      let e : to + (m + 1) ≡ suc (to + m) = omega arith in (
        omega (arith, length-append k (x ∷ [])),
        rw (e, take-suc-set out (to + m) x h, q) (append_assoc (take to before) k (x ∷ [])),
      )
  put_one false =
      let e : m + 0 ≡ m = omega arith in
      rw (e, append-nil k, take-set-le (to + m) out (to + m) x (omega arith)) (em, q)

pub filter-turn : (s : List ℕ) (at i : ℕ) (t : List ℕ) (start want : ℕ) (before out : List ℕ) (to m x z : ℕ)
    → at + i < length s → x ≡ get_or s (at + i) 0 → z ≡ bit t (start * 8 + x) → to + m < length out
    → m ≡ length (kept s at i t start want) → take (to + m) out ≡ take to before ++ kept s at i t start want
    → (m + bool_byte (eqb z want) ≡ length (kept s at (i + 1) t start want))
    × (take (to + (m + bool_byte (eqb z want))) (set out (to + m) x)
    ≡ take to before ++ kept s at (i + 1) t start want)
filter-turn s at i t start want before out to m x z h ex ez l em q =
    rw (kept_next s at i t start want h, ← ex, ← ez)
    (put_one (kept s at i t start want) before out to m x em q l (eqb z want))

-- ---- the members of the pair
pub keep-keep : (f g : ℕ → Bool) (l : List ℕ) → keep f (keep g l) ≡ keep (λ j. pick (g j) (f j) false) l
unfolding keep
keep-keep f g [] = refl
keep-keep f g (x ∷ xs) = go (g x) (keep-keep f g xs)
  where
    go : (b : Bool) → keep f (keep g xs) ≡ keep (λ j. pick (g j) (f j) false) xs
        → keep f (pick b (x ∷ keep g xs) (keep g xs))
        ≡ pick (pick b (f x) false) (x ∷ keep (λ j. pick (g j) (f j) false) xs)
        (keep (λ j. pick (g j) (f j) false) xs)
    go true ih = rw ih
    go false ih = ih

two-bits : (b : ℕ) → b < 2 → eqb b 0 ≡ not (eqb b 1)
two-bits b h =
    ⊎_elim (λ l. let e : b ≡ 0 = omega arith in rw e) (λ l. let e : b ≡ 1 = omega arith in rw e) (below_or b 1)

bit-small : (t : List ℕ) (p : ℕ) → bit t p < 2
unfolding bit
bit-small t p = omega arith

want_is : (o : Operation) (b : ℕ) → b < 2 → holds o false true ≡ false → eqb b (want_of o) ≡ holds o true (eqb b 1)
want_is Union b h e = let z : ◌≡◌ {A = ℕ} 0 1 = cc in absurd (omega arith)
want_is Intersection b h e = refl
want_is Difference b h e = two-bits b h
want_is SymmetricDifference b h e = let z : ◌≡◌ {A = ℕ} 0 1 = cc in absurd (omega arith)

pub dense-bit : (t : List ℕ) (start j : ℕ) → j < 256 → mem j (dense t start) ≡ eqb (bit t (start * 8 + j)) 1
unfolding dense
dense-bit t start j h = mem-keep (λ j. eqb (bit t (start * 8 + j)) 1) 0 256 j (omega arith) (omega arith)

pick-holds : (o : Operation) (s t u : Bool) → holds o false true ≡ false → u ≡ holds o true t
    → pick s u false ≡ holds o s t
pick-holds o true t u h e = e
pick-holds o false t u h e = sym (second-lost o t h)

pub filtered : (o : Operation) (a : List ℕ) (at d : ℕ) (b : List ℕ) (bt e : ℕ) (t : List ℕ) (start : ℕ) → d < 32
    → container_ok a at d ≡ true → holds o false true ≡ false
    → ((p : ℕ) → p < 256 → mem p (dense t start) ≡ mem p (container b bt e))
    → pair_members o a at d b bt e ≡ kept a at d t start (want_of o)
unfolding pair_members pair_holds kept
filtered o a at d b bt e t start h ok ho same =
    sym (rw (sparse-is a at d h)
    (ap (keep (λ x. eqb (bit t (start * 8 + x)) (want_of o))) (sym (picked (container a at d) (container-up a at d ok)))
    ∙ keep-keep (λ x. eqb (bit t (start * 8 + x)) (want_of o)) (λ j. mem j (container a at d)) (from 0 256)
    ∙ keep_same (λ j. pick (mem j (container a at d)) (eqb (bit t (start * 8 + j)) (want_of o)) false)
    (λ j. holds o (mem j (container a at d)) (mem j (container b bt e))) 0 256
    (λ i l. pick-holds o (mem (0 + i) (container a at d)) (mem (0 + i) (container b bt e))
    (eqb (bit t (start * 8 + (0 + i))) (want_of o)) ho
    (want_is o (bit t (start * 8 + (0 + i))) (bit-small t (start * 8 + (0 + i))) ho
    ∙ ap (holds o true) (sym (dense-bit t start (0 + i) (omega arith)) ∙ same (0 + i) (omega arith))))))

-- what is kept is the container
pub filtered-put : (p k before out : List ℕ) (to r n : ℕ) → p ≡ k → n < 32
    → (r ≡ length k) × (r ≤ n) × (take (to + r) out ≡ take to before ++ k)
    → (r ≡ length p) × (r ≤ 256) × (take (to + length (write_container p)) out ≡ take to before ++ write_container p)
filtered-put p k before out to r n e h q =
    let s : write_container k ≡ k = short k (omega (arith, q.0, q.1)) in
    rw (e, s, ← q.0) (refl, omega (arith, q.1), q.2)

-- ---- the sides turned
-- an operation that keeps nothing of the first alone does not tell its sides apart
turned : (o : Operation) → holds o true false ≡ false → (x y : Bool) → holds o x y ≡ holds o y x
turned Union e x y = absurd (true-false e)
turned Intersection e true true = refl
turned Intersection e true false = refl
turned Intersection e false true = refl
turned Intersection e false false = refl
turned Difference e x y = absurd (true-false e)
turned SymmetricDifference e x y = absurd (true-false e)

pub turned-second : (o : Operation) → holds o true false ≡ false → holds o false true ≡ false
turned-second o e = turned o e false true ∙ e

pub turned-members : (o : Operation) → holds o true false ≡ false
    → (a : List ℕ) (at d : ℕ) (b : List ℕ) (bt e : ℕ)
    → pair_members o a at d b bt e ≡ pair_members o b bt e a at d
unfolding pair_members pair_holds
turned-members o h a at d b bt e =
    keep_same (λ j. holds o (mem j (container a at d)) (mem j (container b bt e)))
    (λ j. holds o (mem j (container b bt e)) (mem j (container a at d))) 0 256
    (λ i l. turned o h (mem (0 + i) (container a at d)) (mem (0 + i) (container b bt e)))
