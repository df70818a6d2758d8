-- Plans of one operation whose order and grouping do not matter: the bitmaps used, each as often, decide the bytes.
-- Assumes nothing.
use mathlib.Core.Path.{◌≡◌, refl, sym, ap, ap₂, ◌∙◌}
use mathlib.Core.Bool.{Bool, true, false}
use mathlib.Core.List.{List, [], ◌∷◌, ◌++◌}
use Prim.Native.Nat.{ℕ, ◌+◌, ◌<◌}
use native.Mathlib.Omega.{arith}
use native.Mathlib.Nat.{add-zero}
use borrow.Author.Tests.{eq-eqb, eqb-true}
use lib.Dec.{eqb}
use Rattle.common.proofs.Lists.{both_left, both_right}
use Rattle.common.specs.Lists.{mem}
use Rattle.common.specs.Outcome.{Outcome, refused, found, pick, one}
use Rattle.bitmap_spec.specs.Judge.{judge}
use Rattle.bitmap_spec.specs.Plan.{Plan, call, Input, bitmap, wrote, Ran, wrote_bytes, member, member_in, run}
use Rattle.bitmap_spec.specs.Sets.{holds}
use Rattle.bitmap_spec.specs.declared.Operation.{Operation}
use Rattle.bitmap_spec.specs.declared.Operation.TheVariants.{Union, Intersection, Difference, SymmetricDifference}
use Rattle.bitmap_laws.proofs.Plans.{same_bytes}
use Rattle.bitmap_laws.specs.Claim.{same, uses, uses_in, Only, OnlyIn, Free, by-union, by-intersection, by-either}

same_refl : (a : List ℕ) → same a a ≡ true
unfolding same
same_refl [] = refl
same_refl (x ∷ xs) = rw (eq-eqb x x refl) (same_refl xs)

same_true : (a b : List ℕ) → same a b ≡ true → a ≡ b
unfolding same
same_true [] [] e = refl
same_true [] (y ∷ ys) e = absurd (let z : ◌≡◌ {A = ℕ} 0 1 = cc in omega arith)
same_true (x ∷ xs) [] e = absurd (let z : ◌≡◌ {A = ℕ} 0 1 = cc in omega arith)
same_true (x ∷ xs) (y ∷ ys) e = ap₂ (λ (u : ℕ) (v : List ℕ). u ∷ v) (eqb-true x y (both_left (eqb x y) _ e)) (same_true xs ys (both_right (eqb x y) _ e))

-- ---- a list of bitmaps, counted and folded
unfoldable count : List ℕ → List (List ℕ) → ℕ
count b [] = 0
count b (c ∷ cs) = one (same b c) + count b cs

unfoldable remove : List ℕ → List (List ℕ) → List (List ℕ)
remove b [] = []
remove b (c ∷ cs) = pick (same b c) cs (c ∷ remove b cs)

unfoldable unit : Operation → Bool
unit Union = false
unit Intersection = true
unit Difference = false
unit SymmetricDifference = false

unfoldable fold : Operation → (List ℕ → Bool) → List (List ℕ) → Bool
fold o f [] = unit o
fold o f (b ∷ bs) = holds o (f b) (fold o f bs)

assoc : {o : Operation} → Free o → (x y z : Bool) → holds o (holds o x y) z ≡ holds o x (holds o y z)
assoc by-union true y z = refl
assoc by-union false y z = refl
assoc by-intersection true y z = refl
assoc by-intersection false y z = refl
assoc by-either true true true = refl
assoc by-either true true false = refl
assoc by-either true false z = refl
assoc by-either false y z = refl

comm : {o : Operation} → Free o → (x y : Bool) → holds o x y ≡ holds o y x
comm by-union true true = refl
comm by-union true false = refl
comm by-union false true = refl
comm by-union false false = refl
comm by-intersection true true = refl
comm by-intersection true false = refl
comm by-intersection false true = refl
comm by-intersection false false = refl
comm by-either true true = refl
comm by-either true false = refl
comm by-either false true = refl
comm by-either false false = refl

unit_left : {o : Operation} → Free o → (x : Bool) → holds o (unit o) x ≡ x
unfolding unit
unit_left by-union x = refl
unit_left by-intersection x = refl
unit_left by-either x = refl

module _ {o : Operation} (free : Free o) (f : List ℕ → Bool) where
  fold-cat : (a b : List (List ℕ)) → fold o f (a ++ b) ≡ holds o (fold o f a) (fold o f b)
  unfolding fold
  fold-cat [] b = sym (unit_left free (fold o f b))
  fold-cat (c ∷ cs) b = ap (λ (x : Bool). holds o (f c) x) (fold-cat cs b) ∙ sym (assoc free (f c) (fold o f cs) (fold o f b))

  fold-remove : (b : List ℕ) (cs : List (List ℕ)) → 0 < count b cs → fold o f cs ≡ holds o (f b) (fold o f (remove b cs))
  unfolding fold count remove
  fold-remove b [] h = absurd (omega arith)
  fold-remove b (c ∷ cs) h = go (same b c) refl h (λ g. fold-remove b cs g)
    where
      go : (t : Bool) → same b c ≡ t → 0 < one t + count b cs → (0 < count b cs → fold o f cs ≡ holds o (f b) (fold o f (remove b cs))) → holds o (f c) (fold o f cs) ≡ holds o (f b) (fold o f (pick t cs (c ∷ remove b cs)))
      go true e g ih = ap (λ (z : List ℕ). holds o (f z) (fold o f cs)) (sym (same_true b c e))
      go false e g ih =
          ap (λ (x : Bool). holds o (f c) x) (ih (omega arith))
          ∙ sym (assoc free (f c) (f b) (fold o f (remove b cs)))
          ∙ ap (λ (x : Bool). holds o x (fold o f (remove b cs))) (comm free (f c) (f b))
          ∙ assoc free (f b) (f c) (fold o f (remove b cs))

count-remove : (b d : List ℕ) (cs : List (List ℕ)) → 0 < count b cs → count d cs ≡ one (same d b) + count d (remove b cs)
unfolding count remove
count-remove b d [] h = absurd (omega arith)
count-remove b d (c ∷ cs) h = go (same b c) refl h (λ g. count-remove b d cs g)
  where
    go : (t : Bool) → same b c ≡ t → 0 < one t + count b cs → (0 < count b cs → count d cs ≡ one (same d b) + count d (remove b cs)) → one (same d c) + count d cs ≡ one (same d b) + count d (pick t cs (c ∷ remove b cs))
    go true e g ih = ap (λ (z : List ℕ). one (same d z) + count d cs) (sym (same_true b c e))
    go false e g ih = omega (arith, ih (omega arith))

module _ {o : Operation} (free : Free o) (f : List ℕ → Bool) where
  fold_same : (l m : List (List ℕ)) → ((b : List ℕ) → count b l ≡ count b m) → fold o f l ≡ fold o f m
  unfolding fold count
  fold_same [] [] h = refl
  fold_same [] (c ∷ cs) h = absurd (let z = h c in let t = ap one (same_refl c) in omega arith)
  fold_same (b ∷ bs) m h =
      let t : one (same b b) ≡ 1 = ap one (same_refl b) in
      let some : 0 < count b m = omega (arith, h b) in
      sym (fold-remove free f b m some
      ∙ ap (λ (x : Bool). holds o (f b) x) (sym (fold_same bs (remove b m) (λ d. omega (arith, h d, count-remove b d m some)))))

-- ---- the bitmaps that a plan uses
unfoldable mutual
  leaves : Plan → List (List ℕ)
  leaves (call o a b r) = leaves_in a ++ leaves_in b

  leaves_in : Input → List (List ℕ)
  leaves_in (bitmap bytes set e) = bytes ∷ []
  leaves_in (wrote p) = leaves p

count-cat : (b : List ℕ) (l m : List (List ℕ)) → count b (l ++ m) ≡ count b l + count b m
unfolding count
count-cat b [] m = omega arith
count-cat b (c ∷ cs) m = omega (arith, count-cat b cs m)

mutual
  unfolding uses uses_in leaves leaves_in count

  count-uses : (p : Plan) (b : List ℕ) → count b (leaves p) ≡ uses p b
  count-uses (call o a c r) b = count-cat b (leaves_in a) (leaves_in c) ∙ ap₂ (λ (x y : ℕ). x + y) (count-uses_in a b) (count-uses_in c b)

  count-uses_in : (a : Input) (b : List ℕ) → count b (leaves_in a) ≡ uses_in a b
  count-uses_in (bitmap bytes set e) b = add-zero (one (same b bytes))
  count-uses_in (wrote p) b = count-uses p b

-- membership in an accepted bitmap, from its bytes
unfoldable accepts : ℕ → Outcome (List ℕ) → Bool
accepts x (refused n) = false
accepts x (found l) = mem x l

module _ {o : Operation} (free : Free o) (x : ℕ) where
  mutual
    unfolding member member_in Only OnlyIn leaves leaves_in fold accepts

    member-fold : (p : Plan) → Only o p → member p x ≡ fold o (λ b. accepts x (judge b)) (leaves p)
    member-fold (call o' a c r) h =
        rw (h.0, member_in-fold a h.1, member_in-fold c h.2) (sym (fold-cat free (λ b. accepts x (judge b)) (leaves_in a) (leaves_in c)))

    member_in-fold : (a : Input) → OnlyIn o a → member_in a x ≡ fold o (λ b. accepts x (judge b)) (leaves_in a)
    member_in-fold (bitmap bytes set e) h = rw e (sym (comm free (mem x set) (unit o) ∙ unit_left free (mem x set)))
    member_in-fold (wrote p) h = member-fold p h

-- plans of Union alone, of Intersection alone, or of either-but-not-both alone that use the same bitmaps equally often write the same bytes
pub same-uses : {o : Operation} → Free o → (p q : Plan) (r t : Ran) → Only o p → Only o q → ((b : List ℕ) → uses p b ≡ uses q b) → run p ≡ found r → run q ≡ found t → wrote_bytes r ≡ wrote_bytes t
same-uses {o} free p q r t hp hq h e f =
    same_bytes p q r t e f (λ x. member-fold free x p hp
    ∙ fold_same free (λ b. accepts x (judge b)) (leaves p) (leaves q) (λ b. count-uses p b ∙ h b ∙ sym (count-uses q b))
    ∙ sym (member-fold free x q hq))
