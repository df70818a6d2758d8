-- What is claimed of every plan, and how often a plan uses a bitmap.
use Rattle.std.specs.Prelude.{ℕ, ◌+◌, Bool, true, false, ◌≡◌, List, [], ◌∷◌, eqb, length}
use Rattle.common.specs.Outcome.{found, need, both, one}
use Rattle.common.specs.Lists.{mem}
use Rattle.bitmap_spec.specs.Judge.{judge}
use Rattle.bitmap_spec.specs.Form.{form}
use Rattle.bitmap_spec.specs.Sets.{IsSet}
use Rattle.bitmap_spec.specs.Output.{after}
use Rattle.bitmap_spec.specs.Plan.{Plan, call, Input, bitmap, wrote, Ran, set_of, member, run, fits}
use Rattle.bitmap_spec.specs.declared.Operation.{Operation}
use Rattle.bitmap_spec.specs.declared.Operation.TheVariants.{Union, Intersection, SymmetricDifference}

-- the output of the plan's last call, as it was before
unfoldable pub output_of : Plan → List ℕ
output_of (call o a b out) = out

-- what the last call gives and leaves where it writes the form of the plan's set
unfoldable pub wrote_form : Plan → Ran
wrote_form p = record { size = length (form (set_of p)); output = after (found (form (set_of p))) (output_of p) }

-- The claim: a plan's set is a set, its members are those that the operations say, its form is accepted as it, and the plan's last
-- call writes that form first in its output and leaves the rest; or the plan is refused, 13, exactly where some step has no room.
pub record Holds (p : Plan) : Type 0 where
  pub is_set : IsSet (set_of p)
  pub members : (x : ℕ) → mem x (set_of p) ≡ member p x
  pub accepted : judge (form (set_of p)) ≡ found (set_of p)
  pub gives : run p ≡ need (fits p) 13 (found (wrote_form p))

-- whether two strings of bytes are the same
unfoldable pub same : List ℕ → List ℕ → Bool
same [] [] = true
same [] (y ∷ ys) = false
same (x ∷ xs) [] = false
same (x ∷ xs) (y ∷ ys) = both (eqb x y) (same xs ys)

-- how often a plan uses the bitmap b: "an input that is an accepted bitmap uses it once; one that a smaller plan wrote uses that
-- plan's bitmaps, each as often as that plan did"
unfoldable mutual
  pub uses : Plan → List ℕ → ℕ
  uses (call o a c out) b = uses_in a b + uses_in c b

  pub uses_in : Input → List ℕ → ℕ
  uses_in (bitmap bytes set e) b = one (same b bytes)
  uses_in (wrote p) b = uses p b

-- all of a plan's steps are the operation o
unfoldable mutual
  pub Only : Operation → Plan → Type 0
  Only o (call o' a c out) = (o' ≡ o) × OnlyIn o a × OnlyIn o c

  pub OnlyIn : Operation → Input → Type 0
  OnlyIn o (bitmap bytes set e) = Unit {0}
  OnlyIn o (wrote p) = Only o p

-- the three operations whose order and grouping do not matter
pub data Free : Operation → Type 0 where
  by-union : Free Union
  by-intersection : Free Intersection
  by-either : Free SymmetricDifference
