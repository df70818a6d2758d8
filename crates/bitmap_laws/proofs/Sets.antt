-- The result of an operation is a set, and its members are those that the operation says: it keeps positions by their membership alone,
-- and past the last container of both sets there is none.
-- Assumes nothing.
use mathlib.Core.Path.{◌≡◌, refl, sym, ◌∙◌}
use mathlib.Core.Logic.{⊎_elim}
use mathlib.Core.Bool.{Bool, false}
use mathlib.Core.List.{List}
use Prim.Native.Nat.{ℕ, ◌*◌, ◌≤◌, ◌<◌, max}
use native.Mathlib.Omega.{arith}
use Rattle.common.specs.Lists.{keep, from, mem}
use Rattle.bitmap_spec.specs.Form.{count_of}
use Rattle.bitmap_spec.specs.Sets.{IsSet, holds, combine}
use Rattle.bitmap_spec.specs.declared.Operation.{Operation}
use Rattle.bitmap_spec.specs.declared.Operation.TheVariants.{Union, Intersection, Difference, SymmetricDifference}
use Rattle.bitmap_spec.proofs.Window.{below_or}
use Rattle.bitmap_laws.proofs.Members.{rising-keep, mem-keep, mem-high, mem-beyond}

pub neither : (o : Operation) → holds o false false ≡ false
neither Union = refl
neither Intersection = refl
neither Difference = refl
neither SymmetricDifference = refl

module _ (o : Operation) (a b : List ℕ) where
  pub mem-combine : (x : ℕ) → mem x (combine o a b) ≡ holds o (mem x a) (mem x b)
  unfolding combine
  mem-combine x = ⊎_elim low high (below_or x (max (count_of a) (count_of b) * 256))
    where
      f : ℕ → Bool
      f y = holds o (mem y a) (mem y b)

      low : x < max (count_of a) (count_of b) * 256 → mem x (keep f (from 0 (max (count_of a) (count_of b) * 256))) ≡ f x
      low h = mem-keep f 0 (max (count_of a) (count_of b) * 256) x (omega arith) (omega arith)

      high : max (count_of a) (count_of b) * 256 ≤ x → mem x (keep f (from 0 (max (count_of a) (count_of b) * 256))) ≡ f x
      high h =
          mem-high (max (count_of a) (count_of b) * 256) 0 (keep f (from 0 (max (count_of a) (count_of b) * 256))) x
          (rising-keep f (max (count_of a) (count_of b) * 256) 0 (max (count_of a) (count_of b) * 256) (omega arith)) h
          ∙ sym (rw (mem-beyond a x (omega arith), mem-beyond b x (omega arith)) (neither o))

  pub set-combine : count_of a ≤ 8192 → count_of b ≤ 8192 → IsSet (combine o a b)
  unfolding combine
  set-combine p q = rising-keep (λ y. holds o (mem y a) (mem y b)) 2097152 0 (max (count_of a) (count_of b) * 256) (omega arith)
