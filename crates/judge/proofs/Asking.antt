-- A judged bitmap's set, and what asking it gives.
-- Assumes nothing.
use mathlib.Core.Path.{◌≡◌}
use mathlib.Core.List.{List}
use Prim.Native.Nat.{ℕ}
use native.Mathlib.Nat.{le_refl}
use lib.ListN.{length, take}
use lib.Seq.{length-take-le, take-take}
use Rattle.std.specs.Prelude.{Result, Ok, Err}
use Rattle.common.specs.Outcome.{then, found}
use Rattle.common.specs.declared.Refusal.{Refusal}
use Rattle.common.specs.Refusal.{outcome}
use Rattle.bitmap_spec.specs.Judge.{judge}
use Rattle.judge.specs.Post.{SliceView, viewed}
use Rattle.judge.specs.Asking.{members, Asked}
use Rattle.judge.specs.declared.set.Set.{Set}

-- a view of the first n descriptors is one of them alone
module _ (s d : List ℕ) (n start : ℕ) (l : List ℕ) (v : SliceView s d n start l) where
  pub cut-length : length (take n d) ≡ n
  cut-length = length-take-le n d v.long

  pub cut-viewed : viewed s (take n d) (length (take n d)) start ≡ l
  unfolding viewed
  cut-viewed = rw (cut-length, take-take n n d (le_refl n)) v.members

  pub cut-view : SliceView s (take n d) (length (take n d)) start (viewed s (take n d) (length (take n d)) start)
  cut-view =
      let same = take-take n n d (le_refl n) in
      rw cut-viewed (rw cut-length
      (record {
        few = v.few;
        long = rw cut-length (le_refl n);
        ends = rw same v.ends;
        sound = rw same v.sound;
        members = rw same v.members;
      }))

-- an answer that is a function of the members is the question's outcome
pub asked : {A : Type 0} (Holds : Set → A → Type 0) (f : List ℕ → A) (s : List ℕ) (r : Result A Refusal)
    → ((set : Set) (a : A) → Holds set a → a ≡ f (members set)) → Asked Holds s r
    → outcome r ≡ then (judge s) (λ l. found (f l))
asked Holds f s (Err r) says e = rw e
asked Holds f s (Ok a) says (set, e, h) = rw (e, says set a h)
