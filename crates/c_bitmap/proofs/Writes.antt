-- A writing call whose answer is handed on keeps its record. Assumes nothing.
use mathlib.Core.Path.{◌≡◌}
use mathlib.Core.List.{List}
use Prim.Native.Nat.{ℕ}
use Rattle.common.specs.Outcome.{Outcome, refused, found, CountCall}
use Rattle.bitmap_spec.specs.Output as output
use Rattle.bitmap_spec.specs.Output.{Gives, length_of}
use Rattle.std.specs.Prelude.{Result}
use Rattle.common.specs.declared.Refusal.{Refusal}
use Rattle.common.specs.Refusal.{outcome}
use Rattle.c_bitmap.specs.Writing.{WriteCall}

pub answered : (o : Outcome (List ℕ)) (before rest : List ℕ) (w : Result ℕ Refusal) (r was now : ℕ)
    → Gives o before rest w → CountCall (outcome w) r was now → WriteCall o r before rest was now
unfolding length_of
answered o before rest w r was now g a = go o (rw (← g.says) a) g.holds
  where
    go : (o : Outcome (List ℕ)) → CountCall (length_of o) r was now → rest ≡ output.after o before
        → WriteCall o r before rest was now
    go (refused n) a h = record { says = a.says; holds = h; gives = a.holds }
    go (found l) a h = record { says = a.says; holds = h; gives = a.holds }
