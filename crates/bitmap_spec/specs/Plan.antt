-- Plans: combining calls over accepted bitmaps and over what smaller plans wrote.
use Rattle.std.specs.Prelude.{ℕ, Bool, true, ◌≡◌, List, length, take, leb}
use Rattle.common.specs.Outcome.{Outcome, refused, found, then, both}
use Rattle.common.specs.Lists.{mem}
use Rattle.bitmap_spec.specs.Judge.{judge}
use Rattle.bitmap_spec.specs.Form.{form}
use Rattle.bitmap_spec.specs.Sets.{holds, combine}
use Rattle.bitmap_spec.specs.Output.{called, after}
use Rattle.bitmap_spec.specs.declared.Operation.{Operation}

-- "A plan is one of these four calls, its last, and the smaller plans before it: each input of that call is an accepted bitmap
-- or what a smaller plan wrote." The last argument is the call's output as it was before: "any length", "any bytes".
mutual
  pub data Plan : Type 0 where
    call : Operation → Input → Input → (output : List ℕ) → Plan

  pub data Input : Type 0 where
    bitmap : (bytes set : List ℕ) → judge bytes ≡ found set → Input
    wrote : Plan → Input

-- "the plan's set is its last call's operation on the sets of that call's inputs"
unfoldable mutual
  pub set_of : Plan → List ℕ
  set_of (call o a b out) = combine o (in_set a) (in_set b)

  -- "an accepted bitmap's own set, or the smaller plan's"
  pub in_set : Input → List ℕ
  in_set (bitmap bytes set e) = set
  in_set (wrote p) = set_of p

-- membership in the plan's set, by the operations alone
unfoldable mutual
  pub member : Plan → ℕ → Bool
  member (call o a b out) x = holds o (member_in a x) (member_in b x)

  pub member_in : Input → ℕ → Bool
  member_in (bitmap bytes set e) x = mem x set
  member_in (wrote p) x = member p x

-- what a call that was not refused leaves behind: the length it gives, and its output
pub record Ran : Type 0 where
  pub size : ℕ
  pub output : List ℕ

-- the call's answer with its output, as the contracts of the four calls state them
unfoldable pub ran : Outcome (List ℕ) → List ℕ → Outcome Ran
ran (refused n) out = refused n
ran (found w) out = found (record { size = length w; output = after (found w) out })

-- What a smaller plan wrote: the first bytes of its output, as many as the length it gave, "unchanged since".
unfoldable pub wrote_bytes : Ran → List ℕ
wrote_bytes r = take r.size r.output

-- the calls made one after the other: "a step whose form is longer than its output is refused, 13, and ends the plan"
unfoldable mutual
  pub run : Plan → Outcome Ran
  run (call o a b out) = then (input a) (λ x. then (input b) (λ y. ran (called o x y (length out)) out))

  pub input : Input → Outcome (List ℕ)
  input (bitmap bytes set e) = found bytes
  input (wrote p) = then (run p) (λ r. found (wrote_bytes r))

-- whether each step has room: its form is no longer than its output
unfoldable mutual
  pub fits : Plan → Bool
  fits (call o a b out) = both (fits_in a) (both (fits_in b) (leb (length (form (combine o (in_set a) (in_set b)))) (length out)))

  pub fits_in : Input → Bool
  fits_in (bitmap bytes set e) = true
  fits_in (wrote p) = fits p
