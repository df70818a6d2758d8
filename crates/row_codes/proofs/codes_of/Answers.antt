-- The codes made so far are those of the columns passed. Assumes nothing.
use lib.ListN.{length-set, length-replicate}
use Rattle.row_spec.specs.Schema.{blank_column}
use Rattle.row_codes.specs.Codes.{code_of}
use Rattle.row_laws.proofs.Mapped.{mapped_next}
use mathlib.Core.Path.{◌≡◌, refl, ◌∙◌}
use Prim.Native.Nat.{ℕ}
use native.Mathlib.Omega.{arith}
use Rattle.row_codes.proofs.codes_of.Goals as goal

pub loop-i-init : goal.loop-i-init
loop-i-init c = (omega arith, length-replicate {A = ℕ} 64 0, refl)

pub loop-i-preserved : goal.loop-i-preserved
loop-i-preserved c = (
  omega arith,
  length-set c.loop-i.codes c.loop-i.i _ ∙ c.loop-i.invariant.1,
  mapped_next code_of c.loop-i.codes c.args.sc.columns c.loop-i.i _ blank_column (omega arith)
      (omega arith) c.loop-i.invariant.2
      c.code_of.ensures,
)

pub returns : goal.returns
returns c =
    let e : c.loop-i.i ≡ c.args.sc.count = omega arith in rw e at
    c.loop-i.invariant.2
