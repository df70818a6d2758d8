-- The storages made so far are those of the columns passed. Assumes nothing.
use lib.ListN.{length-set, length-replicate}
use Rattle.row_spec.specs.Schema.{blank_column}
use Rattle.row_spec.specs.declared.Storage.{Storage}
use Rattle.row_spec.specs.declared.Storage.TheVariants.{Boolean}
use Rattle.row_laws.proofs.Mapped.{mapped_next}
use Rattle.row_list.specs.Rows.{row_storage}
use mathlib.Core.Path.{◌≡◌, refl, ◌∙◌}
use native.Mathlib.Omega.{arith}
use Rattle.row_list.proofs.storages_of.Goals as goal

pub loop-i-init : goal.loop-i-init
loop-i-init c = (omega arith, length-replicate {A = Storage} 64 Boolean, refl)

pub loop-i-preserved : goal.loop-i-preserved
loop-i-preserved c = (
  omega arith,
  length-set c.loop-i.storages c.loop-i.i _ ∙ c.loop-i.invariant.1,
  mapped_next row_storage c.loop-i.storages
      c.args.sc.columns c.loop-i.i _ blank_column (omega arith) (omega arith) c.loop-i.invariant.2
      c.storage_of.ensures,
)

pub returns : goal.returns
returns c =
    let all : c.loop-i.i ≡ c.args.sc.count = omega arith in
    (rw all at c.loop-i.invariant.2, omega (arith, c.loop-i.invariant.1))
