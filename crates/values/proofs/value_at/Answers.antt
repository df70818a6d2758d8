-- By how the type is stored. Assumes nothing.
use mathlib.Core.Path.{ap, ◌∙◌}
use Rattle.row_spec.specs.Value.{value_at, stored_at}
use Rattle.values.proofs.value_at.Goals as goal

pub returns : goal.returns
unfolding value_at
returns c =
    c.stored_at.ensures ∙ ap (stored_at c.args.big c.args.s.now c.args.at) c.storage_of.ensures
