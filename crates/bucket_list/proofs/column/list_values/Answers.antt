-- The rows are a run from where the values of the rows before them end. Assumes nothing.
use native.Mathlib.Nat.{add-zero}
use Rattle.bucket_list.proofs.Values.{end-unwrapped, values_listed}
use mathlib.Core.Path.{refl, ◌∙◌}
use Rattle.bucket_list.proofs.column.list_values.Goals as goal

pub returns : goal.returns
returns c =
    values_listed c.args.s.now c.args.t c.args.at c.args.x _ c.storage_of-st.ensures _ _ _ _ _
    (rw (add-zero c.args.x.place, ← c.live_rows-j.ensures.0)
    (c.unwrap_or-from.ensures ∙ end-unwrapped _ _ c.values_end.ensures)) refl
    c.list_run.ensures
