-- The table has the numbers of each of its entries: a row has those of the entry that its index names.
-- Assumes nothing.
use Rattle.bucket_list.specs.Listed.{EntryIs}
use Rattle.bucket_list.proofs.Lists.{rows_more}
use Rattle.bucket_list.proofs.Tables.{entry_listed}
use Rattle.bucket_list.proofs.column.list_table.Goals as goal

pub returns : goal.returns
returns c =
    rows_more _ (EntryIs c.args.s.now c.args.t c.args.e) c.args.s.now c.args.x _ _
    (λ j f a.
    entry_listed c.args.s.now c.args.t c.args.e.from c.args.e.entries _ f _ _ c.list_values.ensures a)
    c.list_entries.ensures
