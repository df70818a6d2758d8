-- One case for each encoding. Assumes nothing.
use Rattle.common.specs.Bytes.{low_bits}
use Rattle.common.proofs.Outcomes.{clash}
use Rattle.bucket_list.proofs.column.list_column.Goals as goal

pub returns-in-Const : goal.returns-in-Const
unfolding low_bits
returns-in-Const c = record {
  plain = λ e. clash (cc);
  const = λ e. c.list_table.ensures;
  dict = λ e. clash (cc);
  nulls = λ e. clash (cc);
}
