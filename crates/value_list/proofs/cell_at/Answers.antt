-- Case by case, by how the value is stored. Assumes nothing.
use Rattle.row_spec.specs.Value.{stored_at}
use Rattle.value_list.proofs.Stored.{boolean-holds, whole-holds, long-holds, float-holds, double-holds, time-holds}
use Rattle.value_list.proofs.cell_at.Goals as goal

pub returns-in-Boolean : goal.returns-in-Boolean
returns-in-Boolean c = rw c.in-Boolean.is (boolean-holds _ _ _ _ c.word_cell.ensures)

pub returns-in-Int8 : goal.returns-in-Int8
unfolding stored_at
returns-in-Int8 c = rw c.in-Int8.is (whole-holds _ _ _ _ 1 128 c.whole_cell.ensures)

pub returns-in-Int16 : goal.returns-in-Int16
unfolding stored_at
returns-in-Int16 c = rw c.in-Int16.is (whole-holds _ _ _ _ 2 32768 c.whole_cell-in-Int16.ensures)

pub returns-in-Int32 : goal.returns-in-Int32
unfolding stored_at
returns-in-Int32 c = rw c.in-Int32.is (whole-holds _ _ _ _ 4 2147483648 c.whole_cell-in-Int32.ensures)

pub returns-in-Int64 : goal.returns-in-Int64
returns-in-Int64 c = rw c.in-Int64.is (long-holds _ _ _ _ c.word_cell-in-Int64.ensures)

pub returns-in-Float32 : goal.returns-in-Float32
returns-in-Float32 c = rw c.in-Float32.is (float-holds _ _ _ _ c.word_cell-in-Float32.ensures)

pub returns-in-Float64 : goal.returns-in-Float64
returns-in-Float64 c = rw c.in-Float64.is (double-holds _ _ _ _ c.word_cell-in-Float64.ensures)

pub returns-in-Sized : goal.returns-in-Sized
unfolding stored_at
returns-in-Sized c = rw c.in-Sized.is (c.sized_cell.ensures _)

pub returns-in-Time : goal.returns-in-Time
returns-in-Time c = rw c.in-Time.is (time-holds _ _ _ _ c.word_cell-in-Time.ensures)

pub returns-in-TimeVarint : goal.returns-in-TimeVarint
returns-in-TimeVarint c = rw c.in-TimeVarint.is c.time_varint_cell.ensures

pub returns-in-TimeFixed : goal.returns-in-TimeFixed
returns-in-TimeFixed c = rw c.in-TimeFixed.is c.time_fixed_cell.ensures
