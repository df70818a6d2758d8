-- Case by case, by the reader of each. Assumes nothing.
use Rattle.row_spec.specs.Value.{stored_at}
use Rattle.values.proofs.stored_at.Goals as goal

pub returns-in-Boolean : goal.returns-in-Boolean
unfolding stored_at
returns-in-Boolean c = rw c.in-Boolean.is c.boolean_at.ensures

pub returns-in-Int8 : goal.returns-in-Int8
unfolding stored_at
returns-in-Int8 c = rw c.in-Int8.is c.whole_at.ensures

pub returns-in-Int16 : goal.returns-in-Int16
unfolding stored_at
returns-in-Int16 c = rw c.in-Int16.is c.whole_at-in-Int16.ensures

pub returns-in-Int32 : goal.returns-in-Int32
unfolding stored_at
returns-in-Int32 c = rw c.in-Int32.is c.whole_at-in-Int32.ensures

pub returns-in-Int64 : goal.returns-in-Int64
unfolding stored_at
returns-in-Int64 c = rw c.in-Int64.is c.whole_at-in-Int64.ensures

pub returns-in-Float32 : goal.returns-in-Float32
returns-in-Float32 c = rw c.in-Float32.is c.float_at.ensures

pub returns-in-Float64 : goal.returns-in-Float64
returns-in-Float64 c = rw c.in-Float64.is c.double_at.ensures

pub returns-in-Sized : goal.returns-in-Sized
returns-in-Sized c = rw c.in-Sized.is c.sized_at.ensures

pub returns-in-Time : goal.returns-in-Time
returns-in-Time c = rw c.in-Time.is c.time_at.ensures

pub returns-in-TimeVarint : goal.returns-in-TimeVarint
returns-in-TimeVarint c = rw c.in-TimeVarint.is c.time_varint_at.ensures

pub returns-in-TimeFixed : goal.returns-in-TimeFixed
returns-in-TimeFixed c = rw c.in-TimeFixed.is c.time_fixed_at.ensures
