-- Case by case. Assumes nothing.
use Rattle.row_spec.specs.Answer.{type_shown}
use Rattle.values.proofs.types.show_type.Goals as goal

pub returns-in-Boolean : goal.returns-in-Boolean
unfolding type_shown
returns-in-Boolean c = rw c.in-Boolean.is c.numbers_of.ensures

pub returns-in-TinyInt : goal.returns-in-TinyInt
unfolding type_shown
returns-in-TinyInt c = rw c.in-TinyInt.is c.numbers_of-in-TinyInt.ensures

pub returns-in-SmallInt : goal.returns-in-SmallInt
unfolding type_shown
returns-in-SmallInt c = rw c.in-SmallInt.is c.numbers_of-in-SmallInt.ensures

pub returns-in-Int : goal.returns-in-Int
unfolding type_shown
returns-in-Int c = rw c.in-Int.is c.numbers_of-in-Int.ensures

pub returns-in-BigInt : goal.returns-in-BigInt
unfolding type_shown
returns-in-BigInt c = rw c.in-BigInt.is c.numbers_of-in-BigInt.ensures

pub returns-in-Float : goal.returns-in-Float
unfolding type_shown
returns-in-Float c = rw c.in-Float.is c.numbers_of-in-Float.ensures

pub returns-in-Double : goal.returns-in-Double
unfolding type_shown
returns-in-Double c = rw c.in-Double.is c.numbers_of-in-Double.ensures

pub returns-in-Date : goal.returns-in-Date
unfolding type_shown
returns-in-Date c = rw c.in-Date.is c.numbers_of-in-Date.ensures

pub returns-in-Char : goal.returns-in-Char
unfolding type_shown
returns-in-Char c = rw c.in-Char.is c.numbers_of-in-Char.ensures

pub returns-in-Varchar : goal.returns-in-Varchar
unfolding type_shown
returns-in-Varchar c = rw c.in-Varchar.is c.numbers_of-in-Varchar.ensures

pub returns-in-String : goal.returns-in-String
unfolding type_shown
returns-in-String c = rw c.in-String.is c.numbers_of-in-String.ensures

pub returns-in-Binary : goal.returns-in-Binary
unfolding type_shown
returns-in-Binary c = rw c.in-Binary.is c.numbers_of-in-Binary.ensures

pub returns-in-Varbinary : goal.returns-in-Varbinary
unfolding type_shown
returns-in-Varbinary c = rw c.in-Varbinary.is c.numbers_of-in-Varbinary.ensures

pub returns-in-Bytes : goal.returns-in-Bytes
unfolding type_shown
returns-in-Bytes c = rw c.in-Bytes.is c.numbers_of-in-Bytes.ensures

pub returns-in-Decimal : goal.returns-in-Decimal
unfolding type_shown
returns-in-Decimal c = rw c.in-Decimal.is c.numbers_of-in-Decimal.ensures

pub returns-in-Time : goal.returns-in-Time
unfolding type_shown
returns-in-Time c = rw c.in-Time.is c.numbers_of-in-Time.ensures

pub returns-in-Timestamp : goal.returns-in-Timestamp
unfolding type_shown
returns-in-Timestamp c = rw c.in-Timestamp.is c.numbers_of-in-Timestamp.ensures
