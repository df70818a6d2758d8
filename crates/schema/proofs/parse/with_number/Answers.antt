-- Case by case. Assumes nothing.
use Rattle.schema.proofs.Numbers.{plain-number}
use Rattle.schema.proofs.parse.with_number.Goals as goal

pub returns-in-Char : goal.returns-in-Char
returns-in-Char c = rw c.in-Char.is

pub returns-in-Varchar : goal.returns-in-Varchar
returns-in-Varchar c = rw c.in-Varchar.is

pub returns-in-Binary : goal.returns-in-Binary
returns-in-Binary c = rw c.in-Binary.is

pub returns-in-Varbinary : goal.returns-in-Varbinary
returns-in-Varbinary c = rw c.in-Varbinary.is

pub returns-in-Time : goal.returns-in-Time
returns-in-Time c = rw c.in-Time.is

pub returns-in-Timestamp : goal.returns-in-Timestamp
returns-in-Timestamp c = rw c.in-Timestamp.is

pub returns-in-Decimal : goal.returns-in-Decimal
returns-in-Decimal c = rw c.in-Decimal.is

pub returns-in_default : goal.returns-in_default
returns-in_default c =
    let h = c.in_default in
    plain-number c.args.t c.args.n
    (record {
      not-Char = h.not-Char;
      not-Varchar = h.not-Varchar;
      not-Binary = h.not-Binary;
      not-Varbinary = h.not-Varbinary;
      not-Time = h.not-Time;
      not-Timestamp = h.not-Timestamp;
      not-Decimal = h.not-Decimal;
    })
