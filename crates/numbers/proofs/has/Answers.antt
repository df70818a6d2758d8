-- The test is moved over to the difference, which does not wrap. Assumes nothing.
use mathlib.Core.Path.{sym}
use Prim.Native.Nat.{◌+◌}
use borrow.Author.Tests.{lt-leb}
use Rattle.row_laws.proofs.Bytes.{room-shift}
use native.Mathlib.Omega.{arith}
use lib.ListN.{length}
use Rattle.numbers.proofs.has.Goals as goal

pub returns-then-at-s : goal.returns-then-at-s
returns-then-at-s c = room-shift c.args.at c.args.w (length c.args.s.now) c.if-at-s.true

pub returns-else-at-s : goal.returns-else-at-s
returns-else-at-s c =
    rw (lt-leb c.args.at (length c.args.s.now) c.if-at-s.false)
    (sym (lt-leb (c.args.at + c.args.w) (length c.args.s.now) (omega arith)))
