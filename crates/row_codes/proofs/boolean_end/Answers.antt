-- Room, then a byte of 0 or 1. Assumes nothing.
use borrow.Author.Tests.{le-leb, lt-leb}
use Rattle.row_codes.specs.Codes.{boolean_end}
use Prim.Native.Nat.{◌+◌}
use native.Mathlib.Omega.{arith}
use lib.ListN.{length, get_or}
use Rattle.row_codes.proofs.boolean_end.Goals as goal

pub returns-then-s-at : goal.returns-then-s-at
unfolding boolean_end
returns-then-s-at c = rw (lt-leb (c.args.at + 1) (length c.args.s.now) (omega arith))

pub returns-then-s-at-gt1 : goal.returns-then-s-at-gt1
unfolding boolean_end
returns-then-s-at-gt1 c =
    rw (
      le-leb (c.args.at + 1) (length c.args.s.now) (omega arith),
      lt-leb (get_or c.args.s.now c.args.at 0) 1 c.if-s-at-gt1.true,
    )

pub returns : goal.returns
unfolding boolean_end
returns c =
    rw (
      le-leb (c.args.at + 1) (length c.args.s.now) (omega arith),
      le-leb (get_or c.args.s.now c.args.at 0) 1 c.if-s-at-gt1.false,
    )
