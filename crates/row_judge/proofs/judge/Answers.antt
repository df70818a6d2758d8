-- By the tests, in the order of the definition. Assumes nothing.
use Prim.Native.Nat.{◌+◌, ◌*◌}
use borrow.Author.Tests.{le-leb, lt-leb}
use lib.ListN.{length}
use Rattle.common.specs.Outcome.{need}
use Rattle.row_spec.specs.Block.{block, counted}
use Rattle.row_judge.proofs.judge.Goals as goal

pub returns-then-len-lt4 : goal.returns-then-len-lt4
unfolding block need
returns-then-len-lt4 c = rw (lt-leb 4 (length c.args.s.now) c.if-len-lt4.true)

pub returns-then-len-gt16777216 : goal.returns-then-len-gt16777216
unfolding block need
returns-then-len-gt16777216 c =
    rw (
      le-leb 4 (length c.args.s.now) c.if-len-lt4.false,
      lt-leb (length c.args.s.now) 16777216 c.if-len-gt16777216.true,
    )

pub returns-then-n-gt65536 : goal.returns-then-n-gt65536
unfolding block counted need
returns-then-n-gt65536 c =
    rw (
      le-leb 4 (length c.args.s.now) c.if-len-lt4.false,
      le-leb (length c.args.s.now) 16777216 c.if-len-gt16777216.false,
      ← c.little_endian-n.ensures.0,
      lt-leb c.little_endian-n.result 65536 c.if-n-gt65536.true,
    )

pub returns-then-len-n : goal.returns-then-len-n
unfolding block counted need
returns-then-len-n c =
    rw (
      le-leb 4 (length c.args.s.now) c.if-len-lt4.false,
      le-leb (length c.args.s.now) 16777216 c.if-len-gt16777216.false,
      ← c.little_endian-n.ensures.0,
      le-leb c.little_endian-n.result 65536 c.if-n-gt65536.false,
      lt-leb (4 * c.little_endian-n.result + 4) (length c.args.s.now) c.if-len-n.true,
    )

pub returns : goal.returns
unfolding block counted need
returns c =
    rw (
      le-leb 4 (length c.args.s.now) c.if-len-lt4.false,
      le-leb (length c.args.s.now) 16777216 c.if-len-gt16777216.false,
      ← c.little_endian-n.ensures.0,
      le-leb c.little_endian-n.result 65536 c.if-n-gt65536.false,
      le-leb (4 * c.little_endian-n.result + 4) (length c.args.s.now) c.if-len-n.false,
    )
    c.rows_until.ensures
