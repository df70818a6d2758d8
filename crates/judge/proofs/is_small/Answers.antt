-- Bytes 4 and 5 are the count.
-- Assumes nothing.
use Prim.Native.Nat.{◌+◌, ◌*◌}
use native.Mathlib.Omega.{arith}
use lib.ListN.{get_or}
use borrow.Author.Tests.{leb-true}
use Rattle.judge.proofs.Judging.{two}
use Rattle.judge.proofs.is_small.Goals as goal

pub returns : goal.returns
returns c =
    λ e long. omega (arith, two c.args.s.now, leb-true (get_or c.args.s.now 4 0 + 256 * get_or c.args.s.now 5 0) 256 e)
