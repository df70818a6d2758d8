-- By the bytes that are there. Assumes nothing.
use Prim.Native.Nat.{◌/◌}
use borrow.Author.Tests.{leb-true}
use Rattle.bucket_piece.proofs.Words.{group-before}
use mathlib.Core.Path.{sym, ◌∙◌}
use Prim.Native.Nat.{◌+◌, ◌*◌}
use native.Mathlib.Omega.{arith}
use lib.ListN.{length}
use Rattle.bucket_piece.proofs.indexes.whole_groups.Goals as goal

pub returns-then-has-2 : goal.returns-then-has-2
returns-then-has-2 c = (
  omega arith,
  λ q l.
      group-before c.args.at q (c.args.m / 8) c.args.w (length c.args.s.now) l
      (omega arith)
      (leb-true (c.args.at + c.args.m / 8 * c.args.w) (length c.args.s.now)
      (sym c.has-2.ensures ∙ c.if-has-2.true)),
)
