-- With room, the number of the bytes; without it nothing is promised. Assumes nothing.
use borrow.Author.Tests.{leb-true}
use Rattle.value_list.proofs.Stored.{not_there}
use Rattle.value_list.specs.Cell.{cell_of}
use mathlib.Core.Path.{sym, ap, ◌∙◌}
use Prim.Native.Nat.{ℕ, ◌+◌}
use native.Mathlib.Omega.{arith}
use lib.ListN.{length}
use borrow.Author.Rules.{rules}
use Rattle.value_list.proofs.word_cell.Goals as goal

pub word-requires : goal.word-requires
word-requires c = (
  leb-true (c.args.at + c.args.w) (length c.args.s.now) (sym c.has.ensures ∙ c.if-has.true),
  search
      rules,
)

pub overflow_add-at : goal.overflow_add-at
overflow_add-at c =
    omega (
      arith,
      leb-true (c.args.at + c.args.w) (length c.args.s.now)
          (sym c.has.ensures ∙ c.if-has.true),
    )

pub returns-then-has : goal.returns-then-has
returns-then-has c =
    λ e. (
      c.cell_of.ensures ∙ ap (λ (n : ℕ). cell_of c.args.kind n 0 (c.args.at + c.args.w)) c.word.ensures.0,
      rw
          (← c.word.ensures.0) c.word.ensures.1,
    )

pub returns : goal.returns
returns c = λ e. not_there c.has.ensures c.if-has.false e
