-- No mark had the stamp, so what has it now is in the second; inclusion and exclusion do the rest.
-- Assumes nothing.
use mathlib.Core.Path.{ap, ◌∙◌}
use native.Mathlib.Omega.{arith}
use lib.ListN.{length}
use Rattle.pair_write.proofs.Alone.{members-low}
use Rattle.pair_write.proofs.Counting.{marked-is, may-join, joined_is}
use Rattle.pair_write.proofs.Marking.{next-fresh}
use Rattle.pair_write.proofs.Joined.{low-room}
use Rattle.pair_write.proofs.sparse_count.Goals as goal

pub mark-requires : goal.mark-requires
mark-requires c =
    (low-room _ c.args.bt c.args.e c.requires.3 c.requires.1, c.requires.6.long)

pub marked-c-requires : goal.marked-c-requires
marked-c-requires c =
    (low-room _ c.args.at c.args.d c.requires.2 c.requires.0, omega (arith, c.mark.auto.marks, c.requires.6.long), c.requires.0)

pub joined_count-requires : goal.joined_count-requires
joined_count-requires c =
    let both = marked-is c.args.a.now c.args.at c.args.d c.args.b.now c.args.bt c.args.e c.args.stamp _ _
    c.requires.0
    c.requires.4 c.requires.1 c.requires.6 c.mark.ensures in
    may-join c.args.a.now c.args.at c.args.d c.args.b.now c.args.bt c.args.e c.requires.2 c.requires.3 c.requires.4 c.requires.5
    c.args.d c.args.e c.marked-c.result (members-low _ _ _ c.requires.2 c.requires.0)
    (members-low _ _ _ c.requires.3 c.requires.1) (c.marked-c.ensures ∙ ap length both)

pub returns : goal.returns
returns c =
    let both = marked-is c.args.a.now c.args.at c.args.d c.args.b.now c.args.bt c.args.e c.args.stamp _ _
    c.requires.0
    c.requires.4 c.requires.1 c.requires.6 c.mark.ensures in (
      joined_is c.args.a.now c.args.at c.args.d c.args.b.now c.args.bt c.args.e c.requires.2 c.requires.3 c.requires.4
          c.requires.5 c.args.d c.args.e c.marked-c.result (members-low _ _ _ c.requires.2 c.requires.0)
          (members-low _ _ _ c.requires.3 c.requires.1) (c.marked-c.ensures ∙ ap length both) c.args.o _
          c.joined_count.ensures,
      next-fresh _ c.args.stamp _ _ c.requires.6 c.mark.ensures c.mark.auto.marks,
    )
