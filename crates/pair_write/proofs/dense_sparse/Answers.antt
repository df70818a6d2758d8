-- The members of the sparse container whose bit is set are those in both; inclusion and exclusion do the rest.
-- Assumes nothing.
use mathlib.Core.Path.{sym, ap, ◌∙◌, refl}
use lib.ListN.{length}
use Rattle.bitmap_spec.specs.Judge.{container}
use Rattle.pair_write.proofs.Alone.{members-low}
use Rattle.pair_write.proofs.Counting.{common-is, turned, may-join, joined_is, both_is}
use Rattle.pair_write.proofs.Joined.{low-room, high-room}
use Rattle.pair_write.proofs.dense_sparse.Goals as goal

pub common-c-requires : goal.common-c-requires
common-c-requires c =
    (low-room _ c.args.bt c.args.e c.requires.3 c.requires.1, high-room _ c.args.at c.args.d c.requires.2 c.requires.0, c.requires.1)

pub returns-then-not-keeps_first : goal.returns-then-not-keeps_first
returns-then-not-keeps_first c =
    let both = common-is c.args.b.now c.args.bt c.args.e c.args.a.now c.args.at c.args.d c.requires.1 c.requires.5
    c.requires.0 ∙
    turned c.args.b.now c.args.bt c.args.e c.args.a.now c.args.at c.args.d in
    both_is c.args.a.now c.args.at c.args.d c.args.b.now c.args.bt c.args.e c.requires.2 c.requires.3 c.requires.4 c.requires.5
    (length (container c.args.a.now c.args.at c.args.d)) c.args.e c.common-c.result refl
    (members-low _ _ _ c.requires.3 c.requires.1) (c.common-c.ensures ∙ ap length both) c.args.o
    (sym c.keeps_first.ensures ∙ c.if-not-keeps_first.true)

pub joined_count-requires : goal.joined_count-requires
joined_count-requires c =
    let both = common-is c.args.b.now c.args.bt c.args.e c.args.a.now c.args.at c.args.d c.requires.1 c.requires.5
    c.requires.0 ∙
    turned c.args.b.now c.args.bt c.args.e c.args.a.now c.args.at c.args.d in
    may-join c.args.a.now c.args.at c.args.d c.args.b.now c.args.bt c.args.e c.requires.2 c.requires.3 c.requires.4 c.requires.5
    c.members.result c.args.e c.common-c.result c.members.ensures.0 (members-low _ _ _ c.requires.3 c.requires.1)
    (c.common-c.ensures ∙ ap length both)

pub returns : goal.returns
returns c =
    let both = common-is c.args.b.now c.args.bt c.args.e c.args.a.now c.args.at c.args.d c.requires.1 c.requires.5
    c.requires.0 ∙
    turned c.args.b.now c.args.bt c.args.e c.args.a.now c.args.at c.args.d in
    joined_is c.args.a.now c.args.at c.args.d c.args.b.now c.args.bt c.args.e c.requires.2 c.requires.3 c.requires.4
    c.requires.5 c.members.result c.args.e c.common-c.result c.members.ensures.0
    (members-low _ _ _ c.requires.3 c.requires.1) (c.common-c.ensures ∙ ap length both) c.args.o _ c.joined_count.ensures
