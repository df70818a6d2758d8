-- The members of the sparse container whose bit is set are those in both; inclusion and exclusion do the rest.
-- Assumes nothing.
use mathlib.Core.Path.{sym, ap, ◌∙◌, refl}
use native.Mathlib.Omega.{arith}
use lib.ListN.{length}
use Rattle.bitmap_spec.specs.Judge.{container}
use Rattle.pair_write.proofs.Alone.{members-low}
use Rattle.pair_write.proofs.Counting.{common-is, may-join, joined_is, first-is}
use Rattle.pair_write.proofs.Joined.{low-room, high-room}
use Rattle.pair_write.proofs.sparse_dense.Goals as goal

pub common-c-requires : goal.common-c-requires
common-c-requires c =
    (low-room _ c.args.at c.args.d c.requires.2 c.requires.0, high-room _ c.args.bt c.args.e c.requires.3 c.requires.1, c.requires.0)

pub joined_count-requires : goal.joined_count-requires
joined_count-requires c =
    let both = common-is c.args.a.now c.args.at c.args.d c.args.b.now c.args.bt c.args.e c.requires.0 c.requires.4
    c.requires.1 in
    let room = may-join c.args.a.now c.args.at c.args.d c.args.b.now c.args.bt c.args.e c.requires.2 c.requires.3
    c.requires.4
    c.requires.5 c.args.d (length (container c.args.b.now c.args.bt c.args.e)) c.common-c.result
    (members-low _ _ _ c.requires.2 c.requires.0) refl (c.common-c.ensures ∙ ap length both) in
    (room.0, omega arith, room.2, omega (arith, room.0, room.2))

pub returns-then-not-keeps_second : goal.returns-then-not-keeps_second
returns-then-not-keeps_second c =
    let both = common-is c.args.a.now c.args.at c.args.d c.args.b.now c.args.bt c.args.e c.requires.0 c.requires.4
    c.requires.1 in
    first-is c.args.a.now c.args.at c.args.d c.args.b.now c.args.bt c.args.e c.requires.2 c.requires.3 c.requires.4 c.requires.5
    c.args.d (length (container c.args.b.now c.args.bt c.args.e)) c.common-c.result
    (members-low _ _ _ c.requires.2 c.requires.0) refl (c.common-c.ensures ∙ ap length both) c.args.o _
    (sym c.keeps_second.ensures ∙ c.if-not-keeps_second.true) c.joined_count.ensures

pub joined_count-requires-2 : goal.joined_count-requires-2
joined_count-requires-2 c =
    let both = common-is c.args.a.now c.args.at c.args.d c.args.b.now c.args.bt c.args.e c.requires.0 c.requires.4
    c.requires.1 in
    may-join c.args.a.now c.args.at c.args.d c.args.b.now c.args.bt c.args.e c.requires.2 c.requires.3 c.requires.4 c.requires.5
    c.args.d c.members.result c.common-c.result (members-low _ _ _ c.requires.2 c.requires.0) c.members.ensures.0
    (c.common-c.ensures ∙ ap length both)

pub returns : goal.returns
returns c =
    let both = common-is c.args.a.now c.args.at c.args.d c.args.b.now c.args.bt c.args.e c.requires.0 c.requires.4
    c.requires.1 in
    joined_is c.args.a.now c.args.at c.args.d c.args.b.now c.args.bt c.args.e c.requires.2 c.requires.3 c.requires.4
    c.requires.5 c.args.d c.members.result c.common-c.result (members-low _ _ _ c.requires.2 c.requires.0)
    c.members.ensures.0 (c.common-c.ensures ∙ ap length both) c.args.o _ c.joined_count-2.ensures
