-- A sparse container is loaded, a dense one is a block as it stands.
-- Assumes nothing.
use lib.ListN.{length}
use Rattle.pair_write.proofs.Joined.{low-room, high-room, second-low, second-high}
use Rattle.pair_write.proofs.join_second.Goals as goal

pub load_sparse-y-requires : goal.load_sparse-y-requires
load_sparse-y-requires c =
    (c.if-e-lt32.true, low-room (length c.args.b.now) c.args.bt c.args.e c.requires.1 c.if-e-lt32.true)

pub returns-then-e-lt32 : goal.returns-then-e-lt32
returns-then-e-lt32 c =
    second-low c.args.o c.args.a.now c.args.at c.args.b.now c.args.bt c.args.e c.args.out.now _ c.args.to _
    c.load_sparse-y.result
    c.if-e-lt32.true
    c.load_sparse-y.ensures c.join.ensures

pub join-requires-2 : goal.join-requires-2
join-requires-2 c =
    (c.requires.0, high-room (length c.args.b.now) c.args.bt c.args.e c.requires.1 c.if-e-lt32.false, c.requires.2)

pub returns : goal.returns
returns c =
    second-high c.args.o c.args.a.now c.args.at c.args.b.now c.args.bt c.args.e c.args.out.now _ c.args.to _
    c.if-e-lt32.false c.join-2.ensures
