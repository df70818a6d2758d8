-- A sparse container is loaded, a dense one is a block as it stands.
-- Assumes nothing.
use lib.ListN.{length}
use Rattle.pair_write.proofs.Joined.{low-room, high-room, first-low, first-high}
use Rattle.pair_write.proofs.join_pair.Goals as goal

pub load_sparse-x-requires : goal.load_sparse-x-requires
load_sparse-x-requires c =
    (c.if-d-lt32.true, low-room (length c.args.a.now) c.args.at c.args.d c.requires.0 c.if-d-lt32.true)

pub returns-then-d-lt32 : goal.returns-then-d-lt32
returns-then-d-lt32 c =
    first-low c.args.o c.args.a.now c.args.at c.args.b.now c.args.bt c.args.e c.args.out.now _ c.args.to _ c.args.d
    c.load_sparse-x.result
    c.if-d-lt32.true
    c.load_sparse-x.ensures c.join_second.ensures

pub join_second-requires-2 : goal.join_second-requires-2
join_second-requires-2 c =
    (high-room (length c.args.a.now) c.args.at c.args.d c.requires.0 c.if-d-lt32.false, c.requires.1, c.requires.2)

pub returns : goal.returns
returns c =
    first-high c.args.o c.args.a.now c.args.at c.args.b.now c.args.bt c.args.e c.args.out.now _ c.args.to _ c.args.d
    c.if-d-lt32.false c.join_second-2.ensures
