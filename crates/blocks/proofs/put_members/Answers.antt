-- The invariant (Along): the members of the words passed are written, and with those left they are all.
-- Assumes nothing.
use lib.ListN.{length-append}
use Rattle.common.specs.Lists.{keep, from}
use Rattle.bitmap_laws.proofs.Output.{along-start, along-room, along-length, along-step, along-end}
use Rattle.blocks.specs.Block.{is_on, word_members}
use Rattle.blocks.proofs.Members.{words-all, words_step, words-none}
use mathlib.Core.Path.{ap}
use Prim.Native.Nat.{◌+◌, ◌-◌, ◌*◌}
use native.Mathlib.Omega.{arith}
use lib.ListN.{length}
use Rattle.blocks.proofs.put_members.Goals as goal

pub loop-q-init : goal.loop-q-init
loop-q-init c =
    (omega arith, along-start c.args.out.now c.args.at (word_members c.args.ws) _ (words-all c.args.ws))

pub overflow_add-at : goal.overflow_add-at
overflow_add-at c =
    omega (arith, along-room c.loop-q.invariant.1, along-length c.loop-q.invariant.1 (c.requires))

pub put_word-n-requires : goal.put_word-n-requires
put_word-n-requires c = (
  c.loop-q-test.true,
  omega (
    arith,
    along-room c.loop-q.invariant.1,
    along-length c.loop-q.invariant.1 (c.requires),
    ap length (words_step c.args.ws c.loop-q.q c.loop-q-test.true),
    length-append (keep (is_on c.args.ws) (from (c.loop-q.q * 64) 64))
        (keep (is_on c.args.ws) (from ((c.loop-q.q + 1) * 64) (256 - (c.loop-q.q + 1) * 64))),
  ),
)

pub overflow_add-n : goal.overflow_add-n
overflow_add-n c =
    omega (
      arith,
      along-room c.loop-q.invariant.1,
      along-length c.loop-q.invariant.1 (c.requires),
      ap length (words_step c.args.ws c.loop-q.q c.loop-q-test.true),
      length-append (keep (is_on c.args.ws) (from (c.loop-q.q * 64) 64))
          (keep (is_on c.args.ws) (from ((c.loop-q.q + 1) * 64) (256 - (c.loop-q.q + 1) * 64))),
      c.put_word-n.ensures.0,
    )

pub loop-q-preserved : goal.loop-q-preserved
loop-q-preserved c = (
  omega arith,
  along-step _ (keep (is_on c.args.ws) (from (c.loop-q.q * 64) 64)) _ c.put_word-n.result c.loop-q.invariant.1 (c.requires)
      (words_step c.args.ws c.loop-q.q c.loop-q-test.true) c.put_word-n.ensures.1 c.put_word-n.ensures.0,
)

pub shape_of-out : goal.shape_of-out
shape_of-out c =
    along-length c.loop-q.invariant.1 (c.requires)

pub returns : goal.returns
returns c =
    along-end c.loop-q.invariant.1 (words-none c.args.ws c.loop-q.q c.loop-q-test.false)
