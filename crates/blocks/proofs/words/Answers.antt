-- Four words, eight bytes each, have the bits of the block.
-- Assumes nothing.
use Rattle.blocks.proofs.Members.{four-words}
use Rattle.blocks.proofs.words.Goals as goal

pub returns : goal.returns
returns c =
    four-words c.args.s.now c.args.at _ _ _ _ c.word.ensures c.word-2.ensures
    c.word-3.ensures c.word-4.ensures
