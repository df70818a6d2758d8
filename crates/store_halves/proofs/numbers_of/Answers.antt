-- 64 numbers from 64 times the owner's number on.
-- Assumes nothing.
use Rattle.store_halves.proofs.Parts.{dir-is}
use borrow.Author.Rules.{rules}
use Rattle.store_halves.proofs.numbers_of.Goals as goal

pub returns : goal.returns
returns c = dir-is c.args.dir.now c.args.o
