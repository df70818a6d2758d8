-- Each product fits, and so does each sum; the sum is the definition's number. Assumes nothing.
use Rattle.words.proofs.Words.{little-eight}
use mathlib.Core.Path.{sym}
use Rattle.words.proofs.low_word.Goals as goal

pub returns : goal.returns
returns c =
    let args = c.args in
    sym (little-eight args.s.now args.at)
