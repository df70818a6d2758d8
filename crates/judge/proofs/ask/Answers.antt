-- The set that was judged is the one that is asked.
-- Assumes nothing.
use Rattle.judge.proofs.ask.Goals as goal

pub returns-then-is_small : goal.returns-then-is_small
returns-then-is_small g c = (_, c.in_ok-set_in.ensures, c.question.ensures)

pub returns : goal.returns
returns g c = (_, c.in_ok-set_in-2.ensures, c.question-2.ensures)
