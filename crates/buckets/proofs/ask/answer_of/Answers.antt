-- 25 first; else the asked column's pieces stand in the arrays where the definition has them. Assumes nothing.
use mathlib.Core.Path.{refl, sym}
use Rattle.buckets.proofs.Answers.{answer-row, answer-column, answer-here}
use Rattle.buckets.proofs.ask.answer_of.Goals as goal
use Rattle.buckets.proofs.ask.answer_of.Goals.{then-b-r-via-then-b-r, then-b-r-via-else-b-r+then-sc-i}

pub returns-then-b-r : goal.returns-then-b-r
returns-then-b-r c = elim c.then-b-r.branch [
  | then-b-r-via-then-b-r w ↦ sym (answer-row _ c.requires.0 c.args.b.now _ _ _ _ _ _ w.if-b-r.true)
  | then-b-r-via-else-b-r+then-sc-i w ↦
      sym (answer-column _ c.requires.0 c.args.b.now _ _ _ _ _ _ w.if-b-r.false w.if-sc-i.true)
]

pub returns-then-is_null : goal.returns-then-is_null
returns-then-is_null c =
    rw (
      answer-here _ c.requires.0 _ _ _ _ _ _ _ c.if-b-r.false c.if-sc-i.false c.pieces_of-p.result c.pieces_of-p.ensures refl
          (sym c.requires.1.has),
      ← c.is_null.ensures,
      c.if-is_null.true,
    )

pub returns : goal.returns
returns c =
    rw (
      answer-here _ c.requires.0 _ _ _ _ _ _ _ c.if-b-r.false c.if-sc-i.false c.pieces_of-p.result c.pieces_of-p.ensures refl
          (sym c.requires.1.has),
      ← c.is_null.ensures,
      c.if-is_null.false,
    )
    c.value_of.ensures
