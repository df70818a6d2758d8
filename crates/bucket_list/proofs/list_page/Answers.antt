-- As many rows as fit, which are there; where none are, the list stays. Assumes nothing.
use Rattle.bucket_list.proofs.Lists.{lists-none}
use Rattle.bucket_list.proofs.Pages.{page-listed}
use mathlib.Core.Path.{refl, sym, ◌∙◌}
use lib.ListN.{length}
use Rattle.bucket_list.proofs.list_page.Goals as goal

pub returns-then-given-eq0 : goal.returns-then-given-eq0
returns-then-given-eq0 c =
    page-listed c.args.sc.now c.args.b.now.frame.rows c.args.s.now c.args.b.now c.args.i c.args.place
    (length c.args.list.now) 0 _ _ c.requires (sym c.if-given-eq0.true
    ∙ c.rows_given-given.ensures) (lists-none _ 0 _ refl)

pub returns : goal.returns
returns c =
    page-listed c.args.sc.now c.args.b.now.frame.rows c.args.s.now c.args.b.now c.args.i c.args.place
    (length c.args.list.now) c.rows_given-given.result _ _ c.requires c.rows_given-given.ensures
    (c.list_rows.ensures c.args.b.now.frame.rows)
