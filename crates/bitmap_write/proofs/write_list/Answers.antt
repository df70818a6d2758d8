-- 12 unless the list is a set; then the form of the described set, or 13.
-- Assumes nothing.
use mathlib.Core.Bool.{true}
use Rattle.common.specs.Lists.{rising}
use Rattle.bitmap_write.proofs.Writing.{described, refuse12, go_on}
use mathlib.Core.Path.{◌≡◌, sym, ◌∙◌}
use native.Mathlib.Omega.{arith}
use borrow.Author.Rules.{rules}
use Rattle.bitmap_write.proofs.write_list.Goals as goal

pub returns-then-not-rises : goal.returns-then-not-rises
returns-then-not-rises c = refuse12 c.args.ps.now c.args.out.now (sym c.rises.ensures ∙ c.if-not-rises.true)

pub describe-n-requires : goal.describe-n-requires
describe-n-requires c = (sym c.rises.ensures ∙ c.if-not-rises.false, search rules)

pub slice_bounds-ds-end : goal.slice_bounds-ds-end
slice_bounds-ds-end c = omega (arith, c.describe-n.ensures.1, c.describe-n.auto.ds)

pub slice_bounds-put_form-end : goal.slice_bounds-put_form-end
slice_bounds-put_form-end c = let up : rising 2097152 0 c.args.ps.now ≡ true =
    sym c.rises.ensures ∙ c.if-not-rises.false in let d =
    described c.args.ps.now _ _ c.describe-n.result up c.describe-n.ensures.0 c.describe-n.ensures.2 in
    c.describe-n.ensures.0 ∙ sym d.1.count

pub put_form-requires : goal.put_form-requires
put_form-requires c = let up : rising 2097152 0 c.args.ps.now ≡ true = sym c.rises.ensures ∙ c.if-not-rises.false in
    (described c.args.ps.now _ _ c.describe-n.result up c.describe-n.ensures.0 c.describe-n.ensures.2).1

pub returns : goal.returns
returns c = let up : rising 2097152 0 c.args.ps.now ≡ true = sym c.rises.ensures ∙ c.if-not-rises.false in
    go_on c.args.ps.now c.args.out.now _ c.put_form.result up c.put_form.ensures
