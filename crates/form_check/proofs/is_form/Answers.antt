-- Either array has room for the descriptors that the header announces.
-- Assumes nothing.
use Rattle.form_check.proofs.is_form.Goals as goal

pub form_in-requires : goal.form_in-requires
form_in-requires c = λ long few. c.is_small.ensures c.if-is_small.true long
