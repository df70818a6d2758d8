-- Room for the whole form, then its parts one behind the other.
-- Assumes nothing.
use Rattle.bitmap_spec.specs.Form.{form}
use Rattle.bitmap_laws.proofs.Rise.{rising-length}
use Rattle.bitmap_laws.proofs.Output.{refuse13, give}
use Rattle.form_write.proofs.Whole.{few, fine, size, body-room, all-parts}
use mathlib.Core.Path.{◌∙◌}
use Prim.Native.Nat.{◌≤◌}
use native.Mathlib.Omega.{arith}
use lib.ListN.{length}
use Rattle.bitmap_write.proofs.put_form.Goals as goal

pub form_size-len-requires : goal.form_size-len-requires
form_size-len-requires c = (few _ _ _ _ c.requires, fine _ _ _ _ c.requires)

pub returns-then-out-len : goal.returns-then-out-len
returns-then-out-len c = refuse13 (form c.args.ps.now) c.args.out.now
    (omega (arith, size _ _ _ _ c.requires, c.form_size-len.ensures, c.if-out-len.true))

pub overflow_cast-ps : goal.overflow_cast-ps
overflow_cast-ps c = omega (arith, rising-length 2097152 0 c.args.ps.now (omega arith) c.requires.is_set)

pub put_head-at-requires : goal.put_head-at-requires
put_head-at-requires c = (
  few _ _ _ _ c.requires,
  fine _ _ _ _ c.requires,
  omega (arith, c.form_size-len.ensures, c.if-out-len.false),
)

pub put_runs-requires : goal.put_runs-requires
put_runs-requires c = let z = size _ _ _ _ c.requires in let n = few _ _ _ _ c.requires in (
  c.requires.is_set,
  n,
  body-room _ _ _ _ c.requires c.put_head-at.result _ c.put_head-at.ensures.0
      (omega (arith, z, c.form_size-len.ensures, c.if-out-len.false, c.put_head-at.auto.out)),
)

pub returns : goal.returns
returns c = let z = size _ _ _ _ c.requires in let h : length (form c.args.ps.now) ≤ length c.args.out.now =
    omega (arith, z, c.form_size-len.ensures, c.if-out-len.false) in
    give (form c.args.ps.now) c.args.out.now _ c.form_size-len.result h
    (all-parts _ _ _ _ c.requires c.args.out.now _ _ c.put_head-at.result h c.put_head-at.ensures.0
    c.put_head-at.ensures.1 c.put_runs.ensures) (c.form_size-len.ensures ∙ z)
