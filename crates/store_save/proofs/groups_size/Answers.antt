-- The definition's number of groups, by the powers of 128.
-- Assumes nothing.
use Rattle.store_save.proofs.Sizes.{one-group, two-groups, three-groups}
use mathlib.Core.Path.{sym, ap}
use native.Mathlib.Omega.{arith}
use lib.ListN.{length}
use Rattle.store_save.proofs.groups_size.Goals as goal

pub returns-then-n-lt128 : goal.returns-then-n-lt128
returns-then-n-lt128 c = (sym (ap length (one-group _ c.if-n-lt128.true)), omega arith)

pub returns-then-n-lt16384 : goal.returns-then-n-lt16384
returns-then-n-lt16384 c = (sym (ap length (two-groups _ c.if-n-lt128.false c.if-n-lt16384.true)), omega arith)

pub returns : goal.returns
returns c = (sym (ap length (three-groups _ c.if-n-lt16384.false c.requires)), omega arith)
