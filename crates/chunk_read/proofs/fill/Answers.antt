-- A primary value over 63 is a descriptor over 63; otherwise the parts are added.
-- Assumes nothing.
use mathlib.Core.Path.{◌∙◌}
use native.Mathlib.Omega.{arith}
use Rattle.chunk_read.proofs.Patching.{too_large, plain, filled}
use Rattle.chunk_read.proofs.fill.Goals as goal

pub primary-requires : goal.primary-requires
primary-requires c =
    let pre = c.requires in
    pre

pub shape_of-out-then-primary-gt63 : goal.shape_of-out-then-primary-gt63
shape_of-out-then-primary-gt63 c =
    let primary = c.primary in
    primary.auto.out

pub returns-then-primary-gt63 : goal.returns-then-primary-gt63
returns-then-primary-gt63 c =
    let primary = c.primary in
    too_large _ _ _ _ _ _ _ primary.ensures c.if-primary-gt63.true

pub patch-requires : goal.patch-requires
patch-requires c =
    let pre = c.requires in
    let primary = c.primary in (
      omega (arith, pre.1, primary.auto.out),
      pre.2,
      plain _ _ _ _ _ _ _ primary.ensures c.if-primary-gt63.false,
    )

pub shape_of-out : goal.shape_of-out
shape_of-out c =
    let primary = c.primary in
    c.patch.auto.out ∙ primary.auto.out

pub returns : goal.returns
returns c =
    let pre = c.requires in
    let primary = c.primary in
    let if1 = c.if-primary-gt63 in
    let patch = c.patch in
    filled _ _ _ _ _ _ _ primary.ensures if1.false _ _ primary.auto.out patch.auto.out
    pre.1 patch.ensures
