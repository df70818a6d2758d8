-- The number is read first; each test that fails is one of the definition's, and the form is not looked at.
-- Assumes nothing.
use mathlib.Core.Path.{sym}
use native.Mathlib.Omega.{arith}
use borrow.Author.Tests.{not-true, not-false}
use Rattle.store_laws.proofs.Lengths.{length-within}
use Rattle.store_load.proofs.Steps.{unread, padded-bad, long-bad, framed}
use Rattle.store_load.proofs.entry_at.Goals as goal

pub returns-in_default : goal.returns-in_default
returns-in_default c = unread _ _ _ c.in_default.ensures

pub returns-then-not-v : goal.returns-then-not-v
returns-then-not-v c = padded-bad _ _ _ c.in-Ok.ensures (not-true _ c.if-not-v.true)

pub overflow_sub-s : goal.overflow_sub-s
overflow_sub-s c =
    let within = length-within c.args.s.now (λ k. omega (arith, c.type_inv.s k)) c.args.at _ _ _ (sym c.in-Ok.ensures) in
    omega (arith, within)

pub returns-then-s-v : goal.returns-then-s-v
returns-then-s-v c = long-bad _ _ _ c.in-Ok.ensures (not-false _ c.if-not-v.false) (omega (arith, c.if-s-v.true))

pub returns : goal.returns
returns c =
    let within = length-within c.args.s.now (λ k. omega (arith, c.type_inv.s k)) c.args.at _ _ _ (sym c.in-Ok.ensures) in
    framed _ _ _ c.in-Ok.ensures (not-false _ c.if-not-v.false) (omega (arith, within, c.if-s-v.false))
