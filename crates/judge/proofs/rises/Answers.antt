-- None or one byte rises; more do if none after the first falls.
-- Assumes nothing.
use mathlib.Core.Path.{sym, ap, ◌∙◌}
use Prim.Native.Nat.{ℕ}
use native.Mathlib.Omega.{arith}
use lib.Dec.{eqb}
use Rattle.judge.proofs.Descents.{rises-if, rises-short}
use Rattle.judge.proofs.rises.Goals as goal

pub returns-then-n-lt2 : goal.returns-then-n-lt2
returns-then-n-lt2 c =
    rises-short c.args.s.now c.args.at c.args.n (λ k. omega (arith, c.type_inv.s k))
    c.requires.1 c.if-n-lt2.true

pub returns : goal.returns
returns c =
    ap (λ (x : ℕ). eqb x 0) c.falls.ensures.0 ∙ sym
    (rises-if c.args.s.now c.args.at c.args.n (λ k. omega (arith, c.type_inv.s k))
    c.requires.1)
