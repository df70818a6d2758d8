-- What is left to scan from `end` on gives what the whole scan gives; the total is the length of the entries so far.
-- Assumes nothing.
use mathlib.Core.List.{[], ◌∷◌, ◌++◌}
use lib.ListN.{take, drop}
use Rattle.store_load.proofs.Steps.{read-start, read-bad, read_more, read-end, took, took-bad}
use Rattle.store_load.proofs.Steps.{total-none, scans-bad, scans-good, given-few, more-total}
use native.Mathlib.Omega.{arith}
use Rattle.store_load.proofs.scan_entries.Goals as goal

pub loop-k-init : goal.loop-k-init
loop-k-init c = (omega arith, omega arith, ([], read-start _ _ _, total-none))

pub returns-in_err-entry : goal.returns-in_err-entry
returns-in_err-entry c =
    let bad = read-bad _ _ _ _ _ c.loop-k.invariant.2.0 c.loop-k.invariant.2.1 c.loop-k-test.true
    (took-bad _ _ c.in_err-entry.ensures) in
    rw c.from_residual.ensures (scans-bad _ _ _ bad)

pub overflow_add-end : goal.overflow_add-end
overflow_add-end c = omega (arith, (took _ _ _ c.in_ok-entry.ensures).1.inside)

pub overflow_add-total : goal.overflow_add-total
overflow_add-total c = omega (arith, given-few _ _ _ (took _ _ _ c.in_ok-entry.ensures).1, c.requires)

pub loop-k-preserved : goal.loop-k-preserved
loop-k-preserved c =
    let x = took _ _ _ c.in_ok-entry.ensures in
    let e = c.in_ok-entry.entry in (
      omega arith,
      omega (arith, given-few _ _ _ x.1),
      (
        c.loop-k.invariant.2.0 ++ (take e.length (drop e.start c.args.s.now) ∷ []),
        read_more _ _ _ _ _ _ _ _ c.loop-k.invariant.2.1 c.loop-k-test.true x.0,
        more-total _ _ _ _ c.loop-k.invariant.2.0 x.1 c.loop-k.invariant.2.2,
      ),
    )

pub returns : goal.returns
returns c =
    let held = c.loop-k.invariant.2 in
    scans-good _ _ _ _ _ held.0 (read-end _ _ _ _ _ held.0 held.1 c.loop-k-test.false) held.2
