-- The invariant: the bytes from i on are at their place, and all else is as it was; those before i are read before they
-- are written over.
-- Assumes nothing.
use mathlib.Core.Path.{refl, ◌∙◌}
use Prim.Native.Nat.{ℕ, ◌-◌}
use native.Mathlib.Omega.{arith}
use lib.ListN.{length-replicate}
use Rattle.byte_move.proofs.Moves.{move-none, move-turn, move-end}
use Rattle.byte_move.proofs.move_up.Goals as goal

pub loop-i-init : goal.loop-i-init
loop-i-init c =
    let args = c.args in
    (omega arith, length-replicate {A = ℕ} 1024 0, refl, move-none args.s.now args.from args.to args.n)

pub shift-requires : goal.shift-requires
shift-requires c =
    let pre = c.requires in
    let inv = c.loop-i.invariant in
    (omega (arith, inv, pre), omega (arith, inv, pre), omega (arith, inv))

pub loop-i-preserved : goal.loop-i-preserved
loop-i-preserved c =
    let args = c.args in
    let pre = c.requires in
    let loop = c.loop-i in
    let loop-test = c.loop-i-test in
    let shift = c.shift in (
      omega (arith, loop.invariant.0),
      shift.auto.part ∙ loop.invariant.1,
      shift.auto.s ∙ loop.invariant.2,
      move-turn args.s.now loop.s _ args.from args.to args.n loop.i 1024 (loop.i - 1024) pre.0
          pre.1 loop.invariant.0 (omega (arith, loop-test.true)) loop.invariant.3 shift.ensures,
    )

pub shift-requires-2 : goal.shift-requires-2
shift-requires-2 c =
    let pre = c.requires in
    let inv = c.loop-i.invariant in
    (omega (arith, inv, pre), omega (arith, inv, pre), omega (arith, inv, c.loop-i-test.false))

pub returns : goal.returns
returns c =
    let args = c.args in
    let pre = c.requires in
    let loop = c.loop-i in
    let shift2 = c.shift-2 in
    move-end args.s.now loop.s _ args.from args.to args.n loop.i pre.0 pre.1 loop.invariant.0
    loop.invariant.3 shift2.ensures
