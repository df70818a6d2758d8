-- After t bytes f counts those that do not rise, at most t.
-- Assumes nothing.
use mathlib.Core.Path.{refl}
use Prim.Native.Nat.{◌+◌, ◌-◌}
use native.Mathlib.Omega.{arith}
use lib.ListN.{get_or}
use lib.Dec.{leb}
use Rattle.bitmap_spec.proofs.Tally.{tally}
use Rattle.judge.proofs.Descents.{falls-more, byte_one, byte_le}
use Rattle.judge.proofs.falls.Goals as goal

pub loop-t-init : goal.loop-t-init
unfolding tally
loop-t-init c = (omega arith, refl, omega arith)

pub loop-t-preserved : goal.loop-t-preserved
loop-t-preserved c =
    let b = leb (get_or c.args.s.now (c.args.i + c.loop-t.t) 0) (get_or c.args.s.now (c.args.i + c.loop-t.t - 1) 0) in (
      omega arith,
      omega (arith, byte_one b, falls-more c.args.s.now c.args.i c.loop-t.t, c.loop-t.invariant.1),
      omega (arith, byte_le b, c.loop-t.invariant.2),
    )
