-- After b blocks f counts those of b * 240 bytes.
-- Assumes nothing.
use mathlib.Core.Path.{◌≡◌}
use Prim.Native.Nat.{◌-◌, ◌*◌, ◌≤◌}
use Rattle.bitmap_spec.proofs.Tally.{tally}
use Rattle.judge.specs.Post.{fall}
use Rattle.judge.proofs.all_falls.Given as goal

abbrev pub invariant-loop-b : goal.invariant-loop-b
invariant-loop-b l = (l.b ≤ l.blocks) × (l.f ≡ tally (fall l.s) l.from (l.b * 240)) × (l.f ≤ l.b * 240)

abbrev pub decreases-loop-b : goal.decreases-loop-b
decreases-loop-b l = l.blocks - l.b
