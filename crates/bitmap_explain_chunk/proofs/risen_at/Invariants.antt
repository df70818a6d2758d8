-- Rest invariant: those passed, and those of the rest that rise on, are those of the whole.
-- Assumes nothing.
use mathlib.Core.Path.{◌≡◌}
use Prim.Native.Nat.{◌+◌}
use lib.ListN.{drop}
use Rattle.bitmap_explain_spec.specs.Explain.{risen}
use Rattle.bitmap_explain_chunk.proofs.risen_at.Given as goal

abbrev pub invariant-loop-i : goal.invariant-loop-i
invariant-loop-i l = l.i + risen l.n l.low (drop l.i l.offsets) ≡ risen l.n 0 l.offsets
