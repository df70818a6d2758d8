-- Header, chunks and the bytes from `start` on are the parts of what is laid.
-- Assumes nothing.
use lib.Seq.{length-take-le}
use Rattle.bitmap_rewrite.proofs.Laying.{length-laid}
use mathlib.Core.Path.{sym, ap, ◌∙◌}
use Prim.Native.Nat.{◌+◌, ◌-◌}
use native.Mathlib.Omega.{arith}
use lib.ListN.{length}
use Rattle.bitmap_rewrite.proofs.laid_size.Goals as goal

pub slice_bounds-chunks_size-end : goal.slice_bounds-chunks_size-end
slice_bounds-chunks_size-end c =
    sym (length-take-le _ _ c.requires.3)

pub chunks_size-requires : goal.chunks_size-requires
chunks_size-requires c =
    (omega (arith, length-take-le c.args.n c.args.d.now c.requires.3), c.requires.4)

pub returns : goal.returns
returns c =
    sym
    (length-laid _ _ _ 0 c.requires.0 ∙ ap (λ x. 6 + x + (length c.args.s.now - c.args.start))
    (sym c.chunks_size.ensures.0))
