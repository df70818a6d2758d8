-- The exceptions are met in the order of their offsets, so exception j alone can be descriptor i's.
-- Assumes nothing.
use mathlib.Core.Path.{sym}
use native.Mathlib.Omega.{arith}
use Rattle.chunk_read.specs.Post.{primary_of}
use Rattle.chunk_read.proofs.Patching.{shifted}
use Rattle.bitmap_explain_chunk.proofs.Excepting.{own_is, none_is}
use Rattle.bitmap_explain_chunk.proofs.descriptor_at.Goals as goal

pub returns-then-owns : goal.returns-then-owns
unfolding primary_of
returns-then-owns c =
    let is = own_is c.args.s.now c.args.h c.args.i c.args.j c.requires.7 _ c.if-owns.true
    c.owns.ensures in
    rw ((shifted c.args.h.b1 c.args.h.b2 _ (omega arith) c.packed_value-then-owns.ensures.1).0, c.packed_value.ensures.0, c.packed_value-then-owns.ensures.0)
    (sym is)

pub returns : goal.returns
unfolding primary_of
returns c =
    let is = none_is c.args.s.now c.args.h c.args.i c.args.j c.requires.7 _ c.if-owns.false c.owns.ensures
    in
    rw c.packed_value.ensures.0 (sym is)
