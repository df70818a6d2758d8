-- The parts of the exceptions whose offsets lie before, packed.
-- Assumes nothing.
use mathlib.Core.List.{List}
use Rattle.bitmap_spec.specs.Output.{written}
use Rattle.chunk_write.proofs.Laying.{held-long, high-long, high_is}
use mathlib.Core.Path.{ap, ◌∙◌}
use Prim.Native.Nat.{ℕ, ◌-◌}
use native.Mathlib.Omega.{arith}
use Rattle.chunk_write.proofs.put_high.Goals as goal

pub high_parts-e-requires : goal.high_parts-e-requires
high_parts-e-requires c =
    let long = held-long c.args.vs.now c.args.out.now c.args.from c.args.at c.args.b c.args.b2 c.requires.0 (omega arith) in
    (omega arith, c.requires.2, λ j h. c.requires.4 j (omega arith))

pub slice_bounds-put_packed-end : goal.slice_bounds-put_packed-end
slice_bounds-put_packed-end c =
    let long = held-long c.args.vs.now c.args.out.now c.args.from c.args.at c.args.b c.args.b2 c.requires.0 (omega arith) in
    let front = high-long c.args.vs.now c.args.out.now c.args.from c.args.at c.args.b c.args.b2 c.requires.0 (omega arith)
    c.high_parts-e.result _
    _ c.high_parts-e.ensures.0 c.high_parts-e.ensures.1 in
    omega arith

pub put_packed-requires : goal.put_packed-requires
put_packed-requires c =
    let front = high-long c.args.vs.now c.args.out.now c.args.from c.args.at c.args.b c.args.b2 c.requires.0 (omega arith)
    c.high_parts-e.result _
    _ c.high_parts-e.ensures.0 c.high_parts-e.ensures.1 in
    (c.requires.3, rw front c.requires.1, rw front c.requires.5)

pub returns : goal.returns
returns c =
    let front = high-long c.args.vs.now c.args.out.now c.args.from c.args.at c.args.b c.args.b2 c.requires.0 (omega arith)
    c.high_parts-e.result _
    _ c.high_parts-e.ensures.0 c.high_parts-e.ensures.1 in
    let packed = high_is c.args.vs.now c.args.out.now c.args.from c.args.at c.args.b c.args.b2 c.requires.0 (omega arith)
    c.high_parts-e.result _ _
    c.high_parts-e.ensures.0 c.high_parts-e.ensures.1 in
    (c.put_packed.ensures.0 ∙ rw front, c.put_packed.ensures.1 ∙ ap (λ (l : List ℕ). written c.args.out.now c.args.at l) packed)
