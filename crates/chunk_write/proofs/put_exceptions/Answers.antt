-- The offsets, and behind them the parts of the values at these offsets.
-- Assumes nothing.
use Rattle.common.specs.Bytes.{ceil8}
use Rattle.chunk_parts.proofs.Turns.{offs-few, offs-below}
use Rattle.chunk_parts.specs.Kept.{offsets}
use Rattle.chunk_write.proofs.Laying.{put-held, put_both}
use mathlib.Core.Path.{◌≡◌, ap}
use Prim.Native.Nat.{ℕ, ◌+◌, ◌-◌, ◌*◌}
use native.Mathlib.Omega.{arith}
use lib.ListN.{length}
use Rattle.chunk_write.proofs.put_exceptions.Goals as goal

pub put_high-x-requires : goal.put_high-x-requires
put_high-x-requires c =
    let offs = offsets c.args.ws.now c.args.b (length c.args.ws.now) in
    let few = offs-few c.args.ws.now c.args.b (length c.args.ws.now) in
    let held = put-held c.args.vs.now offs c.args.out.now _ c.args.b c.args.b2 c.args.at c.put_offsets-o.result c.put_offsets-o.ensures.0
    (omega arith)
    c.put_offsets-o.ensures.1 in
    let many : c.args.at + c.put_offsets-o.result - c.args.at ≡ length offs = omega arith in
    let parts = ap (λ (k : ℕ). ceil8 (k * c.args.b2)) many in (
      omega arith,
      omega arith,
      c.requires.2,
      c.requires.3,
      λ j h. rw held (omega (arith, offs-below c.args.ws.now c.args.b (length c.args.ws.now) j (omega arith))),
      omega arith,
    )

pub overflow_add-result : goal.overflow_add-result
overflow_add-result c =
    let offs = offsets c.args.ws.now c.args.b (length c.args.ws.now) in
    let many : c.args.at + c.put_offsets-o.result - c.args.at ≡ length offs = omega arith in
    let parts = ap (λ (k : ℕ). ceil8 (k * c.args.b2)) many in
    omega arith

pub returns : goal.returns
returns c =
    let offs = offsets c.args.ws.now c.args.b (length c.args.ws.now) in
    let many : c.args.at + c.put_offsets-o.result - c.args.at ≡ length offs = omega arith in
    let parts = ap (λ (k : ℕ). ceil8 (k * c.args.b2)) many in
    let size = ap (λ (k : ℕ). ceil8 (k * c.args.b2)) c.put_offsets-o.ensures.0 in (
      omega (arith, c.put_high-x.ensures.0),
      put_both c.args.vs.now offs c.args.out.now _ c.args.b c.args.b2 c.args.at c.put_offsets-o.result c.put_offsets-o.ensures.0 (omega arith)
          c.put_offsets-o.ensures.1 _
          (omega arith) c.put_high-x.ensures.1,
    )
