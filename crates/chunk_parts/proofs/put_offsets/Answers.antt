-- The offsets so far are written: those of the widths over b.
-- Assumes nothing.
use lib.ListN.{length-set, length, get_or}
use Rattle.bitmap_laws.proofs.Output.{written_none}
use Rattle.chunk_parts.proofs.Turns.{offs-none, off-on, off-off, room-on}
use mathlib.Core.Path.{◌≡◌, refl, ap, ◌∙◌}
use Prim.Native.Nat.{◌+◌, ◌≤◌, ◌<◌}
use native.Mathlib.Omega.{arith}
use Rattle.chunk_parts.proofs.put_offsets.Goals as goal
use Rattle.chunk_parts.proofs.put_offsets.Goals.{then-narrow-w, else-narrow-w}

pub loop-i-init : goal.loop-i-init
loop-i-init c =
    let none = offs-none c.args.ws.now c.args.b in
    (refl, rw none, rw none (written_none c.args.out.now c.args.at))

pub overflow_add-out : goal.overflow_add-out
overflow_add-out c =
    omega (
      arith,
      room-on c.args.ws.now c.args.b c.loop-i.i (length c.args.ws.now) c.loop-i.e (omega arith) (omega arith)
          c.loop-i.invariant.1,
    )

pub bounds-out-at : goal.bounds-out-at
bounds-out-at c =
    omega (
      arith,
      room-on c.args.ws.now c.args.b c.loop-i.i (length c.args.ws.now) c.loop-i.e (omega arith) (omega arith)
          c.loop-i.invariant.1,
    )

pub overflow_add-e : goal.overflow_add-e
overflow_add-e c =
    omega (
      arith,
      room-on c.args.ws.now c.args.b c.loop-i.i (length c.args.ws.now) c.loop-i.e (omega arith) (omega arith)
          c.loop-i.invariant.1,
    )

pub loop-i-preserved : goal.loop-i-preserved
loop-i-preserved c =
    let more : c.loop-i.i < length c.args.ws.now = omega arith in
    elim c.if-narrow-w.branch [
      | then-narrow-w w ↦ let over : c.args.b < get_or c.args.ws.now c.loop-i.i 0 = omega (arith, w.if-narrow-w.true) in
          let room = room-on c.args.ws.now c.args.b c.loop-i.i (length c.args.ws.now) c.loop-i.e more over
          c.loop-i.invariant.1 in
          let on = off-on c.args.ws.now c.args.b c.args.out.now c.loop-i.out c.args.at c.loop-i.i c.loop-i.e
          c.loop-i.invariant.1 c.loop-i.invariant.2 over
          (omega arith) in (
            ap length w.out-is ∙ length-set c.loop-i.out (c.args.at + c.loop-i.e) c.loop-i.i ∙ c.loop-i.invariant.0,
            w.e-is ∙ on.0,
            w.out-is ∙ on.1,
          )
      | else-narrow-w w ↦ let under : get_or c.args.ws.now c.loop-i.i 0 ≤ c.args.b =
          omega (arith, w.if-narrow-w.false) in
          let off = off-off c.args.ws.now c.args.b c.args.out.now c.loop-i.out c.args.at c.loop-i.i c.loop-i.e
          c.loop-i.invariant.1 c.loop-i.invariant.2 under in
          (ap length w.out-is ∙ c.loop-i.invariant.0, w.e-is ∙ off.0, w.out-is ∙ off.1)
    ]

pub shape_of-out : goal.shape_of-out
shape_of-out c = c.loop-i.invariant.0

pub returns : goal.returns
returns c =
    let end : c.loop-i.i ≡ length c.args.ws.now = omega arith in
    (rw end at c.loop-i.invariant.1, rw end at c.loop-i.invariant.2)
