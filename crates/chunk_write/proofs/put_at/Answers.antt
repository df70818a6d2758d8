-- Three bytes, primary values and exceptions, one behind the other, are the chunk.
-- Assumes nothing.
use Rattle.common.specs.Bytes.{ceil8}
use Rattle.chunk_parts.specs.Kept.{offsets}
use Rattle.chunk_write.proofs.Laying.{no_bits, chunk-bare, chunk-parts}
use mathlib.Core.Path.{◌≡◌, ap}
use Prim.Native.Nat.{ℕ, ◌-◌, ◌*◌}
use native.Mathlib.Omega.{arith}
use lib.ListN.{length}
use Rattle.chunk_write.proofs.put_at.Goals as goal

pub returns-then-e-eq0 : goal.returns-then-e-eq0
returns-then-e-eq0 c =
    let offs = offsets c.args.ws.now c.args.b (length c.args.ws.now) in
    let none : c.args.e ≡ 0 = omega arith in
    let bare : ceil8 (c.args.e * c.args.b2) ≡ 0 = rw none (no_bits c.args.b2) in (
      omega (arith, c.put_low-p.ensures.0),
      chunk-bare c.args.out.now c.args.vs.now c.args.m c.args.b c.args.b2 c.args.e c.args.at offs _ _ c.requires.5 none c.requires.6
          c.put3.ensures.1 c.put_low-p.ensures.1,
    )

pub put_exceptions-x-requires : goal.put_exceptions-x-requires
put_exceptions-x-requires c =
    let size = ap (λ (k : ℕ). ceil8 (k * c.args.b2)) c.requires.5 in
    (c.requires.0, c.requires.1, c.requires.2, c.requires.3, omega (arith, c.put_low-p.ensures.0))

pub overflow_add-result-3 : goal.overflow_add-result-3
overflow_add-result-3 c =
    let size = ap (λ (k : ℕ). ceil8 (k * c.args.b2)) c.requires.5 in
    omega (arith, c.put_low-p.ensures.0, c.put_exceptions-x.ensures.0)

pub returns : goal.returns
returns c =
    let offs = offsets c.args.ws.now c.args.b (length c.args.ws.now) in
    let size = ap (λ (k : ℕ). ceil8 (k * c.args.b2)) c.requires.5 in (
      omega (arith, c.put_low-p.ensures.0, c.put_exceptions-x.ensures.0),
      chunk-parts c.args.out.now c.args.vs.now offs c.args.m c.args.b c.args.b2 c.args.e c.args.at c.put_low-p.result _ _ _ c.requires.5
          c.requires.6
          c.put_low-p.ensures.0
          c.put3.ensures.1
          c.put_low-p.ensures.1 c.put_exceptions-x.ensures.1,
    )
