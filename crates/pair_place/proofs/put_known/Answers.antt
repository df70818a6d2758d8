-- The containers at byte 6 and on, then the form over them: nothing of them lies outside it.
-- Assumes nothing.
use mathlib.Core.List.{List}
use mathlib.Core.Path.{◌≡◌, sym, ap, ◌∙◌}
use Prim.Native.Nat.{ℕ}
use native.Mathlib.Omega.{arith}
use lib.ListN.{take, length}
use Rattle.common.specs.Lists.{sum}
use Rattle.bitmap_spec.specs.Judge.{size_of}
use Rattle.bitmap_spec.specs.Output.{written}
use Rattle.form_write.proofs.Whole.{few, fine, size}
use Rattle.pair_write.proofs.Passing.{cells-sum, form-room}
use Rattle.pair_write.proofs.Result.{trimmed-long, trimmed-bytes, describes}
use Rattle.pair_place.proofs.Placing.{placed-form}
use Rattle.pair_place.proofs.put_known.Goals as goal

pub put_chunkwise-p-requires : goal.put_chunkwise-p-requires
put_chunkwise-p-requires c = (
  omega (arith, c.requires.0, c.args.x.sound.few, c.args.y.sound.few),
  c.requires.1,
  c.requires.2,
  omega (
    arith,
    c.requires.3,
    form-room c.args.o c.args.x c.args.y c.args.n c.requires.0,
  ),
)

pub slice_bounds-put_before-end-2 : goal.slice_bounds-put_before-end-2
slice_bounds-put_before-end-2 c =
    sym
    (trimmed-long c.args.o c.args.x c.args.y c.put_chunkwise-p.new.ds _ c.args.n c.trim-m.result
    c.put_chunkwise-p.result.card c.requires.0 c.put_chunkwise-p.ensures.descs c.trim-m.ensures
    c.put_chunkwise-p.ensures.reached.members)

pub put_before-requires : goal.put_before-requires
put_before-requires c =
    let d = describes c.args.o c.args.x c.args.y
    c.put_chunkwise-p.new.ds _ c.args.n c.trim-m.result c.put_chunkwise-p.result.card
    c.requires.0 c.put_chunkwise-p.ensures.descs c.trim-m.ensures c.put_chunkwise-p.ensures.reached.members in
    let w = trimmed-bytes c.args.o c.args.x c.args.y c.put_chunkwise-p.new.ds _ c.args.n c.trim-m.result
    c.put_chunkwise-p.result.card c.requires.0 c.put_chunkwise-p.ensures.descs c.trim-m.ensures
    c.put_chunkwise-p.ensures.reached.members in
    let e : c.put_chunkwise-p.result.size ≡ sum size_of
    (take c.trim-m.result c.put_chunkwise-p.new.ds) = c.put_chunkwise-p.ensures.reached.bytes
    ∙ ap length w ∙ sym (cells-sum _ _ _ _ d) in (
      few _ _ _ _ d,
      fine _ _ _ _ d,
      e,
      omega (arith, e, size _ _ _ _ d, c.requires.3, c.put_chunkwise-p.auto.out),
    )

pub returns : goal.returns
returns c =
    let d = describes c.args.o c.args.x c.args.y
    c.put_chunkwise-p.new.ds _ c.args.n c.trim-m.result c.put_chunkwise-p.result.card
    c.requires.0 c.put_chunkwise-p.ensures.descs c.trim-m.ensures c.put_chunkwise-p.ensures.reached.members in
    let w = trimmed-bytes c.args.o c.args.x c.args.y c.put_chunkwise-p.new.ds _ c.args.n c.trim-m.result
    c.put_chunkwise-p.result.card c.requires.0 c.put_chunkwise-p.ensures.descs c.trim-m.ensures
    c.put_chunkwise-p.ensures.reached.members in
    let e : c.put_chunkwise-p.result.size
    ≡ sum size_of (take c.trim-m.result c.put_chunkwise-p.new.ds) =
    c.put_chunkwise-p.ensures.reached.bytes ∙ ap length w ∙ sym (cells-sum _ _ _ _ d) in
    placed-form _ _ _ _ d c.args.out.now c.put_chunkwise-p.new.out _
    c.put_chunkwise-p.result.size _ e c.requires.3
    (c.put_chunkwise-p.ensures.bytes ∙ ap (λ (z : List ℕ). written c.args.out.now 6 z) w) c.put_before.ensures.1
    c.put_before.ensures.0
