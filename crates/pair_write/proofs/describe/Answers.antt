-- The invariant: the descriptors of the containers passed; at and bt are where the next two lie; no mark is above k, so
-- container k's stamp, k + 1, is new.
-- Assumes nothing.
use mathlib.Core.Path.{◌≡◌, refl, sym, ap, ◌∙◌}
use mathlib.Core.List.{List}
use Prim.Native.Nat.{ℕ, ◌+◌, ◌≤◌}
use native.Mathlib.Omega.{arith}
use lib.ListN.{length-set, length}
use Rattle.bitmap_spec.specs.Judge.{size_of}
use Rattle.bitmap_spec.specs.Output.{written}
use Rattle.form_write.proofs.Cells.{no-descs}
use Rattle.pair_write.specs.Sides.{result_of}
use Rattle.pair_write.proofs.Marking.{start-fresh, later-fresh}
use Rattle.pair_write.proofs.Pairs.{place-start, place-next, side-room, side-ok}
use Rattle.pair_write.proofs.Result.{next-cut}
use Rattle.pair_write.proofs.Skipping.{cleared, cleared-length, desc-over, empty-first}
use Rattle.pair_write.proofs.Skipping.{first_past, second_past, zeros-past, zeros-end}
use Rattle.pair_write.proofs.describe.Goals as goal

pub clear-requires : goal.clear-requires
clear-requires c =
    (omega arith, c.requires.1)

pub loop-k-init : goal.loop-k-init
loop-k-init c = (
  omega arith,
  place-start c.args.x,
  place-start c.args.y,
  refl,
  refl,
  λ f h q. q,
  start-fresh,
)

pub overflow_add-k : goal.overflow_add-k
overflow_add-k c =
    omega (arith, c.requires.0, c.loop-k-test.true)

pub pass_empty-k-requires : goal.pass_empty-k-requires
pass_empty-k-requires c =
    (omega (arith, c.loop-k-test.true), c.requires.0)

pub loop-k-smaller-then-both_empty : goal.loop-k-smaller-then-both_empty
loop-k-smaller-then-both_empty c = omega (arith, c.pass_empty-k.ensures.0, c.pass_empty-k.ensures.1)

pub loop-k-preserved-then-both_empty : goal.loop-k-preserved-then-both_empty
loop-k-preserved-then-both_empty c =
    let z = c.both_empty.ensures c.if-both_empty.true in
    let e = empty-first _ _ c.loop-k.k _ (sym c.descriptor_at-d.ensures ∙ z.0) (sym c.descriptor_at-e.ensures ∙ z.1)
    c.pass_empty-k.ensures.2 in
    let up : c.loop-k.k ≤ c.pass_empty-k.result = omega (arith, c.pass_empty-k.ensures.0) in (
      c.pass_empty-k.ensures.1,
      c.loop-k.invariant.1 ∙ sym
          (first_past c.args.o c.args.x c.args.y c.loop-k.k c.pass_empty-k.result up e),
      c.loop-k.invariant.2 ∙ sym
          (second_past c.args.o c.args.x c.args.y c.loop-k.k c.pass_empty-k.result up e),
      c.loop-k.invariant.3,
      c.loop-k.invariant.4,
      λ f h q.
          c.loop-k.invariant.5 f h q ∙ ap (λ (s : List ℕ). written f 0 s)
          (zeros-past c.args.o c.args.x c.args.y c.loop-k.k c.pass_empty-k.result up e
          c.args.n c.pass_empty-k.ensures.1),
      later-fresh _ (c.loop-k.k + 1) (c.pass_empty-k.result + 1) (omega arith) c.loop-k.invariant.6,
    )

pub overflow_add-k-else-both_empty : goal.overflow_add-k-else-both_empty
overflow_add-k-else-both_empty c =
    omega (arith, c.requires.0, c.loop-k-test.true)

pub overflow_cast-k : goal.overflow_cast-k
overflow_cast-k c =
    omega (arith, c.requires.0, c.loop-k-test.true)

pub slice_bounds-pair_count-end : goal.slice_bounds-pair_count-end
slice_bounds-pair_count-end c =
    sym c.loop-k.invariant.4

pub pair_count-c-requires : goal.pair_count-c-requires
pair_count-c-requires c = (
  rw c.descriptor_at-d.ensures (side-room c.args.x c.loop-k.k c.loop-k.at c.loop-k.invariant.1),
  rw c.descriptor_at-e.ensures (side-room c.args.y c.loop-k.k c.loop-k.bt c.loop-k.invariant.2),
  rw c.descriptor_at-d.ensures (side-ok c.args.x c.loop-k.k c.loop-k.at c.loop-k.invariant.1),
  rw c.descriptor_at-e.ensures (side-ok c.args.y c.loop-k.k c.loop-k.bt c.loop-k.invariant.2),
  c.loop-k.invariant.6,
)

pub bounds-ds-k : goal.bounds-ds-k
bounds-ds-k c =
    omega (
      arith,
      c.loop-k-test.true,
      c.loop-k.invariant.3,
      c.requires.1,
      cleared-length c.args.ds.now _ 0 c.args.n (omega arith) c.requires.1 c.clear.ensures,
    )

pub overflow_add-at : goal.overflow_add-at
overflow_add-at c =
    omega (
      arith,
      c.well_formed.1.0,
      side-room c.args.x c.loop-k.k c.loop-k.at c.loop-k.invariant.1,
      c.size_of-at.ensures ∙ ap size_of c.descriptor_at-d.ensures,
    )

pub overflow_add-bt : goal.overflow_add-bt
overflow_add-bt c =
    omega (
      arith,
      c.well_formed.1.1.1.1.0,
      side-room c.args.y c.loop-k.k c.loop-k.bt c.loop-k.invariant.2,
      c.size_of-bt.ensures ∙ ap size_of c.descriptor_at-e.ensures,
    )

pub overflow_add-k-else-both_empty-2 : goal.overflow_add-k-else-both_empty-2
overflow_add-k-else-both_empty-2 c =
    omega (arith, c.requires.0, c.loop-k-test.true)

pub loop-k-smaller : goal.loop-k-smaller
loop-k-smaller c =
    omega (arith, c.loop-k-test.true)

pub loop-k-preserved : goal.loop-k-preserved
loop-k-preserved c =
    let made = sym
    (ap length
    (next-cut c.args.o c.args.x c.args.y c.loop-k.k c.loop-k.at c.loop-k.bt _ _
    c.loop-k.invariant.1 c.loop-k.invariant.2 c.descriptor_at-d.ensures c.descriptor_at-e.ensures)) in (
      omega (arith, c.loop-k-test.true),
      place-next c.args.x c.loop-k.k c.loop-k.at _ c.loop-k.invariant.1
          (c.size_of-at.ensures ∙ ap size_of c.descriptor_at-d.ensures),
      place-next c.args.y c.loop-k.k c.loop-k.bt _ c.loop-k.invariant.2
          (c.size_of-bt.ensures ∙ ap size_of c.descriptor_at-e.ensures),
      simp length-set c.loop-k.invariant.3,
      c.pair_count-c.auto.marks ∙ c.loop-k.invariant.4,
      λ f h q.
          desc-over
          (result_of c.args.o c.args.x c.args.y) f
          c.loop-k.ds c.args.n c.loop-k.k _ _ c.loop-k-test.true made
          (c.descriptor.ensures ∙ c.pair_count-c.ensures.0) (c.loop-k.invariant.5 f h q),
      c.pair_count-c.ensures.1,
    )

pub shape_of-ds : goal.shape_of-ds
shape_of-ds c =
    c.loop-k.invariant.3 ∙ cleared-length c.args.ds.now _ 0 c.args.n (omega arith) c.requires.1 c.clear.ensures

pub returns : goal.returns
returns c =
    let end : c.loop-k.k ≡ c.args.n = omega (arith, c.loop-k-test.false, c.loop-k.invariant.0) in
    let all = c.loop-k.invariant.5 c.args.ds.now c.requires.1
    (cleared
    (result_of c.args.o c.args.x c.args.y)
    c.args.ds.now c.args.ds.now _ 0 c.args.n (omega arith) c.requires.1
    (no-descs
    (result_of c.args.o c.args.x c.args.y)
    c.args.ds.now)
    c.clear.ensures)
    ∙ zeros-end
    (result_of c.args.o c.args.x c.args.y)
    c.args.ds.now c.loop-k.k c.args.n end in
    rw end at all
