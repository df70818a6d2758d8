-- The invariant: members, descriptors and bytes of the containers passed; at and bt are where the next two lie, t where
-- the next one goes.
-- Assumes nothing.
use mathlib.Core.List.{List, map, append-nil}
use mathlib.Core.Path.{◌≡◌, refl, sym, ap, ◌∙◌}
use Prim.Native.Nat.{ℕ, ◌≤◌}
use native.Mathlib.Omega.{arith}
use borrow.Author.Rules.{rules}
use lib.ListN.{length-set, length}
use Rattle.common.specs.Lists.{from}
use Rattle.bitmap_spec.specs.Form.{cut, write_containers}
use Rattle.bitmap_spec.specs.Judge.{size_of}
use Rattle.bitmap_spec.specs.Output.{written}
use Rattle.pair_write.specs.Sides.{result_of}
use Rattle.pair_write.proofs.Pairs.{place-next, side-room, side-ok}
use Rattle.pair_write.proofs.Result.{next-cut, next-card, next-bytes}
use Rattle.pair_write.proofs.Sources.{next-size, cells-small}
use Rattle.pair_write.proofs.Passing.{gathered}
use Rattle.pair_write.proofs.Skipping.{cleared, cleared-length, desc-over, empty-first, first_past}
use Rattle.pair_write.proofs.Skipping.{second_past, members-past, cells-past, zeros-past, zeros-end}
use Rattle.pair_write.proofs.gather.Goals as goal

pub clear-requires : goal.clear-requires
clear-requires c =
    (c.requires.1, c.requires.3)

pub loop-k-init : goal.loop-k-init
loop-k-init c = (
  omega arith,
  c.requires.1,
  c.requires.0.few,
  omega arith,
  c.requires.0.first,
  c.requires.0.second,
  refl,
  refl,
  c.requires.0.members,
  omega (arith, c.requires.0.bytes),
  λ f h q. q,
  append-nil _,
)

pub overflow_add-k : goal.overflow_add-k
overflow_add-k c =
    omega (arith, c.requires.2, c.loop-k-test.true)

pub pass_empty-k-requires : goal.pass_empty-k-requires
pass_empty-k-requires c =
    (omega (arith, c.loop-k-test.true), c.requires.2)

pub loop-k-smaller-then-both_empty : goal.loop-k-smaller-then-both_empty
loop-k-smaller-then-both_empty c = omega (arith, c.pass_empty-k.ensures.0, c.pass_empty-k.ensures.1)

pub loop-k-preserved-then-both_empty : goal.loop-k-preserved-then-both_empty
loop-k-preserved-then-both_empty c =
    let z = c.both_empty.ensures c.if-both_empty.true in
    let e = empty-first _ _ c.loop-k.k _ (sym c.descriptor_at-d.ensures ∙ z.0) (sym c.descriptor_at-e.ensures ∙ z.1)
    c.pass_empty-k.ensures.2 in
    let up : c.loop-k.k ≤ c.pass_empty-k.result = omega (arith, c.pass_empty-k.ensures.0) in (
      omega (arith, c.loop-k.invariant.0),
      c.pass_empty-k.ensures.1,
      omega (arith, c.loop-k.invariant.2),
      c.loop-k.invariant.3,
      c.loop-k.invariant.4 ∙ sym
          (first_past c.args.o c.args.x c.args.y c.loop-k.k c.pass_empty-k.result up e),
      c.loop-k.invariant.5 ∙ sym
          (second_past c.args.o c.args.x c.args.y c.loop-k.k c.pass_empty-k.result up e),
      c.loop-k.invariant.6,
      c.loop-k.invariant.7,
      c.loop-k.invariant.8 ∙ sym
          (members-past c.args.o c.args.x c.args.y c.loop-k.k c.pass_empty-k.result up e),
      c.loop-k.invariant.9 ∙ sym
          (ap length
          (cells-past c.args.o c.args.x c.args.y c.loop-k.k c.pass_empty-k.result up e)),
      λ f h q.
          c.loop-k.invariant.10 f h q ∙ ap (λ (s : List ℕ). written f 0 s)
          (zeros-past c.args.o c.args.x c.args.y c.loop-k.k c.pass_empty-k.result up e
          c.args.n c.pass_empty-k.ensures.1),
      c.loop-k.invariant.11 ∙ sym
          (cells-past c.args.o c.args.x c.args.y c.loop-k.k c.pass_empty-k.result up e),
    )

pub put_pair-c-requires : goal.put_pair-c-requires
put_pair-c-requires c = (
  rw c.descriptor_at-d.ensures (side-room c.args.x c.loop-k.k c.loop-k.at c.loop-k.invariant.4),
  rw c.descriptor_at-e.ensures (side-room c.args.y c.loop-k.k c.loop-k.bt c.loop-k.invariant.5),
  omega (
    arith,
    c.loop-k.invariant.7,
    c.loop-k.invariant.9,
    c.requires.4.roomy c.loop-k.k c.loop-k.invariant.0 c.loop-k-test.true,
  ),
  rw c.descriptor_at-d.ensures (side-ok c.args.x c.loop-k.k c.loop-k.at c.loop-k.invariant.4),
  rw c.descriptor_at-e.ensures (side-ok c.args.y c.loop-k.k c.loop-k.bt c.loop-k.invariant.5),
)

pub bounds-ds-k : goal.bounds-ds-k
bounds-ds-k c =
    omega (
      arith,
      c.loop-k-test.true,
      c.loop-k.invariant.6,
      c.requires.3,
      cleared-length c.args.ds.now _ c.args.start c.args.n c.requires.1 c.requires.3 c.clear.ensures,
    )

pub overflow_add-card : goal.overflow_add-card
overflow_add-card c =
    omega (arith, c.loop-k.invariant.2, c.loop-k.invariant.1, c.put_pair-c.ensures.1, c.requires.2)

pub overflow_add-t : goal.overflow_add-t
overflow_add-t c =
    omega (
      arith,
      c.loop-k.invariant.9,
      c.loop-k.invariant.1,
      c.descriptor-m.ensures,
      c.requires.2,
      cells-small
          (result_of c.args.o c.args.x c.args.y)
          c.loop-k.k,
    )

pub overflow_add-at : goal.overflow_add-at
overflow_add-at c =
    omega (
      arith,
      c.well_formed.1.0,
      side-room c.args.x c.loop-k.k c.loop-k.at c.loop-k.invariant.4,
      c.size_of-at.ensures ∙ ap size_of c.descriptor_at-d.ensures,
    )

pub overflow_add-bt : goal.overflow_add-bt
overflow_add-bt c =
    omega (
      arith,
      c.well_formed.1.1.1.1.0,
      side-room c.args.y c.loop-k.k c.loop-k.bt c.loop-k.invariant.5,
      c.size_of-bt.ensures ∙ ap size_of c.descriptor_at-e.ensures,
    )

pub overflow_add-k-else-both_empty : goal.overflow_add-k-else-both_empty
overflow_add-k-else-both_empty c =
    omega (arith, c.requires.2, c.loop-k-test.true)

pub loop-k-smaller : goal.loop-k-smaller
loop-k-smaller c =
    omega (arith, c.loop-k-test.true)

pub loop-k-preserved : goal.loop-k-preserved
loop-k-preserved c =
    let made = c.put_pair-c.ensures.0 ∙ sym
    (ap length
    (next-cut c.args.o c.args.x c.args.y c.loop-k.k c.loop-k.at c.loop-k.bt _ _
    c.loop-k.invariant.4 c.loop-k.invariant.5 c.descriptor_at-d.ensures c.descriptor_at-e.ensures)) in (
      omega (arith, c.loop-k.invariant.0),
      omega (arith, c.loop-k-test.true),
      omega (arith, c.put_pair-c.ensures.1, c.loop-k.invariant.2),
      omega (
        arith,
        c.descriptor-m.ensures,
        c.loop-k.invariant.9,
        c.requires.4.roomy c.loop-k.k c.loop-k.invariant.0 c.loop-k-test.true,
      ),
      place-next c.args.x c.loop-k.k c.loop-k.at _ c.loop-k.invariant.4
          (c.size_of-at.ensures ∙ ap size_of c.descriptor_at-d.ensures),
      place-next c.args.y c.loop-k.k c.loop-k.bt _ c.loop-k.invariant.5
          (c.size_of-bt.ensures ∙ ap size_of c.descriptor_at-e.ensures),
      simp length-set c.loop-k.invariant.6,
      search rules,
      next-card c.args.o c.args.x c.args.y c.loop-k.k c.loop-k.at c.loop-k.bt _ _ c.loop-k.invariant.4
          c.loop-k.invariant.5 c.descriptor_at-d.ensures c.descriptor_at-e.ensures _ _ c.put_pair-c.ensures.0
          c.loop-k.invariant.8,
      next-size (result_of c.args.o c.args.x c.args.y)
          c.loop-k.k c.args.p.size c.loop-k.t c.put_pair-c.result _ c.loop-k.invariant.9 made c.descriptor-m.ensures,
      λ f h q.
          desc-over
          (result_of c.args.o c.args.x c.args.y) f
          c.loop-k.ds c.args.n c.loop-k.k _ c.put_pair-c.result c.loop-k-test.true made c.descriptor-m.ensures
          (c.loop-k.invariant.10 f h q),
      next-bytes c.args.o c.args.x c.args.y c.loop-k.k c.loop-k.at c.loop-k.bt _ _ c.loop-k.invariant.4
          c.loop-k.invariant.5 c.descriptor_at-d.ensures c.descriptor_at-e.ensures
          (write_containers
          (map
          (cut
          (result_of c.args.o c.args.x c.args.y))
          (from 0 c.args.start)))
          c.loop-k.body _ c.loop-k.t _ _ c.loop-k.invariant.11 c.put_pair-c.ensures.0 c.descriptor-m.ensures
          c.put_pair-c.ensures.2,
    )

pub overflow_add-size : goal.overflow_add-size
overflow_add-size c =
    omega (
      arith,
      c.requires.2,
      c.loop-k.invariant.1,
      c.loop-k.invariant.9,
      cells-small
          (result_of c.args.o c.args.x c.args.y)
          c.loop-k.k,
    )

pub shape_of-ds : goal.shape_of-ds
shape_of-ds c =
    c.loop-k.invariant.6 ∙ cleared-length c.args.ds.now _ c.args.start c.args.n c.requires.1 c.requires.3
    c.clear.ensures

pub shape_of-body : goal.shape_of-body
shape_of-body c = c.loop-k.invariant.7

pub returns : goal.returns
returns c =
    let end : c.loop-k.k ≡ c.args.n = omega (arith, c.loop-k-test.false, c.loop-k.invariant.1) in
    gathered (result_of c.args.o c.args.x c.args.y)
    c.args.x c.args.y c.args.start c.args.n c.loop-k.k c.args.p c.args.ds.now
    c.loop-k.ds c.loop-k.body c.loop-k.t _ c.requires.0 end (omega (arith, c.loop-k.invariant.3, c.loop-k.invariant.7))
    refl c.loop-k.invariant.8
    c.loop-k.invariant.2 c.loop-k.invariant.9 c.loop-k.invariant.4 c.loop-k.invariant.5
    (λ f h q.
    c.loop-k.invariant.10 f h
    (cleared
    (result_of c.args.o c.args.x c.args.y)
    f c.args.ds.now _ c.args.start c.args.n c.requires.1 h q c.clear.ensures)
    ∙ zeros-end
    (result_of c.args.o c.args.x c.args.y) f
    c.loop-k.k c.args.n end)
    c.loop-k.invariant.11
