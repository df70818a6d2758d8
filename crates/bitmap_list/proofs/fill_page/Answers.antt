-- Both loops keep one fact: the members given so far, and after them those that are left, are all at or above the
-- place.
-- Assumes nothing.
use lib.ListN.{take, drop, length}
use lib.Seq.{take_all}
use mathlib.Core.Path.{refl, sym, ap}
use Prim.Native.Nat.{ℕ, ◌+◌}
use native.Mathlib.Nat.{le_refl}
use native.Mathlib.Omega.{arith}
use Rattle.bitmap_spec.specs.Judge.{members_from}
use Rattle.bitmap_spec.specs.Ask.{at_or_above}
use Rattle.bitmap_read.proofs.Held.{walk-room, walk-next}
use Rattle.bitmap_list.proofs.Paging.{page-start, page-enter, page-last, page-over, page-on, page-off, page-stop}
use Rattle.bitmap_list.proofs.fill_page.Goals as goal
use Rattle.bitmap_list.proofs.fill_page.Goals.{then-place-x+else-given-list, else-place-x}

pub containers-init : goal.containers-init
containers-init c =
    let d = c.args.set.now.descriptors.now in
    rw (take_all (length d) d (le_refl (length d)))
    (record { none_left = refl; walk = c.requires; paging = page-start c.args.list.now c.args.place _ })

pub decode-m-requires : goal.decode-m-requires
decode-m-requires c = walk-room _ _ _ _ _ c.containers.invariant.walk c.containers-test.true

pub member-requires : goal.member-requires
member-requires c = (
  walk-room _ _ _ _ _ c.containers.invariant.walk c.containers-test.true,
  omega (arith, c.decode-m.ensures.0),
  c.decode-m.ensures.1,
)

pub returns-then-given-list : goal.returns-then-given-list
returns-then-given-list c =
    page-stop _ _ _ _ _ _ _ _ _ _
    (c.loop-j.invariant.1 _ _ _
    (page-enter _ _ _ _ _ _ c.containers.invariant.walk _ _ _ _ _ c.containers-test.true c.containers.invariant.paging))
    _ c.member.ensures (omega (arith, c.decode-m.ensures.0)) c.if-place-x.true c.if-given-list.true

pub offset_bounds-list-given : goal.offset_bounds-list-given
offset_bounds-list-given c =
    let within = c.loop-j.invariant.1 _ _ _
    (page-enter _ _ _ _ _ _ c.containers.invariant.walk _ _ _ _ _ c.containers-test.true c.containers.invariant.paging) in
    omega (arith, within.fits, within.same, c.if-given-list.false, c.well_formed)

pub bounds-list-given : goal.bounds-list-given
bounds-list-given c =
    let within = c.loop-j.invariant.1 _ _ _
    (page-enter _ _ _ _ _ _ c.containers.invariant.walk _ _ _ _ _ c.containers-test.true c.containers.invariant.paging) in
    omega (arith, within.fits)

pub overflow_add-given : goal.overflow_add-given
overflow_add-given c =
    let within = c.loop-j.invariant.1 _ _ _
    (page-enter _ _ _ _ _ _ c.containers.invariant.walk _ _ _ _ _ c.containers-test.true c.containers.invariant.paging) in
    omega (arith, within.fits, within.same)

pub loop-j-preserved : goal.loop-j-preserved
loop-j-preserved c =
    elim c.if-place-x.branch [
      | then-place-x+else-given-list w ↦ (
        c.loop-j.invariant.0,
        λ before more all g.
            rw (w.list-is, w.given-is, w.next-is)
            (page-on before _ _ _ _ _ _ _ _ _ (c.loop-j.invariant.1 before more all g) _ c.member.ensures
            (omega (arith, c.decode-m.ensures.0)) w.if-place-x.true w.if-given-list.false),
      )
      | else-place-x w ↦ (
        c.loop-j.invariant.0,
        λ before more all g.
            rw (w.list-is, w.given-is, w.next-is)
            (page-off before _ _ _ _ _ _ _ _ _ (c.loop-j.invariant.1 before more all g) _ c.member.ensures
            (omega (arith, c.decode-m.ensures.0)) w.if-place-x.false),
      )
    ]

pub overflow_add-at : goal.overflow_add-at
overflow_add-at c =
    omega (arith, c.size_of-at.ensures, walk-room _ _ _ _ _ c.containers.invariant.walk c.containers-test.true)

pub containers-preserved : goal.containers-preserved
containers-preserved c =
    let d = c.args.set.now.descriptors.now in record {
      none_left = c.loop-j.invariant.0;
      walk = walk-next _ _ _ _ _ c.containers.invariant.walk c.containers-test.true _ c.size_of-at.ensures;
      paging =
          page-over _ _ _ _ _ _ _ _ _ _
          (c.loop-j.invariant.1 _ _ _
          (page-enter _ _ _ _ _ _ c.containers.invariant.walk _ _ _ _ _ c.containers-test.true c.containers.invariant.paging))
          _ (omega (arith, c.decode-m.ensures.0))
          (ap
          (λ (z : ℕ).
          at_or_above c.args.place
          (members_from c.args.set.now.bytes.now (c.containers.k + 1) (c.containers.at + z) (drop (c.containers.k + 1) (take (length d) d))))
          (sym c.size_of-at.ensures));
    }

pub returns-after-containers : goal.returns-after-containers
returns-after-containers c =
    rw c.containers.invariant.none_left
    (page-last _ _ _ _ _ _ c.containers.invariant.walk _ _ _ _ _ c.containers-test.false c.containers.invariant.paging)
