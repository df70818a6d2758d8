-- Both loops keep one fact: the members given so far, and after them those that are left, are all at or above the
-- place.
-- The inner one says so for whatever the page was where the container began. Assumes nothing.
use lib.ListN.{take, drop, length}
use mathlib.Core.Path.{◌≡◌}
use mathlib.Core.Bool.{true}
use mathlib.Core.List.{List}
use Prim.Native.Nat.{ℕ}
use Rattle.bitmap_spec.specs.Judge.{container, members_from}
use Rattle.bitmap_spec.specs.Ask.{at_or_above}
use Rattle.bitmap_read.proofs.Held.{Walk}
use Rattle.bitmap_list.proofs.Paging.{Paging, left}
use Rattle.bitmap_list.proofs.fill_page.Given as goal

abbrev pub invariant-loop-j : goal.invariant-loop-j
invariant-loop-j l = (l.all ≡ true) ×
    ((before more all : List ℕ)
    → Paging before l.initial.list l.initial.given l.place l.initial.next
    (left l.place l.k (container l.set.bytes.now l.at l.t) 0 more) all
    → Paging before l.list l.given l.place l.next (left l.place l.k (container l.set.bytes.now l.at l.t) l.j more) all)

abbrev pub invariant-containers : goal.invariant-containers
invariant-containers l = record {
  none_left : l.all ≡ true;
  walk : Walk l.set.bytes.now l.set.descriptors.now (length l.set.descriptors.now) l.at l.k;
  paging :
      Paging l.initial.list l.list l.given l.place l.next
      (at_or_above l.place
      (members_from l.set.bytes.now l.k l.at (drop l.k (take (length l.set.descriptors.now) l.set.descriptors.now))))
      (at_or_above l.place (members_from l.set.bytes.now l.first l.from (drop l.first l.set.descriptors.now)));
}
