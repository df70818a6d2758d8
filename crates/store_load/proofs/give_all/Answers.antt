-- The first k slots hold the first k entries, laid one behind the other; the sum of all fits, so the next fits too.
-- Assumes nothing.
use mathlib.Core.List.{List, [], ◌∷◌, ◌++◌}
use lib.ListN.{take, drop}
use Rattle.store_load.proofs.Steps.{read-start, read-bad, read_more, read-end, read_next, read-room}
use Rattle.store_load.proofs.Steps.{frame-bad, frame, entry-there, more-total, load-start, not-both, same_entries}
use mathlib.Core.Path.{refl, sym, ap, ◌∙◌}
use Prim.Native.Nat.{ℕ, ◌+◌, ◌-◌}
use native.Mathlib.Omega.{arith}
use lib.ListN.{get_or}
use Rattle.store_load.proofs.give_all.Goals as goal

pub loop-k-init : goal.loop-k-init
loop-k-init c =
    (omega arith, c.empty_all.auto.dir ∙ c.requires.1, refl, ([], read-start _ _ _, load-start _ _ _ c.empty_all.ensures))

pub shape_of-dir-in_default : goal.shape_of-dir-in_default
shape_of-dir-in_default c =
    c.loop-k.invariant.1 ∙ sym c.requires.1

pub shape_of-buf-in_default : goal.shape_of-buf-in_default
shape_of-buf-in_default c =
    c.loop-k.invariant.2

pub returns-in_default : goal.returns-in_default
returns-in_default c =
    λ x e.
    not-both _ x e
    (read-bad _ _ _ _ _ c.loop-k.invariant.3.0 c.loop-k.invariant.3.1 c.loop-k-test.true
    (frame-bad _ _ c.in_default.ensures))

pub give-to-requires : goal.give-to-requires
give-to-requires c =
    let f = frame _ _ _ c.in-Some.ensures in
    let t = read_next _ _ _ _ _ c.loop-k.invariant.3.0 c.requires.2.0 c.loop-k.invariant.3.1 c.loop-k-test.true c.requires.2.1 in
    let x = entry-there _ _ _ _ f.0 f.1 t.0 t.1 in (
      c.requires.0,
      c.loop-k-test.true,
      c.loop-k.invariant.1,
      x.1,
      omega (
        arith,
        more-total c.args.s.now c.in-Some.entry.start c.in-Some.entry.length c.loop-k.to c.loop-k.invariant.3.0 x.1
            c.loop-k.invariant.3.2.sum,
        read-room c.args.s.now c.args.first c.args.n (c.loop-k.k + 1) (c.in-Some.entry.start + c.in-Some.entry.length)
            (c.loop-k.invariant.3.0 ++ (take c.in-Some.entry.length (drop c.in-Some.entry.start c.args.s.now) ∷ []))
            c.requires.2.0
            (read_more c.args.s.now c.args.first c.args.n c.loop-k.k c.loop-k.at c.in-Some.entry.start
            c.in-Some.entry.length c.loop-k.invariant.3.0 c.loop-k.invariant.3.1 c.loop-k-test.true x.0)
            c.requires.2.1,
        c.requires.2.2,
        c.loop-k.invariant.2,
      ),
      omega (arith, c.loop-k.invariant.3.2.few, c.requires.0),
    )

pub overflow_add-at : goal.overflow_add-at
overflow_add-at c =
    let f = frame _ _ _ c.in-Some.ensures in
    omega (arith, f.1)

pub loop-k-preserved : goal.loop-k-preserved
loop-k-preserved c =
    let f = frame _ _ _ c.in-Some.ensures in
    let t = read_next _ _ _ _ _ c.loop-k.invariant.3.0 c.requires.2.0 c.loop-k.invariant.3.1 c.loop-k-test.true c.requires.2.1 in
    let x = entry-there _ _ _ _ f.0 f.1 t.0 t.1 in (
      omega arith,
      c.give-to.auto.dir ∙ c.loop-k.invariant.1,
      c.give-to.auto.buf ∙ c.loop-k.invariant.2,
      (
        c.loop-k.invariant.3.0 ++ (take c.in-Some.entry.length (drop c.in-Some.entry.start c.args.s.now) ∷ []),
        read_more _ _ _ _ _ _ _ _ c.loop-k.invariant.3.1 c.loop-k-test.true x.0,
        rw c.give-to.ensures.0 (c.give-to.ensures.1 c.loop-k.invariant.3.0 c.loop-k.invariant.3.2),
      ),
    )

pub shape_of-dir : goal.shape_of-dir
shape_of-dir c =
    c.loop-k.invariant.1 ∙ sym c.requires.1

pub shape_of-buf : goal.shape_of-buf
shape_of-buf c = c.loop-k.invariant.2

pub returns : goal.returns
returns c =
    λ x e.
    let q = same_entries _ c.loop-k.invariant.3.0 c.loop-k.at x
    (read-end _ _ _ _ _ c.loop-k.invariant.3.0 c.loop-k.invariant.3.1 c.loop-k-test.false) e in (
      c.loop-k.invariant.3.2.lies,
      λ j h. c.loop-k.invariant.3.2.held j h ∙ ap (λ (es : List (List ℕ)). get_or es j []) q,
    )
