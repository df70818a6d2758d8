-- Nothing is left, or the other container as it stands.
-- Assumes nothing.
use mathlib.Core.Path.{sym, ap, ◌∙◌}
use native.Mathlib.Omega.{arith}
use lib.ListN.{length}
use Rattle.pair_write.specs.Sides.{pair_members}
use Rattle.pair_write.proofs.Alone.{only-first, only-second, not_first, not-second, said_of}
use Rattle.pair_write.proofs.Joined.{put-none}
use Rattle.pair_write.proofs.put_alone.Goals as goal

pub put_copy-requires : goal.put_copy-requires
put_copy-requires c =
    (c.requires.1, c.requires.4, c.requires.3)

pub returns-then-keeps_first : goal.returns-then-keeps_first
returns-then-keeps_first c =
    said_of (pair_members c.args.o c.args.a.now c.args.at c.args.d c.args.b.now c.args.bt c.args.e) _
    c.args.out.now _ c.args.to _
    (only-first c.args.o c.args.a.now c.args.at c.args.d c.args.b.now c.args.bt c.args.e
    (sym c.keeps_first.ensures ∙ c.if-keeps_first.true) c.requires.4 c.if-e-eq0.true)
    c.put_copy.ensures

pub returns-then-e-eq0 : goal.returns-then-e-eq0
returns-then-e-eq0 c =
    let z = not_first c.args.o c.args.a.now c.args.at c.args.d c.args.b.now c.args.bt c.args.e
    (sym c.keeps_first.ensures ∙ c.if-keeps_first.false) c.if-e-eq0.true in (
      sym (ap length z),
      omega arith,
      put-none (pair_members c.args.o c.args.a.now c.args.at c.args.d c.args.b.now c.args.bt c.args.e)
          c.args.out.now c.args.to z,
    )

pub put_copy-requires-then-keeps_second : goal.put_copy-requires-then-keeps_second
put_copy-requires-then-keeps_second c =
    (c.requires.2, c.requires.5, c.requires.3)

pub returns-then-keeps_second : goal.returns-then-keeps_second
returns-then-keeps_second c =
    said_of (pair_members c.args.o c.args.a.now c.args.at c.args.d c.args.b.now c.args.bt c.args.e) _
    c.args.out.now _ c.args.to _
    (only-second c.args.o c.args.a.now c.args.at c.args.d c.args.b.now c.args.bt c.args.e
    (sym c.keeps_second.ensures ∙ c.if-keeps_second.true) c.requires.5 (omega (arith, c.requires.0, c.if-e-eq0.false)))
    c.put_copy-then-keeps_second.ensures

pub returns : goal.returns
returns c =
    let z = not-second c.args.o c.args.a.now c.args.at c.args.d c.args.b.now c.args.bt c.args.e
    (sym c.keeps_second.ensures ∙ c.if-keeps_second.false)
    (omega (arith, c.requires.0, c.if-e-eq0.false)) in (
      sym (ap length z),
      omega arith,
      put-none (pair_members c.args.o c.args.a.now c.args.at c.args.d c.args.b.now c.args.bt c.args.e)
          c.args.out.now c.args.to z,
    )
