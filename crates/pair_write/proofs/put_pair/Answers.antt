-- A block of fewer than 32 members gives way to its members; where the first is dense, the sides may be turned.
-- Assumes nothing.
use mathlib.Core.List.{[]}
use mathlib.Core.Path.{◌≡◌, sym, ap, ◌∙◌}
use native.Mathlib.Omega.{arith}
use borrow.Author.Rules.{rules}
use lib.ListN.{length}
use Rattle.pair_write.specs.Sides.{pair_members}
use Rattle.pair_write.proofs.Joined.{spread-members, put_low, put-high, put-none}
use Rattle.pair_write.proofs.Result.{pair-none, pair-few}
use Rattle.pair_write.proofs.Filtered.{turned-members, turned-second}
use Rattle.pair_write.proofs.put_pair.Goals as goal

pub returns-then-e-eq0 : goal.returns-then-e-eq0
returns-then-e-eq0 c =
    let z : pair_members c.args.o c.args.a.now c.args.at c.args.d c.args.b.now c.args.bt c.args.e ≡ [] = rw
    (c.if-d-eq0.true, c.if-e-eq0.true)
    (pair-none c.args.o c.args.a.now c.args.at c.args.b.now c.args.bt) in (
      sym (ap length z),
      omega arith,
      put-none (pair_members c.args.o c.args.a.now c.args.at c.args.d c.args.b.now c.args.bt c.args.e)
          c.args.out.now c.args.to z,
    )

pub put_alone-requires : goal.put_alone-requires
put_alone-requires c =
    (omega (arith, c.if-d-eq0.true), c.requires.0, c.requires.1, c.requires.2, c.requires.3, c.requires.4)

pub returns-then-d-eq0 : goal.returns-then-d-eq0
returns-then-d-eq0 c = c.put_alone.ensures

pub put_alone-requires-then-e-eq0-2 : goal.put_alone-requires-then-e-eq0-2
put_alone-requires-then-e-eq0-2 c =
    (omega (arith, c.if-e-eq0-2.true), c.requires.0, c.requires.1, c.requires.2, c.requires.3, c.requires.4)

pub returns-then-e-eq0-2 : goal.returns-then-e-eq0-2
returns-then-e-eq0-2 c = c.put_alone-then-e-eq0-2.ensures

pub put_filtered-requires : goal.put_filtered-requires
put_filtered-requires c = (
  c.if-d-lt32.true,
  sym c.keeps_second.ensures ∙ c.if-not-keeps_second.true,
  c.requires.0,
  c.requires.1,
  c.requires.2,
  c.requires.3,
)

pub returns-then-not-keeps_second : goal.returns-then-not-keeps_second
returns-then-not-keeps_second c = c.put_filtered.ensures

pub put_filtered-requires-then-not-keeps_first : goal.put_filtered-requires-then-not-keeps_first
put_filtered-requires-then-not-keeps_first c = (
  c.if-e-lt32.true,
  turned-second c.args.o (sym c.keeps_first.ensures ∙ c.if-not-keeps_first.true),
  c.requires.1,
  c.requires.0,
  c.requires.2,
  c.requires.4,
)

pub returns-then-not-keeps_first : goal.returns-then-not-keeps_first
returns-then-not-keeps_first c =
    rw
    (turned-members c.args.o (sym c.keeps_first.ensures ∙ c.if-not-keeps_first.true) c.args.a.now c.args.at
    c.args.d c.args.b.now c.args.bt c.args.e)
    c.put_filtered-then-not-keeps_first.ensures

pub join_pair-c-requires : goal.join_pair-c-requires
join_pair-c-requires c =
    (c.requires.0, c.requires.1, c.requires.2)

pub spread-requires : goal.spread-requires
spread-requires c =
    let m = spread-members c.args.o c.args.a.now c.args.at c.args.d c.args.b.now c.args.bt c.args.e
    c.args.out.now _ c.args.to _ c.requires.2 c.join_pair-c.ensures in
    (search rules, omega (arith, ap length m, c.join_pair-c.ensures.0, c.if-c-lt32.true))

pub returns-then-c-lt32 : goal.returns-then-c-lt32
returns-then-c-lt32 c = (
  c.join_pair-c.ensures.0,
  omega (arith, c.if-c-lt32.true),
  put_low c.args.o c.args.a.now c.args.at c.args.d c.args.b.now c.args.bt c.args.e c.args.out.now _
      c.args.to _ c.requires.2 c.join_pair-c.ensures _ c.if-c-lt32.true (search rules)
      c.spread.ensures.1,
)

pub returns : goal.returns
returns c = (
  c.join_pair-c.ensures.0,
  omega (
    arith,
    c.join_pair-c.ensures.0,
    pair-few c.args.o c.args.a.now c.args.at c.args.d c.args.b.now c.args.bt c.args.e,
  ),
  put-high c.args.o c.args.a.now c.args.at c.args.d c.args.b.now c.args.bt c.args.e c.args.out.now _
      c.args.to _ c.requires.2 c.join_pair-c.ensures c.if-c-lt32.false,
)
