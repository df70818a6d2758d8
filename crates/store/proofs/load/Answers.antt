-- All entries are judged half by half before the first byte is written; then each half is given its own.
-- Assumes nothing.
use Rattle.store_spec.specs.Owners.{half}
use Rattle.store_halves.proofs.Loading.{ended, load-short, load-first, load-second, load-behind, load-done, all-refused}
use mathlib.Core.Path.{◌∙◌}
use native.Mathlib.Omega.{arith}
use borrow.Author.Rules.{rules}
use Rattle.store.proofs.load.Goals as goal

pub returns-then-dir-ne128 : goal.returns-then-dir-ne128
returns-then-dir-ne128 c = all-refused _ _ _ _ (load-short _ _ _ c.if-dir-ne128.true)

pub returns-in_default : goal.returns-in_default
unfolding half
returns-in_default c =
    all-refused _ _ _ _
    (load-first _ _ _ c.if-dir-ne128.false c.in_default.ensures)

pub returns-in_default-scan_entries : goal.returns-in_default-scan_entries
unfolding half
returns-in_default-scan_entries c =
    let x = ended _ _ _ _ c.in-Some.ensures in
    all-refused _ _ _ _
    (load-second _ _ _ c.if-dir-ne128.false _ x c.in_default-scan_entries.ensures)

pub returns-then-q-saved : goal.returns-then-q-saved
unfolding half
returns-then-q-saved c =
    let x = ended _ _ _ _ c.in-Some.ensures in
    let y = ended _ _ _ _ c.in-Some-scan_entries.ensures in
    all-refused _ _ _ _ (load-behind _ _ _ c.if-dir-ne128.false _ x _ y c.if-q-saved.true)

pub give_all-requires : goal.give_all-requires
unfolding half
give_all-requires c =
    let x = ended _ _ _ _ c.in-Some.ensures in
    (omega arith, c.if-dir-ne128.false, (x.0, x.1, x.3))

pub give_all-requires-2 : goal.give_all-requires-2
unfolding half
give_all-requires-2 c =
    let y = ended _ _ _ _ c.in-Some-scan_entries.ensures in
    (omega arith, c.give_all.auto.dir ∙ c.if-dir-ne128.false, (y.0, y.1, omega (arith, y.3, c.give_all.auto.buf)))

pub returns : goal.returns
unfolding half
returns c =
    let x = ended _ _ _ _ c.in-Some.ensures in
    let y = ended _ _ _ _ c.in-Some-scan_entries.ensures in
    load-done _ _ _ c.if-dir-ne128.false _ x _ y _ _ _ _ _ c.if-q-saved.false (c.give_all.ensures x.0 x.1)
    (c.give_all-2.ensures y.0 y.1)
