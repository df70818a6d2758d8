-- The answer's cases are the outcome's; the mark is written only where it was 0. Assumes nothing.
use mathlib.Core.Bool.{Bool, true, false}
use mathlib.Core.Path.{◌≡◌, refl}
use native.Mathlib.Omega.{arith}
use mir.Val.{bool_byte}
use Rattle.common.specs.Outcome.{one}
use borrow.Author.Tests.{eq-eqb, ne_eqb}
use Rattle.c_bitmap.specs.Reading.{listing, Memory}
use Rattle.c_bitmap.proofs.Pages.{refused-page, page-given, page-few}
use Rattle.c_bitmap.proofs.reading.bitmap_page.Goals as goal

-- a mark as a byte is 1 or 0
as_one : (b : Bool) → bool_byte b ≡ one b
as_one true = refl
as_one false = refl

pub overflow_cast-given : goal.overflow_cast-given
unfolding listing
overflow_cast-given c = omega (arith, page-few c.args.bytes.now _ _ _ c.in-Ok.ensures.says)

pub returns-in-Err : goal.returns-in-Err
unfolding listing
returns-in-Err c =
    let m : Memory =
    record { list = c.args.list.now; given = c.args.given.now; place = c.args.place.now; mark = c.args.finished.now } in
    rw c.from.ensures (refused-page m _ c.in-Err.ensures)

pub returns-then-was-eq0 : goal.returns-then-was-eq0
unfolding listing
returns-then-was-eq0 c =
    let m : Memory =
    record { list = c.args.list.now; given = c.args.given.now; place = c.args.place.now; mark = c.args.finished.now } in
    page-given m _ _ c.in-Ok.ensures (rw (eq-eqb m.mark 0 c.if-was-eq0.true, c.from-then-was-eq0.ensures) (as_one c.in-Ok.page.next.finished))

pub returns-else-was-eq0 : goal.returns-else-was-eq0
unfolding listing
returns-else-was-eq0 c =
    let m : Memory =
    record { list = c.args.list.now; given = c.args.given.now; place = c.args.place.now; mark = c.args.finished.now } in
    page-given m _ m.mark c.in-Ok.ensures (rw (ne_eqb m.mark 0 c.if-was-eq0.false))
