-- 1, 2, 3, then the chunks, then what follows them: each fault is the definition's.
-- Assumes nothing.
use mathlib.Core.Path.{◌≡◌, refl}
use Prim.Native.Nat.{◌+◌, ◌*◌, ◌/◌, ◌%◌}
use native.Mathlib.Omega.{arith}
use lib.ListN.{length, get_or}
use Rattle.std.proofs.lemmas.Result.{err_from_is_err_and}
use Rattle.judge.proofs.Judging.{has_room}
use Rattle.bitmap_explain.proofs.Telling.{told1, told2, told3, told-chunk, told-body}
use Rattle.bitmap_explain.proofs.walk_again.Goals as goal

pub returns-then-s-lt6 : goal.returns-then-s-lt6
returns-then-s-lt6 c = rw c.fault_of_whole.ensures (told1 c.args.s.now c.if-s-lt6.true)

pub returns-then-s-ne1 : goal.returns-then-s-ne1
returns-then-s-ne1 c =
    rw c.fault_of_whole-then-s-ne1.ensures (told2 c.args.s.now c.if-s-lt6.false c.if-s-ne1.true)

pub returns-then-count-gt8192 : goal.returns-then-count-gt8192
returns-then-count-gt8192 c =
    rw c.fault_of_whole-then-count-gt8192.ensures
    (told3 c.args.s.now c.if-s-lt6.false c.if-s-ne1.false _ refl c.if-count-gt8192.true)

pub chunks_fault-requires : goal.chunks_fault-requires
chunks_fault-requires c =
    let room = has_room c.args.s.now (length c.args.d.now) c.requires c.if-s-lt6.false c.if-count-gt8192.false in
    (c.if-s-lt6.false, omega arith, omega (arith, room))

pub returns-in_err-start : goal.returns-in_err-start
returns-in_err-start c =
    let p = err_from_is_err_and c.from_residual.result c.from_residual.ensures.1 in
    rw (p.1, p.2)
    (told-chunk c.args.s.now c.if-s-lt6.false c.if-s-ne1.false _ refl c.if-count-gt8192.false _ c.in_err-start.ensures)

pub body_fault-requires : goal.body_fault-requires
body_fault-requires c =
    let room = has_room c.args.s.now (length c.args.d.now) c.requires c.if-s-lt6.false c.if-count-gt8192.false in (
      omega (arith, c.if-s-lt6.false),
      c.in_ok-start.ensures.1,
      c.if-count-gt8192.false,
      omega (arith, c.chunks_fault.auto.out, room),
    )

pub returns : goal.returns
returns c =
    let n = get_or c.args.s.now 4 0 + 256 * get_or c.args.s.now 5 0 in
    let whole : n / 256 * 256 + n % 256 ≡ n = omega arith in
    told-body c.args.s.now c.if-s-lt6.false c.if-s-ne1.false n refl c.if-count-gt8192.false _ _
    (rw whole at c.in_ok-start.ensures.0) c.body_fault.ensures
