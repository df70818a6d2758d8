-- The loop keeps v as the big endian number of the bytes read so far, below 256 to their number: no sum wraps. Assumes
-- nothing.
use mathlib.Core.Path.{◌≡◌, refl}
use Rattle.common.specs.Bytes.{big_at}
use Rattle.row_laws.proofs.Bytes.{be-turn, be-grows, be-room}
use native.Mathlib.Omega.{arith}
use Rattle.numbers.proofs.big_endian.Goals as goal

pub loop-j-init : goal.loop-j-init
unfolding big_at
loop-j-init c = (omega arith, refl, omega arith)

pub overflow_mul-v : goal.overflow_mul-v
overflow_mul-v c = omega (arith, be-room c.loop-j.v c.loop-j.j (omega arith) c.loop-j.invariant.2)

pub overflow_add-v : goal.overflow_add-v
overflow_add-v c = omega (arith, be-room c.loop-j.v c.loop-j.j (omega arith) c.loop-j.invariant.2, c.wide.ensures.1)

pub loop-j-preserved : goal.loop-j-preserved
loop-j-preserved c = let l = c.loop-j in
    let a = c.args in (
      omega arith,
      rw (be-turn a.s.now a.at l.j, ← l.invariant.1, c.wide.ensures.0),
      be-grows l.v c.wide.result l.j l.invariant.2 c.wide.ensures.1,
    )

pub returns : goal.returns
returns c = let e : c.loop-j.j ≡ c.args.w = omega arith in
    (rw (← e) c.loop-j.invariant.1, rw (← e) c.loop-j.invariant.2)
