-- The invariant (Packing): q bytes are out and acc has the r bits that follow them; a turn adds one value and emits a
-- whole byte.
-- Assumes nothing.
use Rattle.bit_pack.proofs.Bytes.{start, small, more, byte-lt, at-fits, emit, full, last-lt, last_fits, closed}
use native.Mathlib.Omega.{arith}
use lib.ListN.{length, get_or}
use Rattle.bit_pack.proofs.put_few.Goals as goal
use Rattle.bit_pack.proofs.put_few.Goals.{then-have-lt8, else-have-lt8}

pub loop-i-init : goal.loop-i-init
loop-i-init c = start (λ k. get_or c.args.vals.now k 0) c.args.w (length c.args.vals.now) c.args.out.now c.args.at
    c.requires.2

pub push-all-requires : goal.push-all-requires
push-all-requires c = (
  c.requires.0,
  small (λ k. get_or c.args.vals.now k 0) c.args.w (length c.args.vals.now)
      c.args.out.now c.args.at c.requires.2 c.loop-i.out c.loop-i.acc c.loop-i.r c.loop-i.q c.loop-i.i c.loop-i.invariant,
)

pub high_byte-requires : goal.high_byte-requires
high_byte-requires c = (
  omega (arith, c.loop-i.invariant.few, c.requires.0, c.if-have-lt8.false),
  byte-lt (λ k. get_or c.args.vals.now k 0) c.args.w (length c.args.vals.now) c.args.out.now c.args.at c.requires.2
      c.loop-i.out c.loop-i.acc c.loop-i.r c.loop-i.q c.loop-i.i c.loop-i.invariant c.push-all.result c.loop-i-test.true
      c.push-all.ensures c.if-have-lt8.false c.requires.0,
)

pub bounds-out-at : goal.bounds-out-at
bounds-out-at c = at-fits (λ k. get_or c.args.vals.now k 0) c.args.w (length c.args.vals.now) c.args.out.now c.args.at
    c.requires.2 c.loop-i.out c.loop-i.acc c.loop-i.r c.loop-i.q c.loop-i.i c.loop-i.invariant c.push-all.result
    c.loop-i-test.true c.push-all.ensures c.if-have-lt8.false c.requires.0

pub loop-i-preserved : goal.loop-i-preserved
loop-i-preserved c =
    elim c.if-have-lt8.branch [
      | then-have-lt8 w ↦ rw (w.out-is, w.acc-is, w.r-is, w.q-is)
          (more (λ k. get_or c.args.vals.now k 0) c.args.w (length c.args.vals.now) c.args.out.now c.args.at
          c.requires.2 c.loop-i.out c.loop-i.acc c.loop-i.r c.loop-i.q c.loop-i.i c.loop-i.invariant c.push-all.result
          c.loop-i-test.true c.push-all.ensures w.if-have-lt8.true)
      | else-have-lt8 w ↦ rw (w.out-is, w.acc-is, w.r-is, w.q-is)
          (emit (λ k. get_or c.args.vals.now k 0) c.args.w (length c.args.vals.now) c.args.out.now c.args.at
          c.requires.2 c.loop-i.out c.loop-i.acc c.loop-i.r c.loop-i.q c.loop-i.i c.loop-i.invariant c.push-all.result
          c.loop-i-test.true c.push-all.ensures w.if-have-lt8.false c.requires.0 w.high_byte.result
          w.low_bits-acc.result w.high_byte.ensures w.low_bits-acc.ensures)
    ]

pub returns-then-r-eq0 : goal.returns-then-r-eq0
returns-then-r-eq0 c = full (λ k. get_or c.args.vals.now k 0) c.args.w (length c.args.vals.now) c.args.out.now
    c.args.at c.requires.2 c.loop-i.out c.loop-i.acc c.loop-i.r c.loop-i.q c.loop-i.i c.loop-i.invariant
    c.loop-i-test.false c.if-r-eq0.true

pub last_byte-requires : goal.last_byte-requires
last_byte-requires c = (
  omega (arith, c.if-r-eq0.false),
  c.loop-i.invariant.few,
  last-lt (λ k. get_or c.args.vals.now k 0) c.args.w (length c.args.vals.now) c.args.out.now c.args.at c.requires.2
      c.loop-i.out c.loop-i.acc c.loop-i.r c.loop-i.q c.loop-i.i c.loop-i.invariant c.loop-i-test.false
      (omega (arith, c.if-r-eq0.false)),
)

pub bounds-out-at-2 : goal.bounds-out-at-2
bounds-out-at-2 c = last_fits (λ k. get_or c.args.vals.now k 0) c.args.w (length c.args.vals.now) c.args.out.now
    c.args.at c.requires.2 c.loop-i.out c.loop-i.acc c.loop-i.r c.loop-i.q c.loop-i.i c.loop-i.invariant
    c.loop-i-test.false (omega (arith, c.if-r-eq0.false))

pub returns : goal.returns
returns c = closed (λ k. get_or c.args.vals.now k 0) c.args.w (length c.args.vals.now) c.args.out.now c.args.at
    c.requires.2 c.loop-i.out c.loop-i.acc c.loop-i.r c.loop-i.q c.loop-i.i c.loop-i.invariant c.loop-i-test.false
    (omega (arith, c.if-r-eq0.false)) c.last_byte.result c.last_byte.ensures
