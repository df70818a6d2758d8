-- The walk that is left ends where the whole ends; nulls holds the null bits from column i on. Assumes nothing.
use Prim.Native.Nat.{◌/◌, ◌%◌, ℕ, ◌+◌, ◌≤◌, ◌<◌}
use borrow.Author.Tests.{leb-true}
use lib.ListN.{take, drop, length}
use lib.Dec.{eqb}
use lib.Seq.{length-take-le, get_or-take}
use native.Mathlib.Nat.{div-one}
use Rattle.common.specs.Outcome.{pick}
use Rattle.common.specs.Bytes.{ceil8, little_at}
use Rattle.row_codes.specs.Codes.{span_of}
use Rattle.row_codes.proofs.Steps.{end_short, end-spare, end-codes}
use Rattle.row_codes.proofs.Spans.{spans-refused, spans-more, spans-within, nulls-next, codes-over, word-bit}
use mathlib.Core.Path.{◌≡◌, sym, ap, ◌∙◌}
use native.Mathlib.Omega.{arith}
use Rattle.row_codes.proofs.row_end.Goals as goal

pub returns-then-not-has : goal.returns-then-not-has
unfolding ceil8
returns-then-not-has c =
    sym
    (end_short c.args.s.now (take c.args.n c.args.codes.now) c.args.at c.args.n
    (length-take-le c.args.n c.args.codes.now (omega arith))
    (sym c.has.ensures ∙ c.if-not-has.true))

pub spare_zero-requires : goal.spare_zero-requires
unfolding ceil8
spare_zero-requires c = (
  leb-true (c.args.at + (c.args.n + 7) / 8) (length c.args.s.now)
      (sym c.has.ensures ∙ c.if-not-has.false),
  omega arith,
)

pub returns-then-not-spare_zero : goal.returns-then-not-spare_zero
unfolding ceil8
returns-then-not-spare_zero c =
    sym
    (end-spare c.args.s.now (take c.args.n c.args.codes.now) c.args.at c.args.n
    (length-take-le c.args.n c.args.codes.now (omega arith))
    (sym c.has.ensures ∙ c.if-not-has.false)
    (sym c.spare_zero.ensures ∙ c.if-not-spare_zero.true))

pub little_endian-nulls-requires : goal.little_endian-nulls-requires
little_endian-nulls-requires c = (
  leb-true (c.args.at + (c.args.n + 7) / 8) (length c.args.s.now)
      (sym c.has.ensures ∙ c.if-not-has.false),
  omega arith,
)

pub overflow_add-p : goal.overflow_add-p
overflow_add-p c =
    omega (
      arith,
      leb-true (c.args.at + (c.args.n + 7) / 8) (length c.args.s.now)
          (sym c.has.ensures ∙ c.if-not-has.false),
    )

pub loop-i-init : goal.loop-i-init
unfolding ceil8
loop-i-init c = (
  omega arith,
  c.little_endian-nulls.ensures.0 ∙ sym (div-one _),
  sym
      (end-codes c.args.s.now (take c.args.n c.args.codes.now) c.args.at c.args.n
      (length-take-le c.args.n c.args.codes.now (omega arith))
      (sym c.has.ensures ∙ c.if-not-has.false)
      (sym c.spare_zero.ensures ∙ c.if-not-spare_zero.false)),
)

pub returns-in_err-p : goal.returns-in_err-p
unfolding ceil8
returns-in_err-p c =
    let cs = take c.args.n c.args.codes.now in
    let cl : length (take c.args.n c.args.codes.now) ≡ c.args.n =
    length-take-le c.args.n c.args.codes.now (omega arith) in
    let more : c.loop-i.i < length (take c.args.n c.args.codes.now) = omega arith in
    let few : length (take c.args.n c.args.codes.now) ≤ 64 = omega arith in
    let word : little_at c.args.s.now c.args.at ((c.args.n + 7) / 8)
    ≡ little_at c.args.s.now c.args.at (ceil8 (length (take c.args.n c.args.codes.now))) = rw cl in
    let is : c.span_in-v.result ≡ pick
    (eqb (little_at c.args.s.now c.args.at ((c.args.n + 7) / 8)) 0)
    (span_of (drop c.loop-i.i (take c.args.n c.args.codes.now))) 0 =
    rw (
      ← c.little_endian-nulls.ensures.0,
      ←
          c.requires.2
          c.loop-i.i c.loop-i-test.true,
    )
    c.span_in-v.ensures in
    let b = ap (λ (x : ℕ). x % 2) c.loop-i.invariant.1 ∙ word-bit c.args.s.now
    (λ k.
    omega (
      arith,
      c.type_inv.s
          k,
    ))
    ((c.args.n + 7) / 8) c.args.at c.loop-i.i (omega arith) in
    let g = get_or-take c.args.n c.args.codes.now c.loop-i.i 0 c.loop-i-test.true in
    let e = sym c.in_err-p.ensures in
    c.from_residual.ensures ∙ sym
    (spans-refused c.args.s.now cs c.args.at c.loop-i.i c.loop-i.p _ c.span_in-v.result more
    few word is (rw (g, ← b) e))
    ∙ c.loop-i.invariant.2

pub overflow_add-i : goal.overflow_add-i
unfolding ceil8
overflow_add-i c =
    let cs = take c.args.n c.args.codes.now in
    let cl : length (take c.args.n c.args.codes.now) ≡ c.args.n =
    length-take-le c.args.n c.args.codes.now (omega arith) in
    let more : c.loop-i.i < length (take c.args.n c.args.codes.now) = omega arith in
    let few : length (take c.args.n c.args.codes.now) ≤ 64 = omega arith in
    let word : little_at c.args.s.now c.args.at ((c.args.n + 7) / 8)
    ≡ little_at c.args.s.now c.args.at (ceil8 (length (take c.args.n c.args.codes.now))) = rw cl in
    let is : c.span_in-v.result ≡ pick
    (eqb (little_at c.args.s.now c.args.at ((c.args.n + 7) / 8)) 0)
    (span_of (drop c.loop-i.i (take c.args.n c.args.codes.now))) 0 =
    rw (
      ←
          c.little_endian-nulls.ensures.0,
      ←
          c.requires.2
          c.loop-i.i c.loop-i-test.true,
    )
    c.span_in-v.ensures in
    let w = spans-within c.args.s.now cs c.args.at c.loop-i.i c.loop-i.p _
    c.span_in-v.result more few word is in
    omega (arith, c.span_columns-i.ensures, w.1)

pub loop-i-smaller : goal.loop-i-smaller
unfolding ceil8
loop-i-smaller c =
    let cs = take c.args.n c.args.codes.now in
    let cl : length (take c.args.n c.args.codes.now) ≡ c.args.n =
    length-take-le c.args.n c.args.codes.now (omega arith) in
    let more : c.loop-i.i < length (take c.args.n c.args.codes.now) = omega arith in
    let few : length (take c.args.n c.args.codes.now) ≤ 64 = omega arith in
    let word : little_at c.args.s.now c.args.at ((c.args.n + 7) / 8)
    ≡ little_at c.args.s.now c.args.at (ceil8 (length (take c.args.n c.args.codes.now))) = rw cl in
    let is : c.span_in-v.result ≡ pick
    (eqb (little_at c.args.s.now c.args.at ((c.args.n + 7) / 8)) 0)
    (span_of (drop c.loop-i.i (take c.args.n c.args.codes.now))) 0 =
    rw (
      ←
          c.little_endian-nulls.ensures.0,
      ←
          c.requires.2
          c.loop-i.i c.loop-i-test.true,
    )
    c.span_in-v.ensures in
    let w = spans-within c.args.s.now cs c.args.at c.loop-i.i c.loop-i.p _
    c.span_in-v.result more few word is in
    omega (arith, c.span_columns-i.ensures, w.0)

pub loop-i-preserved : goal.loop-i-preserved
unfolding ceil8
loop-i-preserved c =
    let cs = take c.args.n c.args.codes.now in
    let cl : length (take c.args.n c.args.codes.now) ≡ c.args.n =
    length-take-le c.args.n c.args.codes.now (omega arith) in
    let more : c.loop-i.i < length (take c.args.n c.args.codes.now) = omega arith in
    let few : length (take c.args.n c.args.codes.now) ≤ 64 = omega arith in
    let word : little_at c.args.s.now c.args.at ((c.args.n + 7) / 8)
    ≡ little_at c.args.s.now c.args.at (ceil8 (length (take c.args.n c.args.codes.now))) = rw cl in
    let is : c.span_in-v.result ≡ pick
    (eqb (little_at c.args.s.now c.args.at ((c.args.n + 7) / 8)) 0)
    (span_of (drop c.loop-i.i (take c.args.n c.args.codes.now))) 0 =
    rw (
      ←
          c.little_endian-nulls.ensures.0,
      ←
          c.requires.2
          c.loop-i.i c.loop-i-test.true,
    )
    c.span_in-v.ensures in
    let b = ap (λ (x : ℕ). x % 2) c.loop-i.invariant.1 ∙ word-bit c.args.s.now
    (λ k.
    omega (
      arith,
      c.type_inv.s
          k,
    ))
    ((c.args.n + 7) / 8) c.args.at c.loop-i.i (omega arith) in
    let g = get_or-take c.args.n c.args.codes.now c.loop-i.i 0
    c.loop-i-test.true in
    let w = spans-within c.args.s.now cs c.args.at c.loop-i.i c.loop-i.p _
    c.span_in-v.result more few word is in
    let e = sym c.in_ok-p.ensures in (
      omega (arith, c.span_columns-i.ensures, w.1),
      rw c.span_columns-i.ensures
          (ap (λ (x : ℕ). x / 2) c.loop-i.invariant.1 ∙ nulls-next c.args.s.now cs c.args.at c.loop-i.i c.loop-i.p _
          c.span_in-v.result more few word is),
      rw c.span_columns-i.ensures
          (sym
          (spans-more c.args.s.now cs c.args.at c.loop-i.i c.loop-i.p _
          c.span_in-v.result more few word is _
          (rw (g, ← b) e))
          ∙ c.loop-i.invariant.2),
    )

pub returns : goal.returns
returns c =
    let cl = length-take-le c.args.n c.args.codes.now (omega arith) in
    sym (codes-over c.args.s.now (take c.args.n c.args.codes.now) c.args.at c.loop-i.i c.loop-i.p (omega arith))
    ∙ c.loop-i.invariant.2
