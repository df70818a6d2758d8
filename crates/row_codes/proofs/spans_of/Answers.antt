-- From the last column on: the spans made so far are the definition's. Assumes nothing.
use lib.ListN.{take, drop, length-set, length-replicate, length-drop, length}
use lib.Seq.{length-take-le, get_or-take}
use Rattle.row_codes.specs.Codes.{span_of}
use Rattle.row_codes.proofs.Spans.{span_small, span-before, spans-before, span-start}
use mathlib.Core.Path.{◌≡◌, sym, ◌∙◌}
use Prim.Native.Nat.{ℕ, ◌-◌, ◌≤◌}
use native.Mathlib.Omega.{arith}
use Rattle.row_codes.proofs.spans_of.Goals as goal

pub loop-i-init : goal.loop-i-init
loop-i-init c = (
  omega arith,
  length-replicate {A = ℕ} 64 0,
  sym (span-start (take c.args.n c.args.codes.now) c.args.n (length-take-le c.args.n c.args.codes.now (omega arith))),
  λ j l h. absurd (omega arith),
)

pub longer_span-span-requires : goal.longer_span-span-requires
longer_span-span-requires c =
    let cl = length-take-le c.args.n
    c.args.codes.now (omega arith) in let d = length-drop c.loop-i.i (take c.args.n c.args.codes.now) in
    let b = span_small
    (drop c.loop-i.i (take c.args.n c.args.codes.now)) (omega arith) in rw c.loop-i.invariant.2 b

pub loop-i-preserved : goal.loop-i-preserved
loop-i-preserved c =
    let cl = length-take-le c.args.n c.args.codes.now (omega arith) in
    let m : c.loop-i.i ≤ length (take c.args.n c.args.codes.now) = omega arith in
    let g = get_or-take c.args.n c.args.codes.now (c.loop-i.i - 1) 0 (omega arith) in
    let b = span-before (take c.args.n c.args.codes.now) c.loop-i.spans c.loop-i.i c.loop-i-test.true m in
    let v : c.longer_span-span.result ≡ span_of (drop (c.loop-i.i - 1) (take c.args.n c.args.codes.now)) =
    c.longer_span-span.ensures ∙
    rw (g, ← c.loop-i.invariant.2) at b in (
      omega arith,
      length-set c.loop-i.spans (c.loop-i.i - 1) _ ∙ c.loop-i.invariant.1,
      v,
      spans-before (take c.args.n c.args.codes.now) c.loop-i.spans c.loop-i.i c.loop-i-test.true m c.args.n _
          (omega arith) v c.loop-i.invariant.3,
    )

pub returns : goal.returns
returns c = λ i h. c.loop-i.invariant.3 i (omega arith) h
