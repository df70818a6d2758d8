-- The bytes that are there decide: a bad one is 32, then too few are 31. Assumes nothing.
use Rattle.row_spec.specs.declared.Storage.TheVariants as storage
use Rattle.bucket_piece.specs.Stored.{stored}
use Rattle.bucket_piece.proofs.Stored.{booleans-none, boolean-cut, booleans-over, booleans-bad, part-small, small-part}
use mathlib.Core.Path.{◌≡◌, sym, ap, ◌∙◌}
use Prim.Native.Nat.{ℕ, ◌+◌, ◌-◌}
use native.Mathlib.Omega.{arith}
use Rattle.bucket_piece.proofs.run.booleans_end.Goals as goal

pub returns-then-n-eq0 : goal.returns-then-n-eq0
returns-then-n-eq0 c =
    let e : c.args.n ≡ 0 = c.if-n-eq0.true in rw e
    (sym (booleans-none c.args.s.now c.args.at))

pub returns-then-s-at : goal.returns-then-s-at
returns-then-s-at c =
    sym (boolean-cut c.args.s.now c.args.n c.args.at (omega arith) c.if-s-at.true)

pub returns-then-largest-gt1 : goal.returns-then-largest-gt1
returns-then-largest-gt1 c =
    let m : c.args.n ≡ c.min-there.result +
    (c.args.n - c.min-there.result) = omega
    (arith, c.min-there.ensures) in sym
    (ap
    (λ (x : ℕ).
    stored c.args.s.now storage.Boolean x
    c.args.at)
    m ∙ booleans-bad c.args.s.now
    c.min-there.result
    (c.args.n - c.min-there.result)
    c.args.at
    (omega (arith, c.min-there.ensures))
    (λ h. let q = c.largest.ensures.1
    (small-part c.args.s.now c.args.at _ _ (omega (arith, c.min-there.ensures)) (omega arith) h) in omega arith))

pub returns-then-there-n : goal.returns-then-there-n
returns-then-there-n c =
    let m : c.args.n ≡ c.min-there.result + (c.args.n - c.min-there.result) = omega (arith, c.min-there.ensures) in
    sym
    (ap (λ (x : ℕ). stored c.args.s.now storage.Boolean x c.args.at) m ∙ booleans-over c.args.s.now
    c.min-there.result (c.args.n - c.min-there.result) c.args.at (omega (arith, c.min-there.ensures))
    (part-small c.args.s.now c.args.at _ _ (omega (arith, c.min-there.ensures)) (omega arith)
    (c.largest.ensures.0 c.if-largest-gt1.false)) ∙ boolean-cut c.args.s.now
    (c.args.n - c.min-there.result) (c.args.at + c.min-there.result) (omega arith)
    (omega (arith, c.min-there.ensures)))

pub returns : goal.returns
returns c =
    let m : c.min-there.result ≡ c.args.n = omega (arith, c.min-there.ensures) in
    let z : c.args.n ≡ c.args.n + 0 = omega arith in
    sym
    (ap (λ (x : ℕ). stored c.args.s.now storage.Boolean x c.args.at) z ∙ booleans-over c.args.s.now c.args.n 0
    c.args.at (omega (arith, c.min-there.ensures))
    (rw (← m) (part-small c.args.s.now c.args.at _ _ (omega (arith, c.min-there.ensures)) (omega arith)
    (c.largest.ensures.0 c.if-largest-gt1.false))) ∙ booleans-none c.args.s.now
    (c.args.at + c.args.n))
