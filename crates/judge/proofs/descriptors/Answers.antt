-- Rest invariant: the chunks that are left, behind the descriptors read, say what all chunks say.
-- Assumes nothing.
use mathlib.Core.Path.{◌≡◌, sym, ◌∙◌}
use Prim.Native.Nat.{◌+◌, ◌*◌}
use native.Mathlib.Omega.{arith}
use lib.ListN.{take}
use Rattle.std.proofs.lemmas.Result.{err_from_is_err_and}
use Rattle.judge.proofs.Chunking.{was-refused, was-found, chunks-stop, again, chunks-none, chunks-last, refuse}
use Rattle.judge.proofs.Chunking.{accept, listed}
use Rattle.judge.proofs.descriptors.Goals as goal

pub returns-in_err-at : goal.returns-in_err-at
returns-in_err-at c =
    let p = err_from_is_err_and c.from_residual.result c.from_residual.ensures.1 in
    rw (p.1, p.2)
    (refuse _ _ _ _
    (sym c.loop-i.invariant.3 ∙ chunks-stop c.args.s.now c.loop-i.at (take (c.loop-i.i * 256) c.loop-i.out) c.args.whole c.loop-i.i c.args.rest _
    c.loop-i-test.true (was-refused _ _ c.in_err-at.ensures.says)))

pub loop-i-preserved : goal.loop-i-preserved
loop-i-preserved c =
    let f = was-found _ _ c.in_ok-at.ensures.says in
    let r = again c.args.s.now c.loop-i.out _ c.loop-i.at _ c.loop-i.i c.args.whole c.args.rest _ f.0
    c.loop-i-test.true f.1 f.2
    (c.chunk_at.ensures.holds f.0 f.1) c.loop-i.invariant.3 in
    (omega arith, r.0, c.chunk_at.auto.out ∙ c.loop-i.invariant.2, r.1)

pub returns-then-rest-eq0 : goal.returns-then-rest-eq0
returns-then-rest-eq0 c =
    let e : c.args.whole * 256 + c.args.rest ≡ c.loop-i.i * 256 = omega arith in
    accept _ _ _ _ _
    (sym c.loop-i.invariant.3 ∙ chunks-none c.args.s.now c.loop-i.at (take (c.loop-i.i * 256) c.loop-i.out) c.args.whole c.loop-i.i c.args.rest
    c.loop-i-test.false c.if-rest-eq0.true)
    (rw e)

pub returns : goal.returns
returns c =
    let w : c.loop-i.i ≡ c.args.whole = omega arith in
    let q = sym c.loop-i.invariant.3 ∙ chunks-last c.args.s.now c.loop-i.at (take (c.loop-i.i * 256) c.loop-i.out) c.args.whole c.loop-i.i c.args.rest
    c.loop-i-test.false c.if-rest-eq0.false
    in
    rw (q, w) (listed _ _ _ _ _ _ c.chunk_at-2.ensures)
