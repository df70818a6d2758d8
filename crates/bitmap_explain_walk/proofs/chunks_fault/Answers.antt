-- Rest invariant: what the chunks that are left tell, behind the descriptors read, is what all chunks tell.
-- Assumes nothing.
use mathlib.Core.Path.{◌≡◌, sym, ap, ◌∙◌}
use Prim.Native.Nat.{ℕ, ◌+◌, ◌*◌}
use native.Mathlib.Omega.{arith}
use lib.ListN.{take}
use mathlib.Core.List.{◌++◌}
use Rattle.judge.proofs.Chunking.{was-refused, was-found}
use Rattle.bitmap_spec.proofs.Reading.{chunk-sound}
use Rattle.bitmap_explain_walk.proofs.Walking.{chunk-told, chunks-stop, chunks-none, last-stop, last-fine, again, next}
use Rattle.bitmap_explain_walk.proofs.chunks_fault.Goals as goal

pub returns-in-Err : goal.returns-in-Err
returns-in-Err c =
    sym c.loop-i.invariant.told ∙ chunks-stop c.args.s.now c.loop-i.at (take (c.loop-i.i * 256) c.loop-i.out) c.args.whole
    c.loop-i.i c.args.rest _ c.loop-i-test.true
    (chunk-told c.args.s.now c.loop-i.i c.loop-i.at 256 _ _ (was-refused _ _ c.in-Err.ensures.says) c.chunk_fault.ensures)

pub loop-i-preserved : goal.loop-i-preserved
loop-i-preserved c =
    let f = was-found _ _ c.in-Ok.ensures.says in
    let r = again c.args.s.now c.loop-i.out _ c.loop-i.at _ c.loop-i.i c.args.whole c.args.rest _ f.0
    c.loop-i-test.true f.1 f.2 (c.chunk_at.ensures.holds f.0 f.1) c.loop-i.invariant.told in
    record { within = r.0; told = r.1 }

pub returns-then-rest-eq0 : goal.returns-then-rest-eq0
returns-then-rest-eq0 c =
    let e : c.args.whole * 256 + c.args.rest ≡ c.loop-i.i * 256 = omega arith in
    next _ _ _ _ _ _
    (sym c.loop-i.invariant.told ∙ chunks-none c.args.s.now c.loop-i.at (take (c.loop-i.i * 256) c.loop-i.out) c.args.whole
    c.loop-i.i c.args.rest c.loop-i-test.false c.if-rest-eq0.true)
    (rw e) c.loop-i.invariant.within

pub returns-in-Err-chunk_at : goal.returns-in-Err-chunk_at
returns-in-Err-chunk_at c =
    let w : c.args.whole ≡ c.loop-i.i = omega arith in
    sym c.loop-i.invariant.told ∙ last-stop c.args.s.now c.loop-i.at (take (c.loop-i.i * 256) c.loop-i.out) c.args.whole
    c.loop-i.i c.args.rest _ w c.if-rest-eq0.false
    (chunk-told c.args.s.now c.args.whole c.loop-i.at c.args.rest _ _ (was-refused _ _ c.in-Err-chunk_at.ensures.says)
    c.chunk_fault-in-Err-chunk_at.ensures)

pub returns-in-Ok-chunk_at : goal.returns-in-Ok-chunk_at
returns-in-Ok-chunk_at c =
    let f = was-found _ _ c.in-Ok-chunk_at.ensures.says in
    let w : c.args.whole ≡ c.loop-i.i = omega arith in
    let g = (chunk-sound c.args.s.now c.loop-i.at c.args.rest f.0 f.1).ends in
    rw (← f.2)
    (next _ _ _ _ _ _ (sym c.loop-i.invariant.told ∙ last-fine c.args.s.now c.loop-i.at
    (take (c.loop-i.i * 256) c.loop-i.out) c.args.whole c.loop-i.i c.args.rest f.0 w c.if-rest-eq0.false f.1)
    (c.chunk_at-2.ensures.holds f.0 f.1 ∙ ap (λ (z : ℕ). take (z * 256) c.loop-i.out ++ f.0.descs) w) g)
