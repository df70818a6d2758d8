-- 1, 2, 3, then the chunks, then the body: each answer is the definition's, and the view is what the body's tests say.
-- Assumes nothing.
use mathlib.Core.List.{[]}
use Prim.Native.Nat.{◌/◌, ◌%◌, ℕ, ◌+◌, ◌*◌}
use lib.ListN.{length, take, get_or}
use mathlib.Core.Path.{◌≡◌, refl, ap, ◌∙◌}
use native.Mathlib.Omega.{arith}
use Rattle.std.proofs.lemmas.Result.{err_from_is_err_and}
use Rattle.judge.proofs.Chunking.{was-refused, was-found}
use Rattle.judge.proofs.Judging.{two, has_room, judge1, judge2, judge3, judge-stop, judge-on}
use Rattle.bitmap_spec.proofs.Reading.{chunks-ends}
use Rattle.judge.proofs.Judging.{refuses, rejects, accepts}
use Rattle.judge.proofs.judge_read.Goals as goal

pub returns-then-s-lt6 : goal.returns-then-s-lt6
returns-then-s-lt6 c =
    refuses c.args.s.now _ _ (judge1 c.args.s.now c.if-s-lt6.true)

pub returns-then-s-ne1 : goal.returns-then-s-ne1
returns-then-s-ne1 c =
    refuses c.args.s.now _ _ (judge2 c.args.s.now c.if-s-lt6.false c.if-s-ne1.true)

pub returns-then-count-gt8192 : goal.returns-then-count-gt8192
returns-then-count-gt8192 c =
    refuses c.args.s.now _ _
    (judge3 c.args.s.now c.if-s-lt6.false c.if-s-ne1.false
    c.if-count-gt8192.true)

pub descriptors-requires : goal.descriptors-requires
descriptors-requires c =
    let room = has_room c.args.s.now (length c.args.d.now) c.requires c.if-s-lt6.false c.if-count-gt8192.false in
    (c.if-s-lt6.false, omega arith, omega (arith, room))

pub returns-in_err-start : goal.returns-in_err-start
returns-in_err-start c =
    let p = err_from_is_err_and c.from_residual.result c.from_residual.ensures.1 in
    let chunks = was-refused _ _ c.in_err-start.ensures.says in
    rw (p.1, p.2)
    (refuses c.args.s.now _ _
    (judge-stop c.args.s.now c.if-s-lt6.false c.if-s-ne1.false _ c.if-count-gt8192.false refl _ chunks))

pub judge_body-requires : goal.judge_body-requires
judge_body-requires c =
    let n = get_or c.args.s.now 4 0 + 256 * get_or c.args.s.now 5 0 in
    let chunks = was-found _ _ c.in_ok-start.ensures.says in
    let ends = chunks-ends c.args.s.now 6 [] (n / 256) (n % 256) chunks.0 c.if-s-lt6.false chunks.1 in
    let room = has_room c.args.s.now (length c.args.d.now) c.requires c.if-s-lt6.false c.if-count-gt8192.false in
    (omega (arith, c.if-s-lt6.false), omega (arith, ends, chunks.2), c.if-count-gt8192.false, omega (arith, c.descriptors.auto.out, room))

pub returns-in_err-cardinality : goal.returns-in_err-cardinality
returns-in_err-cardinality c =
    let n = get_or c.args.s.now 4 0 + 256 * get_or c.args.s.now 5 0 in
    let p = err_from_is_err_and c.from_residual-in_err-cardinality.result c.from_residual-in_err-cardinality.ensures.1 in
    let chunks = was-found _ _ c.in_ok-start.ensures.says in
    let parts : n ≡ n / 256 * 256 + n % 256 = omega arith in
    let descs = ap (λ (m : ℕ). take m c.descriptors.new.out) parts ∙ c.descriptors.ensures.holds chunks.0 chunks.1 in
    let on = judge-on c.args.s.now c.if-s-lt6.false c.if-s-ne1.false n c.if-count-gt8192.false refl (take n c.descriptors.new.out) _ chunks.0 chunks.1 chunks.2 descs in
    rw (p.1, p.2) (rejects c.args.s.now c.descriptors.new.out n _ on _ c.in_err-cardinality.ensures)

pub returns : goal.returns
returns c =
    let n = get_or c.args.s.now 4 0 + 256 * get_or c.args.s.now 5 0 in
    let chunks = was-found _ _ c.in_ok-start.ensures.says in
    let parts : n ≡ n / 256 * 256 + n % 256 = omega arith in
    let descs = ap (λ (m : ℕ). take m c.descriptors.new.out) parts ∙ c.descriptors.ensures.holds chunks.0 chunks.1 in
    let on = judge-on c.args.s.now c.if-s-lt6.false c.if-s-ne1.false n c.if-count-gt8192.false refl (take n c.descriptors.new.out) _ chunks.0 chunks.1 chunks.2 descs in
    let room = has_room c.args.s.now (length c.args.d.now) c.requires c.if-s-lt6.false c.if-count-gt8192.false in
    accepts c.args.s.now c.descriptors.new.out n _ on _ c.if-count-gt8192.false (omega (arith, c.descriptors.auto.out, room)) (two c.args.s.now) chunks.0 chunks.1
    chunks.2 descs c.in_ok-cardinality.ensures
