-- Settled descriptors describe the judged set, so its form has them and the containers' own bytes.
-- Assumes nothing.
use Rattle.std.proofs.lemmas.Result.{err_from_is_err_and}
use Rattle.judge.specs.Post.{View}
use Rattle.judge.proofs.Judging as judging
use Rattle.bitmap_rewrite.proofs.Laying.{array_view, tail-few, ready, ready-fine, ready-few, prepares-refused, prepares-form}
use Prim.Native.Nat.{ℕ, ◌<◌}
use native.Mathlib.Omega.{arith}
use lib.ListN.{get_or}
use Rattle.bitmap_rewrite.proofs.prepare.Goals as goal

pub returns-in_err-judged : goal.returns-in_err-judged
returns-in_err-judged c =
    let p = err_from_is_err_and c.from_residual.result c.from_residual.ensures.1 in
    rw (p.1, p.2) (prepares-refused _ _ _ (judging.in-refused View c.args.s.now _ _ c.in_err-judged.ensures))

pub settle-count-requires : goal.settle-count-requires
settle-count-requires c =
    let t = judging.in-accepted View c.args.s.now _ _ c.in_ok-judged.ensures in
    (tail-few _ _ _ _ _ (array_view _ _ _ _ _ t.3)).2

pub laid_size-size-requires : goal.laid_size-size-requires
laid_size-size-requires c =
    let t = judging.in-accepted View c.args.s.now _ _ c.in_ok-judged.ensures in
    let v = array_view _ _ _ _ _ t.3 in
    let f = tail-few _ _ _ _ _ v in
    let small : (k : ℕ) → get_or c.args.s.now k 0 < 256 = λ k. omega (arith, c.type_inv.s k) in
    let few = ready-few c.args.s.now _ _ t.0 _ _ _ _ 0 t.1 v small t.2 c.settle-count.auto.d c.settle-count.ensures in (
      f.0,
      f.1,
      few,
      omega (arith, c.settle-count.auto.d, t.3.long, few),
      ready-fine c.args.s.now _ _ t.0 _ _ _ _ 0 t.1 v small t.2 c.settle-count.auto.d c.settle-count.ensures,
    )

pub returns : goal.returns
returns c =
    let t = judging.in-accepted View c.args.s.now _ _ c.in_ok-judged.ensures in
    let small : (k : ℕ) → get_or c.args.s.now k 0 < 256 = λ k. omega (arith, c.type_inv.s k) in
    let v = array_view _ _ _ _ _ t.3 in
    prepares-form _ _ t.0 _ t.1
    (ready c.args.s.now _ _ t.0 _ _ _ _ _ t.1 v small t.2 c.settle-count.auto.d c.settle-count.ensures
    (omega (arith, c.settle-count.auto.d, t.3.long)) c.laid_size-size.ensures)
