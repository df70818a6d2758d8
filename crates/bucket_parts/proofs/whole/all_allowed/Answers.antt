-- The rest of the columns decides the whole. Assumes nothing.
use Rattle.row_spec.specs.Schema.{columns_of}
use Rattle.bucket_spec.specs.Bucket.{tag_allowed}
use Rattle.bucket_piece.proofs.Runs.{every-fails, every-goes, every-done}
use Rattle.bucket_parts.proofs.Alongs.{allowed-here}
use mathlib.Core.Path.{sym, ◌∙◌}
use Rattle.bucket_parts.proofs.whole.all_allowed.Goals as goal

pub returns-then-not-allowed : goal.returns-then-not-allowed
returns-then-not-allowed c =
    let sc = c.args.sc.now in
    let f = c.args.f in
    let here = sym (allowed-here sc f.rows c.args.s.now f.tags f.has c.loop-j.j c.loop-j-test.true) in
    sym
    (every-fails (tag_allowed (columns_of sc) f.rows c.args.s.now f.tags f.has) sc.count c.loop-j.j c.loop-j-test.true
    (here ∙ sym c.allowed.ensures ∙ c.if-not-allowed.true))
    ∙ c.loop-j.invariant

pub loop-j-preserved : goal.loop-j-preserved
loop-j-preserved c =
    let sc = c.args.sc.now in
    let f = c.args.f in
    let here = sym (allowed-here sc f.rows c.args.s.now f.tags f.has c.loop-j.j c.loop-j-test.true) in
    sym
    (every-goes (tag_allowed (columns_of sc) f.rows c.args.s.now f.tags f.has) sc.count c.loop-j.j c.loop-j-test.true
    (here ∙ sym c.allowed.ensures ∙ c.if-not-allowed.false))
    ∙ c.loop-j.invariant

pub returns : goal.returns
returns c =
    let sc = c.args.sc.now in
    let f = c.args.f in
    sym
    (every-done (tag_allowed (columns_of sc) f.rows c.args.s.now f.tags f.has) sc.count c.loop-j.j c.loop-j-test.false)
    ∙ c.loop-j.invariant
