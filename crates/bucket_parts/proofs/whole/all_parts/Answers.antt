-- Part by part: each that was read says what the definition's part is. Assumes nothing.
use mathlib.Core.List.{[]}
use lib.ListN.{length, take}
use borrow.Author.Tests.{eq-eqb, ne_eqb}
use Rattle.std.proofs.Common.{of_calls}
use Rattle.std.proofs.lemmas.Result.{err_from_is_err_and}
use Rattle.common.specs.Outcome.{need}
use Rattle.bucket_spec.specs.Bucket.{parts}
use Rattle.bucket_parts.specs.Told.{step_of}
use Rattle.bucket_parts.proofs.Bodies.{columns-many}
use Rattle.bucket_parts.proofs.whole.all_parts.Goals as goal

pub returns-in_err-next-clause-says : goal.returns-in_err-next-clause-says
unfolding parts
returns-in_err-next-clause-says c =
    let r = err_from_is_err_and c.from_residual.result c.from_residual.ensures.1 in
    let sc = c.args.sc.now in
    let consts =
    c.in_err-next.ensures (step_of sc c.args.f c.args.s.now 0 [] [])
    (λ i at x less e. search of_calls) in
    rw (r.1, r.2, columns-many sc c.requires, ← consts)

pub returns-in_err-next-2-clause-says : goal.returns-in_err-next-2-clause-says
unfolding parts
returns-in_err-next-2-clause-says c =
    let r = err_from_is_err_and c.from_residual-in_err-next-2.result c.from_residual-in_err-next-2.ensures.1 in
    let sc = c.args.sc.now in
    let consts =
    c.in_ok-next.ensures (step_of sc c.args.f c.args.s.now 0 [] [])
    (λ i at x less e. search of_calls) in
    let tables =
    c.in_err-next-2.ensures (step_of sc c.args.f c.args.s.now 1 [] [])
    (λ i at x less e. search of_calls) in
    rw (r.1, r.2, columns-many sc c.requires, ← consts, ← tables)

pub returns-in_err-next-3-clause-says : goal.returns-in_err-next-3-clause-says
unfolding parts
returns-in_err-next-3-clause-says c =
    let r = err_from_is_err_and c.from_residual-in_err-next-3.result c.from_residual-in_err-next-3.ensures.1 in
    let sc = c.args.sc.now in
    let consts =
    c.in_ok-next.ensures (step_of sc c.args.f c.args.s.now 0 [] [])
    (λ i at x less e. search of_calls) in
    let tables =
    c.in_ok-next-2.ensures (step_of sc c.args.f c.args.s.now 1 [] [])
    (λ i at x less e. search of_calls) in
    let nulls =
    c.in_err-next-3.ensures (step_of sc c.args.f c.args.s.now 2 [] [])
    (λ i at x less e. search of_calls) in
    rw (r.1, r.2, columns-many sc c.requires, ← consts, ← tables, ← nulls)

pub returns-in_err-next-4-clause-says : goal.returns-in_err-next-4-clause-says
unfolding parts
returns-in_err-next-4-clause-says c =
    let r = err_from_is_err_and c.from_residual-in_err-next-4.result c.from_residual-in_err-next-4.ensures.1 in
    let sc = c.args.sc.now in
    let consts =
    c.in_ok-next.ensures (step_of sc c.args.f c.args.s.now 0 [] [])
    (λ i at x less e. search of_calls) in
    let tables =
    c.in_ok-next-2.ensures (step_of sc c.args.f c.args.s.now 1 [] [])
    (λ i at x less e. search of_calls) in
    let nulls =
    c.in_ok-next-3.ensures (step_of sc c.args.f c.args.s.now 2 [] [])
    (λ i at x less e. search of_calls) in
    let cells =
    c.in_err-next-4.ensures (step_of sc c.args.f c.args.s.now 3 (take sc.count c.in_ok-next-2.field-0.starts)
    (take sc.count c.in_ok-next-3.field-0.starts))
    (λ i at x less e. search of_calls) in
    rw (r.1, r.2, columns-many sc c.requires, ← consts, ← tables, ← nulls, ← cells)

pub returns-then-next-s-clause-says : goal.returns-then-next-s-clause-says
unfolding parts need
returns-then-next-s-clause-says c =
    let sc = c.args.sc.now in
    let consts =
    c.in_ok-next.ensures (step_of sc c.args.f c.args.s.now 0 [] [])
    (λ i at x less e. search of_calls) in
    let tables =
    c.in_ok-next-2.ensures (step_of sc c.args.f c.args.s.now 1 [] [])
    (λ i at x less e. search of_calls) in
    let nulls =
    c.in_ok-next-3.ensures (step_of sc c.args.f c.args.s.now 2 [] [])
    (λ i at x less e. search of_calls) in
    let cells =
    c.in_ok-next-4.ensures (step_of sc c.args.f c.args.s.now 3 (take sc.count c.in_ok-next-2.field-0.starts)
    (take sc.count c.in_ok-next-3.field-0.starts))
    (λ i at x less e. search of_calls) in
    rw (
      columns-many sc c.requires,
      ← consts,
      ← tables,
      ← nulls,
      ← cells,
      ne_eqb _ (length c.args.s.now) c.if-next-s.true,
    )

pub returns-clause-says : goal.returns-clause-says
unfolding parts need
returns-clause-says c =
    let sc = c.args.sc.now in
    let consts =
    c.in_ok-next.ensures (step_of sc c.args.f c.args.s.now 0 [] [])
    (λ i at x less e. search of_calls) in
    let tables =
    c.in_ok-next-2.ensures (step_of sc c.args.f c.args.s.now 1 [] [])
    (λ i at x less e. search of_calls) in
    let nulls =
    c.in_ok-next-3.ensures (step_of sc c.args.f c.args.s.now 2 [] [])
    (λ i at x less e. search of_calls) in
    let cells =
    c.in_ok-next-4.ensures (step_of sc c.args.f c.args.s.now 3 (take sc.count c.in_ok-next-2.field-0.starts)
    (take sc.count c.in_ok-next-3.field-0.starts))
    (λ i at x less e. search of_calls) in
    rw (
      columns-many sc c.requires,
      ← consts,
      ← tables,
      ← nulls,
      ← cells,
      eq-eqb _ (length c.args.s.now) c.if-next-s.false,
    )
