-- By the bound on nanoseconds. Assumes nothing.
use Rattle.std.specs.Prelude.{Ok}
use mathlib.Core.Path.{ap, ◌∙◌}
use lib.IntN.{ℤ}
use mir.Facts.{to_z-of_z}
use mir.Syntax.{w64}
use borrow.Author.Tests.{le-leb, lt-leb}
use Rattle.row_spec.specs.Read.{read}
use Rattle.row_spec.specs.Value.{nanos_of}
use Rattle.row_spec.specs.declared.Field.TheVariants.{Time}
use Rattle.values.proofs.time.Goals as goal

pub returns-then-nanos-gt999999 : goal.returns-then-nanos-gt999999
unfolding nanos_of
returns-then-nanos-gt999999 c = rw (lt-leb c.args.nanos 999999 c.if-nanos-gt999999.true)

pub returns : goal.returns
unfolding nanos_of
returns c = rw (le-leb c.args.nanos 999999 c.if-nanos-gt999999.false)
    (ap (λ (z : ℤ). Ok (read (Time z c.args.nanos) c.args.next))
    (to_z-of_z {w = w64} (record { sfits = c.signed-count.type_inv }) ∙ c.signed-count.ensures))
