-- The invariant: the first b bytes are written.
-- Assumes nothing.
use mathlib.Core.Path.{refl, ◌∙◌}
use Prim.Native.Nat.{◌%◌, ◌/◌, ◌^◌, ◌-◌, ◌*◌}
use native.Mathlib.Omega.{arith}
use lib.ListN.{length-set}
use Rattle.bit_pack.proofs.Groups.{table_none, table_more}
use Rattle.bit_pack.proofs.put_bytes.Goals as goal

pub loop-b-init : goal.loop-b-init
loop-b-init c = (
  omega arith,
  refl,
  table_none (λ i. c.args.x / 2 ^ (8 * (c.args.w - 1 - i)) % 256) c.args.out.now c.args.at,
)

pub loop-b-preserved : goal.loop-b-preserved
loop-b-preserved c = (
  omega (arith, c.loop-b-test.true),
  (simp length-set) ∙ c.loop-b.invariant.1,
  rw c.loop-b.invariant.2
      (table_more (λ i. c.args.x / 2 ^ (8 * (c.args.w - 1 - i)) % 256) c.args.out.now c.args.at c.loop-b.b _
      (omega (arith, c.loop-b-test.true, c.requires.1)) refl),
)
