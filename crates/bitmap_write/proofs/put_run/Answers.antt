-- A run of fewer than 32 is written as it is, a longer one as its block.
-- Assumes nothing.
use mathlib.Core.List.{List}
use Rattle.bitmap_spec.specs.Form.{write_container, descriptor_of}
use Rattle.bitmap_spec.specs.Output.{written}
use Rattle.bitmap_write.specs.Run.{run}
use Rattle.bitmap_write.proofs.Runs.{run-size}
use Rattle.bitmap_write.proofs.Writing.{run-sparse, run-block, run-full}
use mathlib.Core.Path.{sym, ap, ◌∙◌}
use Prim.Native.Nat.{ℕ}
use native.Mathlib.Omega.{arith}
use lib.ListN.{length}
use Rattle.bitmap_write.proofs.put_run.Goals as goal

pub put_low-requires : goal.put_low-requires
put_low-requires c = let n = run-size c.args.ps.now c.args.i c.args.j c.requires.0 c.requires.1 in let s =
    run-sparse (run c.args.ps.now c.args.i c.args.j) (omega (arith, n, c.if-j-i-lt32.true)) in
    (c.requires.0, c.requires.1, omega (arith, n, ap length s, c.requires.3))

pub returns-then-j-i-lt32 : goal.returns-then-j-i-lt32
returns-then-j-i-lt32 c = let n = run-size c.args.ps.now c.args.i c.args.j c.requires.0 c.requires.1 in let s =
    run-sparse (run c.args.ps.now c.args.i c.args.j) (omega (arith, n, c.if-j-i-lt32.true)) in (
      c.put_low.ensures.0 ∙ sym n ∙ sym (ap length s),
      c.put_low.ensures.1
          ∙ ap (λ (l : List ℕ). written c.args.out.now c.args.at l) (sym s),
    )

pub run_block-requires : goal.run_block-requires
run_block-requires c = (c.requires.0, c.requires.1)

pub put_block-requires : goal.put_block-requires
put_block-requires c = let n = run-size c.args.ps.now c.args.i c.args.j c.requires.0 c.requires.1 in let e =
    run-block (run c.args.ps.now c.args.i c.args.j) c.run_block.result c.requires.2 c.run_block.ensures in (
      run-full (run c.args.ps.now c.args.i c.args.j) (omega (arith, n, c.if-j-i-lt32.false)) ∙ sym (ap descriptor_of e),
      rw e c.requires.3,
    )

pub returns : goal.returns
returns c = let e = run-block (run c.args.ps.now c.args.i c.args.j) c.run_block.result c.requires.2
    c.run_block.ensures in (
      c.put_block.ensures.0 ∙ ap (λ (l : List ℕ). length (write_container l)) e,
      c.put_block.ensures.1 ∙ ap (λ (l : List ℕ). written c.args.out.now c.args.at (write_container l)) e,
    )
