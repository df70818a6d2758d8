-- The fields are those of head_at, term by term; a byte and a product of 256 by 15 fit.
-- Assumes nothing.
use Prim.Native.Nat.{◌%◌, ◌+◌}
use mathlib.Core.Path.{refl}
use native.Mathlib.Omega.{arith}
use lib.ListN.{get_or}
use Rattle.common.specs.Bytes.{ceil8}
use Rattle.bitmap_spec.specs.Judge.{head_at, head_with}
use Rattle.bitmap_spec.proofs.Parts.{prod}
use Rattle.chunk_read.proofs.head_at.Goals as goal

pub overflow_cast-e : goal.overflow_cast-e
overflow_cast-e c =
    let args = c.args in
    let shared-slice-known = c.type_inv.s in
    omega (arith, shared-slice-known args.at, shared-slice-known (args.at + 1))

pub overflow_mul-offsets : goal.overflow_mul-offsets
overflow_mul-offsets c =
    let args = c.args in
    omega (
      arith,
      c.type_inv.s (args.at + 1),
      prod 256 15 args.n (get_or args.s.now args.at 0 % 16) (omega arith) (omega arith),
    )

pub overflow_add-offsets-2 : goal.overflow_add-offsets-2
overflow_add-offsets-2 c =
    let args = c.args in
    omega (
      arith,
      c.type_inv.s (args.at + 1),
      prod 256 15 args.n (get_or args.s.now args.at 0 % 16) (omega arith) (omega arith),
    )

pub overflow_add-offsets-3 : goal.overflow_add-offsets-3
overflow_add-offsets-3 c =
    let args = c.args in
    omega (
      arith,
      c.type_inv.s (args.at + 1),
      prod 256 15 args.n (get_or args.s.now args.at 0 % 16) (omega arith) (omega arith),
    )

pub overflow_cast-result : goal.overflow_cast-result
overflow_cast-result c =
    let args = c.args in
    let shared-slice-known = c.type_inv.s in
    omega (arith, shared-slice-known args.at, shared-slice-known (args.at + 1))

pub overflow_cast-result-2 : goal.overflow_cast-result-2
overflow_cast-result-2 c =
    let args = c.args in
    omega (arith, c.type_inv.s (args.at + 2))

pub overflow_add-result-3 : goal.overflow_add-result-3
overflow_add-result-3 c =
    let args = c.args in
    omega (
      arith,
      c.type_inv.s (args.at + 1),
      prod 256 15 args.n (get_or args.s.now args.at 0 % 16) (omega arith) (omega arith),
    )

pub returns : goal.returns
unfolding head_at head_with ceil8
returns c =
    let args = c.args in
    let shared-slice-known = c.type_inv.s in (
      refl,
      omega (arith, shared-slice-known (args.at + 1)),
      omega (arith, shared-slice-known (args.at + 2)),
    )
