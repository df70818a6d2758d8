-- A shift of at most 56 and a remainder by 2^w.
-- Assumes nothing.
use Prim.Native.Nat.{◌-◌, ◌*◌, ◌/◌, ◌^◌}
use mathlib.Core.Path.{refl}
use native.Mathlib.Omega.{arith}
use lib.Pow.{pow_pos}
use Rattle.chunk_read.proofs.Cutting.{shifted_one, short, narrow}
use Rattle.chunk_read.proofs.nth.Goals as goal

pub overflow_mul-result : goal.overflow_mul-result
overflow_mul-result c = omega (arith, short c.args.w c.args.t c.requires.0)

pub overflow_cast-result-2 : goal.overflow_cast-result-2
overflow_cast-result-2 c = omega (arith, short c.args.w c.args.t c.requires.0)

pub overflow_shr-result : goal.overflow_shr-result
overflow_shr-result c = omega (arith, short c.args.w c.args.t c.requires.0)

pub nonzero_rem-result : goal.nonzero_rem-result
nonzero_rem-result c = rw (shifted_one c.args.w c.requires.0) (pow_pos c.args.w)

pub overflow_cast-result-4 : goal.overflow_cast-result-4
overflow_cast-result-4 c =
    rw (shifted_one c.args.w c.requires.0)
    (omega (arith, narrow (c.args.x / 2 ^ (c.args.w * (7 - c.args.t))) c.args.w c.requires.0))

pub returns : goal.returns
returns c =
    rw (shifted_one c.args.w c.requires.0)
    (refl, narrow (c.args.x / 2 ^ (c.args.w * (7 - c.args.t))) c.args.w c.requires.0)
