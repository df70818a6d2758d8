-- The bytes of an accepted container are those of its written form.
-- Assumes nothing.
use native.Mathlib.Omega.{arith}
use Rattle.pair_write.proofs.Alone.{put_copy}
use Rattle.bitmap_laws.proofs.Length.{size-le}
use Rattle.pair_write.proofs.put_copy.Goals as goal

pub copy_part-requires : goal.copy_part-requires
copy_part-requires c =
    (omega (arith, c.requires.0, c.size_of.ensures), omega (arith, c.requires.2, c.size_of.ensures, size-le c.args.d))

pub members-requires : goal.members-requires
members-requires c =
    c.requires.0

pub returns : goal.returns
returns c = (
  c.members.ensures.0,
  c.members.ensures.1,
  put_copy c.args.s.now c.args.at c.args.d c.requires.0 c.requires.1 (λ k. omega (arith, c.type_inv.s k))
      c.args.out.now _ c.args.to c.size_of.result (omega (arith, c.requires.2)) c.size_of.ensures
      c.copy_part.ensures,
)
