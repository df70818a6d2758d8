-- Zeros in the place of what was there.
-- Assumes nothing.
use mathlib.Core.Path.{◌≡◌}
use Prim.Native.Nat.{ℕ, ◌-◌}
use native.Mathlib.Omega.{arith}
use lib.ListN.{length, take, drop, replicate, length-replicate}
use Rattle.bitmap_laws.proofs.Parts.{part_length}
use Rattle.byte_move.proofs.Moves.{put-part}
use Rattle.pair_write.proofs.clear.Goals as goal

pub returns : goal.returns
returns c =
    let long : length (take (c.args.n - c.args.k) (drop c.args.k c.args.ds.now)) ≡ c.args.n - c.args.k =
    part_length c.args.ds.now c.args.k (c.args.n - c.args.k) (omega arith) in
    let after = c.fill.ensures.after (λ y e. e) in
    put-part _ (replicate (c.args.n - c.args.k) 0) _ c.args.k _ (rw long at after)
    (omega (arith, length-replicate {A = ℕ} (c.args.n - c.args.k) 0))
