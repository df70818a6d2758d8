-- The invariant (Along): the members of the words passed are written, and with those left they are all.
-- Assumes nothing.
use Rattle.common.specs.Lists.{keep, from}
use Rattle.bitmap_laws.proofs.Output.{Along}
use Rattle.blocks.specs.Block.{is_on, word_members}
use Prim.Native.Nat.{◌-◌, ◌*◌, ◌≤◌}
use Rattle.blocks.proofs.put_members.Given as goal

abbrev pub invariant-loop-q : goal.invariant-loop-q
invariant-loop-q l =
    (l.q ≤ 4) × Along l.initial.out l.out l.at l.n (keep (is_on l.ws) (from (l.q * 64) (256 - l.q * 64)))
    (word_members l.ws)
