-- The invariant (Word): the members before place p are written and x packs the bits left; its highest set bit is the
-- next member.
-- Assumes nothing.
use mathlib.Core.List.{List}
use Rattle.common.specs.Lists.{keep, from}
use Rattle.bitmap_spec.specs.Bits.{packed}
use Rattle.blocks.specs.Block.{is_on, word_bit}
use Rattle.blocks.proofs.Members.{Word}
use mathlib.Core.Path.{◌≡◌}
use Prim.Native.Nat.{ℕ, ◌+◌, ◌*◌, ◌≤◌}
use lib.ListN.{length}
use Rattle.blocks.proofs.put_word.Given as goal

abbrev pub invariant-loop-x : goal.invariant-loop-x
invariant-loop-x l =
    (b : List ℕ) → l.initial.x
    ≡ packed (word_bit b) (l.q * 64) 64 → l.at + length (keep (is_on b) (from (l.q * 64) 64)) ≤ length l.initial.out
    → (p : ℕ) × (w : ℕ) × Word b l.initial.out l.out l.at l.q l.x l.n p w

abbrev pub decreases-loop-x : goal.decreases-loop-x
decreases-loop-x l = l.x
