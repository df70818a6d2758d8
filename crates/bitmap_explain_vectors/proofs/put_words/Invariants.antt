-- The place stays within the output.
use Rattle.std.proofs.Common.{length, ◌≤◌, ◌≡◌}
use Rattle.bitmap_explain_vectors.proofs.put_words.Given as goal

abbrev pub invariant-loop-k : goal.invariant-loop-k
invariant-loop-k l = (length l.out ≡ length l.initial.out) × (l.end ≤ length l.out)
