-- The place stays within the output.
use Rattle.std.proofs.Common.{length, ◌≤◌, ◌≡◌}
use Rattle.bitmap_explain_vectors.proofs.put_times.Given as goal

abbrev pub invariant-loop : goal.invariant-loop
invariant-loop l = (length l.out ≡ length l.initial.out) × (l.end ≤ length l.out)
