-- The owner's parts as the code cuts them out: from o times a length on, as many as that length.
-- Assumes nothing.
use mathlib.Core.Path.{◌≡◌, ap, ◌∙◌}
use mathlib.Core.List.{List}
use Prim.Native.Nat.{ℕ, ◌+◌, ◌-◌, ◌*◌, ◌/◌, ◌≤◌}
use lib.ListN.{length, take, drop}
use Rattle.store_spec.specs.Owners.{half, part}
use Rattle.store_laws.proofs.Halves.{part-is, part-long, dir-in, buf-in, half-long}

pub in-buf : (buf : List ℕ) (o : ℕ) → o ≤ 1 → o * (length buf / 2) + length buf / 2 ≤ length buf
unfolding half
in-buf buf o l = buf-in o buf l

pub dir-is : (dir : List ℕ) (o : ℕ) → take (o * 64 + 64 - o * 64) (drop (o * 64) dir) ≡ part o 64 dir
dir-is dir o = part-is o 64 dir

pub buf-is : (buf : List ℕ) (o : ℕ)
    → take (o * (length buf / 2) + length buf / 2 - o * (length buf / 2)) (drop (o * (length buf / 2)) buf)
    ≡ part o (half buf) buf
unfolding half
buf-is buf o = part-is o (length buf / 2) buf

pub dir-long : (dir : List ℕ) (o : ℕ) → o ≤ 1 → length dir ≡ 128 → length (part o 64 dir) ≡ 64
dir-long dir o l e = part-long o 64 dir (dir-in o dir l e)

pub dir-many : (dir : List ℕ) (o : ℕ) → o ≤ 1 → length dir ≡ 128
    → length (take (o * 64 + 64 - o * 64) (drop (o * 64) dir)) ≡ 64
dir-many dir o l e = ap length (dir-is dir o) ∙ dir-long dir o l e

pub buf-many : (buf : List ℕ) (o : ℕ) → o ≤ 1
    → length (take (o * (length buf / 2) + length buf / 2 - o * (length buf / 2)) (drop (o * (length buf / 2)) buf))
    ≡ half buf
buf-many buf o l = ap length (buf-is buf o) ∙ half-long o buf l
