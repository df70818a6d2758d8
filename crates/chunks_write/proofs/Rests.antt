-- One chunk more: what is left of the descriptors is a chunk, and what is left behind it.
-- Assumes nothing.
use mathlib.Core.Path.{◌≡◌, refl, ap, ◌∙◌}
use mathlib.Core.Logic.{⊎_elim}
use mathlib.Core.List.{List, [], ◌∷◌, ◌++◌, append-nil}
use Prim.Native.Nat.{ℕ, suc, ◌+◌, ◌-◌, ◌/◌, ◌≤◌, ◌<◌, min}
use native.Mathlib.Omega.{arith}
use lib.ListN.{length, take, drop, length-append, length-drop}
use lib.Seq.{take_at, drop_at, length-take-le}
use Rattle.bitmap_spec.proofs.Window.{below_or}
use Rattle.bitmap_spec.specs.Form.{write_chunk, write_chunks}
use Rattle.bitmap_laws.proofs.Length.{chunks_size}
use Rattle.bitmap_laws.proofs.Values.{AllLe}
use Rattle.bitmap_laws.proofs.Written.{all_take, all_drop}
use Rattle.bitmap_laws.proofs.Output.{Along, along-room, along-length}

-- all chunks of descriptors
abbrev pub chunks_of : List ℕ → List ℕ
chunks_of ds = write_chunks (length ds / 256) ds

pub chunks_none : (ds : List ℕ) → length ds ≡ 0 → chunks_of ds ≡ []
unfolding write_chunks
chunks_none [] e = refl
chunks_none (d ∷ ds) e = absurd (omega arith)

last-chunk : (l : List ℕ) → 0 < length l → write_chunks 0 l ≡ write_chunk l
unfolding write_chunks
last-chunk [] h = absurd (omega arith)
last-chunk (x ∷ xs) h = refl

pub all-few : (ds : List ℕ) → length ds ≤ 8192 → AllLe 63 ds → length (chunks_of ds) ≤ 6240
all-few ds h a = omega (arith, chunks_size (length ds / 256) ds a (omega arith) (omega arith))

-- a part of 256 descriptors, or all that are left, comes off the front
module _ (ds part rest : List ℕ) (e : ds ≡ part ++ rest) (n : length part ≡ min 256 (length ds)) (some : 0 < length ds)
  where
    long : length ds ≡ length part + length rest
    long = ap length e ∙ length-append part rest

    part_is : take (length part) ds ≡ part
    part_is = rw e (take_at part rest (length part) refl)

    rest_is : drop (length part) ds ≡ rest
    rest_is = rw e (drop_at part rest (length part) refl)

    pub part-le : AllLe 63 ds → AllLe 63 part
    part-le a = rw part_is at (all_take 63 (length part) ds a)

    pub rest-le : AllLe 63 ds → AllLe 63 rest
    rest-le a = rw rest_is at (all_drop 63 (length part) ds a)

    pub chunks_step : chunks_of ds ≡ write_chunk part ++ chunks_of rest
    unfolding write_chunks
    chunks_step = ⊎_elim short full (below_or (length ds) 256)
      where
        nothing : (l : List ℕ) → length l ≡ 0 → l ≡ []
        nothing [] h = refl
        nothing (x ∷ xs) h = absurd (omega arith)

        short : length ds < 256 → chunks_of ds ≡ write_chunk part ++ chunks_of rest
        short h =
            let none : length rest ≡ 0 = omega (arith, long, n) in
            let one : length ds / 256 ≡ 0 = omega arith in
            let all : ds ≡ part = e ∙ ap (λ (l : List ℕ). part ++ l) (nothing rest none) ∙ append-nil part in
            rw (chunks_none rest none, append-nil (write_chunk part), one)
            (last-chunk ds some ∙ ap write_chunk all)

        full : 256 ≤ length ds → chunks_of ds ≡ write_chunk part ++ chunks_of rest
        full h =
            let whole : length part ≡ 256 = omega (arith, n) in
            let more : length ds / 256 ≡ suc (length rest / 256) = omega (arith, long, whole) in
            rw (more, rw whole at part_is, rw whole at rest_is)

    -- the size so far
    pub size-turn : (t x all : ℕ) → t + length (chunks_of ds) ≡ all → x ≡ length (write_chunk part)
        → t + x + length (chunks_of rest) ≡ all
    size-turn t x all q z =
        omega (arith, ap length chunks_step, length-append (write_chunk part) (chunks_of rest))

    -- the next chunk has room
    pub next-room : {before out : List ℕ} {at t : ℕ} {all : List ℕ} → Along before out at t (chunks_of ds) all
        → at + length all ≤ length before → at + t + length (write_chunk part) ≤ length out
    next-room a room =
        omega (
          arith,
          along-room a,
          along-length a room,
          ap length chunks_step,
          length-append (write_chunk part) (chunks_of rest),
        )

-- ---- a part by its bounds
pub part_length : (ds : List ℕ) (i e : ℕ) → i < e → e ≤ length ds → length (take (e - i) (drop i ds)) ≡ e - i
part_length ds i e h g = length-take-le (e - i) (drop i ds) (rw (length-drop i ds) (omega arith))
