-- What judging promises: the definition's refusal, or the set with a view of its descriptors and containers.
use Rattle.std.specs.Prelude.{ℕ, ◌+◌, ◌-◌, ◌/◌, ◌%◌, ◌≤◌, ◌<◌, ◌≡◌, true, false, Option, None, Some, Result, Ok, Err, List, [], ◌∷◌, length, get_or, take, drop, leb, eqb}
use Rattle.common.specs.Outcome.{Outcome, refused, found, pick, one}
use Rattle.common.specs.Lists.{sum}
use Rattle.common.specs.Bytes.{little_at}
use Rattle.bitmap_spec.specs.Judge.{Chunk, chunks, size_of, container, container_ok, containers_ok, members_from, judge}
use Rattle.common.specs.declared.Refusal.{Refusal}
use Rattle.common.specs.Refusal.{number, outcome}
use Rattle.chunk_read.specs.Post.{next_of}
use Rattle.bitmap_spec.proofs.Reading.{walk}
use Rattle.judge.specs.declared.Passed.{Passed}
use Rattle.judge.specs.declared.Accepted.{Accepted}

-- the set l is what the first n descriptors of d say of the bytes of s from start on
pub record SliceView (s d : List ℕ) (n start : ℕ) (l : List ℕ) : Type 0 where
  pub few : n ≤ 8192
  pub long : n ≤ length d
  pub ends : start + sum size_of (take n d) ≡ length s
  pub sound : containers_ok s start (take n d) ≡ true
  pub members : members_from s 0 start (take n d) ≡ l

-- the same, where d has room for every bitmap's descriptors
pub record View (s d : List ℕ) (n start : ℕ) (l : List ℕ) : Type 0 where
  pub few : n ≤ 8192
  pub long : length d ≡ 8192
  pub ends : start + sum size_of (take n d) ≡ length s
  pub sound : containers_ok s start (take n d) ≡ true
  pub members : members_from s 0 start (take n d) ≡ l

-- a view whose descriptors, and where they end, are as the chunks of s say them
pub record ReadView (s d : List ℕ) (n start : ℕ) (l : List ℕ) : Type 0 where
  pub view : SliceView s d n start l
  pub count : little_at s 4 2 ≡ n
  pub read : chunks s 6 [] (n / 256) (n % 256) ≡ found (record { descs = take n d; next = start })

-- the set that the first n descriptors of d say of the bytes of s from start on
unfoldable pub viewed : List ℕ → List ℕ → ℕ → ℕ → List ℕ
viewed s d n start = members_from s 0 start (take n d)

-- the judgement's answer: the definition's refusal; or its set, the set's length, and a view of it
unfoldable pub JudgesIn : (List ℕ → List ℕ → ℕ → ℕ → List ℕ → Type 0) → List ℕ → List ℕ → Result Accepted Refusal → Type 0
JudgesIn Seen s d (Err r) = judge s ≡ refused (number r)
JudgesIn Seen s d (Ok a) = (l : List ℕ) × (judge s ≡ found l) × (a.cardinality ≡ length l) × Seen s d a.count a.start l

-- with a view of all descriptors that a bitmap can have
abbrev pub Judges : List ℕ → List ℕ → Result Accepted Refusal → Type 0
Judges s d r = JudgesIn View s d r

-- room descriptors are enough for those that s announces, if it has a header and they are not too many
abbrev pub RoomFor : List ℕ → ℕ → Type 0
RoomFor s room = 6 ≤ length s → little_at s 4 2 ≤ 8192 → little_at s 4 2 ≤ room

unfoldable pub size_of_set : Outcome (List ℕ) → Outcome ℕ
size_of_set (refused n) = refused n
size_of_set (found l) = found (length l)

-- all descriptors, n of them, stand in the first n bytes of the output
pub record Listed (o : Outcome Chunk) (after : List ℕ) (n : ℕ) (r : Result ℕ Refusal) : Type 0 where
  pub says : outcome r ≡ next_of o
  pub holds : (c : Chunk) → o ≡ found c → take n after ≡ c.descs

-- what a container says: how many members it has, or nothing where it is not well formed
abbrev pub Held : List ℕ → ℕ → ℕ → Option ℕ → Type 0
Held s at d None = container_ok s at d ≡ false
Held s at d (Some m) = (container_ok s at d ≡ true) × (m ≡ length (container s at d)) × (m ≤ 256)

-- 1 if byte p does not rise above the byte before it
unfoldable pub fall : List ℕ → ℕ → ℕ
fall s p = one (leb (get_or s p 0) (get_or s (p - 1) 0))

-- how many of the containers from byte at on that have bytes begin with a byte that does not rise above the byte before
-- it
unfoldable pub edge_falls : List ℕ → ℕ → List ℕ → ℕ
edge_falls s at [] = 0
edge_falls s at (d ∷ ds) = pick (eqb d 0) 0 (fall s at) + edge_falls s (at + size_of d) ds

-- the first n descriptors of d are of sparse containers
abbrev pub Sparse : List ℕ → ℕ → Type 0
Sparse d n = (j : ℕ) → j < n → get_or d j 0 < 32

-- none of the k descriptors from i on is over 1
abbrev pub Thin : List ℕ → ℕ → ℕ → Type 0
Thin d i k = (j : ℕ) → j < k → get_or d (i + j) 0 ≤ 1

-- the walk over the first n descriptors, from container i at byte at on, goes on behind the containers passed
pub record Passing (s d : List ℕ) (n at i : ℕ) (p : Passed) : Type 0 where
  pub good : (card : ℕ)
      → walk s at card (drop i (take n d)) ≡ walk s (at + p.bytes) (card + p.bytes) (drop (i + p.count) (take n d))
  pub some : 1 ≤ p.count
  pub upto : i + p.count ≤ n
  pub room : at + p.bytes + sum size_of (drop (i + p.count) (take n d)) ≡ length s

-- it goes on, or is refused
abbrev pub Passes : List ℕ → List ℕ → ℕ → ℕ → ℕ → Option Passed → Type 0
Passes s d n at i None = (card : ℕ) → walk s at card (drop i (take n d)) ≡ refused 10
Passes s d n at i (Some p) = Passing s d n at i p

-- how many bytes the container of descriptor j has
unfoldable pub size_at : List ℕ → ℕ → ℕ
size_at d j = size_of (get_or d j 0)
