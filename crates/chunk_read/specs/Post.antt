-- What the functions of this crate promise, and what they ask.
use Rattle.std.specs.Prelude.{ℕ, ◌+◌, ◌*◌, ◌%◌, ◌≤◌, ◌<◌, ◌≡◌, Bool, true, Result, List, ◌++◌, length, get_or, take, leb}
use Rattle.common.specs.Outcome.{Outcome, refused, found}
use Rattle.common.specs.Lists.{from, every, table}
use Rattle.common.specs.Bytes.{ceil8}
use Rattle.bitmap_spec.specs.Bits.{value}
use Rattle.bitmap_spec.specs.Judge.{Chunk, descriptor}
use Rattle.bitmap_spec.specs.declared.ChunkHead.{ChunkHead}
use Rattle.common.specs.declared.Refusal.{Refusal}
use Rattle.common.specs.Refusal.{outcome}

abbrev pub next_of : Outcome Chunk → Outcome ℕ
next_of (refused n) = refused n
next_of (found c) = found c.next

-- before and after are the output's bytes; the descriptors are written from k on
pub record Decoded (o : Outcome Chunk) (before after : List ℕ) (k n : ℕ) (r : Result ℕ Refusal) : Type 0 where
  pub says : outcome r ≡ next_of o
  pub holds : (c : Chunk) → o ≡ found c → take (k + n) after ≡ take k before ++ c.descs

-- f i, .., f (n - 1), each modulo 256, stand from byte k + i on, the bytes before them stayed, and any is below 64
-- exactly if all of them are
pub record Wrote (f : ℕ → ℕ) (i n k : ℕ) (before after : List ℕ) (any : ℕ) : Type 0 where
  pub same : (p : ℕ) → p < k + i → get_or after p 0 ≡ get_or before p 0
  pub here : (j : ℕ) → i ≤ j → j < n → get_or after (k + j) 0 ≡ f j % 256
  pub small : any < 64 → (j : ℕ) → i ≤ j → j < n → f j < 64
  pub large : 64 ≤ any → (j : ℕ) × (i ≤ j) × (j < n) × (64 ≤ f j)

-- a descriptor without its exception part
unfoldable pub primary_of : List ℕ → ℕ → ℕ → ℕ → ℕ → ℕ
primary_of s at w m i = m + value s at w i

-- the descriptors without their exception parts stand from byte k on, none over 63
pub record Plain (s : List ℕ) (h : ChunkHead) (n k : ℕ) (out : List ℕ) : Type 0 where
  pub here : (j : ℕ) → j < n → get_or out (k + j) 0 ≡ primary_of s h.primary h.b1 h.m j
  pub small : (j : ℕ) → j < n → primary_of s h.primary h.b1 h.m j ≤ 63

-- the descriptors stand from byte k on, if none is over 63
pub record Patched (s : List ℕ) (h : ChunkHead) (n k : ℕ) (before after : List ℕ) (r : Bool) : Type 0 where
  pub says : r ≡ every (λ i. leb (descriptor s h i) 63) (from 0 n)
  pub same : (p : ℕ) → p < k → get_or after p 0 ≡ get_or before p 0
  pub holds : r ≡ true → (j : ℕ) → j < n → get_or after (k + j) 0 ≡ descriptor s h j

-- the arrays of a chunk of n descriptors lie within s, and its offsets are below n
pub record Arrays (s : List ℕ) (h : ChunkHead) (n : ℕ) : Type 0 where
  pub widths : h.b1 + h.b2 ≤ 8
  pub few : h.e < 256
  pub some : n ≤ 256
  pub first : h.primary * 8 + n * h.b1 ≤ length s * 8
  pub second : h.offsets + h.e ≤ length s
  pub third : h.parts * 8 + h.e * h.b2 ≤ length s * 8
  pub inside : (j : ℕ) → j < h.e → get_or s (h.offsets + j) 0 < n

-- f 0, .., f (n - 1), if none is over 63, follow the first k bytes of the output
pub record Filled (f : ℕ → ℕ) (n k : ℕ) (before after : List ℕ) (r : Bool) : Type 0 where
  pub says : r ≡ every (λ i. leb (f i) 63) (from 0 n)
  pub holds : r ≡ true → take (k + n) after ≡ take k before ++ table f 0 n

-- where the arrays of a chunk of n descriptors start, in a slice of len bytes
pub record Laid (len n : ℕ) (h : ChunkHead) : Type 0 where
  pub widths : h.b1 + h.b2 ≤ 8
  pub few : h.e < 256
  pub some : n ≤ 256
  pub begins : h.primary ≤ len
  pub second : h.offsets ≡ h.primary + ceil8 (n * h.b1)
  pub third : h.parts ≡ h.offsets + h.e
