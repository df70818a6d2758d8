-- Where a chunk's arrays lie.
use Rattle.std.specs.Prelude.{ℕ, ◌+◌, ◌*◌, ◌/◌, ◌≤◌, ◌<◌, ◌≡◌, List, length}
use Rattle.bitmap_spec.specs.declared.ChunkHead.{ChunkHead}

-- the arrays of a chunk of n values at byte 0 follow its three bytes
pub record Laid (n : ℕ) (h : ChunkHead) : Type 0 where
  pub b1 : h.b1 < 16
  pub b2 : h.b2 < 16
  pub e : h.e < 256
  pub m : h.m < 256
  pub primary : h.primary ≡ 3
  pub offsets : h.offsets ≡ 3 + (n * h.b1 + 7) / 8
  pub parts : h.parts ≡ h.offsets + h.e

-- the arrays of a chunk of n values lie within s
pub record Within (s : List ℕ) (h : ChunkHead) (n : ℕ) : Type 0 where
  pub widths : h.b1 + h.b2 ≤ 8
  pub few : h.e < 256
  pub some : n ≤ 256
  pub first : h.primary * 8 + n * h.b1 ≤ length s * 8
  pub second : h.offsets + h.e ≤ length s
  pub third : h.parts * 8 + h.e * h.b2 ≤ length s * 8
