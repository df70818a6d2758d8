-- Examples of the faults told, computed.
-- Assumes nothing.
use mathlib.Core.Path.{◌≡◌, refl}
use mathlib.Core.Bool.{Bool, true}
use mathlib.Core.List.{[], ◌∷◌}
use Rattle.bitmap_spec.proofs.Examples.{computed}
use Rattle.bitmap_explain_spec.specs.Explain.{fault, faulty, fine, need_at, fault_of, risen, first_over}
use Rattle.bitmap_explain_spec.specs.Explain.{well_formed, spare_byte, offsets_of, explained_with, explained_chunk}
use Rattle.bitmap_explain_spec.specs.Explain.{explained_last, explained_chunks, container_at, explained_body}
use Rattle.bitmap_explain_spec.specs.Explain.{explained}

-- what a line `unfolding told` opens: every definition, those of the places, of a chunk, and of the whole
unfoldable pub places : Bool
unfolding need_at risen first_over well_formed spare_byte offsets_of container_at
places = true

unfoldable pub told : Bool
unfolding computed places explained_with explained_chunk explained_last explained_chunks explained_body explained
told = true

pub nothing : explained [] ≡ faulty (fault 1 0 0 0 6)
unfolding told
nothing = refl

pub five-bytes : explained (1 ∷ 0 ∷ 0 ∷ 0 ∷ 0 ∷ []) ≡ faulty (fault 1 0 0 5 6)
unfolding told
five-bytes = refl

pub version-two : explained (2 ∷ 0 ∷ 0 ∷ 0 ∷ 0 ∷ 0 ∷ []) ≡ faulty (fault 2 0 0 2 1)
unfolding told
version-two = refl

pub count-over : explained (1 ∷ 0 ∷ 0 ∷ 0 ∷ 1 ∷ 0x20 ∷ []) ≡ faulty (fault 3 0 4 8193 8192)
unfolding told
count-over = refl

-- a chunk that starts at the end
pub no_chunk : explained (1 ∷ 0 ∷ 0 ∷ 0 ∷ 1 ∷ 0 ∷ []) ≡ faulty (fault 4 0 6 0 0)
unfolding told
no_chunk = refl

-- of 257 descriptors the second chunk is not there
pub second-chunk : explained (1 ∷ 0 ∷ 0 ∷ 0 ∷ 1 ∷ 1 ∷ 0 ∷ 0 ∷ 0 ∷ []) ≡ faulty (fault 4 1 9 0 0)
unfolding told
second-chunk = refl

pub widths-nine : explained (1 ∷ 0 ∷ 0 ∷ 0 ∷ 1 ∷ 0 ∷ 9 ∷ 0 ∷ 0 ∷ []) ≡ faulty (fault 5 0 6 0 0)
unfolding told
widths-nine = refl

-- offsets 5, 3 of 2 descriptors: the first is wrong; of 1, 0 the second
pub first-offset : explained (1 ∷ 0 ∷ 0 ∷ 0 ∷ 2 ∷ 0 ∷ 0 ∷ 2 ∷ 0 ∷ 5 ∷ 3 ∷ []) ≡ faulty (fault 6 0 9 0 0)
unfolding told
first-offset = refl

pub second-offset : explained (1 ∷ 0 ∷ 0 ∷ 0 ∷ 2 ∷ 0 ∷ 0 ∷ 2 ∷ 0 ∷ 1 ∷ 0 ∷ []) ≡ faulty (fault 6 0 10 0 0)
unfolding told
second-offset = refl

-- spare bits of the primary array, and of the parts alone
pub primary-spare : explained (1 ∷ 0 ∷ 0 ∷ 0 ∷ 2 ∷ 0 ∷ 0x11 ∷ 1 ∷ 0 ∷ 0x01 ∷ 0 ∷ 0x01 ∷ []) ≡ faulty (fault 7 0 9 0 0)
unfolding told
primary-spare = refl

pub parts-spare : explained (1 ∷ 0 ∷ 0 ∷ 0 ∷ 2 ∷ 0 ∷ 0x11 ∷ 1 ∷ 0 ∷ 0x00 ∷ 0 ∷ 0x01 ∷ []) ≡ faulty (fault 7 0 11 0 0)
unfolding told
parts-spare = refl

-- 255 + 255, a plain sum
pub over-sixty-three : explained (1 ∷ 0 ∷ 0 ∷ 0 ∷ 1 ∷ 0 ∷ 8 ∷ 0 ∷ 0xFF ∷ 0xFF ∷ []) ≡ faulty (fault 8 0 6 510 63)
unfolding told
over-sixty-three = refl

-- count 0 and one byte more
pub one_more : explained (1 ∷ 0 ∷ 0 ∷ 0 ∷ 0 ∷ 0 ∷ 0 ∷ []) ≡ faulty (fault 9 0 6 1 0)
unfolding told
one_more = refl

-- containers asked for, none there
pub none-there : explained (1 ∷ 0 ∷ 0 ∷ 0 ∷ 1 ∷ 0 ∷ 0 ∷ 0 ∷ 3 ∷ []) ≡ faulty (fault 9 0 9 0 3)
unfolding told
none-there = refl

-- the second of two containers of two bytes each does not rise
pub second-falls : explained (1 ∷ 4 ∷ 0 ∷ 0 ∷ 2 ∷ 0 ∷ 0 ∷ 0 ∷ 2 ∷ 1 ∷ 2 ∷ 7 ∷ 7 ∷ []) ≡ faulty (fault 10 1 11 0 0)
unfolding told
second-falls = refl

pub counted : explained (1 ∷ 2 ∷ 0 ∷ 0 ∷ 1 ∷ 0 ∷ 0 ∷ 0 ∷ 1 ∷ 0 ∷ []) ≡ faulty (fault 11 0 1 2 1)
unfolding told
counted = refl

pub no-fault : (explained (1 ∷ 1 ∷ 0 ∷ 0 ∷ 1 ∷ 0 ∷ 0 ∷ 0 ∷ 1 ∷ 0 ∷ []) ≡ fine (0 ∷ []))
    × (fault_of (explained (1 ∷ 1 ∷ 0 ∷ 0 ∷ 1 ∷ 0 ∷ 0 ∷ 0 ∷ 1 ∷ 0 ∷ [])) ≡ fault 0 0 0 0 0)
unfolding told
no-fault = (refl, refl)
