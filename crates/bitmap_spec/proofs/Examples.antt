-- Worked examples of the definitions, computed: each statement holds because both its sides compute to the same.
-- The lines of the proved table are in `proved_table`; all other examples are run, by the programs `bitmap_vectors`,
-- `write_vectors`, `chunk_vectors` and `step_vectors`.
-- Assumes nothing.
use Prim.Native.Nat.{ℕ}
use mathlib.Core.Path.{◌≡◌, refl}
use mathlib.Core.Bool.{Bool, true, false}
use mathlib.Core.List.{List, [], ◌∷◌, ◌++◌}
use lib.ListN.{replicate}
use lib.Count.{count_leading_zeros}
use Rattle.common.specs.Outcome.{refused, found, need}
use Rattle.common.specs.Lists.{from, keep, mem, rising, sum, every, table}
use Rattle.common.specs.Bytes.{ceil8, little_at}
use Rattle.bitmap_spec.specs.Bits.{bit, bits, value, spare_zero, packed, bytes_of, value_bit, pack_values}
use Rattle.bitmap_spec.specs.Judge.{head_with, head_at, chunk_end, widths_ok, part, descriptor, chunk_with, chunk, last_chunk, chunks, size_of, dense, container, container_ok, containers_ok, members_from, judge_body, judge}
use Rattle.bitmap_spec.specs.Form.{smallest, least, largest, width, wider, cost, cheapest, chunk_at, chunk_of, write_chunk, write_chunks, cut, descriptor_of, write_container, write_containers, count_of, little, form_of, form}
use Rattle.bitmap_spec.specs.Ask.{below, check, probe, rank, at_or_above, place_after, page_of, page_in, page}
use Rattle.bitmap_spec.specs.Sets.{combine}
use Rattle.bitmap_spec.specs.Output.{placed, write, called}
use Rattle.bitmap_spec.specs.declared.Operation.TheVariants.{Union, Difference}

-- ---- what a line `unfolding computed` opens: every definition

unfoldable pub computed : Bool
unfolding need from keep mem rising sum every table ceil8 little_at bit bits value spare_zero packed bytes_of value_bit pack_values head_with head_at chunk_end widths_ok part descriptor chunk_with chunk last_chunk chunks size_of dense container container_ok containers_ok members_from judge_body judge smallest least largest width count_leading_zeros wider cost cheapest chunk_at chunk_of write_chunk write_chunks cut descriptor_of write_container write_containers count_of little form_of form below check probe rank at_or_above place_after page_of page_in page combine placed write called
computed = true

-- ---- written

-- "0 to 30 takes 40 bytes, sparse": it ends in 1E, and is read as the set
pub thirty-one : (form (from 0 31) ≡ 1 ∷ 31 ∷ 0 ∷ 0 ∷ 1 ∷ 0 ∷ 0 ∷ 0 ∷ 31 ∷ from 0 31)
    × (judge (form (from 0 31)) ≡ found (from 0 31))
unfolding computed
thirty-one = (refl, refl)

-- 29 descriptors, 28 of them of width 1: b 1 costs ceil(29·1/8) = 4, b 0 costs 32
pub short-chunk : write_chunk (0 ∷ replicate 28 1) ≡ 0x01 ∷ 0 ∷ 0 ∷ 0x7F ∷ 0xFF ∷ 0xFF ∷ 0xF8 ∷ []
unfolding computed
short-chunk = refl

-- 9 descriptors: b 0 and b 1 both cost 2, and "smaller b on a tie" gives an exception
pub tie : write_chunk (replicate 8 0 ++ (1 ∷ [])) ≡ 0x10 ∷ 1 ∷ 0 ∷ 8 ∷ 0x80 ∷ []
unfolding computed
tie = refl

-- source 002's chunk of eight values, two of them exceptions of eight bits; b 0 costs 4
pub chunk-eight : write_chunk (0 ∷ 0 ∷ 0 ∷ 0 ∷ 0xFF ∷ 0 ∷ 0 ∷ 0xFE ∷ []) ≡ 0x80 ∷ 2 ∷ 0 ∷ 4 ∷ 7 ∷ 0xFF ∷ 0xFE ∷ []
unfolding computed
chunk-eight = refl

-- ---- read

abbrev chunk_bytes : List ℕ
chunk_bytes = 0x32 ∷ 0x01 ∷ 0x06 ∷ 0x09 ∷ 0x01 ∷ 0xE0 ∷ []

-- source 002's chunk with an exception: descriptors 6, 34, 8, 7 by b1 2 and b2 3. It is written so too, on a tie: b 2 and
-- b 5 both cost 3
pub chunk-exception : (table (descriptor chunk_bytes (head_at chunk_bytes 0 4)) 0 4 ≡ 6 ∷ 34 ∷ 8 ∷ 7 ∷ [])
    × (write_chunk (6 ∷ 34 ∷ 8 ∷ 7 ∷ []) ≡ chunk_bytes)
unfolding computed
chunk-exception = (refl, refl)

-- {2,097,151}: 31 chunks of empty containers, then one whose last container holds the last position
pub last-position : judge (1 ∷ 1 ∷ 0 ∷ 0 ∷ 0x00 ∷ 0x20 ∷ (replicate 93 0 ++ (0x10 ∷ 1 ∷ 0 ∷ 0xFF ∷ 0x80 ∷ 0xFF ∷ [])))
    ≡ found (2097151 ∷ [])
unfolding computed
last-position = refl

-- ---- refused

-- dense, with 31 members
pub dense-31 : judge (1 ∷ 31 ∷ 0 ∷ 0 ∷ 1 ∷ 0 ∷ 0 ∷ 0 ∷ 32 ∷ 0xFF ∷ 0xFF ∷ 0xFF ∷ 0xFE ∷ replicate 28 0) ≡ refused 10
unfolding computed
dense-31 = refl

-- an offset past the chunk, and a spare bit of the primary array before it
pub order-6-7 : judge (1 ∷ 0 ∷ 0 ∷ 0 ∷ 1 ∷ 0 ∷ 0x11 ∷ 1 ∷ 0 ∷ 0x40 ∷ 1 ∷ 0 ∷ []) ≡ refused 6
unfolding computed
order-6-7 = refl

-- a spare bit, and descriptor 64
pub order-7-8 : judge (1 ∷ 0 ∷ 0 ∷ 0 ∷ 1 ∷ 0 ∷ 0x01 ∷ 0 ∷ 64 ∷ 0x40 ∷ []) ≡ refused 7
unfolding computed
order-7-8 = refl

-- 5 twice, and cardinality 7
pub order-10-11 : judge (1 ∷ 7 ∷ 0 ∷ 0 ∷ 1 ∷ 0 ∷ 0 ∷ 0 ∷ 2 ∷ 5 ∷ 5 ∷ []) ≡ refused 10
unfolding computed
order-10-11 = refl

-- ---- asked

-- of 0, 34, 255 from 35 on, the page that takes the last member sets the mark
pub page-last : page (1 ∷ 3 ∷ 0 ∷ 0 ∷ 1 ∷ 0 ∷ 0 ∷ 0 ∷ 3 ∷ 0x00 ∷ 0x22 ∷ 0xFF ∷ []) (record { place = 35; finished = false }) 1
    ≡ found (record { given = 255 ∷ []; next = record { place = 256; finished = true } })
unfolding computed
page-last = refl

-- ---- combined

-- the form of {0}
abbrev form-0 : List ℕ
form-0 = 1 ∷ 1 ∷ 0 ∷ 0 ∷ 1 ∷ 0 ∷ 0 ∷ 0 ∷ 1 ∷ 0 ∷ []

-- the form of {256}: 11 bytes
abbrev form-256 : List ℕ
form-256 = 1 ∷ 1 ∷ 0 ∷ 0 ∷ 2 ∷ 0 ∷ 0x01 ∷ 0 ∷ 0 ∷ 0x40 ∷ 0 ∷ []

-- {0, 256} less {0}
pub difference : called Difference (1 ∷ 2 ∷ 0 ∷ 0 ∷ 2 ∷ 0 ∷ 0 ∷ 0 ∷ 1 ∷ 0 ∷ 0 ∷ []) form-0 12 ≡ found form-256
unfolding computed
difference = refl

-- {256} by b1 0 and an exception, in 12 bytes: the form at a cost of 32·b. "Old masks are still accepted"
abbrev longer-256 : List ℕ
longer-256 = 1 ∷ 1 ∷ 0 ∷ 0 ∷ 2 ∷ 0 ∷ 0x10 ∷ 1 ∷ 0 ∷ 0x01 ∷ 0x80 ∷ 0 ∷ []

-- they are read as {256}, and rewritten as its form
pub longer-accepted : (judge longer-256 ≡ found (256 ∷ [])) × (called Union longer-256 longer-256 11 ≡ found form-256)
unfolding computed
longer-accepted = (refl, refl)

-- "accepted as {0} and rewritten as above": a descriptor by way of an exception, and an empty last container
pub rewritten : called Union (1 ∷ 1 ∷ 0 ∷ 0 ∷ 2 ∷ 0 ∷ 0x10 ∷ 1 ∷ 0 ∷ 0x00 ∷ 0x80 ∷ 0 ∷ []) form-0 10 ≡ found form-0
unfolding computed
rewritten = refl

-- "the first bitmap is judged wholly before the second": 11 of the first, 1 of the second
pub first-before-second : called Union (1 ∷ 2 ∷ 0 ∷ 0 ∷ 1 ∷ 0 ∷ 0 ∷ 0 ∷ 1 ∷ 0 ∷ []) [] 0 ≡ refused 11
unfolding computed
first-before-second = refl
