-- The number of each refusal, and the outcome that a result stands for.
use Rattle.std.specs.Prelude.{ℕ, List, ◌∷◌, Result, Ok, Err}
use Rattle.std.specs.Fmt.{decimal}
use Rattle.common.specs.Outcome.{Outcome, refused, found}
use Rattle.common.specs.declared.Refusal.{Refusal}
use Rattle.common.specs.declared.Refusal.TheVariants as refusal

abbrev pub number : Refusal → ℕ
number refusal.BitmapShort = 1
number refusal.BitmapVersion = 2
number refusal.BitmapContainers = 3
number refusal.ChunkCut = 4
number refusal.ChunkWidths = 5
number refusal.ChunkOffsets = 6
number refusal.ChunkSpare = 7
number refusal.ChunkDescriptor = 8
number refusal.BitmapRest = 9
number refusal.Container = 10
number refusal.Cardinality = 11
number refusal.Positions = 12
number refusal.Room = 13
number refusal.Schema = 20
number refusal.BlockLength = 21
number refusal.BlockCount = 22
number refusal.BlockOffsets = 23
number refusal.BlockRow = 24
number refusal.Absent = 25
number refusal.BucketHeader = 30
number refusal.BucketCut = 31
number refusal.BucketValue = 32
number refusal.BucketEntries = 33
number refusal.BucketSpare = 34
number refusal.BucketNull = 35
number refusal.BucketRest = 36
number refusal.BucketLimit = 37
number refusal.StoreSlot = 40
number refusal.StoreEmpty = 41
number refusal.StoreBad = 42
number refusal.StoreOwner = 44

-- a refusal's number, or what was found
abbrev pub outcome : {A : Type 0} → Result A Refusal → Outcome A
outcome (Ok a) = found a
outcome (Err r) = refused (number r)

-- the word refused, a space, and the number
abbrev pub refusal_text : Refusal → List ℕ
refusal_text r = 114 ∷ 101 ∷ 102 ∷ 117 ∷ 115 ∷ 101 ∷ 100 ∷ 32 ∷ decimal (number r)
