-- What the walks promise.
use Rattle.std.specs.Prelude.{ℕ, ◌≤◌, ◌≡◌, true, false, Result, Ok, Err, List, length, take}
use Rattle.bitmap_spec.specs.Judge.{Chunk, containers_ok, members_from}
use Rattle.bitmap_explain_spec.specs.Explain.{Told, faulty, fine, bad_container}
use Rattle.bitmap_explain_spec.specs.declared.Fault.{Fault}
use Rattle.bitmap_explain_spec.specs.Told.{numbers}

-- the fault told; or all n descriptors stand in the first n bytes of the output, and the chunks end within the bitmap
abbrev pub Walks : Told Chunk → ℕ → List ℕ → ℕ → Result ℕ Fault → Type 0
Walks t len after n (Err f) = t ≡ faulty (numbers f)
Walks t len after n (Ok at) = (t ≡ fine (record { descs = take n after; next = at })) × (at ≤ len)

-- the containers of descriptors ds, the first at byte from: the fault of the first that is not well formed; or how many
-- members all have
abbrev pub Counts : List ℕ → ℕ → List ℕ → Result ℕ Fault → Type 0
Counts s from ds (Err f) = (containers_ok s from ds ≡ false) × (numbers f ≡ bad_container s from ds)
Counts s from ds (Ok m) = (containers_ok s from ds ≡ true) × (m ≡ length (members_from s 0 from ds))
