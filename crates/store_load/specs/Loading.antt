-- What the steps of loading promise.
use Rattle.std.specs.Prelude.{ℕ, ◌+◌, ◌*◌, ◌≤◌, ◌<◌, ◌≡◌, true, List, [], length, get_or, take, drop, Option, Some, None, Ok}
use Rattle.common.specs.Outcome.{refused, found}
use Rattle.row_spec.specs.Varint.{varint_at}
use Rattle.store_spec.specs.Store.{is_form, length_at, end_at, entry_at, total}
use Rattle.store_laws.proofs.Slots.{Lies}
use Rattle.store_spec.specs.Saved.{entry_from, Scan, scan}
use Rattle.store_load.specs.declared.Entry.{Entry}
use Rattle.store_load.specs.declared.Scanned.{Scanned}

-- m bytes of s from a on, which are a form unless there are none
pub record Given (s : List ℕ) (a m : ℕ) : Type 0 where
  pub inside : a + m ≤ length s
  pub is_f : 0 < m → is_form (take m (drop a s)) ≡ true

-- an entry by its length alone, which is shortest and has so many bytes behind it; whether they are a form is not looked at
unfoldable pub Frames : List ℕ → ℕ → Option Entry → Type 0
Frames s at None = entry_from s at ≡ refused 42
Frames s at (Some e) =
    (varint_at s at ≡ Ok (record { number = e.length; next = e.start; shortest = true })) × (e.start + e.length ≤ length s)

unfoldable pub Takes : List ℕ → ℕ → Option Entry → Type 0
Takes s at None = entry_from s at ≡ refused 42
Takes s at (Some e) =
    (entry_from s at ≡ found (record { entry = take e.length (drop e.start s); next = e.start + e.length }))
    × Given s e.start e.length

unfoldable pub Scans : List ℕ → ℕ → ℕ → Option Scanned → Type 0
Scans s first n None = scan s first [] n ≡ refused 42
Scans s first n (Some e) =
    (r : Scan) × (scan s first [] n ≡ found r) × (e.end ≡ r.next) × (e.total ≡ total r.held)

-- the first k slots hold the entries acc, together up to the byte `to`, and the others are empty
pub record Loading (n : ℕ) (dir buf : List ℕ) (k to : ℕ) (acc : List (List ℕ)) : Type 0 where
  pub lies : Lies n dir buf
  pub empty : (j : ℕ) → k ≤ j → j < n → length_at dir j ≡ 0
  pub ends : (j : ℕ) → j < n → 0 < length_at dir j → end_at dir j ≤ to
  pub held : (j : ℕ) → j < n → entry_at dir buf j ≡ get_or acc j []
  pub many : length acc ≡ k
  pub sum : to ≡ total acc
  pub few : to ≤ k * 268390
