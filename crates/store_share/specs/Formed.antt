-- A form ready to be laid into a share.
use Rattle.std.specs.Prelude.{ℕ, ◌≤◌, ◌≡◌, true, List, length, set}
use Rattle.common.specs.Outcome.{Outcome}
use Rattle.bitmap_laws.proofs.Values.{AllLe}
use Rattle.bitmap_rewrite.specs.Settled.{laid}
use Rattle.store_spec.specs.Store.{is_form, entries_of, room_for}

-- the descriptors ds and the bytes of bitmap from start on make a written form of that size
pub record Formed (bitmap : List ℕ) (start : ℕ) (ds : List ℕ) (card size : ℕ) : Type 0 where
  pub inside : start ≤ length bitmap
  pub few : length ds ≤ 8192
  pub fine : AllLe 63 ds
  pub sized : size ≡ length (laid bitmap start ds card)
  pub is_f : is_form (laid bitmap start ds card) ≡ true

-- the form w put into slot k of a sound share
unfoldable pub stored : ℕ → List ℕ → List ℕ → ℕ → List ℕ → Outcome (List (List ℕ))
stored n dir buf k w = room_for (length buf) (set (entries_of n dir buf) k w)
