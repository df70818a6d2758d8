-- What a view of judged bytes gives to the walk over their chunks, and what the walk's answer says of the bytes.
-- Assumes nothing.
use mathlib.Core.Path.{◌≡◌, ◌∙◌}
use mathlib.Core.Bool.{Bool, true}
use mathlib.Core.List.{List}
use Prim.Native.Nat.{ℕ, ◌/◌, ◌≤◌, ◌<◌}
use lib.ListN.{length, get_or, take}
use lib.Seq.{length-take-le}
use Rattle.common.specs.Outcome.{found}
use Rattle.bitmap_spec.specs.Judge.{judge}
use Rattle.judge.specs.Post.{ReadView}
use Rattle.store_spec.specs.Store.{is_form}
use Rattle.form_check.specs.Heads.{is_settled, heads_are}
use Rattle.form_check.specs.Read.{Reads}
use Rattle.form_check.proofs.Forms.{form-heads}

module _ (s d l : List ℕ) (n start : ℕ) (v : ReadView s d n start l) where
  pub many : length (take n d) ≡ n
  many = length-take-le n d v.view.long

  pub view-few : length (take n d) ≤ 8192
  view-few = rw many v.view.few

  pub view-reads : Reads s (take n d)
  view-reads = record { start = start; says = rw many v.read }

  pub by_heads : judge s ≡ found l → ((k : ℕ) → get_or s k 0 < 256) → is_settled (take n d) ≡ true → (r : Bool)
      → r ≡ heads_are s 6 (length (take n d) / 256) (take n d) → r ≡ is_form s
  by_heads j small settled r e = (rw many at e) ∙ form-heads s d l n start j v small settled
