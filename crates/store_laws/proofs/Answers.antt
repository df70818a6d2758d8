-- What put and drop of a slot do to the answers of that slot and of the others, and when a put is refused for room.
-- es are the entries of any share before the call, es' those after it.
-- Assumes nothing.
use mathlib.Core.Path.{◌≡◌, refl, sym, ◌∙◌}
use mathlib.Core.Logic.{⊎_elim}
use mathlib.Core.Bool.{true}
use mathlib.Core.List.{List, []}
use Prim.Native.Nat.{ℕ, ◌≤◌, ◌<◌}
use native.Mathlib.Omega.{arith}
use borrow.Author.Tests.{le-leb, lt-leb}
use lib.ListN.{length, get_or, set, length-set, get_or-eq_default}
use lib.Seq.{get_or-set_same, get_or-set_other}
use Rattle.common.specs.Outcome.{refused, found, need}
use Rattle.bitmap_spec.specs.Judge.{judge}
use Rattle.bitmap_spec.specs.Form.{form_of, form}
use Rattle.bitmap_spec.specs.Output.{placed}
use Rattle.common.proofs.Outcomes.{same-found}
use Rattle.bitmap_spec.proofs.Reading.{need-found}
use Rattle.bitmap_spec.proofs.Window.{below_or}
use Rattle.store_spec.specs.Store.{some, total, room_for, put_in, fetch_in, drop_in}

form-some : (l : List ℕ) → some (form l) ≡ true
unfolding form form_of
form-some l = refl

-- ---- put
module _ (room k : ℕ) (bitmap l : List ℕ) (es : List (List ℕ)) (judged : judge bitmap ≡ found l) where
  -- "refused for room exactly if the forms in the other slots plus the new one are longer than the buffer"
  pub put_full : room < total (set es k (form l)) → put_in room k bitmap es ≡ refused 13
  unfolding put_in room_for need
  put_full h = rw (judged, lt-leb _ _ h)

  pub put-fits : total (set es k (form l)) ≤ room → put_in room k bitmap es ≡ found (set es k (form l))
  unfolding put_in room_for need
  put-fits h = rw (judged, le-leb _ _ h)

  -- the same in one statement: past the bitmap's own refusals the answer is 13 exactly if the sum is over the room
  pub put-room : (put_in room k bitmap es ≡ refused 13 → room < total (set es k (form l)))
      × (room < total (set es k (form l)) → put_in room k bitmap es ≡ refused 13)
  put-room = (over, put_full)
    where
      over : put_in room k bitmap es ≡ refused 13 → room < total (set es k (form l))
      over e =
          ⊎_elim (λ h. h) (λ h. absurd (let f = put-fits h in let z : ◌≡◌ {A = ℕ} 0 1 = cc in omega arith))
          (below_or room (total (set es k (form l))))

  module _ (es' : List (List ℕ)) (done : put_in room k bitmap es ≡ found es') where
    put_is : es' ≡ set es k (form l)
    put_is =
        ⊎_elim (λ h. absurd (let e = put_full h in let z : ◌≡◌ {A = ℕ} 0 1 = cc in omega arith))
        (λ h. same-found (sym done ∙ put-fits h)) (below_or room (total (set es k (form l))))

    -- "put stores the written form"
    pub put-fetch : (out : ℕ) → k < length es → fetch_in out k es' ≡ placed (form l) out
    unfolding fetch_in need
    put-fetch out h = rw (put_is, get_or-set_same es k (form l) [] h, form-some l)

    -- "other slots read as before"
    pub put_other : (out j : ℕ) → (j ≡ k → ⊥) → fetch_in out j es' ≡ fetch_in out j es
    unfolding fetch_in
    put_other out j d = rw (put_is, get_or-set_other es k j (form l) [] d)

-- ---- drop
module _ (k : ℕ) (es es' : List (List ℕ)) (done : drop_in k es ≡ found es') where
  drop-is : (some (get_or es k []) ≡ true) × (es' ≡ set es k [])
  unfolding drop_in
  drop-is = let a = need-found (some (get_or es k [])) 41 _ es' done in (a.0, sym (same-found a.1))

  pub drop-fetch : (out : ℕ) → fetch_in out k es' ≡ refused 41
  unfolding fetch_in need
  drop-fetch out =
      let e : get_or (set es k []) k [] ≡ [] =
      ⊎_elim (λ h. get_or-set_same es k [] [] h)
      (λ h. get_or-eq_default (set es k []) [] {n = k} (rw length-set h)) (below_or k (length es)) in
      rw (drop-is.1, e)

  pub drop-other : (out j : ℕ) → (j ≡ k → ⊥) → fetch_in out j es' ≡ fetch_in out j es
  unfolding fetch_in
  drop-other out j d = rw (drop-is.1, get_or-set_other es k j [] [] d)
