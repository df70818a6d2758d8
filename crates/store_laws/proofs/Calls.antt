-- What put, drop and load do to the answers of fetch: the laws of Answers, of an owner's calls on directory and buffer.
-- Why: a call that is done found the entries that its owner's slots then mean, and left what is another owner's; a
-- refused one left all.
-- Assumes nothing.
use mathlib.Core.Path.{◌≡◌, refl, sym, ap, ◌∙◌}
use mathlib.Core.Logic.{⊎_elim}
use mathlib.Core.Bool.{true}
use mathlib.Core.List.{List, []}
use Prim.Native.Nat.{ℕ, ◌+◌, ◌/◌, ◌%◌, ◌<◌}
use native.Mathlib.Omega.{arith}
use borrow.Author.Tests.{ltb-true, lt-ltb, eqb-true, eq-eqb, ne_eqb}
use lib.ListN.{length, get_or, set, take, drop}
use lib.Dec.{ltb}
use lib.Seq.{get_or-take, get_or-drop}
use Rattle.common.specs.Outcome.{Outcome, refused, found, then, need}
use Rattle.bitmap_spec.specs.Judge.{judge}
use Rattle.bitmap_spec.specs.Form.{form}
use Rattle.bitmap_spec.specs.Output.{placed}
use Rattle.bitmap_spec.proofs.Reading.{need-found}
use Rattle.bitmap_spec.proofs.Window.{below_or}
use Rattle.bitmap_laws.proofs.Accept.{then_found}
use Rattle.store_spec.specs.Store.{total, put_in, fetch_in, drop_in}
use Rattle.store_spec.specs.Owners.{half, owns, own_entries, on_slot, put_on, fetch_on, drop_on, OwnLeft, AllLeft}
use Rattle.store_spec.specs.Saved.{load_on}
use Rattle.store_laws.proofs.Slots.{same_or, total-set}
use Rattle.store_laws.proofs.Answers.{put-room, put-fetch, put_other, drop-fetch, drop-other}
use Rattle.store_laws.proofs.Halves.{other-left}
use Rattle.store_laws.proofs.Returns.{own-holds, all_own}

-- ---- a call of owner o on slot k, which makes f of the entries

-- the call found a: the slot is the owner's, and f finds a in the entries es that the owner's slots mean
record Finds {A : Type 0} (o k : ℕ) (dir buf : List ℕ) (f : List (List ℕ) → Outcome A) (a : A) : Type 0 where
  pub low : k < 64
  pub own : k / 32 ≡ o
  pub es : List (List ℕ)
  pub meant : own_entries o dir buf ≡ found es
  pub gives : f es ≡ found a

slot-found : {A : Type 0} (o k : ℕ) (dir buf : List ℕ) (f : List (List ℕ) → Outcome A) (a : A)
    → on_slot o k (then (own_entries o dir buf) f) ≡ found a → Finds o k dir buf f a
unfolding on_slot owns
slot-found o k dir buf f a e =
    let n = need-found (ltb k 64) 40 _ a e in
    let m = need-found (owns o k) 44 _ a n.1 in
    let t = then_found (own_entries o dir buf) f a m.1 in
    record {
      low = ltb-true k 64 n.0;
      own = eqb-true (k / 32) o m.0;
      es = t.0;
      meant = t.1;
      gives = t.2;
    }

-- outcomes need be the same at the owner's slots alone
slot_same : {A : Type 0} (o k : ℕ) (x y : Outcome A) → (k / 32 ≡ o → x ≡ y) → on_slot o k x ≡ on_slot o k y
unfolding on_slot owns need
slot_same o k x y h =
    ⊎_elim (λ q. ap (on_slot o k) (h q)) (λ q. rw (ne_eqb (k / 32) o q)) (same_or (k / 32) o)

fetch-of : (o k out : ℕ) (dir buf : List ℕ) (es : List (List ℕ)) → own_entries o dir buf ≡ found es
    → fetch_on o k out dir buf ≡ on_slot o k (fetch_in out (k % 32) es)
unfolding fetch_on
fetch-of o k out dir buf es e = rw e

fetch-in : (o k out : ℕ) (dir buf : List ℕ) (es : List (List ℕ)) → own_entries o dir buf ≡ found es → k < 64
    → k / 32 ≡ o → fetch_on o k out dir buf ≡ fetch_in out (k % 32) es
unfolding on_slot owns need
fetch-in o k out dir buf es e h q = fetch-of o k out dir buf es e ∙ rw (lt-ltb k 64 h, eq-eqb (k / 32) o q)

fetch-same : (o k out : ℕ) (dir buf dir' buf' : List ℕ) → own_entries o dir' buf' ≡ own_entries o dir buf
    → fetch_on o k out dir' buf' ≡ fetch_on o k out dir buf
unfolding fetch_on
fetch-same o k out dir buf dir' buf' e = rw e

-- ---- what a call leaves
means : (o : ℕ) (x : Outcome (List (List ℕ))) (es : List (List ℕ)) (dir buf dir' buf' : List ℕ) → x ≡ found es
    → OwnLeft o x dir buf dir' buf' → own_entries o dir' buf' ≡ found es
unfolding OwnLeft
means o x es dir buf dir' buf' e left = let l : OwnLeft o (found es) dir buf dir' buf' = rw e at left in l.2

-- a change f of slot k that leaves the answers of the owner's other slots leaves those of all other slots, also where
-- the call is refused
module _ (o k : ℕ) (f : List (List ℕ) → Outcome (List (List ℕ))) (dir buf dir' buf' : List ℕ)
    (left : OwnLeft o (on_slot o k (then (own_entries o dir buf) f)) dir buf dir' buf')
    (leaves : (es es' : List (List ℕ)) → f es ≡ found es' → (out i : ℕ) → (i ≡ k % 32 → ⊥)
    → fetch_in out i es' ≡ fetch_in out i es) where
  own-slots : (out j : ℕ) → (j ≡ k → ⊥) → fetch_on o j out dir' buf' ≡ fetch_on o j out dir buf
  unfolding OwnLeft
  own-slots out j d = go (on_slot o k (then (own_entries o dir buf) f)) refl left
    where
      go : (x : Outcome (List (List ℕ))) → on_slot o k (then (own_entries o dir buf) f) ≡ x
          → OwnLeft o x dir buf dir' buf' → fetch_on o j out dir' buf' ≡ fetch_on o j out dir buf
      go (refused m) e l = rw (l.0, l.1)
      go (found es') e l =
          let c = slot-found o k dir buf f es' e in
          fetch-of o j out dir' buf' es' l.2
          ∙ slot_same o j _ _ (λ q. leaves c.es es' c.gives out (j % 32) (λ r. d (omega (arith, c.own))))
          ∙ sym (fetch-of o j out dir buf c.es c.meant)

  other-slots : (p out j : ℕ) → (j ≡ k → ⊥) → fetch_on p j out dir' buf' ≡ fetch_on p j out dir buf
  other-slots p out j d =
      ⊎_elim (λ q. rw q (own-slots out j d))
      (λ q. fetch-same p j out dir buf dir' buf' (other-left o p _ dir buf dir' buf' q left)) (same_or p o)

-- ---- put
judged : (room k : ℕ) (bitmap : List ℕ) (es es' : List (List ℕ)) → put_in room k bitmap es ≡ found es'
    → (l : List ℕ) × (judge bitmap ≡ found l)
unfolding put_in
judged room k bitmap es es' e = let t = then_found (judge bitmap) _ es' e in (t.0, t.1)

module _ (o k : ℕ) (bitmap dir buf dir' buf' : List ℕ)
    (left : OwnLeft o (put_on o k bitmap dir buf) dir buf dir' buf') where
  -- "put stores the written form"
  pub put-fetch-on : (es' : List (List ℕ)) → put_on o k bitmap dir buf ≡ found es' → (l : List ℕ)
      → judge bitmap ≡ found l → (out : ℕ) → fetch_on o k out dir' buf' ≡ placed (form l) out
  unfolding put_on
  put-fetch-on es' e l j out =
      let c = slot-found o k dir buf (put_in (half buf) (k % 32) bitmap) es' e in
      let many = (own-holds o (omega (arith, c.low, c.own)) dir buf c.es c.meant).many in
      fetch-in o k out dir' buf' es' (means o _ es' dir buf dir' buf' e left) c.low c.own
      ∙ put-fetch (half buf) (k % 32) bitmap l c.es j es' c.gives out (omega (arith, many))

  -- "other slots read as before", by each owner
  pub put-other-on : (p out j : ℕ) → (j ≡ k → ⊥) → fetch_on p j out dir' buf' ≡ fetch_on p j out dir buf
  unfolding put_on
  put-other-on p out j d =
      other-slots o k (put_in (half buf) (k % 32) bitmap) dir buf dir' buf' left
      (λ es es' e. let l = judged (half buf) (k % 32) bitmap es es' e in
      put_other (half buf) (k % 32) bitmap l.0 es l.1 es' e) p out j d

-- "refused for room by its own half only": exactly if the forms in the owner's other slots and the one to be put are
-- together longer than that half
module _ (o k : ℕ) (bitmap l dir buf : List ℕ) (es : List (List ℕ)) (h : k < 64) (own : owns o k ≡ true)
    (e : own_entries o dir buf ≡ found es) (j : judge bitmap ≡ found l) where
  put_on_lem : put_on o k bitmap dir buf ≡ put_in (half buf) (k % 32) bitmap es
  unfolding put_on on_slot need
  put_on_lem = rw (lt-ltb k 64 h, own, e)

  others : total (set es (k % 32) (form l)) ≡ total (set es (k % 32) []) + length (form l)
  unfolding owns
  others =
      let is : k / 32 ≡ o = eqb-true (k / 32) o own in
      let many = (own-holds o (omega arith) dir buf es e).many in
      let put = total-set es (k % 32) (form l) (omega arith) in
      let none = total-set es (k % 32) [] (omega arith) in
      omega arith

  pub put-room-on : (put_on o k bitmap dir buf ≡ refused 13 → half buf < total (set es (k % 32) []) + length (form l))
      × (half buf < total (set es (k % 32) []) + length (form l) → put_on o k bitmap dir buf ≡ refused 13)
  put-room-on =
      let room = put-room (half buf) (k % 32) bitmap l es j in
      (λ q. rw others at (room.0 (sym put_on_lem ∙ q)), λ q. put_on_lem ∙ room.1 (rw others q))

-- ---- drop
module _ (o k : ℕ) (dir buf dir' : List ℕ) (left : OwnLeft o (drop_on o k dir buf) dir buf dir' buf) where
  pub drop-fetch-on : (es' : List (List ℕ)) → drop_on o k dir buf ≡ found es' → (out : ℕ)
      → fetch_on o k out dir' buf ≡ refused 41
  unfolding drop_on
  drop-fetch-on es' e out =
      let c = slot-found o k dir buf (drop_in (k % 32)) es' e in
      fetch-in o k out dir' buf es' (means o _ es' dir buf dir' buf e left) c.low c.own
      ∙ drop-fetch (k % 32) c.es es' c.gives out

  pub drop-other-on : (p out j : ℕ) → (j ≡ k → ⊥) → fetch_on p j out dir' buf ≡ fetch_on p j out dir buf
  unfolding drop_on
  drop-other-on p out j d = other-slots o k (drop_in (k % 32)) dir buf dir' buf left (drop-other (k % 32)) p out j d

-- ---- load: "each slot then holds its entry", which its owner fetches
entry-same : (out i k : ℕ) (es cs : List (List ℕ)) → get_or es i [] ≡ get_or cs k [] → fetch_in out i es ≡ fetch_in out k cs
unfolding fetch_in
entry-same out i k es cs e = rw e

loaded : (x : Outcome (List (List ℕ))) (cs : List (List ℕ)) (dir buf dir' buf' : List ℕ) → x ≡ found cs
    → AllLeft x dir buf dir' buf'
    → (own_entries 0 dir' buf' ≡ found (take 32 cs)) × (own_entries 1 dir' buf' ≡ found (drop 32 cs))
unfolding AllLeft
loaded x cs dir buf dir' buf' e left =
    let l : AllLeft (found cs) dir buf dir' buf' = rw e at left in all_own dir' buf' cs l.2

pub load-fetch-on : (k out : ℕ) (s dir buf dir' buf' : List ℕ) (cs : List (List ℕ))
    → load_on dir (half buf) s ≡ found cs → AllLeft (load_on dir (half buf) s) dir buf dir' buf' → k < 64
    → fetch_on (k / 32) k out dir' buf' ≡ fetch_in out k cs
load-fetch-on k out s dir buf dir' buf' cs e left h =
    let own = loaded (load_on dir (half buf) s) cs dir buf dir' buf' e left in
    ⊎_elim
    (λ a. let i : k % 32 ≡ k = omega arith in
    slot 0 (take 32 cs) own.0 (omega arith) (get_or-take 32 cs (k % 32) [] (omega arith) ∙ rw i))
    (λ a. let i : 32 + k % 32 ≡ k = omega arith in
    slot 1 (drop 32 cs) own.1 (omega arith) (get_or-drop 32 cs (k % 32) [] ∙ rw i)) (below_or k 32)
  where
    slot : (o : ℕ) (es : List (List ℕ)) → own_entries o dir' buf' ≡ found es → k / 32 ≡ o
        → get_or es (k % 32) [] ≡ get_or cs k [] → fetch_on (k / 32) k out dir' buf' ≡ fetch_in out k cs
    slot o es m q r = rw q (fetch-in o k out dir' buf' es m h q ∙ entry-same out (k % 32) k es cs r)
