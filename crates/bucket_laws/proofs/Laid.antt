-- An accepted bucket, taken apart: its four parts follow each other, in each the pieces follow each other in column
-- order, and nothing follows.
-- Assumes nothing.
use mathlib.Core.Path.{◌≡◌, refl, subst, ◌∙◌}
use mathlib.Core.Bool.{Bool, true, false}
use mathlib.Core.List.{List, [], ◌∷◌, ◌++◌}
use Prim.Native.Nat.{ℕ, zero, suc, ◌+◌, ◌*◌, ◌<◌}
use native.Mathlib.Nat.{not-suc-le-zero}
use native.Mathlib.Omega.{arith}
use borrow.Author.Tests.{eqb-true, eqb-false}
use lib.ListN.{length, get_or, length-append, get_or-append}
use lib.Seq.{get_or_at}
use lib.Dec.{leb, eqb}
use Rattle.common.specs.Outcome.{both, Outcome, found}
use Rattle.common.specs.Lists.{from, every}
use Rattle.common.specs.Bytes.{ceil8, low_spare_zero}
use Rattle.common.proofs.Lists.{every-each}
use Rattle.common.proofs.Outcomes.{same-found, then_found}
use Rattle.row_spec.specs.declared.Column.{Column}
use Rattle.row_laws.proofs.Read.{need-found}
use Rattle.bucket_spec.specs.Bucket.{Part, along, Layout, piece_of, parts, tag_allowed, body, tags_at, Judged, bucket}
use Rattle.bucket_laws.specs.Laid.{InOrder, InParts, LaidOut}

-- ---- one part
module _ (step : ℕ → ℕ → Outcome ℕ) where
  -- what was laid so far, and where the next piece starts
  one-step : (i first at next : ℕ) (done : List ℕ) → InOrder step i first done at → step i at ≡ found next
      → InOrder step (suc i) first (done ++ (at ∷ [])) next
  one-step i first at next done h e =
      record { many = len; first = before 0 (omega arith) ∙ h.first; each = λ j l. by-test j l (eqb j i) refl }
    where
      len : length (done ++ (at ∷ [])) ≡ suc i
      len = rw length-append (omega (arith, h.many))

      before : (k : ℕ) → k < suc i → get_or ((done ++ (at ∷ [])) ++ (next ∷ [])) k 0 ≡ get_or (done ++ (at ∷ [])) k 0
      before k l = get_or-append (done ++ (at ∷ [])) (next ∷ []) 0 k (omega (arith, len))

      here : get_or (done ++ (at ∷ [])) i 0 ≡ at
      here = get_or_at done at [] 0 i h.many

      last : get_or ((done ++ (at ∷ [])) ++ (next ∷ [])) (suc i) 0 ≡ next
      last = get_or_at (done ++ (at ∷ [])) next [] 0 (suc i) len

      by-test : (j : ℕ) → j < suc i → (t : Bool) → eqb j i ≡ t
          → step j (get_or ((done ++ (at ∷ [])) ++ (next ∷ [])) j 0)
          ≡ found (get_or ((done ++ (at ∷ [])) ++ (next ∷ [])) (suc j) 0)
      by-test j l true q = rw (eqb-true j i q, before i (omega arith), here, last) e
      by-test j l false q =
          let less : j < i = let d = eqb-false j i q in omega arith in
          rw (before j (omega arith), before (suc j) (omega arith)) (h.each j less)

  steps : (k i first at : ℕ) (done : List ℕ) (x : Part) → InOrder step i first done at
      → along step i k at done ≡ found x
      → InOrder step (i + k) first x.starts x.next
  unfolding along
  steps zero i first at done x h e =
      let p : record { starts = done; next = at } ≡ x = same-found e in
      let a : i ≡ i + 0 = omega arith in
      subst (λ (y : Part). InOrder step (i + 0) first y.starts y.next) p (rw a at h)
  steps (suc k) i first at done x h e =
      let y = then_found (step i at) (λ next. along step (suc i) k next (done ++ (at ∷ []))) x e in
      let g = one-step i first at y.0 done h y.1.0 in
      let l = steps k (suc i) first y.0 (done ++ (at ∷ [])) x g y.1.1 in
      let a : suc i + k ≡ i + suc k = omega arith in
      rw a at l

  none : (at : ℕ) → InOrder step 0 at [] at
  none at = record { many = refl; first = refl; each = λ j l. absurd (not-suc-le-zero l) }

  pub along-order : (k at : ℕ) (x : Part) → along step 0 k at [] ≡ found x → InOrder step k at x.starts x.next
  along-order k at x e =
      let z : 0 + k ≡ k = omega arith in
      rw z at (steps k 0 at at [] x (none at) e)

  -- so each piece was read where it starts
  pub order-reads : (k at : ℕ) (starts : List ℕ) (end : ℕ) → InOrder step k at starts end → (i : ℕ) → i < k
      → (next : ℕ) × (step i (get_or starts i 0) ≡ found next)
  order-reads k at starts end h i l =
      let e = get_or-append starts (end ∷ []) 0 i (omega (arith, h.many)) in
      (get_or (starts ++ (end ∷ [])) (suc i) 0, rw (← e) (h.each i l))

-- ---- the whole bucket
module _ (cols : List Column) (n : ℕ) (s : List ℕ) where
  module _ (tags has : ℕ) where
    -- a part that was read, and its pieces in order
    abbrev PartIs : ℕ → List ℕ → List ℕ → ℕ → Part → Type 0
    PartIs part tables nulls at x = along (piece_of cols n s tags has part tables nulls) 0 (length cols) at [] ≡ found x

    part-order : (part : ℕ) (tables nulls : List ℕ) (at : ℕ) (x : Part) → PartIs part tables nulls at x
        → InOrder (piece_of cols n s tags has part tables nulls) (length cols) at x.starts x.next
    part-order part tables nulls at x e = along-order (piece_of cols n s tags has part tables nulls) (length cols) at x e

    abbrev layout_of : Part → Part → Part → Part → Layout
    layout_of c t u d = record { consts = c.starts; tables = t.starts; nulls = u.starts; cells = d.starts }

    four-parts : (at : ℕ) (c t u d : Part) → PartIs 0 [] [] at c → PartIs 1 [] [] c.next t
        → PartIs 2 [] [] t.next u → PartIs 3 t.starts u.starts u.next d → eqb d.next (length s) ≡ true
        → InParts cols n s tags has at (layout_of c t u d)
    four-parts at c t u d ec et eu ed last =
        let end = eqb-true d.next (length s) last in
        record {
          to_tables = c.next;
          to_nulls = t.next;
          to_cells = u.next;
          consts = part-order 0 [] [] at c ec;
          tables = part-order 1 [] [] c.next t et;
          nulls = part-order 2 [] [] t.next u eu;
          cells = rw end at (part-order 3 t.starts u.starts u.next d ed);
        }

    parts-laid : (at : ℕ) (l : Layout) → parts cols n s tags has at ≡ found l → InParts cols n s tags has at l
    unfolding parts
    parts-laid at l e =
        let c = then_found _ _ l e in
        let t = then_found _ _ l c.1.1 in
        let u = then_found _ _ l t.1.1 in
        let d = then_found _ _ l u.1.1 in
        let z = need-found _ 36 _ l d.1.1 in
        let p = four-parts at c.0 t.0 u.0 d.0 c.1.0 t.1.0 u.1.0 d.1.0 z.0 in
        rw (same-found z.1) at p

    -- the parts in order, and each column's tag is allowed
    body-laid : (l : Layout) → body cols n s tags has ≡ found l
        → ((i : ℕ) → i < length cols → tag_allowed cols n s tags has i ≡ true)
        × InParts cols n s tags has (has + ceil8 (length cols)) l
    unfolding body
    body-laid l e =
        let a = (need-found (leb has (length s)) 31 _ l e).1 in
        let b = (need-found (low_spare_zero s tags (2 * length cols)) 34 _ l a).1 in
        let c = need-found (every (tag_allowed cols n s tags has) (from 0 (length cols))) 35 _ l b in
        let d = (need-found (leb (has + ceil8 (length cols)) (length s)) 31 _ l c.1).1 in
        let f = (need-found (low_spare_zero s has (length cols)) 34 _ l d).1 in
        let allowed = every-each (tag_allowed cols n s tags has) (length cols) in
        (λ i h. allowed i c.0 h, parts-laid (has + ceil8 (length cols)) l f)

  bucket-body : (b : Judged) → bucket cols n s ≡ found b
      → body cols n s b.tags (b.tags + ceil8 (2 * length cols)) ≡ found b.layout
  unfolding bucket
  bucket-body b e =
      let a = (need-found (both (leb (length s) 16777216) (leb n 65536)) 37 _ b e).1 in
      let t = then_found (tags_at (length cols) s) _ b a in
      let l = then_found (body cols n s t.0 (t.0 + ceil8 (2 * length cols))) _ b t.1.1 in
      subst (λ (x : Judged). body cols n s x.tags (x.tags + ceil8 (2 * length cols)) ≡ found x.layout)
      (same-found l.1.1) l.1.0

  pub bucket-allowed : (b : Judged) → bucket cols n s ≡ found b → (i : ℕ) → i < length cols
      → tag_allowed cols n s b.tags (b.tags + ceil8 (2 * length cols)) i ≡ true
  bucket-allowed b e = (body-laid b.tags (b.tags + ceil8 (2 * length cols)) b.layout (bucket-body b e)).0

  -- An accepted bucket's parts and pieces follow each other to its end.
  pub bucket-laid : (b : Judged) → bucket cols n s ≡ found b → LaidOut cols n s b
  bucket-laid b e = (body-laid b.tags (b.tags + ceil8 (2 * length cols)) b.layout (bucket-body b e)).1
