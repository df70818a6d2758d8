-- Load finds exactly what was saved.
-- Assumes nothing.
use mathlib.Core.Path.{◌≡◌, refl, sym, ap, ◌∙◌}
use mathlib.Core.Bool.{Bool, true, false}
use mathlib.Core.List.{List, [], ◌∷◌, ◌++◌, append_assoc, append-nil}
use Prim.Native.Nat.{ℕ, zero, suc, ◌+◌, ◌≤◌, ◌<◌}
use native.Mathlib.Omega.{arith}
use borrow.Author.Tests.{eq-eqb, le-leb, leb-true, eqb-true}
use lib.ListN.{length, get_or, take, drop, length-append, take-append-drop}
use lib.Dec.{leb, eqb}
use lib.Seq.{take-append_seam, drop-drop, drop-length}
use Rattle.common.specs.Outcome.{refused, found, need, pick}
use Rattle.bitmap_laws.proofs.Accept.{then_found}
use Rattle.row_spec.specs.Varint.{varint, varint_at, shortest}
use Rattle.row_spec.specs.declared.Varint.{Varint}
use Rattle.std.specs.Prelude.{Result, Ok, Err}
use Rattle.row_spec.specs.declared.ReadFault.{ReadFault}
use Rattle.store_spec.specs.Store.{total}
use Rattle.common.proofs.Outcomes.{same-found}
use Rattle.bitmap_spec.proofs.Reading.{need-found}
use Rattle.store_laws.proofs.Slots.{form-few}
use Rattle.bitmap_laws.proofs.Parts.{part_length}
use Rattle.store_spec.specs.Saved.{saved, is_entry, on_shortest, Taken, entry_from, Scan, scan, fitting, load_on}
use Rattle.store_laws.proofs.Lengths.{past, left-long, length_back, length-on, shortest-some}
use Rattle.store_laws.proofs.Scans.{empty-entry, some-entry, made, scan_step, scan-took, scan-zero, scan-over}

-- ---- one entry
entry-few : (e : List ℕ) → is_entry e ≡ true → length e ≤ 268390
entry-few [] h = omega arith
entry-few (x ∷ xs) h = form-few (x ∷ xs) (sym (some-entry (x ∷ xs) (λ q. omega arith)) ∙ h)

entry-back : (s e rest : List ℕ) (at : ℕ) → is_entry e ≡ true → drop at s ≡ shortest (length e) ++ (e ++ rest)
    → entry_from s at ≡ found (record { entry = e; next = at + length (shortest (length e)) + length e })
unfolding entry_from need
entry-back s e rest at h q =
    let few : length e ≤ 4294967295 = omega (arith, entry-few e h) in
    let v = length_back s at (length e) (e ++ rest) few q in
    let room : at + length (shortest (length e)) + length e ≤ length s =
    omega (
      arith,
      left-long s (shortest (length e)) (e ++ rest) at q,
      length-append e rest,
      shortest-some (length e) few,
    ) in
    rw (v, le-leb _ _ room, past s (shortest (length e)) (e ++ rest) at q, take-append_seam e rest, h)

-- an entry read at `at`, and the byte after it
record Entry (s : List ℕ) (at : ℕ) (t : Taken) : Type 0 where
  pub is : is_entry t.entry ≡ true
  pub bytes : drop at s ≡ shortest (length t.entry) ++ (t.entry ++ drop t.next s)

module _ (s : List ℕ) (byte : (i : ℕ) → get_or s i 0 < 256) (at : ℕ) where
  number : (n next : ℕ) → varint_at s at ≡ Ok (varint n next true) → leb (next + n) (length s) ≡ true
      → is_entry (take n (drop next s)) ≡ true
      → Entry s at (record { entry = take n (drop next s); next = next + n })
  number n next v room form =
      let h = leb-true _ _ room in
      let l : length (take n (drop next s)) ≡ n = part_length s next n h in
      let cut : drop next s ≡ take n (drop next s) ++ drop (next + n) s =
      sym (take-append-drop n (drop next s))
      ∙ ap (λ (x : List ℕ). take n (drop next s) ++ x) (drop-drop n next s) in
      record {
        is = form;
        bytes = length-on s byte at n next v ∙ rw l (ap (λ (x : List ℕ). shortest n ++ x) cut);
      }

  entry-on : (t : Taken) → entry_from s at ≡ found t → Entry s at t
  unfolding entry_from
  entry-on t e = go (varint_at s at) refl e
    where
      on : (n next : ℕ) (b : Bool) → varint_at s at ≡ Ok (varint n next b) → pick b (made s n next) (refused 42) ≡ found t
          → Entry s at t
      on n next false v q = absurd (let z : ◌≡◌ {A = ℕ} 0 1 = cc in omega arith)
      on n next true v q =
          let a = need-found (leb (next + n) (length s)) 42 _ t q in
          let b = need-found (is_entry (take n (drop next s))) 42 _ t a.1 in
          let z : ◌≡◌ {A = Taken} (record { entry = take n (drop next s); next = next + n }) t = same-found b.1 in
          rw z at (number n next v a.0 b.0)

      go : (v : Result Varint ReadFault) → varint_at s at ≡ v → on_shortest v (refused 42) (made s) ≡ found t → Entry s at t
      go (Err f) v q = absurd (let z : ◌≡◌ {A = ℕ} 0 1 = cc in omega arith)
      go (Ok r) v q = on r.number r.next r.shortest v q

-- ---- all entries
saved-cons : (e : List ℕ) (es : List (List ℕ)) (rest : List ℕ)
    → saved (e ∷ es) ++ rest ≡ shortest (length e) ++ (e ++ (saved es ++ rest))
unfolding saved
saved-cons e es rest = simp append_assoc

saved-long : (e : List ℕ) (es : List (List ℕ))
    → length (saved (e ∷ es)) ≡ length (shortest (length e)) + length e + length (saved es)
unfolding saved
saved-long e es = simp length-append (omega arith)

saved-none : saved [] ≡ []
unfolding saved
saved-none = refl

scan-back : (s : List ℕ) (es : List (List ℕ)) (at : ℕ) (acc : List (List ℕ)) (rest : List ℕ)
    → ((k : ℕ) → is_entry (get_or es k []) ≡ true) → drop at s ≡ saved es ++ rest
    → scan s at acc (length es) ≡ found (record { held = acc ++ es; next = at + length (saved es) })
scan-back s [] at acc rest h q =
    let z : at + 0 ≡ at = omega arith in
    scan-zero s at acc ∙ rw (append-nil acc, saved-none, z)
scan-back s (e ∷ es) at acc rest h q =
    let b : drop at s ≡ shortest (length e) ++ (e ++ (saved es ++ rest)) = q ∙ saved-cons e es rest in
    let d : drop (at + length (shortest (length e)) + length e) s ≡ saved es ++ rest =
    past s e (saved es ++ rest) (at + length (shortest (length e)))
    (past s (shortest (length e)) (e ++ (saved es ++ rest)) at b) in
    let l : at + length (shortest (length e)) + length e + length (saved es) ≡ at + length (saved (e ∷ es)) =
    omega (arith, saved-long e es) in
    scan_step s at acc (length es) (record { entry = e; next = at + length (shortest (length e)) + length e })
    (entry-back s e (saved es ++ rest) at (h 0) b)
    ∙ scan-back s es (at + length (shortest (length e)) + length e) (acc ++ (e ∷ [])) rest (λ k. h (suc k)) d
    ∙ rw (append_assoc acc (e ∷ []) es, l)

-- n entries read from at on, behind acc
record Entries (s : List ℕ) (at : ℕ) (acc : List (List ℕ)) (n : ℕ) (r : Scan) : Type 0 where
  pub es : List (List ℕ)
  pub many : length es ≡ n
  pub each : (k : ℕ) → is_entry (get_or es k []) ≡ true
  pub all : r.held ≡ acc ++ es
  pub bytes : drop at s ≡ saved es ++ drop r.next s

no-entries : (s : List ℕ) (at : ℕ) (acc : List (List ℕ)) → Entries s at acc zero (record { held = acc; next = at })
unfolding saved
no-entries s at acc =
    record { es = []; many = refl; each = λ k. empty-entry [] refl; all = sym (append-nil acc); bytes = refl }

each-cons : (e : List ℕ) (es : List (List ℕ)) → is_entry e ≡ true → ((k : ℕ) → is_entry (get_or es k []) ≡ true) → (k : ℕ)
    → is_entry (get_or (e ∷ es) k []) ≡ true
each-cons e es p q zero = p
each-cons e es p q (suc k) = q k

scan-on : (s : List ℕ) → ((i : ℕ) → get_or s i 0 < 256) → (n at : ℕ) (acc : List (List ℕ)) (r : Scan)
    → scan s at acc n ≡ found r → Entries s at acc n r
scan-on s byte zero at acc r e = rw (scan-over s at acc r e) at (no-entries s at acc)
scan-on s byte (suc n) at acc r e =
    let t = scan-took s at acc n r e in
    let x = entry-on s byte at t.0 t.1 in
    let y = scan-on s byte n t.0.next (acc ++ (t.0.entry ∷ [])) r t.2 in
    record {
      es = t.0.entry ∷ y.es;
      many = ap suc y.many;
      each = each-cons t.0.entry y.es x.is y.each;
      all = y.all ∙ append_assoc acc (t.0.entry ∷ []) y.es;
      bytes =
          x.bytes ∙ ap (λ (l : List ℕ). shortest (length t.0.entry) ++ (t.0.entry ++ l)) y.bytes
          ∙ sym (saved-cons t.0.entry y.es (drop r.next s));
    }

-- ---- the whole
-- "64 entries, each a length .. and then the bytes, 0 for an empty slot", "of forms alone", "nothing behind": s is the
-- saved store of cs
pub record Saves (cs : List (List ℕ)) (s : List ℕ) : Type 0 where
  pub many : length cs ≡ 64
  pub each : (k : ℕ) → is_entry (get_or cs k []) ≡ true
  pub bytes : s ≡ saved cs

back : (cs : List (List ℕ)) (s : List ℕ) → Saves cs s
    → scan s 0 [] 64 ≡ found (record { held = cs; next = length s })
back cs s g =
    let z : 0 + length (saved cs) ≡ length (saved cs) = omega arith in
    rw g.bytes
    (ap (scan (saved cs) 0 []) (sym g.many) ∙ scan-back (saved cs) cs 0 [] [] g.each
    (sym (append-nil (saved cs))) ∙ rw z)

read : (s : List ℕ) (r : Scan) → ((i : ℕ) → get_or s i 0 < 256) → scan s 0 [] 64 ≡ found r → r.next ≡ length s
    → Saves r.held s
read s r byte e end =
    let x = scan-on s byte 64 0 [] r e in
    let z : drop r.next s ≡ [] = rw end (drop-length s) in
    rw x.all (record { many = x.many; each = x.each; bytes = x.bytes ∙ rw z (append-nil (saved x.es)) })

-- "load accepts exactly such entries .. and each slot then holds its entry"; 42 "for a saved half that doesn't fit";
-- room is a half's length
module _ (dir : List ℕ) (room : ℕ) (s : List ℕ) (cs : List (List ℕ)) where
  pub load-saved : length dir ≡ 128 → Saves cs s → total (take 32 cs) ≤ room → total (drop 32 cs) ≤ room
      → load_on dir room s ≡ found cs
  unfolding load_on fitting need
  load-saved len g first last =
      rw (
        eq-eqb _ _ len,
        back cs s g,
        eq-eqb (length s) (length s) refl,
        le-leb (total (take 32 cs)) room first,
        le-leb (total (drop 32 cs)) room last,
      )

  pub saved-load : ((i : ℕ) → get_or s i 0 < 256) → load_on dir room s ≡ found cs
      → (length dir ≡ 128) × Saves cs s × (total (take 32 cs) ≤ room) × (total (drop 32 cs) ≤ room)
  unfolding load_on fitting
  saved-load byte e =
      let a = need-found (eqb (length dir) 128) 42 _ cs e in
      let r = then_found (scan s 0 [] 64) (fitting room s) cs a.1 in
      let b = need-found (eqb r.0.next (length s)) 42 _ cs r.2 in
      let f = need-found (leb (total (take 32 r.0.held)) room) 42 _ cs b.1 in
      let l = need-found (leb (total (drop 32 r.0.held)) room) 42 _ cs f.1 in
      let q : r.0.held ≡ cs = same-found l.1 in
      let g = read s r.0 byte r.1 (eqb-true _ _ b.0) in
      let first = leb-true (total (take 32 r.0.held)) room f.0 in
      let last = leb-true (total (drop 32 r.0.held)) room l.0 in
      (eqb-true _ _ a.0, rw q at g, rw q at first, rw q at last)

-- entries saved behind others are saved with them
pub saved-cat : (xs ys : List (List ℕ)) → saved (xs ++ ys) ≡ saved xs ++ saved ys
unfolding saved
saved-cat [] ys = refl
saved-cat (x ∷ xs) ys = rw (saved-cat xs ys) (simp append_assoc)
