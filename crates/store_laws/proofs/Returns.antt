-- What an owner's slots hold, and both owners' together; what save wrote, load finds again.
-- Why: a sound share holds forms that fit into it, and the entries of owner 0 and then owner 1 are the whole store's.
-- Assumes nothing.
use mathlib.Core.Path.{◌≡◌, sym, ap, ◌∙◌}
use mathlib.Core.Logic.{◌⊎◌, inl, inr, ⊎_elim}
use mathlib.Core.Bool.{true}
use mathlib.Core.List.{List, [], ◌∷◌, ◌++◌}
use Prim.Native.Nat.{ℕ, zero, suc, ◌*◌, ◌≤◌, ◌<◌}
use native.Mathlib.Omega.{arith}
use lib.ListN.{length, get_or, take, drop, length-append, take-append-drop, get_or-eq_default}
use lib.Dec.{leb, eqb}
use lib.Seq.{take_at, drop_at}
use Rattle.common.specs.Outcome.{found, then}
use Rattle.bitmap_spec.specs.Output.{placed}
use Rattle.bitmap_spec.proofs.Window.{below_or}
use Rattle.bitmap_laws.proofs.Accept.{then_found}
use Rattle.store_spec.specs.Store.{length_at, entry_at, sound, entries_of, entries, total}
use Rattle.store_spec.specs.Owners.{half, part, own_entries, all_entries}
use Rattle.store_spec.specs.Saved.{saved, save_on, is_entry, load_on}
use Rattle.common.proofs.Outcomes.{same-found}
use Rattle.bitmap_spec.proofs.Reading.{need-found}
use Rattle.store_laws.proofs.Slots.{Lies, sound-lies, many-entries, entry-is}
use Rattle.store_laws.proofs.Changes.{entry-none}
use Rattle.store_laws.proofs.Rooms.{entries_fit}
use Rattle.store_laws.proofs.Halves.{half-long}
use Rattle.store_laws.proofs.Scans.{empty-entry, form-entry}
use Rattle.store_laws.proofs.Loads.{Saves, load-saved}

-- ---- the entries of a share
pub record Holds (n room : ℕ) (es : List (List ℕ)) : Type 0 where
  pub many : length es ≡ n
  pub each : (k : ℕ) → is_entry (get_or es k []) ≡ true
  pub fits : total es ≤ room

lies-holds : (n : ℕ) (dir buf : List ℕ) → Lies n dir buf → Holds n (length buf) (entries_of n dir buf)
lies-holds n dir buf s = record {
  many = many-entries n dir buf;
  each = λ k. ⊎_elim (λ l. rw (entry-is n dir buf k l) (slot k l (below_or 0 (length_at dir k))))
      (λ l. empty-entry _ (ap length
      (get_or-eq_default (entries_of n dir buf) [] {n = k} (omega (arith, many-entries n dir buf)))))
      (below_or k n);
  fits = entries_fit n dir buf s;
}
  where
    slot : (k : ℕ) → k < n → (0 < length_at dir k) ⊎ (length_at dir k ≤ 0) → is_entry (entry_at dir buf k) ≡ true
    slot k l (inl h) = form-entry _ (s.forms k l h)
    slot k l (inr h) = empty-entry _ (ap length (entry-none dir buf k (omega arith)))

entries-holds : (n : ℕ) (dir buf : List ℕ) (es : List (List ℕ)) → entries n dir buf ≡ found es
    → Holds n (length buf) es
unfolding entries
entries-holds n dir buf es e =
    let a = need-found (eqb (length dir) (2 * n)) 42 _ es e in
    let b = need-found (sound n dir buf) 42 _ es a.1 in
    let q : entries_of n dir buf ≡ es = same-found b.1 in
    rw q at (lies-holds n dir buf (sound-lies n dir buf b.0))

-- ---- the entries of an owner's slots
pub own-holds : (o : ℕ) → o ≤ 1 → (dir buf : List ℕ) (es : List (List ℕ)) → own_entries o dir buf ≡ found es
    → Holds 32 (half buf) es
unfolding own_entries
own-holds o small dir buf es e =
    let a = need-found (eqb (length dir) 128) 42 _ es e in
    rw (half-long o buf small) at (entries-holds 32 (part o 64 dir) (part o (half buf) buf) es a.1)

-- ---- the entries of both
pub all_own : (dir buf : List ℕ) (es : List (List ℕ)) → all_entries dir buf ≡ found es
    → (own_entries 0 dir buf ≡ found (take 32 es)) × (own_entries 1 dir buf ≡ found (drop 32 es))
unfolding all_entries
all_own dir buf es e =
    let x = then_found (own_entries 0 dir buf) (λ x. then (own_entries 1 dir buf) (λ y. found (x ++ y))) es e in
    let y = then_found (own_entries 1 dir buf) (λ y. found (x.0 ++ y)) es x.2 in
    let q : x.0 ++ y.0 ≡ es = same-found y.2 in
    let many = (own-holds 0 (omega arith) dir buf x.0 x.1).many in
    let first = sym (take_at x.0 y.0 32 many) ∙ ap (take 32) q in
    let last = sym (drop_at x.0 y.0 32 many) ∙ ap (drop 32) q in
    (x.1 ∙ ap found first, y.1 ∙ ap found last)

pub own-all : (dir buf : List ℕ) (x y : List (List ℕ)) → own_entries 0 dir buf ≡ found x
    → own_entries 1 dir buf ≡ found y → all_entries dir buf ≡ found (x ++ y)
unfolding all_entries
own-all dir buf x y e f = rw (e, f)

each-cat : (xs ys : List (List ℕ)) → ((k : ℕ) → is_entry (get_or xs k []) ≡ true)
    → ((k : ℕ) → is_entry (get_or ys k []) ≡ true) → (k : ℕ) → is_entry (get_or (xs ++ ys) k []) ≡ true
each-cat [] ys p q k = q k
each-cat (x ∷ xs) ys p q zero = p 0
each-cat (x ∷ xs) ys p q (suc k) = each-cat xs ys (λ j. p (suc j)) q k

placed-is : (w v : List ℕ) (out : ℕ) → placed w out ≡ found v → w ≡ v
unfolding placed
placed-is w v out e = same-found (need-found (leb (length w) out) 13 _ v e).1

-- ---- load of what save wrote, into any store that is as long or longer
pub save-load : (out : ℕ) (dir buf w dir' : List ℕ) (room : ℕ) → save_on out dir buf ≡ found w → length dir' ≡ 128
    → half buf ≤ room → load_on dir' room w ≡ all_entries dir buf
unfolding save_on
save-load out dir buf w dir' room e len fits =
    let t = then_found (all_entries dir buf) (λ es. placed (saved es) out) w e in
    let own = all_own dir buf t.0 t.1 in
    let x = own-holds 0 (omega arith) dir buf (take 32 t.0) own.0 in
    let y = own-holds 1 (omega arith) dir buf (drop 32 t.0) own.1 in
    let whole = take-append-drop 32 t.0 in
    let g : Saves t.0 w = record {
      many = omega (arith, ap length whole, length-append (take 32 t.0) (drop 32 t.0), x.many, y.many);
      each = λ k. rw whole at (each-cat (take 32 t.0) (drop 32 t.0) x.each y.each k);
      bytes = sym (placed-is (saved t.0) w out t.2);
    } in
    load-saved dir' room w t.0 len g (omega (arith, x.fits)) (omega (arith, y.fits)) ∙ sym t.1
