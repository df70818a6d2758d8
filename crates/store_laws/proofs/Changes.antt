-- What a change of the directory and the buffer does to a sound store: a slot cleared, a form laid behind all others.
-- Assumes nothing.
use mathlib.Core.Path.{◌≡◌, refl, sym, ap, ap₂, ◌∙◌}
use mathlib.Core.Logic.{inl, inr, ⊎_elim}
use mathlib.Core.Bool.{true, false}
use mathlib.Core.List.{List, []}
use Prim.Native.Nat.{ℕ, ◌+◌, ◌*◌, ◌≤◌, ◌<◌}
use native.Mathlib.Omega.{arith}
use lib.ListN.{length, get_or, set, length-set}
use lib.Seq.{get_or-set_same, get_or-set_other}
use Rattle.common.specs.Outcome.{Outcome, refused, found, then, need}
use Rattle.bitmap_spec.specs.Output.{written, placed}
use Rattle.bitmap_spec.proofs.Window.{below_or}
use Rattle.bitmap_laws.proofs.Output.{length-written}
use Rattle.store_spec.specs.Store.{is_form, start_at, length_at, end_at, entry_at, sound, entries_of, entries, some}
use Rattle.store_spec.specs.Store.{fetch_in, drop_in, done_of, Left, Changes, emptied, Drops}
use Rattle.std.specs.Prelude.{Ok, Err}
use Rattle.common.specs.declared.Refusal.{Refusal}
use Rattle.common.specs.Refusal.{number}
use Rattle.bitmap_laws.proofs.Parts.{part-before, part_in}
use Rattle.store_laws.proofs.Slots.{same_or, Lies, entries-bad, entries-is, entry-is, entry-long}
use Rattle.store_laws.proofs.Slots.{some-true, some-false, entries-set}

-- ---- one number of the directory changed
module _ (dir : List ℕ) (k x : ℕ) where
  pub start-kept : (j : ℕ) → start_at (set dir (2 * k + 1) x) j ≡ start_at dir j
  unfolding start_at
  start-kept j = get_or-set_other dir (2 * k + 1) (2 * j) x 0 (λ q. omega arith)

  pub length-kept : (j : ℕ) → (j ≡ k → ⊥) → length_at (set dir (2 * k + 1) x) j ≡ length_at dir j
  unfolding length_at
  length-kept j h = get_or-set_other dir (2 * k + 1) (2 * j + 1) x 0 (λ q. h (omega arith))

  pub length-new : 2 * k + 1 < length dir → length_at (set dir (2 * k + 1) x) k ≡ x
  unfolding length_at
  length-new h = get_or-set_same dir (2 * k + 1) x 0 h

  pub start-other : (j : ℕ) → (j ≡ k → ⊥) → start_at (set dir (2 * k) x) j ≡ start_at dir j
  unfolding start_at
  start-other j h = get_or-set_other dir (2 * k) (2 * j) x 0 (λ q. h (omega arith))

  pub start-new : 2 * k < length dir → start_at (set dir (2 * k) x) k ≡ x
  unfolding start_at
  start-new h = get_or-set_same dir (2 * k) x 0 h

  pub length-same : (j : ℕ) → length_at (set dir (2 * k) x) j ≡ length_at dir j
  unfolding length_at
  length-same j = get_or-set_other dir (2 * k) (2 * j + 1) x 0 (λ q. omega arith)

-- ---- entries from starts and lengths
pub entry-same : (dir dir' buf : List ℕ) (j : ℕ) → start_at dir' j ≡ start_at dir j → length_at dir' j ≡ length_at dir j
    → entry_at dir' buf j ≡ entry_at dir buf j
unfolding entry_at
entry-same dir dir' buf j a b = rw (a, b)

pub end_same : (dir dir' : List ℕ) (j : ℕ) → start_at dir' j ≡ start_at dir j → length_at dir' j ≡ length_at dir j
    → end_at dir' j ≡ end_at dir j
unfolding end_at
end_same dir dir' j a b = rw (a, b)

pub entry-none : (dir buf : List ℕ) (j : ℕ) → length_at dir j ≡ 0 → entry_at dir buf j ≡ []
unfolding entry_at
entry-none dir buf j e = rw e

pub end_is : (dir : List ℕ) (j : ℕ) → end_at dir j ≡ start_at dir j + length_at dir j
unfolding end_at
end_is dir j = refl

-- ---- a slot cleared
module _ (n : ℕ) (dir buf : List ℕ) (k : ℕ) (s : Lies n dir buf) (len : length dir ≡ 2 * n) (h : k < n) where
  zero-there : length_at (set dir (2 * k + 1) 0) k ≡ 0
  zero-there = length-new dir k 0 (omega arith)

  off : (j : ℕ) → 0 < length_at (set dir (2 * k + 1) 0) j → j ≡ k → ⊥
  off j l q = let e : length_at (set dir (2 * k + 1) 0) j ≡ 0 = rw q zero-there in omega arith

  was : (j : ℕ) → 0 < length_at (set dir (2 * k + 1) 0) j → 0 < length_at dir j
  was j l = omega (arith, length-kept dir k 0 j (off j l))

  end-there : (j : ℕ) → 0 < length_at (set dir (2 * k + 1) 0) j → end_at (set dir (2 * k + 1) 0) j ≡ end_at dir j
  end-there j l = end_same dir (set dir (2 * k + 1) 0) j (start-kept dir k 0 j) (length-kept dir k 0 j (off j l))

  pub clear-lies : Lies n (set dir (2 * k + 1) 0) buf
  clear-lies = record {
    inside = λ j a l. omega (arith, end-there j l, s.inside j a (was j l));
    forms =
        λ j a l.
        rw (entry-same dir (set dir (2 * k + 1) 0) buf j (start-kept dir k 0 j) (length-kept dir k 0 j (off j l)))
        (s.forms j a (was j l));
    clear =
        λ i j a b d li lj.
        rw (end-there i li, end-there j lj, start-kept dir k 0 i, start-kept dir k 0 j)
        (s.clear i j a b d (was i li) (was j lj));
  }

  pub clear-entries : entries_of n (set dir (2 * k + 1) 0) buf ≡ set (entries_of n dir buf) k []
  clear-entries =
      entries-set n dir buf (set dir (2 * k + 1) 0) buf k [] h
      (λ j a d. entry-same dir (set dir (2 * k + 1) 0) buf j (start-kept dir k 0 j) (length-kept dir k 0 j d))
      (entry-none (set dir (2 * k + 1) 0) buf k zero-there)

  clear-means : entries n (set dir (2 * k + 1) 0) buf ≡ found (set (entries_of n dir buf) k [])
  clear-means =
      entries-is n (set dir (2 * k + 1) 0) buf (length-set dir (2 * k + 1) 0 ∙ len) clear-lies ∙ ap found clear-entries

  entry-some : 0 < length_at dir k → some (get_or (entries_of n dir buf) k []) ≡ true
  entry-some l =
      some-true (get_or (entries_of n dir buf) k [])
      (omega (arith, ap length (entry-is n dir buf k h), entry-long n dir buf k s h))

  entry-empty : length_at dir k ≡ 0 → some (get_or (entries_of n dir buf) k []) ≡ false
  entry-empty l =
      some-false (get_or (entries_of n dir buf) k []) (ap length (entry-is n dir buf k h) ∙ entry-long n dir buf k s h ∙ l)

  -- what fetch and drop make of it
  pub fetch-empty : (room : ℕ) → length_at dir k ≡ 0 → then (entries n dir buf) (fetch_in room k) ≡ refused 41
  unfolding fetch_in need
  fetch-empty room l = rw (entries-is n dir buf len s) (rw (entry-empty l))

  pub fetch-some : (room : ℕ) → 0 < length_at dir k
      → then (entries n dir buf) (fetch_in room k) ≡ placed (entry_at dir buf k) room
  unfolding fetch_in need
  fetch-some room l = rw (entries-is n dir buf len s) (rw (entry-some l, entry-is n dir buf k h))

  pub drop-empty : length_at dir k ≡ 0 → then (entries n dir buf) (drop_in k) ≡ refused 41
  unfolding drop_in need
  drop-empty l = rw (entries-is n dir buf len s) (rw (entry-empty l))

  drop-some : 0 < length_at dir k → then (entries n dir buf) (drop_in k) ≡ found (set (entries_of n dir buf) k [])
  unfolding drop_in need
  drop-some l = rw (entries-is n dir buf len s) (rw (entry-some l))

  pub drop-done : 0 < length_at dir k
      → Drops (then (entries n dir buf) (drop_in k)) n k dir buf (set dir (2 * k + 1) 0) (Ok tt)
  unfolding done_of Left emptied
  drop-done l = record {
    says = rw (drop-some l);
    numbers = rw (drop-some l);
    left = rw (drop-some l) (length-set dir (2 * k + 1) 0, refl, clear-means);
  }

-- ---- refusals
pub bad-entries : {A : Type 0} (n : ℕ) (dir buf : List ℕ) (f : List (List ℕ) → Outcome A) → length dir ≡ 2 * n
    → sound n dir buf ≡ false → then (entries n dir buf) f ≡ refused 42
bad-entries n dir buf f e q = rw (entries-bad n dir buf e q)

pub drop-refused : (o : Outcome (List (List ℕ))) (n k : ℕ) (dir buf : List ℕ) (m : Refusal) → o ≡ refused (number m)
    → Drops o n k dir buf dir (Err m)
unfolding done_of Left emptied
drop-refused o n k dir buf m e = record { says = rw e; numbers = rw e; left = rw e (refl, refl) }

pub change-refused : (o : Outcome (List (List ℕ))) (n : ℕ) (dir buf : List ℕ) (m : Refusal) → o ≡ refused (number m)
    → Changes o n dir buf dir buf (Err m)
unfolding done_of Left
change-refused o n dir buf m e = record { says = rw e; left = rw e (refl, refl) }

-- ---- a form laid behind all others
module _ (n : ℕ) (dir buf : List ℕ) (k e m : ℕ) (w : List ℕ) (s : Lies n dir buf) (len : length dir ≡ 2 * n) (h : k < n)
    (ends : (j : ℕ) → j < n → 0 < length_at dir j → end_at dir j ≤ e) (size : m ≡ length w) (room : e + m ≤ length buf)
    (is_f : is_form w ≡ true) (empty : length_at dir k ≡ 0) where
  new-start : start_at (set (set dir (2 * k) e) (2 * k + 1) m) k ≡ e
  new-start = start-kept (set dir (2 * k) e) k m k ∙ start-new dir k e (omega arith)

  new-length : length_at (set (set dir (2 * k) e) (2 * k + 1) m) k ≡ m
  new-length = length-new (set dir (2 * k) e) k m (rw length-set (omega arith))

  old-start : (j : ℕ) → (j ≡ k → ⊥) → start_at (set (set dir (2 * k) e) (2 * k + 1) m) j ≡ start_at dir j
  old-start j d = start-kept (set dir (2 * k) e) k m j ∙ start-other dir k e j d

  old-length : (j : ℕ) → (j ≡ k → ⊥) → length_at (set (set dir (2 * k) e) (2 * k + 1) m) j ≡ length_at dir j
  old-length j d = length-kept (set dir (2 * k) e) k m j d ∙ length-same dir k e j

  old-end : (j : ℕ) → (j ≡ k → ⊥) → end_at (set (set dir (2 * k) e) (2 * k + 1) m) j ≡ end_at dir j
  old-end j d = end_same dir (set (set dir (2 * k) e) (2 * k + 1) m) j (old-start j d) (old-length j d)

  new-end : end_at (set (set dir (2 * k) e) (2 * k + 1) m) k ≡ e + m
  new-end = end_is (set (set dir (2 * k) e) (2 * k + 1) m) k ∙ ap₂ (λ (x y : ℕ). x + y) new-start new-length

  fits : e + length w ≤ length buf
  fits = omega arith

  new-entry : entry_at (set (set dir (2 * k) e) (2 * k + 1) m) (written buf e w) k ≡ w
  unfolding entry_at
  new-entry = rw (new-start, new-length, size) (part_in buf w e fits)

  old-entry : (j : ℕ) → j < n → (j ≡ k → ⊥)
      → entry_at (set (set dir (2 * k) e) (2 * k + 1) m) (written buf e w) j ≡ entry_at dir buf j
  unfolding entry_at
  old-entry j a d = rw (old-start j d, old-length j d) (⊎_elim
      (λ l. part-before buf w e fits (start_at dir j) (length_at dir j) (omega (arith, ends j a l, end_is dir j)))
      (λ l. let z : length_at dir j ≡ 0 = omega arith in rw z) (below_or 0 (length_at dir j)))

  end-at : (j : ℕ) → j ≡ k → end_at (set (set dir (2 * k) e) (2 * k + 1) m) j ≡ e + m
  end-at j q = ap (λ (x : ℕ). end_at (set (set dir (2 * k) e) (2 * k + 1) m) x) q ∙ new-end

  start-at : (j : ℕ) → j ≡ k → start_at (set (set dir (2 * k) e) (2 * k + 1) m) j ≡ e
  start-at j q = ap (λ (x : ℕ). start_at (set (set dir (2 * k) e) (2 * k + 1) m) x) q ∙ new-start

  entry-at : (j : ℕ) → j ≡ k → entry_at (set (set dir (2 * k) e) (2 * k + 1) m) (written buf e w) j ≡ w
  entry-at j q = ap (λ (x : ℕ). entry_at (set (set dir (2 * k) e) (2 * k + 1) m) (written buf e w) x) q ∙ new-entry

  pub laid-lies : Lies n (set (set dir (2 * k) e) (2 * k + 1) m) (written buf e w)
  laid-lies = record {
    inside = λ j a l. ⊎_elim
        (λ q. omega (arith, length-written buf w e fits, end-at j q))
        (λ q. omega (arith, length-written buf w e fits, old-end j q, s.inside j a (rw (old-length j q) at l)))
        (same_or j k);
    forms =
        λ j a l.
        ⊎_elim (λ q. ap is_form (entry-at j q) ∙ is_f)
        (λ q. ap is_form (old-entry j a q) ∙ s.forms j a (rw (old-length j q) at l)) (same_or j k);
    clear = λ i j a b d li lj. ⊎_elim
        (λ p. let q : j ≡ k → ⊥ = λ r. d (p ∙ sym r) in
        inr (omega (arith, start-at i p, old-end j q, ends j b (rw (old-length j q) at lj))))
        (λ p. ⊎_elim
        (λ q. inl (omega (arith, start-at j q, old-end i p, ends i a (rw (old-length i p) at li))))
        (λ q. rw (old-end i p, old-end j q, old-start i p, old-start j q)
        (s.clear i j a b d (rw (old-length i p) at li) (rw (old-length j q) at lj)))
        (same_or j k)) (same_or i k);
  }

  pub laid-entries : entries_of n (set (set dir (2 * k) e) (2 * k + 1) m) (written buf e w)
      ≡ set (entries_of n dir buf) k w
  laid-entries =
      entries-set n dir buf (set (set dir (2 * k) e) (2 * k + 1) m) (written buf e w) k w h old-entry new-entry
