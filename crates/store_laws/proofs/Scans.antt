-- Entries read one after another: each step, how many they are, that they are found or refused by 42, and how they are
-- read in two parts.
-- Assumes nothing.
use mathlib.Core.Path.{◌≡◌, refl, sym, ap, ◌∙◌}
use mathlib.Core.Logic.{◌⊎◌, inl, inr}
use mathlib.Core.Bool.{Bool, true, false}
use mathlib.Core.List.{List, [], ◌∷◌, ◌++◌, append_assoc, append-nil}
use Prim.Native.Nat.{ℕ, zero, suc, ◌+◌}
use native.Mathlib.Nat.{zero-add, suc-add}
use native.Mathlib.Omega.{arith}
use borrow.Author.Tests.{eq-eqb, ne_eqb}
use lib.ListN.{length, take, drop, length-append}
use lib.Dec.{leb, eqb}
use Rattle.common.specs.Outcome.{pick, either, Outcome, refused, found, then, need}
use Rattle.bitmap_laws.proofs.Accept.{then_found}
use Rattle.row_spec.specs.Varint.{varint_at}
use Rattle.row_spec.specs.declared.Varint.{Varint}
use Rattle.std.specs.Prelude.{Result, Ok, Err}
use Rattle.row_spec.specs.declared.ReadFault.{ReadFault}
use Rattle.store_spec.specs.Store.{is_form}
use Rattle.store_spec.specs.Saved.{is_entry, on_shortest, Taken, entry_from, Scan, scan}

-- ---- what a slot may hold
pub empty-entry : (e : List ℕ) → length e ≡ 0 → is_entry e ≡ true
unfolding is_entry
empty-entry e h = rw (eq-eqb (length e) 0 h)

pub some-entry : (e : List ℕ) → (length e ≡ 0 → ⊥) → is_entry e ≡ is_form e
unfolding is_entry
some-entry e h = rw (ne_eqb (length e) 0 h)

pub form-entry : (e : List ℕ) → is_form e ≡ true → is_entry e ≡ true
unfolding is_entry
form-entry e q = rw q (go (eqb (length e) 0))
  where
    go : (b : Bool) → either b true ≡ true
    go true = refl
    go false = refl

-- ---- one step
module _ (s : List ℕ) (at : ℕ) (acc : List (List ℕ)) (n : ℕ) where
  pub scan_step : (t : Taken) → entry_from s at ≡ found t
      → scan s at acc (suc n) ≡ scan s t.next (acc ++ (t.entry ∷ [])) n
  unfolding scan
  scan_step t e = rw e

  pub scan-bad : entry_from s at ≡ refused 42 → scan s at acc (suc n) ≡ refused 42
  unfolding scan
  scan-bad e = rw e

  pub scan-took : (r : Scan) → scan s at acc (suc n) ≡ found r
      → (t : Taken) × (entry_from s at ≡ found t) × (scan s t.next (acc ++ (t.entry ∷ [])) n ≡ found r)
  unfolding scan
  scan-took r e = then_found (entry_from s at) (λ t. scan s t.next (acc ++ (t.entry ∷ [])) n) r e

pub scan-zero : (s : List ℕ) (at : ℕ) (acc : List (List ℕ))
    → scan s at acc zero ≡ found (record { held = acc; next = at })
unfolding scan
scan-zero s at acc = refl

pub scan-over : (s : List ℕ) (at : ℕ) (acc : List (List ℕ)) (r : Scan) → scan s at acc zero ≡ found r
    → ◌≡◌ {A = Scan} (record { held = acc; next = at }) r
scan-over s at acc r e = let z = scan-zero s at acc in cc

-- ---- how many are read
scan-many : (s : List ℕ) (at : ℕ) (acc : List (List ℕ)) (n : ℕ) (r : Scan) → scan s at acc n ≡ found r
    → length r.held ≡ length acc + n
scan-many s at acc zero r e = omega (arith, ap (λ (y : Scan). length y.held) (scan-over s at acc r e))
scan-many s at acc (suc n) r e =
    let t = scan-took s at acc n r e in
    omega (arith, scan-many s t.0.next (acc ++ (t.0.entry ∷ [])) n r t.2, length-append acc (t.0.entry ∷ []))

pub all-many : (s : List ℕ) (at n : ℕ) (r : Scan) → scan s at [] n ≡ found r → length r.held ≡ n
all-many s at n r e = omega (arith, scan-many s at [] n r e)

-- ---- found, or refused by 42
abbrev pub Known : {A : Type 0} → Outcome A → Type 0
Known {A} o = ((a : A) × (o ≡ found a)) ⊎ (o ≡ refused 42)

-- what is made of a length n that ends before next
abbrev pub made : List ℕ → ℕ → ℕ → Outcome Taken
made s n next =
    need (leb (next + n) (length s)) 42
    (need (is_entry (take n (drop next s))) 42 (found (record { entry = take n (drop next s); next = next + n })))

entry-or : (s : List ℕ) (at : ℕ) → Known (entry_from s at)
unfolding entry_from need
entry-or s at = go (varint_at s at)
  where
    needed : (t : Taken) (a b : Bool) → Known (need a 42 (need b 42 (found t)))
    needed t true true = inl (t, refl)
    needed t true false = inr refl
    needed t false b = inr refl

    picked : (b : Bool) (x : Outcome Taken) → Known x → Known (pick b x (refused 42))
    picked true x h = h
    picked false x h = inr refl

    go : (v : Result Varint ReadFault) → Known (on_shortest v (refused 42) (made s))
    go (Err e) = inr refl
    go (Ok r) =
        picked r.shortest _
        (needed (record { entry = take r.number (drop r.next s); next = r.next + r.number })
        (leb (r.next + r.number) (length s)) (is_entry (take r.number (drop r.next s))))

pub scan-or : (s : List ℕ) (at : ℕ) (acc : List (List ℕ)) (n : ℕ) → Known (scan s at acc n)
scan-or s at acc zero = inl (record { held = acc; next = at }, scan-zero s at acc)
scan-or s at acc (suc n) = go (entry-or s at) (λ t. scan-or s t.next (acc ++ (t.entry ∷ [])) n)
  where
    go : Known (entry_from s at) → ((t : Taken) → Known (scan s t.next (acc ++ (t.entry ∷ [])) n))
        → Known (scan s at acc (suc n))
    go (inl t) f = rw (scan_step s at acc n t.0 t.1) (f t.0)
    go (inr e) f = inr (scan-bad s at acc n e)

-- ---- in two parts

-- what was read, behind acc
abbrev behind : List (List ℕ) → Scan → Outcome Scan
behind acc r = found (record { held = acc ++ r.held; next = r.next })

-- entries from before only stand in front of what is read
scan-front : (s : List ℕ) (at : ℕ) (acc more : List (List ℕ)) (n : ℕ)
    → scan s at (acc ++ more) n ≡ then (scan s at more n) (behind acc)
unfolding scan
scan-front s at acc more zero = refl
scan-front s at acc more (suc n) = go (entry_from s at) (λ t. scan-front s t.next acc (more ++ (t.entry ∷ [])) n)
  where
    go : (o : Outcome Taken)
        → ((t : Taken) → scan s t.next (acc ++ (more ++ (t.entry ∷ []))) n
        ≡ then (scan s t.next (more ++ (t.entry ∷ [])) n) (behind acc))
        → then o (λ t. scan s t.next ((acc ++ more) ++ (t.entry ∷ [])) n)
        ≡ then (then o (λ t. scan s t.next (more ++ (t.entry ∷ [])) n)) (behind acc)
    go (refused m) f = refl
    go (found t) f = rw (append_assoc acc more (t.entry ∷ [])) (f t)

-- m + n entries are m of them and then n, from the byte after those
scan-split : (s : List ℕ) (at : ℕ) (acc : List (List ℕ)) (m n : ℕ)
    → scan s at acc (m + n) ≡ then (scan s at acc m) (λ r. scan s r.next r.held n)
unfolding scan
scan-split s at acc zero n = ap (scan s at acc) (zero-add n)
scan-split s at acc (suc m) n =
    ap (scan s at acc) (suc-add m n) ∙ go (entry_from s at) (λ t. scan-split s t.next (acc ++ (t.entry ∷ [])) m n)
  where
    go : (o : Outcome Taken)
        → ((t : Taken) → scan s t.next (acc ++ (t.entry ∷ [])) (m + n)
        ≡ then (scan s t.next (acc ++ (t.entry ∷ [])) m) (λ r. scan s r.next r.held n))
        → then o (λ t. scan s t.next (acc ++ (t.entry ∷ [])) (m + n))
        ≡ then (then o (λ t. scan s t.next (acc ++ (t.entry ∷ [])) m)) (λ r. scan s r.next r.held n)
    go (refused k) f = refl
    go (found t) f = f t

-- 64 entries are 32 and then 32
module _ (s : List ℕ) where
  pub first-bad : scan s 0 [] 32 ≡ refused 42 → scan s 0 [] 64 ≡ refused 42
  first-bad e = scan-split s 0 [] 32 32 ∙ rw e

  module _ (x : Scan) (ex : scan s 0 [] 32 ≡ found x) where
    halves : scan s 0 [] 64 ≡ then (scan s x.next [] 32) (behind x.held)
    halves =
        let front = ap (λ (l : List (List ℕ)). scan s x.next l 32) (sym (append-nil x.held)) in
        scan-split s 0 [] 32 32 ∙ rw ex (front ∙ scan-front s x.next x.held [] 32)

    pub second-bad : scan s x.next [] 32 ≡ refused 42 → scan s 0 [] 64 ≡ refused 42
    second-bad e = halves ∙ rw e

    pub both-good : (y : Scan) → scan s x.next [] 32 ≡ found y
        → scan s 0 [] 64 ≡ found (record { held = x.held ++ y.held; next = y.next })
    both-good y e = halves ∙ rw e
