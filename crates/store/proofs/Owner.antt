-- An owner's call: its first refusal, and then the call on its own share, put back in its place.
-- Why: 40, 44 and the directory's 42 are asked in the definition's order, and a slot that passes is one of the share's.
-- Assumes nothing.
use mathlib.Core.Path.{◌≡◌, refl, sym, ap, ◌∙◌}
use mathlib.Core.Logic.{⊎_elim}
use mathlib.Core.List.{List}
use Prim.Native.Nat.{ℕ, ◌+◌, ◌-◌, ◌*◌, ◌/◌, ◌%◌, ◌≤◌, ◌<◌}
use native.Mathlib.Omega.{arith}
use borrow.Author.Tests.{lt-ltb, le-ltb, eq-eqb, ne_eqb}
use borrow.Rule.Slice.PartMut.{put_mid, put_same, set_mid_at}
use lib.ListN.{length, set, take, drop}
use Rattle.common.specs.Outcome.{Outcome, refused, found, then, need}
use Rattle.bitmap_spec.proofs.Window.{below_or}
use Rattle.store_spec.specs.Store.{entries, put_in, fetch_in, drop_in, done_of, emptied, Changes, Drops}
use Rattle.store_spec.specs.Owners.{half, part, owns, own_entries, on_slot, put_on, fetch_on, drop_on, OwnLeft, OwnChanges}
use Rattle.store_spec.specs.Owners.{OwnDrops}
use Rattle.std.specs.Prelude.{Result, Ok, Err}
use Rattle.common.specs.declared.Refusal.{Refusal}
use Rattle.common.specs.Refusal.{number}
use Rattle.store_laws.proofs.Slots.{same_or}
use Rattle.store_laws.proofs.Halves.{own-42, own_in, part-is, part-long, dir-in, half-long, own-left, own-changes}
use Rattle.store.specs.First.{first_refusal}

-- ---- the first refusal
module _ (o k n : ℕ) where
  pub first-40 : 63 < k → refused 40 ≡ first_refusal o k n
  unfolding first_refusal on_slot need
  first-40 h = rw (le-ltb k 64 (omega arith))

  module _ (h : k ≤ 63) where
    pub first-44 : (k / 32 ≡ o → ⊥) → refused 44 ≡ first_refusal o k n
    unfolding first_refusal on_slot owns need
    first-44 d = rw (lt-ltb k 64 (omega arith), ne_eqb (k / 32) o d)

    module _ (own : k / 32 ≡ o) where
      pub first-42 : (n ≡ 128 → ⊥) → refused 42 ≡ first_refusal o k n
      unfolding first_refusal on_slot owns need
      first-42 d = rw (lt-ltb k 64 (omega arith), eq-eqb (k / 32) o own, ne_eqb n 128 d)

      pub first-none : n ≡ 128 → found tt ≡ first_refusal o k n
      unfolding first_refusal on_slot owns need
      first-none e = rw (lt-ltb k 64 (omega arith), eq-eqb (k / 32) o own, eq-eqb n 128 e)

-- the slot is the owner's, one of 64, and the directory has its numbers
pub record Mine (o k : ℕ) (dir : List ℕ) : Type 0 where
  pub low : k ≤ 63
  pub own : k / 32 ≡ o
  pub many : length dir ≡ 128

module _ (o k : ℕ) (dir : List ℕ) where
  -- each of the four cases gives what is asked of it
  cases : {R : Type 0} → (63 < k → R) → (k ≤ 63 → (k / 32 ≡ o → ⊥) → R)
      → (k ≤ 63 → k / 32 ≡ o → (length dir ≡ 128 → ⊥) → R) → (Mine o k dir → R) → R
  cases a b c d =
      ⊎_elim a
      (λ h. ⊎_elim (λ q. ⊎_elim (λ e. d (record { low = h; own = q; many = e })) (λ e. c h q e)
      (same_or (length dir) 128)) (λ q. b h q) (same_or (k / 32) o))
      (below_or 63 k)

  not-both : (m : ℕ) (x : Outcome (Unit {0})) → refused m ≡ x → found tt ≡ x → ⊥
  not-both m x e f = let z : ◌≡◌ {A = ℕ} 0 1 = cc in omega arith

  pub mine : found tt ≡ first_refusal o k (length dir) → Mine o k dir
  mine e =
      cases (λ h. absurd (not-both 40 _ (first-40 o k (length dir) h) e))
      (λ h d. absurd (not-both 44 _ (first-44 o k (length dir) h d) e))
      (λ h q d. absurd (not-both 42 _ (first-42 o k (length dir) h q d) e)) (λ g. g)

  module _ {A : Type 0} (buf : List ℕ) (f : List (List ℕ) → Outcome A) where
    as-40 : 63 < k → on_slot o k (then (own_entries o dir buf) f) ≡ refused 40
    unfolding on_slot need
    as-40 h = rw (le-ltb k 64 (omega arith))

    as-44 : k ≤ 63 → (k / 32 ≡ o → ⊥) → on_slot o k (then (own_entries o dir buf) f) ≡ refused 44
    unfolding on_slot owns need
    as-44 h d = rw (lt-ltb k 64 (omega arith), ne_eqb (k / 32) o d)

    as_own : k ≤ 63 → k / 32 ≡ o
        → on_slot o k (then (own_entries o dir buf) f) ≡ then (own_entries o dir buf) f
    unfolding on_slot owns need
    as_own h q = rw (lt-ltb k 64 (omega arith), eq-eqb (k / 32) o q)

    pub first-refused : (m : ℕ) → refused m ≡ first_refusal o k (length dir)
        → on_slot o k (then (own_entries o dir buf) f) ≡ refused m
    first-refused m e =
        cases (λ h. let z : ◌≡◌ {A = Outcome (Unit {0})} (refused 40) (refused m) = first-40 o k (length dir) h ∙ sym e in
        let y : 40 ≡ m = cc in as-40 h ∙ ap refused y)
        (λ h d. let z : ◌≡◌ {A = Outcome (Unit {0})} (refused 44) (refused m) = first-44 o k (length dir) h d ∙ sym e in
        let y : 44 ≡ m = cc in as-44 h d ∙ ap refused y)
        (λ h q d. let z : ◌≡◌ {A = Outcome (Unit {0})} (refused 42) (refused m) = first-42 o k (length dir) h q d ∙ sym e in
        let y : 42 ≡ m = cc in as_own h q ∙ rw (own-42 o dir buf d) (ap refused y))
        (λ g. absurd (not-both m _ e (first-none o k (length dir) g.low g.own g.many)))

    call-in : Mine o k dir → (D B : List ℕ) → D ≡ part o 64 dir → B ≡ part o (half buf) buf
        → on_slot o k (then (own_entries o dir buf) f) ≡ then (entries 32 D B) f
    call-in g D B eD eB = as_own g.low g.own ∙ rw (own_in o dir buf g.many, eD, eB)

pub small : (o k : ℕ) (dir : List ℕ) → Mine o k dir → o ≤ 1
small o k dir g = omega (arith, g.low, g.own)

-- ---- put
pub put_refused : (o k : ℕ) (bitmap dir buf : List ℕ) (m : Refusal) → refused (number m) ≡ first_refusal o k (length dir)
    → OwnChanges o (put_on o k bitmap dir buf) dir buf dir buf (Err m)
unfolding put_on done_of OwnLeft
put_refused o k bitmap dir buf m e =
    let x = first-refused o k dir buf (put_in (half buf) (k % 32) bitmap) (number m) e in
    record { says = rw x; left = rw x (refl, refl) }

pub put-done : (o k : ℕ) (bitmap dir buf D B D' B' dir' buf' : List ℕ) (r : Result (Unit {0}) Refusal) → Mine o k dir
    → D ≡ part o 64 dir → B ≡ part o (half buf) buf → length D' ≡ length D → length B' ≡ length B
    → dir' ≡ put_mid (o * 64) (o * 64 + 64 - o * 64) dir D'
    → buf' ≡ put_mid (o * half buf) (o * half buf + half buf - o * half buf) buf B'
    → Changes (then (entries 32 D B) (put_in (length B) (k % 32) bitmap)) 32 D B D' B' r
    → OwnChanges o (put_on o k bitmap dir buf) dir buf dir' buf' r
unfolding put_on
put-done o k bitmap dir buf D B D' B' dir' buf' r g eD eB lD lB ed eb c =
    let room : length B ≡ half buf = ap length eB ∙ half-long o buf (small o k dir g) in
    let is = call-in o k dir buf (put_in (half buf) (k % 32) bitmap) g D B eD eB in
    own-changes o (small o k dir g) dir buf D' B' dir' buf' g.many (lD ∙ ap length eD) (lB ∙ ap length eB) ed eb _
    (then (entries 32 D B) (put_in (length B) (k % 32) bitmap)) r (rw room is) (rw (← eD, ← eB) c)

-- ---- fetch
pub fetch-refused : (o k out : ℕ) (dir buf : List ℕ) (m : ℕ) → refused m ≡ first_refusal o k (length dir)
    → fetch_on o k out dir buf ≡ refused m
unfolding fetch_on
fetch-refused o k out dir buf m e = first-refused o k dir buf (fetch_in out (k % 32)) m e

pub fetch-is : (o k out : ℕ) (dir buf D B : List ℕ) → Mine o k dir → D ≡ part o 64 dir → B ≡ part o (half buf) buf
    → fetch_on o k out dir buf ≡ then (entries 32 D B) (fetch_in out (k % 32))
unfolding fetch_on
fetch-is o k out dir buf D B g eD eB = call-in o k dir buf (fetch_in out (k % 32)) g D B eD eB

-- ---- drop
pub drop-refused : (o k : ℕ) (dir buf : List ℕ) (m : Refusal) → refused (number m) ≡ first_refusal o k (length dir)
    → OwnDrops o (drop_on o k dir buf) k dir buf dir (Err m)
unfolding drop_on done_of emptied OwnLeft
drop-refused o k dir buf m e =
    let x = first-refused o k dir buf (drop_in (k % 32)) (number m) e in
    record { says = rw x; numbers = rw x; left = rw x (refl, refl) }

module _ (o k : ℕ) (dir D D' dir' : List ℕ) (g : Mine o k dir) (eD : D ≡ part o 64 dir)
    (ed : dir' ≡ put_mid (o * 64) (o * 64 + 64 - o * 64) dir D') where
  -- the number of the owner's directory is that of the whole one
  emptied-in : (x : Outcome (List (List ℕ))) → D' ≡ emptied x (k % 32) D → dir' ≡ emptied x k dir
  unfolding emptied
  emptied-in (refused m) e =
      ed ∙ ap (put_mid (o * 64) (o * 64 + 64 - o * 64) dir) (e ∙ eD ∙ sym (part-is o 64 dir))
      ∙ put_same (o * 64) (o * 64 + 64 - o * 64) dir
  emptied-in (found es) e =
      let cut : D ≡ take (o * 64 + 64 - o * 64) (drop (o * 64) dir) = eD ∙ sym (part-is o 64 dir) in
      let long = part-long o 64 dir (dir-in o dir (small o k dir g) g.many) in
      let at : o * 64 + (2 * (k % 32) + 1) ≡ 2 * k + 1 = omega (arith, g.own) in
      ed ∙ ap (put_mid (o * 64) (o * 64 + 64 - o * 64) dir) (e ∙ ap (λ (l : List ℕ). set l (2 * (k % 32) + 1) 0) cut)
      ∙ set_mid_at (o * 64) (o * 64 + 64 - o * 64) (2 * (k % 32) + 1) dir 0
      (omega (arith, ap length (part-is o 64 dir), long))
      ∙ ap (λ (i : ℕ). set dir i 0) at

pub drop-done : (o k : ℕ) (dir buf D B D' dir' : List ℕ) (r : Result (Unit {0}) Refusal) → Mine o k dir → D ≡ part o 64 dir
    → B ≡ part o (half buf) buf → length D' ≡ length D → dir' ≡ put_mid (o * 64) (o * 64 + 64 - o * 64) dir D'
    → Drops (then (entries 32 D B) (drop_in (k % 32))) 32 (k % 32) D B D' r
    → OwnDrops o (drop_on o k dir buf) k dir buf dir' r
unfolding drop_on
drop-done o k dir buf D B D' dir' r g eD eB lD ed c =
    let is = call-in o k dir buf (drop_in (k % 32)) g D B eD eB in
    let kept : buf ≡ put_mid (o * half buf) (o * half buf + half buf - o * half buf) buf B =
    sym (ap (put_mid (o * half buf) (o * half buf + half buf - o * half buf) buf) (eB ∙ sym (part-is o (half buf) buf))
    ∙ put_same (o * half buf) (o * half buf + half buf - o * half buf) buf) in
    let left = own-left o (small o k dir g) dir buf D' B dir' buf g.many (lD ∙ ap length eD) (ap length eB) ed kept
    (then (entries 32 D B) (drop_in (k % 32))) (rw (← eD, ← eB) c.left) in
    rw is (record { says = c.says; numbers = emptied-in o k dir D D' dir' g eD ed _ c.numbers; left = left })
