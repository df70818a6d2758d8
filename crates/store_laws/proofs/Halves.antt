-- An owner's share of a store: its part of the directory and of the buffer, one law for both, and what is put back in
-- its place. Why: parts of one length lie one behind the other, so what is put into one leaves all others.
-- Assumes nothing.
use mathlib.Core.Path.{◌≡◌, sym, ap, ap₂, ◌∙◌}
use mathlib.Core.Logic.{⊎_elim}
use mathlib.Core.List.{List, [], ◌∷◌, ◌++◌}
use Prim.Native.Nat.{ℕ, zero, suc, ◌+◌, ◌-◌, ◌*◌, ◌≤◌, ◌<◌}
use native.Mathlib.Nat.{zero-add, suc-add, suc-mul, eq-or-lt_of_le}
use native.Mathlib.Omega.{arith}
use borrow.Author.Tests.{eq-eqb, ne_eqb}
use borrow.Rule.Slice.PartMut.{put_mid, same_len_mid, put_same, take_put, drop_put}
use lib.ListN.{length, take, drop, length-drop}
use lib.Seq.{take-nil, take_at, drop_at, length-take-le, take-take, drop-drop}
use Rattle.common.specs.Outcome.{Outcome, refused, found, need}
use Rattle.bitmap_spec.proofs.Window.{below_or}
use Rattle.store_spec.specs.Store.{entries, Left, Changes}
use Rattle.store_spec.specs.Owners.{half, part, own_entries, Beside, OwnLeft, OwnChanges}
use Rattle.std.specs.Prelude.{Result}
use Rattle.common.specs.declared.Refusal.{Refusal}

-- ---- what an owner's slots mean
pub own-42 : (o : ℕ) (dir buf : List ℕ) → (length dir ≡ 128 → ⊥) → own_entries o dir buf ≡ refused 42
unfolding own_entries need
own-42 o dir buf h = rw (ne_eqb _ _ h)

pub own_in : (o : ℕ) (dir buf : List ℕ) → length dir ≡ 128
    → own_entries o dir buf ≡ entries 32 (part o 64 dir) (part o (half buf) buf)
unfolding own_entries need
own_in o dir buf h = rw (eq-eqb _ _ h)

-- it depends on nothing but the owner's numbers and half
pub own-only : (o : ℕ) (dir buf dir' buf' : List ℕ) → length dir' ≡ length dir → length buf' ≡ length buf
    → part o 64 dir' ≡ part o 64 dir → part o (half buf) buf' ≡ part o (half buf) buf
    → own_entries o dir' buf' ≡ own_entries o dir buf
unfolding own_entries half
own-only o dir buf dir' buf' e l d b = rw (e, l, d, b)

-- ---- one of the parts of n elements
sub_same : (x y : ℕ) → x + y - x ≡ y
sub_same x y = omega arith

-- two parts lie one behind the other
behind : (o p n : ℕ) → o < p → o * n + n ≤ p * n
behind o zero n h = absurd (omega arith)
behind zero (suc p) n h = omega (arith, suc-mul p n)
behind (suc o) (suc p) n h = omega (arith, behind o p n (omega arith), suc-mul o n, suc-mul p n)

pub part-is : (o n : ℕ) (xs : List ℕ) → take (o * n + n - o * n) (drop (o * n) xs) ≡ part o n xs
unfolding part
part-is o n xs = rw (sub_same (o * n) n)

pub part-long : (o n : ℕ) (xs : List ℕ) → o * n + n ≤ length xs → length (part o n xs) ≡ n
unfolding part
part-long o n xs h = length-take-le n (drop (o * n) xs) (rw length-drop (omega arith))

-- a part is the end of what lies before its end
cut : (a n : ℕ) (l : List ℕ) → take n (drop a l) ≡ drop a (take (a + n) l)
cut zero n l = ap (λ (m : ℕ). take m l) (sym (zero-add n))
cut (suc a) n [] = take-nil n ∙ ap (λ (m : ℕ). drop (suc a) (take m [])) (sym (suc-add a n))
cut (suc a) n (x ∷ l) = cut a n l ∙ ap (λ (m : ℕ). drop (suc a) (take m (x ∷ l))) (sym (suc-add a n))

before_same : (a b n : ℕ) (xs ys : List ℕ) → a + n ≤ b → take b ys ≡ take b xs
    → take n (drop a ys) ≡ take n (drop a xs)
before_same a b n xs ys h e = to ys ∙ ap (λ (l : List ℕ). drop a (take (a + n) l)) e ∙ sym (to xs)
  where
    to : (l : List ℕ) → take n (drop a l) ≡ drop a (take (a + n) (take b l))
    to l = cut a n l ∙ ap (drop a) (sym (take-take (a + n) b l h))

after_same : (a b n : ℕ) (xs ys : List ℕ) → a ≤ b → drop a ys ≡ drop a xs → take n (drop b ys) ≡ take n (drop b xs)
after_same a b n xs ys h e = ap (take n) (to ys ∙ ap (drop (b - a)) e ∙ sym (to xs))
  where
    to : (l : List ℕ) → drop b l ≡ drop (b - a) (drop a l)
    to l =
        let z : b ≡ a + (b - a) = omega arith in
        ap (λ (m : ℕ). drop m l) z ∙ sym (drop-drop (b - a) a l)

-- what leaves all beside one part leaves every other part
pub part-other : (o p n : ℕ) (xs xs' : List ℕ) → (p ≡ o → ⊥) → Beside o n xs xs' → part p n xs' ≡ part p n xs
unfolding part Beside
part-other o p n xs xs' d g =
    ⊎_elim (λ h. before_same (p * n) (o * n) n xs xs' (behind p o n h) g.0)
    (λ h. ⊎_elim (λ q. absurd (d (sym q)))
    (λ q. after_same (o * n + n) (p * n) n xs xs' (behind o p n q) g.1) (eq-or-lt_of_le h))
    (below_or p o)

-- ---- what is put back in place of a part
module _ (o n : ℕ) (xs ys xs' : List ℕ) (inside : o * n + n ≤ length xs) (long : length ys ≡ n)
    (e : xs' ≡ put_mid (o * n) (o * n + n - o * n) xs ys) where
  at-end : length ys ≡ o * n + n - o * n
  at-end = long ∙ sym (sub_same (o * n) n)

  put-long : length xs' ≡ length xs
  put-long =
      ap length e
      ∙ same_len_mid (o * n) (o * n + n - o * n) xs ys
      (long ∙ sym (ap length (part-is o n xs) ∙ part-long o n xs inside))

  put-part : part o n xs' ≡ ys
  put-part =
      sym (part-is o n xs') ∙ ap (λ (l : List ℕ). take (o * n + n - o * n) (drop (o * n) l)) e
      ∙ ap (take (o * n + n - o * n))
      (drop_at (take (o * n) xs) (ys ++ drop (o * n + n - o * n) (drop (o * n) xs)) (o * n)
      (length-take-le (o * n) xs (omega arith)))
      ∙ take_at ys (drop (o * n + n - o * n) (drop (o * n) xs)) (o * n + n - o * n) at-end

  put-beside : Beside o n xs xs'
  unfolding Beside
  put-beside = (
    ap (take (o * n)) e ∙ take_put (o * n) (o * n + n - o * n) xs ys (omega arith),
    ap (drop (o * n + n)) e ∙ drop_put (o * n) (o * n + n) xs ys (omega arith) inside at-end,
  )

  put_back : ys ≡ part o n xs → xs' ≡ xs
  put_back q =
      e ∙ ap (put_mid (o * n) (o * n + n - o * n) xs) (q ∙ sym (part-is o n xs))
      ∙ put_same (o * n) (o * n + n - o * n) xs

-- ---- the shares of the two owners
pub half-same : (buf buf' : List ℕ) → length buf' ≡ length buf → half buf' ≡ half buf
unfolding half
half-same buf buf' e = rw e

pub dir-in : (o : ℕ) (dir : List ℕ) → o ≤ 1 → length dir ≡ 128 → o * 64 + 64 ≤ length dir
dir-in o dir h e = omega arith

pub buf-in : (o : ℕ) (buf : List ℕ) → o ≤ 1 → o * half buf + half buf ≤ length buf
unfolding half
buf-in zero buf h = omega arith
buf-in (suc zero) buf h = omega arith
buf-in (suc (suc o)) buf h = absurd (omega arith)

pub half-long : (o : ℕ) (buf : List ℕ) → o ≤ 1 → length (part o (half buf) buf) ≡ half buf
half-long o buf h = part-long o (half buf) buf (buf-in o buf h)

-- a call on the share of owner o, put back, is the owner's call on the store
module _ (o : ℕ) (small : o ≤ 1) (dir buf D B dir' buf' : List ℕ) (len : length dir ≡ 128)
    (lD : length D ≡ length (part o 64 dir)) (lB : length B ≡ length (part o (half buf) buf))
    (ed : dir' ≡ put_mid (o * 64) (o * 64 + 64 - o * 64) dir D)
    (eb : buf' ≡ put_mid (o * half buf) (o * half buf + half buf - o * half buf) buf B) where
  in_d : o * 64 + 64 ≤ length dir
  in_d = dir-in o dir small len

  long_d : length D ≡ 64
  long_d = lD ∙ part-long o 64 dir in_d

  in_b : o * half buf + half buf ≤ length buf
  in_b = buf-in o buf small

  long_b : length B ≡ half buf
  long_b = lB ∙ half-long o buf small

  halves : half buf' ≡ half buf
  halves = half-same buf buf' (put-long o (half buf) buf B buf' in_b long_b eb)

  own_is : own_entries o dir' buf' ≡ entries 32 D B
  own_is =
      own_in o dir' buf' (put-long o 64 dir D dir' in_d long_d ed ∙ len)
      ∙ ap₂ (λ (x y : List ℕ). entries 32 x y) (put-part o 64 dir D dir' in_d long_d ed)
      (ap (λ (h : ℕ). part o h buf') halves ∙ put-part o (half buf) buf B buf' in_b long_b eb)

  pub own-left : (x : Outcome (List (List ℕ))) → Left x 32 (part o 64 dir) (part o (half buf) buf) D B
      → OwnLeft o x dir buf dir' buf'
  unfolding Left OwnLeft
  own-left (refused m) l =
      (put_back o 64 dir D dir' in_d long_d ed l.0, put_back o (half buf) buf B buf' in_b long_b eb l.1)
  own-left (found es) l = (
    put-long o 64 dir D dir' in_d long_d ed,
    put-long o (half buf) buf B buf' in_b long_b eb,
    own_is ∙ l.2,
    put-beside o 64 dir D dir' in_d long_d ed,
    put-beside o (half buf) buf B buf' in_b long_b eb,
  )

  pub own-changes : (x y : Outcome (List (List ℕ))) (r : Result (Unit {0}) Refusal) → x ≡ y
      → Changes y 32 (part o 64 dir) (part o (half buf) buf) D B r → OwnChanges o x dir buf dir' buf' r
  own-changes x y r e g = rw e (record { says = g.says; left = own-left y g.left })

-- ---- another owner's call leaves what an owner's slots mean
pub other-left : (o p : ℕ) (x : Outcome (List (List ℕ))) (dir buf dir' buf' : List ℕ) → (p ≡ o → ⊥)
    → OwnLeft o x dir buf dir' buf' → own_entries p dir' buf' ≡ own_entries p dir buf
unfolding OwnLeft
other-left o p (refused m) dir buf dir' buf' d h = ap₂ (λ (x y : List ℕ). own_entries p x y) h.0 h.1
other-left o p (found es) dir buf dir' buf' d h =
    own-only p dir buf dir' buf' h.0 h.1 (part-other o p 64 dir dir' d h.3)
    (part-other o p (half buf) buf buf' d h.4)

pub half-left : (o : ℕ) (x : Outcome (List (List ℕ))) (dir buf dir' buf' : List ℕ) → OwnLeft o x dir buf dir' buf'
    → half buf' ≡ half buf
unfolding OwnLeft
half-left o (refused m) dir buf dir' buf' h = ap half h.1
half-left o (found es) dir buf dir' buf' h = half-same buf buf' h.1
