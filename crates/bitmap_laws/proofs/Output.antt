-- Writing behind what is written, with all else as it was: a part more, the parts one after the other, and what a writing call gives.
-- Assumes nothing.
use mathlib.Core.Path.{◌≡◌, refl, sym, ap, ◌∙◌}
use mathlib.Core.List.{List, [], ◌∷◌, ◌++◌, append_assoc, append-nil}
use Prim.Native.Nat.{ℕ, suc, ◌+◌, ◌≤◌, ◌<◌}
use native.Mathlib.Nat.{zero-add, add-zero, add_assoc}
use native.Mathlib.Omega.{arith}
use borrow.Author.Tests.{lt-leb, le-leb}
use lib.ListN.{length, get_or, set, take, drop, length-append, length-drop, take-append-drop}
use lib.Seq.{set_at, drop-cons, length-take-le, take_at, drop-drop, drop-append-add}
use Rattle.common.specs.Outcome.{need}
use Rattle.bitmap_spec.specs.Output.{written, placed, after, length_of, Gives}
use Rattle.std.specs.Prelude.{Ok, Err}
use Rattle.common.specs.declared.Refusal.TheVariants.{Room}

pub written_none : (before : List ℕ) (at : ℕ) → before ≡ written before at []
unfolding written
written_none before at = rw (add-zero at) (sym (take-append-drop at before))

pub written-more : (before l : List ℕ) (at x : ℕ) → at + length l < length before → set (written before at l) (at + length l) x ≡ written before at (l ++ (x ∷ []))
unfolding written
written-more before l at x h =
    let e : length (l ++ (x ∷ [])) ≡ length l + 1 = length-append l (x ∷ []) in
    let a : at + (length l + 1) ≡ suc (at + length l) = omega arith in
    let len : length (take at before ++ l) ≡ at + length l = length-append (take at before) l ∙ ap (λ (y : ℕ). y + length l) (length-take-le at before (omega arith)) in
    rw (e, a, drop-cons before (at + length l) 0 h, append_assoc l (x ∷ []) (drop (suc (at + length l)) before), ← append_assoc (take at before) l (get_or before (at + length l) 0 ∷ drop (suc (at + length l)) before), ← append_assoc (take at before) l ((x ∷ []) ++ drop (suc (at + length l)) before))
    (set_at (take at before ++ l) (get_or before (at + length l) 0) (drop (suc (at + length l)) before) x (at + length l) len)

pub length-written : (before l : List ℕ) (at : ℕ) → at + length l ≤ length before → length (written before at l) ≡ length before
unfolding written
length-written before l at h = rw (length-append, length-append, length-take-le at before (omega arith), length-drop) (omega arith)

-- one part after another
pub written-cat : (before l m : List ℕ) (at k : ℕ) → k ≡ at + length l → at + length l + length m ≤ length before → written (written before at l) k m ≡ written before at (l ++ m)
unfolding written
written-cat before l m at k e h =
    let len : length (take at before ++ l) ≡ at + length l = length-append (take at before) l ∙ ap (λ (y : ℕ). y + length l) (length-take-le at before (omega arith)) in
    let s : take at before ++ (l ++ drop (at + length l) before) ≡ (take at before ++ l) ++ drop (at + length l) before = sym (append_assoc (take at before) l (drop (at + length l) before)) in
    let t : take (at + length l) ((take at before ++ l) ++ drop (at + length l) before) ≡ take at before ++ l = take_at (take at before ++ l) (drop (at + length l) before) (at + length l) len in
    let d : drop (at + length l + length m) ((take at before ++ l) ++ drop (at + length l) before) ≡ drop (at + (length l + length m)) before =
    (rw len at (drop-append-add (take at before ++ l) (drop (at + length l) before) (length m))) ∙ drop-drop (length m) (at + length l) before ∙ ap (λ (x : ℕ). drop x before) (add_assoc at (length l) (length m)) in
    rw (e, s, t, d, length-append l m, append_assoc (take at before) l (m ++ drop (at + (length l + length m)) before), append_assoc l m (drop (at + (length l + length m)) before))

-- the list that a filled array starts with
pub front : (before l : List ℕ) (n : ℕ) → n ≡ length l → take n (written before 0 l) ≡ l
unfolding written
front before l n e = take_at l (drop (0 + length l) before) n (sym e)

pub taken : (a a₀ l : List ℕ) (n : ℕ) → a ≡ written a₀ 0 l → n ≡ length l → take n a ≡ l
taken a a₀ l n e h = rw e (front a₀ l n h)

pub from_start : (before w : List ℕ) → written before 0 w ≡ w ++ drop (length w) before
unfolding written
from_start before w = rw (zero-add (length w))

-- ---- what is written so far: done, and what is left
pub record Along (before out : List ℕ) (at t : ℕ) (rest all : List ℕ) : Type 0 where
  pub done : List ℕ
  pub holds : out ≡ written before at done
  pub many : t ≡ length done
  pub whole : done ++ rest ≡ all

pub along-start : (before : List ℕ) (at : ℕ) (all rest : List ℕ) → rest ≡ all → Along before before at 0 rest all
along-start before at all rest e = record { done = []; holds = written_none before at; many = refl; whole = e }

pub along-room : {before out : List ℕ} {at t : ℕ} {rest all : List ℕ} → Along before out at t rest all → t + length rest ≡ length all
along-room {rest = rest} a = omega (arith, ap length a.whole, length-append a.done rest, a.many)

pub along-length : {before out : List ℕ} {at t : ℕ} {rest all : List ℕ} → Along before out at t rest all → at + length all ≤ length before → length out ≡ length before
along-length {before = before} {at = at} a h = ap length a.holds ∙ length-written before a.done at (omega (arith, along-room a, a.many))

pub along-step : {before out : List ℕ} {at t : ℕ} {rest all : List ℕ} (out' part rest' : List ℕ) (x : ℕ) → Along before out at t rest all → at + length all ≤ length before → rest ≡ part ++ rest'
    → out' ≡ written out (at + t) part → x ≡ length part → Along before out' at (t + x) rest' all
along-step {before = before} {at = at} {t = t} {all = all} out' part rest' x a room e q n =
    let l = along-room a in
    let p : length (part ++ rest') ≡ length part + length rest' = length-append part rest' in
    let r = ap length e in
    record {
      done = a.done ++ part;
      holds = q ∙ rw a.holds (written-cat before a.done part at (at + t) (omega (arith, a.many)) (omega (arith, a.many)));
      many = omega (arith, a.many, length-append a.done part);
      whole = append_assoc a.done part rest' ∙ ap (λ (z : List ℕ). a.done ++ z) (sym e) ∙ a.whole;
    }

pub along-end : {before out : List ℕ} {at t : ℕ} {rest all : List ℕ} → Along before out at t rest all → rest ≡ [] → (t ≡ length all) × (out ≡ written before at all)
along-end {before = before} {at = at} a e =
    let w = sym (append-nil a.done) ∙ ap (λ (z : List ℕ). a.done ++ z) (sym e) ∙ a.whole in
    (a.many ∙ ap length w, a.holds ∙ ap (λ (z : List ℕ). written before at z) w)

-- ---- an answer and the output together
pub refuse13 : (w before : List ℕ) → length before < length w → Gives (placed w (length before)) before before (Err Room)
unfolding placed need after length_of
refuse13 w before h = record { says = rw (lt-leb _ _ h); holds = rw (lt-leb _ _ h) }

pub give : (w before rest : List ℕ) (n : ℕ) → length w ≤ length before → rest ≡ w ++ drop (length w) before → n ≡ length w → Gives (placed w (length before)) before rest (Ok n)
unfolding placed need after length_of
give w before rest n h e q = record { says = rw (le-leb _ _ h, q); holds = rw (le-leb _ _ h) e }
