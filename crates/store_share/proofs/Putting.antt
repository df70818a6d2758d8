-- A form put into a share: how much room there is, and what the share holds then.
-- Assumes nothing.
use mathlib.Core.Path.{◌≡◌, refl, sym, ap, ◌∙◌}
use mathlib.Core.Logic.{⊎_elim}
use mathlib.Core.Bool.{true}
use mathlib.Core.List.{List, [], ◌++◌, append_assoc}
use Prim.Native.Nat.{ℕ, zero, suc, ◌+◌, ◌-◌, ◌*◌, ◌≤◌, ◌<◌}
use native.Mathlib.Nat.{suc-mul}
use native.Mathlib.Omega.{arith}
use borrow.Author.Tests.{le-leb, lt-leb}
use lib.ListN.{length, get_or, set, take, drop, take-append-drop}
use lib.Seq.{ext_get_or, set-set, drop-drop, drop-append-le}
use Rattle.common.specs.Outcome.{Outcome, refused, found, then, need}
use Rattle.bitmap_spec.specs.Judge.{judge}
use Rattle.bitmap_spec.specs.Form.{form}
use Rattle.bitmap_spec.specs.Output.{written}
use Rattle.bitmap_spec.proofs.Tally.{tally}
use Rattle.bitmap_spec.proofs.Window.{below_or}
use Rattle.bitmap_laws.proofs.Accept.{judge-set}
use Rattle.bitmap_laws.proofs.Output.{from_start}
use Rattle.bitmap_laws.proofs.Round.{round}
use Rattle.bitmap_laws.proofs.Parts.{part_length}
use Rattle.store_spec.specs.Store.{is_form, length_at, entry_at, entries_of, entries, total, room_for, put_in}
use Rattle.store_spec.specs.Store.{done_of, Left, Changes}
use Rattle.std.specs.Prelude.{Result, Ok, Err}
use Rattle.common.specs.declared.Refusal.{Refusal}
use Rattle.common.specs.declared.Refusal.TheVariants as refusal
use Rattle.common.specs.Refusal.{number}
use Rattle.store_laws.proofs.Slots.{Lies, is-form, form-few, entry-is, entry-long, many-entries, entries-is, total-set}
use Rattle.store_laws.proofs.Slots.{total-is}
use Rattle.store_laws.proofs.Changes.{clear-lies, clear-entries, laid-lies, laid-entries, change-refused}
use Rattle.store_laws.proofs.Packing.{Packed}
use Rattle.bitmap_rewrite.specs.Settled.{laid, Ready}
use Rattle.store_share.specs.Formed.{Formed, stored}

-- ---- all entries the same
pub entries-all : (n : ℕ) (dir buf dir' buf' : List ℕ) → ((j : ℕ) → j < n → entry_at dir' buf' j ≡ entry_at dir buf j)
    → entries_of n dir' buf' ≡ entries_of n dir buf
entries-all n dir buf dir' buf' h =
    ext_get_or [] (entries_of n dir' buf') (entries_of n dir buf) (many-entries n dir' buf' ∙ sym (many-entries n dir buf))
    (λ j l. let m : j < n = rw (many-entries n dir' buf') at l in
    entry-is n dir' buf' j m ∙ h j m ∙ sym (entry-is n dir buf j m))

-- ---- forms are short
tally-few : (f : ℕ → ℕ) (n b : ℕ) → ((j : ℕ) → j < n → f j ≤ b) → tally f 0 n ≤ n * b
unfolding tally
tally-few f zero b h = omega arith
tally-few f (suc n) b h =
    omega (arith, tally-few f n b (λ j l. h j (omega arith)), h (0 + n) (omega arith), suc-mul n b)

pub used-few : (n : ℕ) (dir buf : List ℕ) → Lies n dir buf → n ≤ 64 → tally (length_at dir) 0 n ≤ 17176960
used-few n dir buf s h =
    let t =
    tally-few (length_at dir) n 268390
    (λ j l.
    ⊎_elim (λ a. omega (arith, entry-long n dir buf j s l, form-few (entry_at dir buf j) (s.forms j l a)))
    (λ a. omega arith) (below_or 0 (length_at dir j))) in
    omega arith

-- ---- laid behind all others
module _ (n : ℕ) (dir buf dir₁ buf₁ : List ℕ) (k e m : ℕ) (w : List ℕ) (p : Packed n dir buf dir₁ buf₁ e)
    (len : length dir ≡ 2 * n) (h : k < n) (empty : length_at dir k ≡ 0) (size : m ≡ length w) (is_f : is_form w ≡ true)
    (room : tally (length_at dir) 0 n + m ≤ length buf) where
  pub lay-room : e + m ≤ length buf₁
  lay-room = omega (arith, p.sum, p.bytes)

  pub lay-lies : (dir₂ buf₂ : List ℕ) → dir₂ ≡ set (set dir₁ (2 * k) e) (2 * k + 1) m → buf₂ ≡ written buf₁ e w
      → Lies n dir₂ buf₂
  lay-lies dir₂ buf₂ ed eb =
      rw (ed, eb)
      (laid-lies n dir₁ buf₁ k e m w p.lies (p.dirs ∙ len) h p.ends size lay-room is_f (p.lengths k ∙ empty))

  pub lay-entries : (dir₂ buf₂ : List ℕ) → dir₂ ≡ set (set dir₁ (2 * k) e) (2 * k + 1) m → buf₂ ≡ written buf₁ e w
      → entries_of n dir₂ buf₂ ≡ set (entries_of n dir buf) k w
  lay-entries dir₂ buf₂ ed eb =
      rw (ed, eb)
      (laid-entries n dir₁ buf₁ k e m w p.lies (p.dirs ∙ len) h p.ends size lay-room is_f
      (p.lengths k ∙ empty))
      ∙ ap (λ (es : List (List ℕ)). set es k w) (entries-all n dir buf dir₁ buf₁ p.held)

-- ---- room
module _ (n : ℕ) (dir buf : List ℕ) (k : ℕ) (w : List ℕ) (s : Lies n dir buf) (len : length dir ≡ 2 * n) (h : k < n)
  where
    taken : total (set (entries_of n dir buf) k w) + length_at dir k ≡ tally (length_at dir) 0 n + length w
    taken =
        let t = total-set (entries_of n dir buf) k w (rw (many-entries n dir buf) h) in
        let e : length (get_or (entries_of n dir buf) k []) ≡ length_at dir k =
        ap length (entry-is n dir buf k h) ∙ entry-long n dir buf k s h in
        omega (arith, t, e, total-is n dir buf s)

    emptied : total (set (entries_of n dir buf) k []) + length_at dir k ≡ tally (length_at dir) 0 n
    emptied =
        let t = total-set (entries_of n dir buf) k [] (rw (many-entries n dir buf) h) in
        let e : length (get_or (entries_of n dir buf) k []) ≡ length_at dir k =
        ap length (entry-is n dir buf k h) ∙ entry-long n dir buf k s h in
        omega (arith, t, e, total-is n dir buf s)

    pub own-few : length_at dir k ≤ tally (length_at dir) 0 n
    own-few = omega (arith, emptied)

    full : length buf < total (set (entries_of n dir buf) k w) → stored n dir buf k w ≡ refused 13
    unfolding stored room_for need
    full l = rw (lt-leb _ _ l)

    fits : total (set (entries_of n dir buf) k w) ≤ length buf
        → stored n dir buf k w ≡ found (set (entries_of n dir buf) k w)
    unfolding stored room_for need
    fits l = rw (le-leb _ _ l)

    done : total (set (entries_of n dir buf) k w) ≤ length buf → (dir' buf' : List ℕ) → length dir' ≡ length dir
        → length buf' ≡ length buf → entries n dir' buf' ≡ found (set (entries_of n dir buf) k w)
        → Changes (stored n dir buf k w) n dir buf dir' buf' (Ok tt)
    unfolding done_of Left
    done l dir' buf' d b q = record { says = rw (fits l); left = rw (fits l) (d, b, q) }

    pub no_room : (rest : ℕ) → rest ≡ tally (length_at dir) 0 n - length_at dir k → length buf < rest + length w
        → Changes (stored n dir buf k w) n dir buf dir buf (Err refusal.Room)
    no_room rest e l = change-refused (stored n dir buf k w) n dir buf refusal.Room (full (omega (arith, taken, own-few)))

    pub clear_room : (rest : ℕ) → rest ≡ tally (length_at dir) 0 n - length_at dir k → rest + length w ≤ length buf
        → tally (length_at (set dir (2 * k + 1) 0)) 0 n + length w ≤ length buf
    clear_room rest e l =
        omega (
          arith,
          total-is n (set dir (2 * k + 1) 0) buf (clear-lies n dir buf k s len h),
          ap total (clear-entries n dir buf k s len h),
          emptied,
          own-few,
        )

    pub stored-done : (rest : ℕ) → rest ≡ tally (length_at dir) 0 n - length_at dir k → rest + length w ≤ length buf
        → (dir' buf' : List ℕ) → length dir' ≡ length dir → length buf' ≡ length buf → Lies n dir' buf'
        → entries_of n dir' buf' ≡ set (entries_of n (set dir (2 * k + 1) 0) buf) k w
        → Changes (stored n dir buf k w) n dir buf dir' buf' (Ok tt)
    stored-done rest e l dir' buf' d b s' q = done (omega (arith, taken, own-few)) dir' buf' d b
        (entries-is n dir' buf' (d ∙ len) s' ∙ ap found
        (q ∙ ap (λ (es : List (List ℕ)). set es k w) (clear-entries n dir buf k s len h) ∙ set-set
        (entries_of n dir buf) k [] w))

-- ---- the whole call
ready-is : (bitmap d l : List ℕ) (n start card size : ℕ) → judge bitmap ≡ found l → Ready bitmap d l n start card size
    → is_form (laid bitmap start (take n d) card) ≡ true
ready-is bitmap d l n start card size e r =
    is-form l (laid bitmap start (take n d) card) (ap judge (sym r.whole) ∙ round l (judge-set bitmap l e))
    (sym r.whole)

pub formed : (bitmap d l : List ℕ) (n start card size : ℕ) → judge bitmap ≡ found l → Ready bitmap d l n start card size
    → length (take n d) ≡ n → Formed bitmap start (take n d) card size
formed bitmap d l n start card size e r q = record {
  inside = r.inside;
  few = omega (arith, r.few, q);
  fine = r.fine;
  sized = r.sized ∙ ap length r.whole;
  is_f = ready-is bitmap d l n start card size e r;
}

pub put_refused : (n : ℕ) (dir buf bitmap : List ℕ) (k m : ℕ) → Lies n dir buf → length dir ≡ 2 * n
    → judge bitmap ≡ refused m → then (entries n dir buf) (put_in (length buf) k bitmap) ≡ refused m
unfolding put_in
put_refused n dir buf bitmap k m s len e = rw (entries-is n dir buf len s) (rw e)

pub put-stored : (n : ℕ) (dir buf bitmap l w : List ℕ) (k : ℕ) → Lies n dir buf → length dir ≡ 2 * n
    → judge bitmap ≡ found l → form l ≡ w → then (entries n dir buf) (put_in (length buf) k bitmap) ≡ stored n dir buf k w
unfolding put_in stored
put-stored n dir buf bitmap l w k s len e q = rw (entries-is n dir buf len s) (rw (e, q))

pub changes-as : (o p : Outcome (List (List ℕ))) (n : ℕ) (dir buf dir' buf' : List ℕ) (r : Result (Unit {0}) Refusal) → o ≡ p
    → Changes p n dir buf dir' buf' r → Changes o n dir buf dir' buf' r
changes-as o p n dir buf dir' buf' r e c = rw e c

written_is : (xs w : List ℕ) (a : ℕ) → take a xs ++ (w ++ drop (a + length w) xs) ≡ written xs a w
unfolding written
written_is xs w a = refl

-- a part of the buffer written from its start on, put back in its place
pub mid_written : (xs w ys : List ℕ) (a k : ℕ) → length w ≤ k → a + k ≤ length xs
    → ys ≡ written (take k (drop a xs)) 0 w → take a xs ++ (ys ++ drop k (drop a xs)) ≡ written xs a w
mid_written xs w ys a k h g q =
    let n : length (take k (drop a xs)) ≡ k = part_length xs a k g in
    let e : ys ≡ w ++ drop (length w) (take k (drop a xs)) = q ∙ from_start (take k (drop a xs)) w in
    let f : drop (length w) (take k (drop a xs)) ++ drop k (drop a xs) ≡ drop (length w) (drop a xs) =
    sym (drop-append-le (length w) (take k (drop a xs)) (drop k (drop a xs)) (omega arith))
    ∙ ap (drop (length w)) (take-append-drop k (drop a xs)) in
    ap (λ (z : List ℕ). take a xs ++ (z ++ drop k (drop a xs))) e
    ∙ ap (λ (z : List ℕ). take a xs ++ z)
    (append_assoc w (drop (length w) (take k (drop a xs))) (drop k (drop a xs)) ∙ ap (λ (z : List ℕ). w ++ z)
    (f ∙ drop-drop (length w) a xs))
    ∙ written_is xs w a
