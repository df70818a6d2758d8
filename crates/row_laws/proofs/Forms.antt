-- A number is read exactly from its forms of one to five bytes; one form of each number is marked shortest.
-- Why: the first group of a form is read, and the groups behind it are a form of the number without its low seven bits.
-- Assumes nothing.
use Rattle.std.specs.Prelude.{Result, Ok, Err}
use mathlib.Core.Path.{◌≡◌, refl, sym, ap, ap₂, subst, ◌∙◌}
use mathlib.Core.Bool.{Bool, true, false}
use mathlib.Core.List.{List, [], ◌∷◌}
use Prim.Native.Nat.{ℕ, zero, suc, ◌+◌, ◌-◌, ◌*◌, ◌/◌, ◌%◌, ◌^◌, ◌≤◌, ◌<◌}
use native.Mathlib.Nat.{add-mul, mul_assoc, pow-suc, pow-le-pow_right, zero-lt-suc, lt_of_not-le}
use native.Mathlib.Omega.{arith}
use borrow.Author.Tests.{leb-true, leb-false, ltb-true, ltb-false, le-leb, lt-leb, eq-eqb, ne_eqb, eqb-true}
use lib.ListN.{length, get_or, take, drop, drop_of_length-le}
use lib.Seq.{drop-cons}
use lib.Dec.{leb, ltb, eqb}
use Rattle.common.specs.Outcome.{pick, either}
use Rattle.common.proofs.Outcomes.{clash}
use Rattle.row_spec.specs.Varint.{varint, varint_at, groups, last_group, padded, least_from, groups_of, shortest}
use Rattle.row_spec.specs.declared.Varint.{Varint}
use Rattle.row_spec.specs.declared.ReadFault.{ReadFault}
use Rattle.row_spec.specs.declared.ReadFault.TheVariants.{CutShort}
use Rattle.row_laws.specs.Forms.{Bytes, Form}
use Rattle.row_laws.proofs.Varints.{same-ok, last_fits, last-large, groups-last, groups-more}

-- ---- how many groups a number needs
power_le : {i j : ℕ} → i ≤ j → 128 ^ i ≤ 128 ^ j
power_le h = pow-le-pow_right {n = 128} (zero-lt-suc 127) h

least-from : (i j n : ℕ) → j ≤ least_from i j n
unfolding least_from
least-from zero j n = omega arith
least-from (suc i) j n = by-test (ltb n (128 ^ j)) (least-from i (suc j) n)
  where
    by-test : (t : Bool) → suc j ≤ least_from i (suc j) n → j ≤ pick t j (least_from i (suc j) n)
    by-test true h = omega arith
    by-test false h = omega arith

least-holds : (i j n : ℕ) → n < 128 ^ (j + i) → n < 128 ^ least_from i j n
unfolding least_from
least-holds zero j n h = let e : j + 0 ≡ j = omega arith in subst (λ (k : ℕ). n < 128 ^ k) e h
least-holds (suc i) j n h =
    let e : j + suc i ≡ suc j + i = omega arith in
    by-test (ltb n (128 ^ j)) refl (least-holds i (suc j) n (subst (λ (k : ℕ). n < 128 ^ k) e h))
  where
    by-test : (t : Bool) → ltb n (128 ^ j) ≡ t → n < 128 ^ least_from i (suc j) n
        → n < 128 ^ pick t j (least_from i (suc j) n)
    by-test true e g = ltb-true n (128 ^ j) e
    by-test false e g = g

-- a number of 128 ^ i or more needs more than i groups
power-lt : (i j n : ℕ) → 128 ^ i ≤ n → n < 128 ^ j → i < j
power-lt i j n h g = lt_of_not-le (λ l. let p = power_le l in omega arith)

least-least : (i j n k : ℕ) → j ≤ k → n < 128 ^ k → least_from i j n ≤ k
unfolding least_from
least-least zero j n k h g = h
least-least (suc i) j n k h g = by-test (ltb n (128 ^ j)) refl (λ l. least-least i (suc j) n k l g)
  where
    by-test : (t : Bool) → ltb n (128 ^ j) ≡ t → (suc j ≤ k → least_from i (suc j) n ≤ k)
        → pick t j (least_from i (suc j) n) ≤ k
    by-test true e more = h
    by-test false e more = more (power-lt j k n (ltb-false n (128 ^ j) e) g)

-- the least of 1 to 5 groups that hold n, for every n that five hold
pub groups-least : (n : ℕ) → n < 128 ^ 5
    → (1 ≤ groups_of n) × (n < 128 ^ groups_of n) × ((k : ℕ) → 1 ≤ k → n < 128 ^ k → groups_of n ≤ k)
unfolding groups_of
groups-least n h = (least-from 4 1 n, least-holds 4 1 n h, λ k some g. least-least 4 1 n k some g)

-- the last of k + 1 groups is not 0, or it is the first: then n needs them all
groups-mark : (k n : ℕ) → k < 5 → n < 128 ^ suc k
    → either (leb (128 ^ k) n) (leb (1 * 128 ^ k) 1) ≡ eqb (suc k) (groups_of n)
groups-mark k n few h = by-test (leb (128 ^ k) n) refl
  where
    five : n < 128 ^ 5
    five = let p = power_le {i = suc k} {j = 5} few in omega arith

    least : (1 ≤ groups_of n) × (n < 128 ^ groups_of n) × ((j : ℕ) → 1 ≤ j → n < 128 ^ j → groups_of n ≤ j)
    least = groups-least n five

    by-test : (t : Bool) → leb (128 ^ k) n ≡ t → either t (leb (1 * 128 ^ k) 1) ≡ eqb (suc k) (groups_of n)
    by-test true e =
        let low = power-lt k (groups_of n) n (leb-true (128 ^ k) n e) least.1 in
        let high = least.2 (suc k) (omega arith) h in
        sym (eq-eqb (suc k) (groups_of n) (omega arith))
    by-test false e = by_count (ltb 0 k) refl
      where
        below : n < 128 ^ k
        below = leb-false (128 ^ k) n e

        by_count : (t : Bool) → ltb 0 k ≡ t → leb (1 * 128 ^ k) 1 ≡ eqb (suc k) (groups_of n)
        by_count true q =
            let more = ltb-true 0 k q in
            let p = power_le {i = 1} {j = k} more in
            let l = least.2 k more below in
            lt-leb (1 * 128 ^ k) 1 (omega arith) ∙ sym (ne_eqb (suc k) (groups_of n) (λ x. omega arith))
        by_count false q =
            let none : k ≡ 0 = omega (arith, ltb-false 0 k q) in
            let high = least.2 (suc k) (omega arith) h in
            let one : 1 * 128 ^ k ≡ 1 = ap (λ (j : ℕ). 1 * 128 ^ j) none in
            le-leb (1 * 128 ^ k) 1 (omega arith) ∙ sym (eq-eqb (suc k) (groups_of n) (omega (arith, least.0)))

-- ---- the bytes at a place
front : (s : List ℕ) (at k : ℕ) → at < length s → take (suc k) (drop at s) ≡ get_or s at 0 ∷ take k (drop (at + 1) s)
front s at k h =
    let place : suc at ≡ at + 1 = omega arith in
    let next : drop (suc at) s ≡ drop (at + 1) s = ap (λ (j : ℕ). drop j s) place in
    ap (take (suc k)) (drop-cons s at 0 h) ∙ ap (λ (l : List ℕ). get_or s at 0 ∷ take k l) next

record Split (s : List ℕ) (at k x : ℕ) (l : List ℕ) : Type 0 where
  there : at < length s
  byte : get_or s at 0 ≡ x
  rest : take k (drop (at + 1) s) ≡ l

split : (s : List ℕ) (at k x : ℕ) (l : List ℕ) → take (suc k) (drop at s) ≡ x ∷ l → Split s at k x l
split s at k x l e = by-test (ltb at (length s)) refl
  where
    by-test : (t : Bool) → ltb at (length s) ≡ t → Split s at k x l
    by-test true h =
        let there = ltb-true at (length s) h in
        let q = sym (front s at k there) ∙ e in
        record { there = there; byte = cc; rest = cc }
    by-test false h =
        let none : take (suc k) (drop at s) ≡ [] =
        ap (take (suc k)) (drop_of_length-le s (ltb-false at (length s) h)) in
        absurd (let z : 0 ≡ suc (length l) = ap length (sym none ∙ e) in omega arith)

-- a low group and the groups above it
joined : (a q w v : ℕ) → v + a * w + q * (w * 128) ≡ v + (a + q * 128) * w
joined a q w v =
    let x = add-mul a (q * 128) w in
    let y = mul_assoc q 128 w in
    let z = mul_assoc q w 128 in
    let c : 128 * w ≡ w * 128 = omega arith in
    let d : q * (128 * w) ≡ q * (w * 128) = ap (λ (k : ℕ). q * k) c in
    omega arith

-- ---- a form is read
module _ (s : List ℕ) where
  -- n in k + 1 groups from at on, with the weight w, on top of v
  abbrev Reads : ℕ → ℕ → ℕ → ℕ → ℕ → ℕ → Type 0
  Reads k j at w v n =
      suc k ≤ j → n < 128 ^ suc k → v + n * w ≤ 4294967295 → take (suc k) (drop at s) ≡ padded (suc k) n
      → groups s j at w v ≡ Ok (varint (v + n * w) (at + suc k) (either (leb (128 ^ k) n) (leb (w * 128 ^ k) 1)))

  reads-last : (j at w v n : ℕ) → Reads zero j at w v n
  unfolding padded
  reads-last j at w v n room holds most e =
      let f = split s at 0 n [] e in
      let small : get_or s at 0 < 128 = omega (arith, f.byte) in
      let weight : w * 128 ^ 0 ≡ w = omega arith in
      groups-last s j at w v (omega arith) f.there small
      ∙ ap (λ (b : ℕ). last_group b w v (at + 1)) f.byte
      ∙ last_fits n w v (at + 1) most
      ∙ ap (λ (x : ℕ). Ok (varint (v + n * w) (at + 1) (either (ltb 0 n) (leb x 1)))) (sym weight)

  reads_more : (k j at w v n : ℕ) → ((at w v n : ℕ) → Reads k (j - 1) at w v n) → Reads (suc k) j at w v n
  unfolding padded
  reads_more k j at w v n more room holds most e =
      let f = split s at (suc k) (n % 128 + 128) (padded (suc k) (n / 128)) e in
      let high : 128 ≤ get_or s at 0 = omega (arith, f.byte) in
      let low : get_or s at 0 - 128 ≡ n % 128 = omega (arith, f.byte) in
      let parts : n % 128 + n / 128 * 128 ≡ n = omega arith in
      let sum : v + n % 128 * w + n / 128 * (w * 128) ≡ v + n * w =
      joined (n % 128) (n / 128) w v ∙ ap (λ (x : ℕ). v + x * w) parts in
      let place : at + 1 + suc k ≡ at + suc (suc k) = omega arith in
      let power = pow-suc 128 (suc k) in
      groups-more s j at w v (omega arith) f.there high
      ∙ ap (λ (x : ℕ). groups s (j - 1) (at + 1) (w * 128) (v + x * w)) low
      ∙ more (at + 1) (w * 128) (v + n % 128 * w) (n / 128) (omega arith) (omega arith) (omega (arith, sum)) f.rest
      ∙ ap₂ (λ (x y : ℕ). Ok (varint x y (either (leb (128 ^ k) (n / 128)) (leb (w * 128 * 128 ^ k) 1)))) sum place
      ∙ ap₂ (λ (x y : Bool). Ok (varint (v + n * w) (at + suc (suc k)) (either x y))) upper weight
    where
      upper : leb (128 ^ k) (n / 128) ≡ leb (128 ^ suc k) n
      upper = by-test (leb (128 ^ k) (n / 128)) refl
        where
          by-test : (t : Bool) → leb (128 ^ k) (n / 128) ≡ t → t ≡ leb (128 ^ suc k) n
          by-test true q =
              let l = leb-true (128 ^ k) (n / 128) q in
              sym (le-leb (128 ^ suc k) n (omega (arith, pow-suc 128 k)))
          by-test false q =
              let l = leb-false (128 ^ k) (n / 128) q in
              sym (lt-leb (128 ^ suc k) n (omega (arith, pow-suc 128 k)))

      weight : leb (w * 128 * 128 ^ k) 1 ≡ leb (w * 128 ^ suc k) 1
      weight =
          let x = mul_assoc w 128 (128 ^ k) in
          let y : 128 * 128 ^ k ≡ 128 ^ suc k = omega (arith, pow-suc 128 k) in
          ap (λ (z : ℕ). leb z 1) (x ∙ ap (λ (z : ℕ). w * z) y)

  reads : (k j at w v n : ℕ) → Reads k j at w v n
  reads zero j at w v n = reads-last j at w v n
  reads (suc k) j at w v n = reads_more k j at w v n (λ at w v n. reads k (j - 1) at w v n)

-- ---- what is read is a form
-- the k + 1 bytes from at on are the number x, which with the weight w on top of v makes n
record Ends (s : List ℕ) (j at w v n next : ℕ) : Type 0 where
  k : ℕ
  x : ℕ
  room : suc k ≤ j
  place : next ≡ at + suc k
  holds : x < 128 ^ suc k
  is : n ≡ v + x * w
  most : n ≤ 4294967295
  bytes : take (suc k) (drop at s) ≡ padded (suc k) x

module _ (s : List ℕ) (small : Bytes s) (n next : ℕ) (short : Bool) where
  ends_last : (j at w v : ℕ) → at < length s → get_or s at 0 < 128
      → last_group (get_or s at 0) w v (at + 1) ≡ Ok (varint n next short) → Ends s (suc j) at w v n next
  unfolding padded
  ends_last j at w v there low e = by-test (leb (v + get_or s at 0 * w) 4294967295) refl
    where
      by-test : (t : Bool) → leb (v + get_or s at 0 * w) 4294967295 ≡ t → Ends s (suc j) at w v n next
      by-test true q =
          let fits = leb-true (v + get_or s at 0 * w) 4294967295 q in
          let r = sym (last_fits (get_or s at 0) w v (at + 1) fits) ∙ e in
          let same = same-ok (sym r) in
          let is : v + get_or s at 0 * w ≡ n = sym (ap (λ (x : Varint). x.number) same) in
          record {
            k = 0;
            x = get_or s at 0;
            room = omega arith;
            place = ap (λ (x : Varint). x.next) same;
            holds = low;
            is = sym is;
            most = omega arith;
            bytes = front s at 0 there;
          }
      by-test false q =
          let large = leb-false (v + get_or s at 0 * w) 4294967295 q in
          let r = sym (last-large (get_or s at 0) w v (at + 1) large) ∙ e in
          clash (cc)

  ends_more : (j at w v : ℕ) → at < length s → 128 ≤ get_or s at 0
      → Ends s j (at + 1) (w * 128) (v + (get_or s at 0 - 128) * w) n next → Ends s (suc j) at w v n next
  unfolding padded
  ends_more j at w v there high r =
      let byte = small at in
      let x : ℕ = get_or s at 0 - 128 + r.x * 128 in
      let low : get_or s at 0 ≡ x % 128 + 128 = omega arith in
      let rest : r.x ≡ x / 128 = omega arith in
      record {
        k = suc r.k;
        x = x;
        room = omega (arith, r.room);
        place = omega (arith, r.place);
        holds = omega (arith, r.holds, pow-suc 128 (suc r.k));
        is = r.is ∙ joined (get_or s at 0 - 128) r.x w v;
        most = r.most;
        bytes =
            front s at (suc r.k) there
            ∙ ap₂ (λ (b : ℕ) (l : List ℕ). b ∷ l) low (r.bytes ∙ ap (padded (suc r.k)) rest);
      }

  ends : (j at w v : ℕ) → groups s j at w v ≡ Ok (varint n next short) → Ends s j at w v n next
  unfolding groups
  ends zero at w v e = clash (cc)
  ends (suc j) at w v e =
      by-test (ltb at (length s)) (ltb (get_or s at 0) 128) refl refl e (λ q. ends j (at + 1) (w * 128) _ q)
    where
      rest : Result Varint ReadFault
      rest = groups s j (at + 1) (w * 128) (v + (get_or s at 0 - 128) * w)

      by-test : (t u : Bool) → ltb at (length s) ≡ t → ltb (get_or s at 0) 128 ≡ u
          → pick t (pick u (last_group (get_or s at 0) w v (at + 1)) rest) (Err CutShort) ≡ Ok (varint n next short)
          → (rest ≡ Ok (varint n next short) → Ends s j (at + 1) (w * 128) (v + (get_or s at 0 - 128) * w) n next)
          → Ends s (suc j) at w v n next
      by-test true true t u q more =
          ends_last j at w v (ltb-true at (length s) t) (ltb-true (get_or s at 0) 128 u) q
      by-test true false t u q more =
          ends_more j at w v (ltb-true at (length s) t) (ltb-false (get_or s at 0) 128 u) (more q)
      by-test false u t p q more = clash (cc)

-- ---- the laws
form-reads : (s : List ℕ) (at k n : ℕ) → suc k ≤ 5 → n < 128 ^ suc k → n ≤ 4294967295
    → take (suc k) (drop at s) ≡ padded (suc k) n
    → varint_at s at ≡ Ok (varint n (at + suc k) (eqb (suc k) (groups_of n)))
unfolding varint_at
form-reads s at k n few holds most e =
    let is : 0 + n * 1 ≡ n = omega arith in
    reads s k 5 at 1 0 n few holds (omega arith) e
    ∙ ap₂ (λ (m : ℕ) (t : Bool). Ok (varint m (at + suc k) t)) is (groups-mark k n (omega arith) holds)

-- every form of one to five bytes is read, with its mark
pub form-read : (s : List ℕ) (at k n : ℕ) (short : Bool) → Form s at k n short
    → varint_at s at ≡ Ok (varint n (at + k) short)
form-read s at zero n short f = absurd (let none = f.some in omega arith)
form-read s at (suc k) n short f =
    form-reads s at k n f.few f.holds f.most f.bytes
    ∙ ap (λ (t : Bool). Ok (varint n (at + suc k) t)) (sym f.mark)

module _ (s : List ℕ) (small : Bytes s) (at n : ℕ) (short : Bool) where
  -- what is read is a form
  pub read-form : (next : ℕ) → varint_at s at ≡ Ok (varint n next short)
      → (next ≡ at + (next - at)) × Form s at (next - at) n short
  unfolding varint_at
  read-form next e =
      let r = ends s small n next short 5 at 1 0 e in
      let is : r.x ≡ n = omega (arith, r.is) in
      let used : suc r.k ≡ next - at = omega (arith, r.place) in
      let holds : n < 128 ^ suc r.k = subst (λ (m : ℕ). m < 128 ^ suc r.k) is r.holds in
      let bytes = r.bytes ∙ ap (padded (suc r.k)) is in
      let again = form-reads s at r.k n r.room holds r.most bytes in
      let same = same-ok (sym e ∙ again) in
      let mark : short ≡ eqb (suc r.k) (groups_of n) = ap (λ (x : Varint). x.shortest) same in
      let form : Form s at (suc r.k) n short = record {
        some = omega arith;
        few = r.room;
        holds = holds;
        most = r.most;
        bytes = bytes;
        mark = mark;
      } in
      (omega (arith, r.place), subst (λ (k : ℕ). Form s at k n short) used form)

  -- a number is read from k bytes exactly if they are a form of it
  pub number-forms : (k : ℕ)
      → (varint_at s at ≡ Ok (varint n (at + k) short) → Form s at k n short)
      × (Form s at k n short → varint_at s at ≡ Ok (varint n (at + k) short))
  number-forms k =
      let used : at + k - at ≡ k = omega arith in
      (λ e. subst (λ (j : ℕ). Form s at j n short) used (read-form (at + k) e).1, form-read s at k n short)

-- bytes marked shortest are the shortest form of their number
pub shortest-form : (s : List ℕ) → Bytes s → (at n next : ℕ) → varint_at s at ≡ Ok (varint n next true)
    → take (next - at) (drop at s) ≡ shortest n
unfolding shortest
shortest-form s small at n next e =
    let f = (read-form s small at n true next e).1 in
    let used = eqb-true (next - at) (groups_of n) (sym f.mark) in
    f.bytes ∙ ap (λ (k : ℕ). padded k n) used

-- two readings of one number, both marked shortest, are of the same bytes
pub one-shortest : (s t : List ℕ) → Bytes s → Bytes t → (n at next to then : ℕ)
    → varint_at s at ≡ Ok (varint n next true) → varint_at t to ≡ Ok (varint n then true)
    → take (next - at) (drop at s) ≡ take (then - to) (drop to t)
one-shortest s t small few n at next to then e f =
    shortest-form s small at n next e ∙ sym (shortest-form t few to n then f)

-- no form of a number has fewer bytes than the one marked shortest
pub no-shorter : (s : List ℕ) → Bytes s → (at n next : ℕ) (short : Bool) → varint_at s at ≡ Ok (varint n next short)
    → groups_of n ≤ next - at
no-shorter s small at n next short e =
    let f = (read-form s small at n short next e).1 in
    let five : n < 128 ^ 5 = omega (arith, f.most) in
    (groups-least n five).2 (next - at) f.some f.holds
