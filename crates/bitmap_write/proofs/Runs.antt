-- A container of a rising list is its run: members of a range are those of the list in it, and the run is what the range keeps of the list.
-- Assumes nothing.
use mathlib.Core.Path.{◌≡◌, refl, sym, ap, ap₂, ◌∙◌}
use mathlib.Core.Logic.{⊎_elim}
use mathlib.Core.Bool.{Bool, true, false}
use mathlib.Core.List.{List, [], ◌∷◌, map}
use Prim.Native.Nat.{ℕ, zero, suc, ◌+◌, ◌-◌, ◌*◌, ◌/◌, ◌%◌, ◌^◌, ◌≤◌, ◌<◌, max}
use native.Mathlib.Nat.{eq-or-lt_of_le, le_of_suc-le-suc, not-suc-le-zero}
use native.Mathlib.Numerals.{add-one}
use native.Mathlib.Omega.{arith}
use borrow.Author.Tests.{eqb-true, le-leb, lt-leb, lt-ltb, le-ltb}
use lib.Dec.{leb, ltb, eqb}
use lib.Bits.{bit_or}
use lib.ListN.{length, get_or, set, take, drop, length-drop, length-map, drop_of_length-le}
use lib.Seq.{drop-cons, get_or-take, get_or-drop, length-take-le, take-suc, take_all}
use Rattle.common.specs.Outcome.{pick, both}
use Rattle.common.specs.Lists.{keep, from, mem, rising}
use Rattle.common.proofs.Lists.{rising-less}
use Rattle.bitmap_spec.specs.Form.{cut, count_of, largest}
use Rattle.bitmap_spec.specs.Sets.{IsSet}
use Rattle.bitmap_spec.proofs.Window.{below_or}
use Rattle.bitmap_laws.proofs.Members.{head_ok, ext, mem-head, mem-low, mem-high, mem-keep, rising-keep}
use Rattle.bitmap_laws.proofs.Rise.{cons_ok, none-up}
use Rattle.bitmap_laws.proofs.Cuts.{cut-shift, cut_up}
use Rattle.bitmap_laws.proofs.Output.{written-more}
use Rattle.bitmap_laws.proofs.Values.{map_at}
use Rattle.bitmap_spec.specs.Output.{written}
use Rattle.blocks.proofs.Blocks.{Shows, shows_more, from-top}
use Rattle.chunk_write.proofs.Laying.{mem-later}
use Rattle.bitmap_write.specs.Run.{Below, run}

-- ---- members by their index
mem-at : (l : List ℕ) (t : ℕ) → t < length l → mem (get_or l t 0) l ≡ true
mem-at [] t h = absurd (not-suc-le-zero h)
mem-at (x ∷ xs) zero h = mem-head x xs
mem-at (x ∷ xs) (suc t) h = mem-later (get_or xs t 0) x xs (mem-at xs t (le_of_suc-le-suc h))

mem_index : (z : ℕ) (l : List ℕ) → mem z l ≡ true → (t : ℕ) × (t < length l) × (get_or l t 0 ≡ z)
unfolding mem
mem_index z [] e = absurd (let q : ◌≡◌ {A = ℕ} 0 1 = cc in omega arith)
mem_index z (x ∷ xs) e = go (eqb z x) refl e (λ f. mem_index z xs f)
  where
    go : (b : Bool) → eqb z x ≡ b → pick b true (mem z xs) ≡ true → (mem z xs ≡ true → (t : ℕ) × (t < length xs) × (get_or xs t 0 ≡ z)) → (t : ℕ) × (t < length (x ∷ xs)) × (get_or (x ∷ xs) t 0 ≡ z)
    go true q f ih = (0, omega arith, sym (eqb-true z x q))
    go false q f ih = let r = ih f in (suc r.0, omega (arith, r.1), r.2)

bool_eq : (a b : Bool) → (a ≡ true → b ≡ true) → (b ≡ true → a ≡ true) → a ≡ b
bool_eq true b f g = sym (f refl)
bool_eq false true f g = g refl
bool_eq false false f g = refl

-- a list that rises by its indexes rises
up-by-index : (a b : ℕ) (l : List ℕ) → ((t : ℕ) → t < length l → (a ≤ get_or l t 0) × (get_or l t 0 < b)) → ((s t : ℕ) → s < t → t < length l → get_or l s 0 < get_or l t 0) → rising b a l ≡ true
up-by-index a b [] h g = none-up b a
up-by-index a b (x ∷ xs) h g =
    let z = h 0 (omega arith) in
    cons_ok b a x xs z.0 z.1
    (up-by-index (suc x) b xs (λ t l. (g 0 (suc t) (omega arith) (omega arith), (h (suc t) (omega arith)).1)) (λ s t l m. g (suc s) (suc t) (omega arith) (omega arith)))

-- ---- a run
module _ (ps : List ℕ) (n c i j : ℕ) (up : rising n 0 ps ≡ true) (lo : Below ps c i) (hi : Below ps (c + 256) j) where
  pub order : i ≤ j
  order = ⊎_elim (λ l. absurd (let x = lo.under j l in let y = hi.over j (omega arith) (omega (arith, lo.within)) in omega arith)) (λ l. l) (below_or j i)

  pub run_long : length (take (j - i) (drop i ps)) ≡ j - i
  run_long = length-take-le (j - i) (drop i ps) (rw (length-drop i ps) (omega (arith, hi.within, order)))

  run_at : (t : ℕ) → t < j - i → get_or (take (j - i) (drop i ps)) t 0 ≡ get_or ps (i + t) 0
  run_at t h = get_or-take (j - i) (drop i ps) t 0 h ∙ get_or-drop i ps t 0

  run_in : (t : ℕ) → t < j - i → (c ≤ get_or ps (i + t) 0) × (get_or ps (i + t) 0 < c + 256)
  run_in t h = (lo.over (i + t) (omega arith) (omega (arith, hi.within)), hi.under (i + t) (omega arith))

  run_up : rising (c + 256) c (take (j - i) (drop i ps)) ≡ true
  run_up =
      up-by-index c (c + 256) (take (j - i) (drop i ps))
      (λ t l. let l' : t < j - i = rw run_long at l in rw (run_at t l') (run_in t l'))
      (λ s t l m. let m' : t < j - i = rw run_long at m in rw (run_at s (omega arith), run_at t m') (rising-less n 0 ps (i + s) (i + t) up (omega arith) (omega (arith, hi.within))))

  run-mem : (z : ℕ) → c ≤ z → z < c + 256 → mem z (take (j - i) (drop i ps)) ≡ mem z ps
  run-mem z a b = bool_eq (mem z (take (j - i) (drop i ps))) (mem z ps)
      (λ e. let r = mem_index z (take (j - i) (drop i ps)) e in
      let l : r.0 < j - i = rw run_long at r.1 in
      let q : get_or ps (i + r.0) 0 ≡ z = sym (run_at r.0 l) ∙ r.2 in
      rw (← q) (mem-at ps (i + r.0) (omega (arith, hi.within))))
      (λ e. let r = mem_index z ps e in
      let x : i ≤ r.0 = ⊎_elim (λ l. absurd (let w = lo.under r.0 l in omega (arith, r.2))) (λ l. l) (below_or r.0 i) in
      let y : r.0 < j = ⊎_elim (λ l. l) (λ l. absurd (let w = hi.over r.0 l r.1 in omega (arith, r.2))) (below_or r.0 j) in
      let k : i + (r.0 - i) ≡ r.0 = omega arith in
      let l : r.0 - i < j - i = omega arith in
      let q : get_or (take (j - i) (drop i ps)) (r.0 - i) 0 ≡ z = run_at (r.0 - i) l ∙ ap (λ (m : ℕ). get_or ps m 0) k ∙ r.2 in
      rw (← q) (mem-at (take (j - i) (drop i ps)) (r.0 - i) (rw run_long l)))

  -- the members of the range are the run
  pub run-keep : keep (λ x. mem x ps) (from c 256) ≡ take (j - i) (drop i ps)
  run-keep =
      ext (c + 256) c (keep (λ x. mem x ps) (from c 256)) (take (j - i) (drop i ps)) (rising-keep (λ x. mem x ps) (c + 256) c 256 (omega arith)) run_up
      (λ z. ⊎_elim
      (λ l. mem-low (c + 256) c (keep (λ x. mem x ps) (from c 256)) z (rising-keep (λ x. mem x ps) (c + 256) c 256 (omega arith)) l ∙ sym (mem-low (c + 256) c (take (j - i) (drop i ps)) z run_up l))
      (λ l. ⊎_elim
      (λ m. mem-keep (λ x. mem x ps) c 256 z l m ∙ sym (run-mem z l m))
      (λ m. mem-high (c + 256) c (keep (λ x. mem x ps) (from c 256)) z (rising-keep (λ x. mem x ps) (c + 256) c 256 (omega arith)) m ∙ sym (mem-high (c + 256) c (take (j - i) (drop i ps)) z run_up m))
      (below_or z (c + 256))) (below_or z c))

-- positions back to members of container k
map_back : (k : ℕ) (lo : ℕ) (c : List ℕ) → rising 256 lo c ≡ true → map (λ x. x % 256) (map (λ j. k * 256 + j) c) ≡ c
map_back k lo [] e = refl
map_back k lo (x ∷ xs) e =
    let o = head_ok 256 lo x xs e in
    ap₂ (λ (u : ℕ) (v : List ℕ). u ∷ v) (omega (arith, o.1)) (map_back k (suc x) xs o.2)

pub run-cut : (ps : List ℕ) (k i j : ℕ) → IsSet ps → Below ps (k * 256) i → Below ps ((k + 1) * 256) j → cut ps k ≡ run ps i j
unfolding run
run-cut ps k i j up lo hi =
    let e : (k + 1) * 256 ≡ k * 256 + 256 = omega arith in
    sym (map_back k 0 (cut ps k) (cut_up ps k)) ∙ ap (map (λ x. x % 256)) (cut-shift ps k ∙ run-keep ps 2097152 (k * 256) i j up lo (rw e at hi))

pub run_length : (ps : List ℕ) (k i j : ℕ) → IsSet ps → Below ps (k * 256) i → Below ps ((k + 1) * 256) j → length (cut ps k) ≡ j - i
unfolding run
run_length ps k i j up lo hi =
    let e : (k + 1) * 256 ≡ k * 256 + 256 = omega arith in
    ap length (run-cut ps k i j up lo hi) ∙ length-map (take (j - i) (drop i ps)) (λ x. x % 256) ∙ run_long ps 2097152 (k * 256) i j up lo (rw e at hi)

pub run-order : (ps : List ℕ) (k i j : ℕ) → IsSet ps → Below ps (k * 256) i → Below ps ((k + 1) * 256) j → i ≤ j
run-order ps k i j up lo hi =
    let e : (k + 1) * 256 ≡ k * 256 + 256 = omega arith in
    order ps 2097152 (k * 256) i j up lo (rw e at hi)

-- ---- where runs begin
pub below-zero : (ps : List ℕ) → Below ps (0 * 256) 0
below-zero ps = record { within = omega arith; under = λ t l. absurd (omega arith); over = λ t l m. omega arith }

-- the next run ends where the first position is not below
pub below_next : (ps : List ℕ) (b c i j : ℕ) → IsSet ps → Below ps b i → b ≤ c → i ≤ j → j ≤ length ps → ((t : ℕ) → i ≤ t → t < j → get_or ps t 0 < c) → (j < length ps → c ≤ get_or ps j 0) → Below ps c j
below_next ps b c i j up lo h o w u v = record {
  within = w;
  under = λ t l. ⊎_elim (λ m. let x = lo.under t m in omega arith) (λ m. u t m l) (below_or t i);
  over = λ t l m. ⊎_elim (λ e. let x = v (omega arith) in rw (← e) x) (λ g. let x = v (omega arith) in let y = rising-less 2097152 0 ps j t up g m in omega arith) (eq-or-lt_of_le l);
}

-- ---- how many containers a list has: its last position is its largest
largest-last : (n lo : ℕ) (x : ℕ) (xs : List ℕ) → rising n lo (x ∷ xs) ≡ true → largest (x ∷ xs) ≡ get_or (x ∷ xs) (length xs) 0
unfolding largest
largest-last n lo x [] e = omega arith
largest-last n lo x (y ∷ ys) e =
    let o = head_ok n lo x (y ∷ ys) e in
    let p = head_ok n (suc x) y ys o.2 in
    let ih : max y (largest ys) ≡ get_or (y ∷ ys) (length ys) 0 = largest-last n (suc x) y ys o.2 in
    omega (arith, ih, p.0)

pub count-last : (ps : List ℕ) → IsSet ps → 0 < length ps → get_or ps (length ps - 1) 0 / 256 + 1 ≡ count_of ps
unfolding count_of
count-last [] up h = absurd (not-suc-le-zero h)
count-last (x ∷ xs) up h =
    let e : length (x ∷ xs) - 1 ≡ length xs = omega arith in
    rw (e, largest-last 2097152 0 x xs up)

pub count_none : (ps : List ℕ) → length ps ≡ 0 → 0 ≡ count_of ps
unfolding count_of
count_none [] e = refl
count_none (x ∷ xs) e = absurd (omega arith)

-- ---- the test of the list, position by position
pub rise-step : (lo i : ℕ) (l : List ℕ) → i < length l → rising 2097152 lo (drop i l) ≡ both (both (leb lo (get_or l i 0)) (ltb (get_or l i 0) 2097152)) (rising 2097152 (get_or l i 0 + 1) (drop (i + 1) l))
unfolding rising
rise-step lo i l h = rw (drop-cons l i 0 h, add-one i, add-one (get_or l i 0))

pub rise-low : (lo i : ℕ) (l : List ℕ) → i < length l → get_or l i 0 < lo → false ≡ rising 2097152 lo (drop i l)
rise-low lo i l h g = sym (rise-step lo i l h ∙ rw (lt-leb lo (get_or l i 0) g))

pub rise-high : (lo i : ℕ) (l : List ℕ) → i < length l → lo ≤ get_or l i 0 → 2097152 ≤ get_or l i 0 → false ≡ rising 2097152 lo (drop i l)
rise-high lo i l h g k = sym (rise-step lo i l h ∙ rw (le-leb lo (get_or l i 0) g, le-ltb (get_or l i 0) 2097152 k))

pub rise-on : (lo i : ℕ) (l : List ℕ) → i < length l → lo ≤ get_or l i 0 → get_or l i 0 < 2097152 → rising 2097152 (get_or l i 0 + 1) (drop (i + 1) l) ≡ rising 2097152 lo (drop i l)
rise-on lo i l h g k = sym (rise-step lo i l h ∙ rw (le-leb lo (get_or l i 0) g, lt-ltb (get_or l i 0) 2097152 k))

pub rise-end : (lo i : ℕ) (l : List ℕ) → length l ≤ i → true ≡ rising 2097152 lo (drop i l)
unfolding rising
rise-end lo i l h = rw (drop_of_length-le l h)

-- ---- a run, position by position
module _ (ps : List ℕ) (i j : ℕ) (o : i ≤ j) (w : j ≤ length ps) where
  slice-long : length (take (j - i) (drop i ps)) ≡ j - i
  slice-long = length-take-le (j - i) (drop i ps) (rw (length-drop i ps) (omega arith))

  slice_at : (t : ℕ) → t < j - i → get_or (take (j - i) (drop i ps)) t 0 ≡ get_or ps (i + t) 0
  slice_at t h = get_or-take (j - i) (drop i ps) t 0 h ∙ get_or-drop i ps t 0

  pub run-size : length (run ps i j) ≡ j - i
  unfolding run
  run-size = length-map (take (j - i) (drop i ps)) (λ x. x % 256) ∙ slice-long

  run-elem : (t : ℕ) → t < j - i → get_or (run ps i j) t 0 ≡ get_or ps (i + t) 0 % 256
  unfolding run
  run-elem t h = map_at (λ x. x % 256) (take (j - i) (drop i ps)) t (rw slice-long h) ∙ ap (λ (x : ℕ). x % 256) (slice_at t h)

  pub low_turn : (before out : List ℕ) (at t : ℕ) → t < j - i → at + (j - i) ≤ length before → out ≡ written before at (take t (run ps i j)) → set out (at + t) (get_or ps (i + t) 0 % 256) ≡ written before at (take (t + 1) (run ps i j))
  low_turn before out at t h room q =
      let n : length (take t (run ps i j)) ≡ t = length-take-le t (run ps i j) (rw run-size (omega arith)) in
      let m = rw n at (written-more before (take t (run ps i j)) at (get_or ps (i + t) 0 % 256) (rw n (omega arith))) in
      ap (λ (l : List ℕ). set l (at + t) (get_or ps (i + t) 0 % 256)) q ∙ m ∙ rw (add-one t, take-suc (run ps i j) t 0 (rw run-size h), run-elem t h)

  pub block-turn : (b : List ℕ) (t : ℕ) → t < j - i → Shows b (λ p. mem p (take t (run ps i j)))
      → Shows (set b (get_or ps (i + t) 0 % 256 / 8) (bit_or (get_or b (get_or ps (i + t) 0 % 256 / 8) 0) (128 / 2 ^ (get_or ps (i + t) 0 % 256 % 8)))) (λ p. mem p (take (t + 1) (run ps i j)))
  block-turn b t h g =
      let e = run-elem t h in
      rw (from-top (get_or ps (i + t) 0 % 256 % 8) (omega arith)) (rw e at (shows_more b (run ps i j) t g (rw run-size h) (rw e (omega arith))))

  pub run-whole : (t : ℕ) → j - i ≤ t → take t (run ps i j) ≡ run ps i j
  run-whole t h = take_all t (run ps i j) (rw run-size h)
