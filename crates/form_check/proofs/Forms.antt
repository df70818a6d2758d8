-- Accepted bytes are the form of their set exactly if their descriptors are settled and their chunks are written ones:
-- an accepted header and accepted containers are the form's own, and what is written is read back.
-- Assumes nothing.
use mathlib.Core.Path.{◌≡◌, refl, sym, ap, ◌∙◌}
use mathlib.Core.Logic.{⊎_elim}
use mathlib.Core.Bool.{Bool, true, false}
use mathlib.Core.List.{List, [], ◌∷◌, ◌++◌, map}
use Prim.Native.Nat.{ℕ, zero, suc, ◌+◌, ◌-◌, ◌*◌, ◌/◌, ◌%◌, ◌≤◌, ◌<◌, min}
use native.Mathlib.Omega.{arith}
use borrow.Author.Tests.{leb-true, le-leb, ltb-true, lt-ltb, eqb-true, ne_eqb}
use lib.Dec.{leb, ltb, eqb}
use lib.ListN.{length, get_or, take, drop, length-map, take-append-drop}
use lib.Seq.{get_or-take, length-take-le, take_at, drop_at, drop-drop}
use Rattle.common.specs.Outcome.{pick, refused, found}
use Rattle.common.specs.Lists.{every}
use Rattle.common.specs.Bytes.{little_at}
use Rattle.common.proofs.Lists.{both_left, both_right}
use Rattle.common.proofs.Outcomes.{clash, same-found, then_found}
use Rattle.bitmap_spec.specs.Judge.{Chunk, chunks, judge, judge_body}
use Rattle.bitmap_spec.specs.Form.{cost, form, write_chunks}
use Rattle.bitmap_spec.proofs.Reading.{need-found}
use Rattle.bitmap_spec.proofs.Window.{below_or}
use Rattle.bitmap_laws.specs.Widths.{chosen_by}
use Rattle.bitmap_laws.proofs.Round.{header, six-is, count-is}
use Rattle.bitmap_laws.proofs.Values.{AllLe, chosen-le, map_at}
use Rattle.bitmap_laws.proofs.Written.{chunks-back, chunks-by}
use Rattle.judge.specs.Post.{ReadView}
use Rattle.bitmap_rewrite.specs.Settled.{Settled, laid}
use Rattle.bitmap_rewrite.proofs.Settling.{form-laid}
use Rattle.bitmap_rewrite.proofs.Laying.{ready-many, ready-fine, ready-few}
use Rattle.store_spec.specs.Store.{same, is_form}
use Rattle.store_laws.proofs.Same.{same_refl, same_true, same_not}
use Rattle.form_check.specs.Heads.{is_settled, heads_are}
use Rattle.form_check.proofs.Heads.{heads-if, chunks-more}

-- ---- settled descriptors
each : (f : ℕ → Bool) (l : List ℕ) (i : ℕ) → every f l ≡ true → i < length l → f (get_or l i 0) ≡ true
unfolding every
each f [] i e h = absurd (omega arith)
each f (x ∷ xs) zero e h = both_left (f x) _ e
each f (x ∷ xs) (suc i) e h = each f xs i (both_right (f x) _ e) (omega arith)

all : (f : ℕ → Bool) (l : List ℕ) → ((i : ℕ) → i < length l → f (get_or l i 0) ≡ true) → every f l ≡ true
unfolding every
all f [] h = refl
all f (x ∷ xs) h = rw (h 0 (omega arith)) (all f xs (λ i l. h (suc i) (omega arith)))

settled-low : (ds : List ℕ) → is_settled ds ≡ true → (i : ℕ) → i < length ds → get_or ds i 0 ≤ 32
unfolding is_settled
settled-low ds e i l = leb-true _ 32 (each (λ d. leb d 32) ds i (both_left (every (λ d. leb d 32) ds) _ e) l)

settled-last : (ds : List ℕ) → is_settled ds ≡ true → 0 < length ds → get_or ds (length ds - 1) 0 ≡ 0 → ⊥
unfolding is_settled
settled-last ds e l z =
    let t = rw (ne_eqb (length ds) 0 (λ q. omega arith)) at (both_right (every (λ d. leb d 32) ds) _ e) in
    omega (arith, ltb-true 0 (get_or ds (length ds - 1) 0) t)

settled_is : (ds : List ℕ) → ((i : ℕ) → i < length ds → get_or ds i 0 ≤ 32)
    → (0 < length ds → get_or ds (length ds - 1) 0 ≡ 0 → ⊥) → is_settled ds ≡ true
unfolding is_settled
settled_is ds low last = rw (all (λ d. leb d 32) ds (λ i l. le-leb _ 32 (low i l))) (go (length ds) last)
  where
    positive : (x : ℕ) → (x ≡ 0 → ⊥) → 0 < x
    positive x h = omega arith

    go : (n : ℕ) → (0 < n → get_or ds (n - 1) 0 ≡ 0 → ⊥) → pick (eqb n 0) true (ltb 0 (get_or ds (n - 1) 0)) ≡ true
    go zero h = refl
    go (suc n) h =
        let some = positive (get_or ds (suc n - 1) 0) (h (omega arith)) in
        rw (ne_eqb (suc n) 0 (λ q. omega arith)) (lt-ltb 0 (get_or ds (suc n - 1) 0) some)

-- descriptors that are levelled can be settled: the last ones that are 0 are dropped
settles : (d d' : List ℕ) (n : ℕ) → ((k : ℕ) → k < n → get_or d' k 0 ≡ min (get_or d k 0) 32)
    → (m : ℕ) × Settled d d' n m
settles d d' zero level = (
  0,
  record {
    levelled = level;
    trimmed =
        record { within = omega arith; zeros = λ k h g. absurd (omega arith); last = λ h. absurd (omega arith) };
  },
)
settles d d' (suc n) level =
    ⊎_elim some (none (settles d d' n (λ k l. level k (omega arith)))) (below_or 0 (get_or d' n 0))
  where
    some : 0 < get_or d' n 0 → (m : ℕ) × Settled d d' (suc n) m
    some p = (
      suc n,
      record {
        levelled = level;
        trimmed = record {
          within = omega arith;
          zeros = λ k h g. absurd (omega arith);
          last = λ h q. let e : suc n - 1 ≡ n = omega arith in absurd (omega (arith, rw e at q));
        };
      },
    )

    none : (m : ℕ) × Settled d d' n m → get_or d' n 0 ≤ 0 → (m : ℕ) × Settled d d' (suc n) m
    none r p = (
      r.0,
      record {
        levelled = level;
        trimmed = record {
          within = omega (arith, r.1.trimmed.within);
          zeros = λ k h g. ⊎_elim (λ b. r.1.trimmed.zeros k h b)
              (λ b. let e : n ≡ k = omega arith in rw (← e) (omega arith)) (below_or k n);
          last = r.1.trimmed.last;
        };
      },
    )

-- ---- an accepted header
heads-of : (s l : List ℕ) → judge s ≡ found l → (6 ≤ length s) × (get_or s 0 0 ≡ 1) × (little_at s 1 3 ≡ length l)
unfolding judge judge_body
heads-of s l e =
    let a = need-found _ _ _ l e in
    let b = need-found _ _ _ l a.1 in
    let c = then_found (chunks s 6 [] (little_at s 4 2 / 256) (little_at s 4 2 % 256)) (judge_body s) l
    (need-found _ _ _ l b.1).1 in
    let g = need-found _ _ _ l (need-found _ _ _ l (need-found _ _ _ l c.1.1).1).1 in
    (leb-true _ _ a.0, eqb-true _ _ b.0, eqb-true _ _ g.0 ∙ ap length (same-found g.1))

six-first : (s : List ℕ) → 6 ≤ length s
    → s ≡ get_or s 0 0 ∷ get_or s 1 0 ∷ get_or s 2 0 ∷ get_or s 3 0 ∷ get_or s 4 0 ∷ get_or s 5 0 ∷ drop 6 s
six-first [] h = absurd (omega arith)
six-first (a ∷ []) h = absurd (omega arith)
six-first (a ∷ b ∷ []) h = absurd (omega arith)
six-first (a ∷ b ∷ c ∷ []) h = absurd (omega arith)
six-first (a ∷ b ∷ c ∷ d ∷ []) h = absurd (omega arith)
six-first (a ∷ b ∷ c ∷ d ∷ e ∷ []) h = absurd (omega arith)
six-first (a ∷ b ∷ c ∷ d ∷ e ∷ f ∷ t) h = refl

header_is : (s : List ℕ) (card n : ℕ) → ((k : ℕ) → get_or s k 0 < 256) → 6 ≤ length s → get_or s 0 0 ≡ 1
    → little_at s 1 3 ≡ card → little_at s 4 2 ≡ n → s ≡ header card n ++ drop 6 s
unfolding header little_at
header_is s card n small room v c e =
    let a : card % 256 ≡ get_or s 1 0 = omega (arith, small 1) in
    let q : card / 256 ≡ get_or s 2 0 + 256 * get_or s 3 0 = omega (arith, small 1) in
    let b : card / 256 % 256 ≡ get_or s 2 0 = rw q (omega (arith, small 2)) in
    let u : card / 256 / 256 ≡ get_or s 3 0 = rw q (omega (arith, small 2)) in
    let f : card / 256 / 256 % 256 ≡ get_or s 3 0 = rw u (omega (arith, small 3)) in
    let g : n % 256 ≡ get_or s 4 0 = omega (arith, small 4) in
    let r : n / 256 ≡ get_or s 5 0 = omega (arith, small 4) in
    let h : n / 256 % 256 ≡ get_or s 5 0 = rw r (omega (arith, small 5)) in
    six-first s room ∙ rw (v, a, b, f, g, h)

-- ---- accepted bytes that are viewed
module _ (s d l : List ℕ) (n start : ℕ) (j : judge s ≡ found l) (v : ReadView s d n start l)
    (small : (k : ℕ) → get_or s k 0 < 256) where
  many : length (take n d) ≡ n
  many = length-take-le n d v.view.long

  after : 6 ≤ start
  after = (chunks-more s small 6 [] (n / 256) (n % 256) _ v.read).2

  parts : s ≡ header (length l) n ++ (take (start - 6) (drop 6 s) ++ drop start s)
  parts =
      let h = heads-of s l j in
      let e : 6 + (start - 6) ≡ start = omega (arith, after) in
      let body = rw (drop-drop (start - 6) 6 s, e) at (take-append-drop (start - 6) (drop 6 s)) in
      header_is s (length l) n small h.0 h.1 h.2 v.count
      ∙ ap (λ (t : List ℕ). header (length l) n ++ t) (sym body)

  -- what settled descriptors and written chunks make
  laid-is : is_settled (take n d) ≡ true → form l ≡ laid s start (take n d) (length l)
  laid-is e =
      form-laid s d d l n start n (length l) j v.view small refl refl (record {
        levelled = λ k h. let low = settled-low (take n d) e k (rw many h) in
            omega (arith, low, get_or-take n d k 0 h);
        trimmed = record {
          within = omega arith;
          zeros = λ k h g. absurd (omega arith);
          last = λ h z. settled-last (take n d) e (rw many h) (rw many (get_or-take n d (n - 1) 0 (omega arith) ∙ z));
        };
      })

  is-form : is_settled (take n d) ≡ true → take (start - 6) (drop 6 s) ≡ write_chunks (n / 256) (take n d) → s ≡ form l
  unfolding laid
  is-form e w =
      let own = rw w at parts in
      let written = rw many at (laid-is e) in
      own ∙ sym written

  -- ---- the other way round: the form is laid of settled descriptors, and they are read back
  level : List ℕ
  level = map (λ x. min x 32) d

  level-at : (k : ℕ) → k < n → get_or level k 0 ≡ min (get_or d k 0) 32
  unfolding level
  level-at k h = map_at (λ x. min x 32) d k (omega (arith, v.view.long))

  level-long : length level ≡ length d
  unfolding level
  level-long = length-map d (λ x. min x 32)

  module _ (m : ℕ) (t : Settled d level n m) (e : s ≡ form l) where
    left : length (take m level) ≡ m
    left = ready-many s d level l n start m (length l) 0 j v.view small refl level-long t

    whole : s ≡ header (length l) m ++ (write_chunks (m / 256) (take m level) ++ drop start s)
    unfolding laid
    whole =
        let f = form-laid s d level l n start m (length l) j v.view small refl level-long t in
        e ∙ rw left at f

    few : m ≤ 8192
    few = ready-few s d level l n start m (length l) 0 j v.view small refl level-long t

    fine : AllLe 63 (take m level)
    fine = ready-fine s d level l n start m (length l) 0 j v.view small refl level-long t

    same_count : m ≡ n
    same_count =
        sym (count-is (length l) m (write_chunks (m / 256) (take m level) ++ drop start s) (omega (arith, few)))
        ∙ sym (ap (λ (x : List ℕ). little_at x 4 2) whole) ∙ v.count

    read_back : chunks s 6 [] (m / 256) (m % 256)
        ≡ found (record { descs = take m level; next = 6 + length (write_chunks (m / 256) (take m level)) })
    read_back =
        let back = chunks-back (λ i. chosen_by cost) (λ i. chosen-le cost) (header (length l) m) (drop start s) []
        (m / 256) (m % 256) (take m level) fine (omega (arith, left)) (omega arith) in
        let read = rw (← chunks-by (m / 256) (take m level), six-is (length l) m) at back in
        ap (λ (x : List ℕ). chunks x 6 [] (m / 256) (m % 256)) whole ∙ read

    same_read : (take n d ≡ take n level) × (start ≡ 6 + length (write_chunks (n / 256) (take n level)))
    same_read =
        let z = same-found (sym v.read ∙ rw same_count at read_back) in
        (ap (λ (x : Chunk). x.descs) z, ap (λ (x : Chunk). x.next) z)

    settled : is_settled (take n d) ≡ true
    settled =
        let long : length (take n level) ≡ n = rw same_count at left in
        let low : (i : ℕ) → i < length (take n level) → get_or (take n level) i 0 ≤ 32 =
        λ i h. let k : i < n = rw long at h in
        omega (arith, get_or-take n level i 0 k, level-at i k) in
        let last : 0 < length (take n level) → get_or (take n level) (length (take n level) - 1) 0 ≡ 0 → ⊥ =
        λ h z. let k : 0 < n = rw long at h in
        let y : get_or level (n - 1) 0 ≡ 0 = sym (get_or-take n level (n - 1) 0 (omega arith)) ∙ rw long at z in
        t.trimmed.last (rw same_count k) (rw same_count y) in
        rw same_read.0 (settled_is (take n level) low last)

    written : take (start - 6) (drop 6 s) ≡ write_chunks (n / 256) (take n d)
    written =
        let own : s ≡ header (length l) n ++ (write_chunks (n / 256) (take n level) ++ drop start s) =
        rw same_count at whole in
        let body : drop 6 s ≡ write_chunks (n / 256) (take n level) ++ drop start s =
        ap (drop 6) own ∙ drop_at (header (length l) n) _ 6 (six-is (length l) n) in
        rw same_read.0 (ap (take (start - 6)) body
        ∙ take_at (write_chunks (n / 256) (take n level)) (drop start s) (start - 6) (omega (arith, same_read.1)))

  pub form-if : (s ≡ form l
      → (is_settled (take n d) ≡ true) × (take (start - 6) (drop 6 s) ≡ write_chunks (n / 256) (take n d)))
      × ((is_settled (take n d) ≡ true) × (take (start - 6) (drop 6 s) ≡ write_chunks (n / 256) (take n d)) → s ≡ form l)
  form-if =
      let r = settles d level n level-at in
      (λ e. (settled r.0 r.1 e, written r.0 r.1 e), λ f. is-form f.0 f.1)

  -- ---- as tests
  form-same : is_form s ≡ same s (form l)
  unfolding is_form
  form-same = rw j

  pub form-heads : is_settled (take n d) ≡ true → heads_are s 6 (n / 256) (take n d) ≡ is_form s
  form-heads e =
      let chunks-if = heads-if s small 6 [] (n / 256) (n % 256) (take n d) start v.read (omega arith)
      (omega (arith, many)) in
      rw form-same (as-test (heads_are s 6 (n / 256) (take n d)) (same s (form l))
      (λ h. rw (← form-if.1 (e, chunks-if.0 h)) (same_refl s))
      (λ h. chunks-if.1 (form-if.0 (same_true s (form l) h)).1))
    where
      as-test : (a b : Bool) → (a ≡ true → b ≡ true) → (b ≡ true → a ≡ true) → a ≡ b
      as-test true b f g = sym (f refl)
      as-test false true f g = g refl
      as-test false false f g = refl

  pub form-unsettled : is_settled (take n d) ≡ false → false ≡ is_form s
  form-unsettled e =
      rw form-same (sym (same_not s (form l)
      (λ f. clash (let z : false ≡ true = sym e ∙ (form-if.0 f).0 in cc))))

pub form-refused : (s : List ℕ) (m : ℕ) → judge s ≡ refused m → false ≡ is_form s
unfolding is_form
form-refused s m e = rw e
