-- Forms moved together in place: those that end at or before `to` are placed, those that start at or after it are to
-- come.
-- Assumes nothing.
use mathlib.Core.Path.{◌≡◌, refl, sym, ap, ap₂, ◌∙◌}
use mathlib.Core.Logic.{◌⊎◌, inl, inr, ⊎_elim}
use mathlib.Core.Bool.{Bool, true, false}
use mathlib.Core.List.{List}
use Prim.Native.Nat.{ℕ, zero, suc, ◌+◌, ◌*◌, ◌≤◌, ◌<◌}
use native.Mathlib.Nat.{zero-add, not-suc-le-zero}
use native.Mathlib.Omega.{arith}
use borrow.Author.Tests.{le-leb, lt-leb}
use lib.ListN.{length, set, take, drop, length-set}
use lib.Dec.{leb}
use Rattle.common.specs.Outcome.{pick}
use Rattle.bitmap_spec.specs.Output.{written}
use Rattle.bitmap_spec.proofs.Window.{below_or}
use Rattle.bitmap_spec.proofs.Tally.{tally, tally-same}
use Rattle.bitmap_laws.proofs.Output.{length-written}
use Rattle.store_spec.specs.Store.{is_form, start_at, length_at, end_at, entry_at}
use Rattle.bitmap_laws.proofs.Parts.{part_length, part-before, part-after, part_in}
use Rattle.store_laws.proofs.Slots.{same_or, Lies}
use Rattle.store_laws.proofs.Changes.{start-other, start-new, length-same, end_is, entry-none}

-- ---- one number of a sum changed
tally-past : (f g : ℕ → ℕ) (n : ℕ) → ((j : ℕ) → j < n → g j ≡ f j) → tally g 0 n ≡ tally f 0 n
tally-past f g n h = tally-same g f 0 0 n (λ i l. rw (zero-add i) (h i l))

tally-change : (f g : ℕ → ℕ) (n k : ℕ) → k < n → f k ≡ 0 → ((j : ℕ) → j < n → (j ≡ k → ⊥) → g j ≡ f j)
    → tally g 0 n ≡ tally f 0 n + g k
unfolding tally
tally-change f g zero k h z e = absurd (not-suc-le-zero h)
tally-change f g (suc n) k h z e = ⊎_elim
    (λ q. let p : tally g 0 n ≡ tally f 0 n = tally-past f g n (λ j l. e j (omega arith) (λ r. omega arith)) in
    let a : g (0 + n) ≡ g k = ap g (omega arith) in
    let b : f (0 + n) ≡ 0 = ap f (let y : 0 + n ≡ k = omega arith in y) ∙ z in
    omega (arith, p, a, b))
    (λ q. let p : tally g 0 n ≡ tally f 0 n + g k = tally-change f g n k (less q) z (λ j l d. e j (omega arith) d) in
    let a : g (0 + n) ≡ f (0 + n) = e (0 + n) (omega arith) (λ r. q (sym (omega arith))) in
    omega (arith, p, a)) (same_or k n)
  where
    less : (k ≡ n → ⊥) → k < n
    less q = ⊎_elim (λ a. a) (λ a. absurd (q (omega arith))) (below_or k n)

-- what slot j adds to the bytes placed
unfoldable pub placed_at : List ℕ → ℕ → ℕ → ℕ
placed_at dir to j = pick (leb (end_at dir j) to) (length_at dir j) 0

placed-yes : (dir : List ℕ) (to j : ℕ) → end_at dir j ≤ to → placed_at dir to j ≡ length_at dir j
unfolding placed_at
placed-yes dir to j h = rw (le-leb _ _ h)

placed-not : (dir : List ℕ) (to j : ℕ) → to < end_at dir j → placed_at dir to j ≡ 0
unfolding placed_at
placed-not dir to j h = rw (lt-leb _ _ h)

placed-none : (dir : List ℕ) (to j : ℕ) → length_at dir j ≡ 0 → placed_at dir to j ≡ 0
unfolding placed_at
placed-none dir to j h = rw h (go (leb (end_at dir j) to))
  where
    go : (b : Bool) → ◌≡◌ {A = ℕ} (pick b 0 0) 0
    go true = refl
    go false = refl

-- ---- between two moves
pub record Packing (n : ℕ) (dir₀ buf₀ dir buf : List ℕ) (to : ℕ) : Type 0 where
  pub dirs : length dir ≡ length dir₀
  pub bytes : length buf ≡ length buf₀
  pub lengths : (j : ℕ) → length_at dir j ≡ length_at dir₀ j
  pub held : (j : ℕ) → j < n → 0 < length_at dir j → entry_at dir buf j ≡ entry_at dir₀ buf₀ j
  pub sides : (j : ℕ) → j < n → 0 < length_at dir j → (end_at dir j ≤ to) ⊎ (to ≤ start_at dir j)
  pub inside : (j : ℕ) → j < n → 0 < length_at dir j → end_at dir j ≤ length buf
  pub clear : (k j : ℕ) → k < n → j < n → (k ≡ j → ⊥) → 0 < length_at dir k → 0 < length_at dir j
      → (end_at dir k ≤ start_at dir j) ⊎ (end_at dir j ≤ start_at dir k)
  pub sum : tally (placed_at dir to) 0 n ≡ to

-- the next to move: of those to come the one that starts first
pub record Next (n : ℕ) (dir : List ℕ) (to k : ℕ) : Type 0 where
  pub some : 0 < length_at dir k
  pub comes : to ≤ start_at dir k
  pub first : (j : ℕ) → j < n → 0 < length_at dir j → to ≤ start_at dir j → start_at dir k ≤ start_at dir j

tally-zero : (f : ℕ → ℕ) (n : ℕ) → ((j : ℕ) → j < n → f j ≡ 0) → tally f 0 n ≡ 0
unfolding tally
tally-zero f zero h = refl
tally-zero f (suc n) h = omega (arith, tally-zero f n (λ j l. h j (omega arith)), h (0 + n) (omega arith))

pub pack-start : (n : ℕ) (dir buf : List ℕ) → Lies n dir buf → Packing n dir buf dir buf 0
pack-start n dir buf s = record {
  dirs = refl;
  bytes = refl;
  lengths = λ j. refl;
  held = λ j h l. refl;
  sides = λ j h l. inr (omega arith);
  inside = s.inside;
  clear = s.clear;
  sum =
      tally-zero (placed_at dir 0) n
      (λ j h. ⊎_elim (λ l. placed-not dir 0 j (omega (arith, end_is dir j)))
      (λ l. placed-none dir 0 j (omega arith)) (below_or 0 (length_at dir j)));
}

module _ (n : ℕ) (dir₀ buf₀ dir buf : List ℕ) (to k : ℕ) (g : Packing n dir₀ buf₀ dir buf to) (h : k < n)
    (x : Next n dir to k) (len : length dir ≡ 2 * n) where
  pub moved_inside : start_at dir k + length_at dir k ≤ length buf
  moved_inside = omega (arith, end_is dir k, g.inside k h x.some)

  part : List ℕ
  part = take (length_at dir k) (drop (start_at dir k) buf)

  part-long : length (take (length_at dir k) (drop (start_at dir k) buf)) ≡ length_at dir k
  part-long = part_length buf (start_at dir k) (length_at dir k) moved_inside

  fits : to + length (take (length_at dir k) (drop (start_at dir k) buf)) ≤ length buf
  fits = omega (arith, part-long, moved_inside, x.comes)

  new-start : (j : ℕ) → j ≡ k → start_at (set dir (2 * k) to) j ≡ to
  new-start j q = ap (λ (y : ℕ). start_at (set dir (2 * k) to) y) q ∙ start-new dir k to (omega arith)

  old-start : (j : ℕ) → (j ≡ k → ⊥) → start_at (set dir (2 * k) to) j ≡ start_at dir j
  old-start j d = start-other dir k to j d

  size : (j : ℕ) → length_at (set dir (2 * k) to) j ≡ length_at dir j
  size j = length-same dir k to j

  new-end : (j : ℕ) → j ≡ k → end_at (set dir (2 * k) to) j ≡ to + length_at dir k
  new-end j q = end_is (set dir (2 * k) to) j ∙ ap₂ (λ (a b : ℕ). a + b) (new-start j q) (size j ∙ ap (length_at dir) q)

  old-end : (j : ℕ) → (j ≡ k → ⊥) → end_at (set dir (2 * k) to) j ≡ end_at dir j
  old-end j d = end_is (set dir (2 * k) to) j ∙ ap₂ (λ (a b : ℕ). a + b) (old-start j d) (size j) ∙ sym (end_is dir j)

  -- another one to come starts after the one that moves
  later : (j : ℕ) → j < n → 0 < length_at dir j → (j ≡ k → ⊥) → to ≤ start_at dir j
      → start_at dir k + length_at dir k ≤ start_at dir j
  later j a l d c = ⊎_elim
      (λ p. omega (arith, end_is dir k))
      (λ p. absurd (omega (arith, end_is dir j, x.first j a l c))) (g.clear k j h a (λ q. d (sym q)) x.some l)

  far : (j : ℕ) → j < n → 0 < length_at dir j → (j ≡ k → ⊥) → (end_at dir j ≤ to) ⊎ (to + length_at dir k ≤ start_at dir j)
  far j a l d = ⊎_elim inl (λ c. inr (omega (arith, later j a l d c, x.comes))) (g.sides j a l)

  new-entry : (j : ℕ) → j ≡ k
      → entry_at (set dir (2 * k) to) (written buf to (take (length_at dir k) (drop (start_at dir k) buf))) j
      ≡ entry_at dir buf j
  unfolding entry_at
  new-entry j q =
      let e : take (length (take (length_at dir k) (drop (start_at dir k) buf)))
      (drop to (written buf to (take (length_at dir k) (drop (start_at dir k) buf))))
      ≡ take (length_at dir k) (drop (start_at dir k) buf) =
      part_in buf (take (length_at dir k) (drop (start_at dir k) buf)) to fits in
      rw (new-start j q, size j)
      (ap (λ (y : ℕ). take y (drop to (written buf to (take (length_at dir k) (drop (start_at dir k) buf)))))
      (ap (length_at dir) q ∙ sym part-long) ∙ e ∙ ap₂ (λ (a b : ℕ). take a (drop b buf))
      (ap (length_at dir) (sym q)) (ap (start_at dir) (sym q)))

  old-entry : (j : ℕ) → j < n → 0 < length_at dir j → (j ≡ k → ⊥)
      → entry_at (set dir (2 * k) to) (written buf to (take (length_at dir k) (drop (start_at dir k) buf))) j
      ≡ entry_at dir buf j
  unfolding entry_at
  old-entry j a l d = rw (old-start j d, size j) (⊎_elim
      (λ p.
      part-before buf (take (length_at dir k) (drop (start_at dir k) buf)) to fits (start_at dir j) (length_at dir j)
      (omega (arith, end_is dir j)))
      (λ p. part-after buf (take (length_at dir k) (drop (start_at dir k) buf)) to fits (start_at dir j) (length_at dir j)
      (omega (arith, part-long)) (omega (arith, end_is dir j, g.inside j a l)))
      (far j a l d))

  long : length (written buf to (take (length_at dir k) (drop (start_at dir k) buf))) ≡ length buf
  long = length-written buf (take (length_at dir k) (drop (start_at dir k) buf)) to fits

  had : (j : ℕ) → 0 < length_at (set dir (2 * k) to) j → 0 < length_at dir j
  had j l = omega (arith, size j)

  counts : (j : ℕ) → j < n → (j ≡ k → ⊥) → placed_at (set dir (2 * k) to) (to + length_at dir k) j ≡ placed_at dir to j
  counts j a d = ⊎_elim
      (λ l. ⊎_elim
      (λ p.
      placed-yes (set dir (2 * k) to) (to + length_at dir k) j (omega (arith, old-end j d)) ∙ size j ∙ sym
      (placed-yes dir to j p))
      (λ p. placed-not (set dir (2 * k) to) (to + length_at dir k) j (omega (arith, old-end j d, end_is dir j))
      ∙ sym (placed-not dir to j (omega (arith, end_is dir j))))
      (far j a l d))
      (λ l. placed-none (set dir (2 * k) to) (to + length_at dir k) j (omega (arith, size j))
      ∙ sym (placed-none dir to j (omega arith)))
      (below_or 0 (length_at dir j))

  total : tally (placed_at (set dir (2 * k) to) (to + length_at dir k)) 0 n ≡ to + length_at dir k
  total =
      tally-change (placed_at dir to) (placed_at (set dir (2 * k) to) (to + length_at dir k)) n k h
      (placed-not dir to k (omega (arith, end_is dir k, x.some, x.comes))) counts
      ∙ ap₂ (λ (a b : ℕ). a + b) g.sum
      (placed-yes (set dir (2 * k) to) (to + length_at dir k) k (omega (arith, new-end k refl)) ∙ size k)

  pub pack-step : Packing n dir₀ buf₀ (set dir (2 * k) to)
      (written buf to (take (length_at dir k) (drop (start_at dir k) buf))) (to + length_at dir k)
  pack-step = record {
    dirs = length-set dir (2 * k) to ∙ g.dirs;
    bytes = long ∙ g.bytes;
    lengths = λ j. size j ∙ g.lengths j;
    held =
        λ j a l. ⊎_elim (λ q. new-entry j q) (λ q. old-entry j a (had j l) q) (same_or j k) ∙ g.held j a (had j l);
    sides =
        λ j a l.
        ⊎_elim (λ q. inl (omega (arith, new-end j q)))
        (λ q.
        ⊎_elim (λ p. inl (omega (arith, old-end j q))) (λ p. inr (omega (arith, old-start j q)))
        (far j a (had j l) q))
        (same_or j k);
    inside =
        λ j a l.
        ⊎_elim (λ q. omega (arith, new-end j q, long, moved_inside, x.comes))
        (λ q. omega (arith, old-end j q, long, g.inside j a (had j l))) (same_or j k);
    clear = λ i j a b d li lj. ⊎_elim
        (λ p. let q : j ≡ k → ⊥ = λ r. d (p ∙ sym r) in
        ⊎_elim (λ y. inr (omega (arith, new-start i p, old-end j q)))
        (λ y. inl (omega (arith, new-end i p, old-start j q))) (far j b (had j lj) q))
        (λ p. ⊎_elim
        (λ q.
        ⊎_elim (λ y. inl (omega (arith, new-start j q, old-end i p)))
        (λ y. inr (omega (arith, new-end j q, old-start i p))) (far i a (had i li) p))
        (λ q. rw (old-end i p, old-end j q, old-start i p, old-start j q) (g.clear i j a b d (had i li) (had j lj)))
        (same_or j k)) (same_or i k);
    sum = total;
  }

-- ---- all are placed
pub record Packed (n : ℕ) (dir₀ buf₀ dir buf : List ℕ) (to : ℕ) : Type 0 where
  pub lies : Lies n dir buf
  pub ends : (j : ℕ) → j < n → 0 < length_at dir j → end_at dir j ≤ to
  pub sum : to ≡ tally (length_at dir₀) 0 n
  pub lengths : (j : ℕ) → length_at dir j ≡ length_at dir₀ j
  pub held : (j : ℕ) → j < n → entry_at dir buf j ≡ entry_at dir₀ buf₀ j
  pub dirs : length dir ≡ length dir₀
  pub bytes : length buf ≡ length buf₀

pub pack-end : (n : ℕ) (dir₀ buf₀ dir buf : List ℕ) (to : ℕ) → Lies n dir₀ buf₀ → Packing n dir₀ buf₀ dir buf to
    → ((j : ℕ) → j < n → 0 < length_at dir j → start_at dir j < to) → Packed n dir₀ buf₀ dir buf to
pack-end n dir₀ buf₀ dir buf to s g none = record {
  lies = record {
    inside = g.inside;
    forms = λ j a l. ap is_form (g.held j a l) ∙ s.forms j a (omega (arith, g.lengths j));
    clear = g.clear;
  };
  ends = ends;
  sum =
      sym g.sum
      ∙ tally-past (length_at dir₀) (placed_at dir to) n
      (λ j a. ⊎_elim (λ l. placed-yes dir to j (ends j a l) ∙ g.lengths j)
      (λ l. placed-none dir to j (omega arith) ∙ sym (omega (arith, g.lengths j))) (below_or 0 (length_at dir j)));
  lengths = g.lengths;
  held =
      λ j a.
      ⊎_elim (λ l. g.held j a l)
      (λ l. entry-none dir buf j (omega arith) ∙ sym (entry-none dir₀ buf₀ j (omega (arith, g.lengths j))))
      (below_or 0 (length_at dir j));
  dirs = g.dirs;
  bytes = g.bytes;
}
  where
    ends : (j : ℕ) → j < n → 0 < length_at dir j → end_at dir j ≤ to
    ends j a l = ⊎_elim (λ p. p) (λ p. absurd (omega (arith, none j a l))) (g.sides j a l)

-- ---- looking for the next
pub record Best (n : ℕ) (dir : List ℕ) (to j best : ℕ) : Type 0 where
  pub within : best ≤ n
  pub none : best ≡ n → (i : ℕ) → i < j → 0 < length_at dir i → start_at dir i < to
  pub some : best < n → 0 < length_at dir best
  pub comes : best < n → to ≤ start_at dir best
  pub first : best < n → (i : ℕ) → i < j → 0 < length_at dir i → to ≤ start_at dir i → start_at dir best ≤ start_at dir i

pub best-start : (n : ℕ) (dir : List ℕ) (to : ℕ) → Best n dir to 0 n
best-start n dir to =
    record {
      within = omega arith;
      none = λ q i a. absurd (not-suc-le-zero a);
      some = λ a. absurd (omega arith);
      comes = λ a. absurd (omega arith);
      first = λ a. absurd (omega arith);
    }

module _ (n : ℕ) (dir : List ℕ) (to j best : ℕ) (g : Best n dir to j best) (h : j < n) where
  -- slot j does not count
  pub best-skip : (0 < length_at dir j → start_at dir j < to) → Best n dir to (j + 1) best
  best-skip c = record {
    within = g.within;
    none = λ q i a l. ⊎_elim (λ b. g.none q i b l)
        (λ b. let e : i ≡ j = omega arith in rw e (c (rw e at l))) (below_or i j);
    some = g.some;
    comes = g.comes;
    first = λ m i a l p. ⊎_elim (λ b. g.first m i b l p)
        (λ b. let e : i ≡ j = omega arith in absurd (let y = c (rw e at l)
        in let z : to ≤ start_at dir j = rw e at p in omega arith)) (below_or i j);
  }

  -- slot j starts no earlier
  pub best-keep : best < n → start_at dir best ≤ start_at dir j → Best n dir to (j + 1) best
  best-keep m c = record {
    within = g.within;
    none = λ q. absurd (omega arith);
    some = g.some;
    comes = g.comes;
    first = λ m i a l p. ⊎_elim (λ b. g.first m i b l p) (λ b. let e : i ≡ j = omega arith in rw e c) (below_or i j);
  }

  -- slot j is the first so far
  pub best-new : 0 < length_at dir j → to ≤ start_at dir j → (best < n → start_at dir j ≤ start_at dir best)
      → Best n dir to (j + 1) j
  best-new l p c = record {
    within = omega arith;
    none = λ q. absurd (omega arith);
    some = λ m. l;
    comes = λ m. p;
    first = λ m i a li pi. ⊎_elim
        (λ b.
        ⊎_elim (λ y. omega (arith, c y, g.first y i b li pi))
        (λ y. absurd (omega (arith, g.none (omega (arith, g.within)) i b li))) (below_or best n))
        (λ b. let e : i ≡ j = omega arith in rw e (omega arith)) (below_or i j);
  }

pub best-next : (n : ℕ) (dir : List ℕ) (to k : ℕ) → Best n dir to n k → k < n → Next n dir to k
best-next n dir to k g h = record { some = g.some h; comes = g.comes h; first = g.first h }
