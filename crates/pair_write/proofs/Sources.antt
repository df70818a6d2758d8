-- A container of the result takes no more bytes than the two that it is made of, so all of them take no more than both
-- bitmaps' containers.
-- Assumes nothing.
use mathlib.Core.Path.{◌≡◌, refl, ap}
use mathlib.Core.Logic.{⊎_elim}
use mathlib.Core.Bool.{Bool, true, false}
use mathlib.Core.List.{List, [], ◌∷◌, ◌++◌, map}
use Prim.Native.Nat.{ℕ, zero, suc, ◌+◌, ◌-◌, ◌*◌, ◌≤◌, ◌<◌, min}
use native.Mathlib.Numerals.{add-one}
use native.Mathlib.Omega.{arith}
use borrow.Author.Tests.{eqb-true, ne_eqb, lt-ltb}
use lib.Dec.{eqb}
use lib.ListN.{length, length-append, length-take, take, drop}
use lib.Seq.{length-take-le}
use Rattle.common.specs.Lists.{keep, from, mem}
use Rattle.common.specs.Outcome.{pick, one}
use Rattle.bitmap_spec.specs.Form.{cut, write_container, write_containers}
use Rattle.bitmap_spec.specs.Judge.{container, size_of}
use Rattle.bitmap_spec.specs.Sets.{holds}
use Rattle.bitmap_spec.specs.declared.Operation.{Operation}
use Rattle.bitmap_spec.proofs.Window.{below_or}
use Rattle.bitmap_laws.proofs.Length.{sum-le}
use Rattle.bitmap_laws.proofs.Sets.{neither}
use Rattle.bitmap_laws.proofs.Stored.{size_low, size-high}
use Rattle.form_write.proofs.Trimming.{cells-more, no_cells, write-size}
use Rattle.pair_write.specs.Sides.{desc_at, place_at, pair_holds, pair_members, Roomy, result_of}
use Rattle.judge.specs.declared.set.Set.{Set}
use Rattle.pair_write.proofs.Pairs.{place-start, place-next, side-room}
use Rattle.pair_write.proofs.Result.{cut-pair}

-- ---- members counted
count_none : (f : ℕ → Bool) (k : ℕ) → length (keep f (from k 0)) ≡ 0
unfolding keep from
count_none f k = refl

count-cons : (f : ℕ → Bool) (k n : ℕ) → length (keep f (from k (suc n))) ≡ one (f k) + length (keep f (from (suc k) n))
unfolding keep from
count-cons f k n = go (f k)
  where
    go : (b : Bool)
        → length (pick b (k ∷ keep f (from (suc k) n)) (keep f (from (suc k) n)))
        ≡ one b + length (keep f (from (suc k) n))
    go true = omega arith
    go false = omega arith

one-most : (b : Bool) → one b ≤ 1
one-most true = omega arith
one-most false = omega arith

-- where each test that holds is one of two others
count-two : (f g h : ℕ → Bool) → ((j : ℕ) → one (f j) ≤ one (g j) + one (h j)) → (k n : ℕ)
    → length (keep f (from k n)) ≤ length (keep g (from k n)) + length (keep h (from k n))
count-two f g h p k zero = omega (arith, count_none f k)
count-two f g h p k (suc n) =
    omega (arith, count-cons f k n, count-cons g k n, count-cons h k n, p k, count-two f g h p (suc k) n)

count_past : (x k n : ℕ) → x < k → length (keep (λ j. eqb j x) (from k n)) ≡ 0
count_past x k zero h = count_none (λ j. eqb j x) k
count_past x k (suc n) h =
    let z : one (eqb k x) ≡ 0 = ap one (ne_eqb k x (λ e. omega arith)) in
    omega (arith, count-cons (λ j. eqb j x) k n, z, count_past x (suc k) n (omega arith))

count-one : (x k n : ℕ) → length (keep (λ j. eqb j x) (from k n)) ≤ 1
count-one x k zero = omega (arith, count_none (λ j. eqb j x) k)
count-one x k (suc n) = go (eqb k x) refl (count-one x (suc k) n)
  where
    go : (b : Bool) → eqb k x ≡ b → length (keep (λ j. eqb j x) (from (suc k) n)) ≤ 1
        → length (keep (λ j. eqb j x) (from k (suc n))) ≤ 1
    go true e ih =
        omega (
          arith,
          count-cons (λ j. eqb j x) k n,
          one-most (eqb k x),
          count_past x (suc k) n (omega (arith, eqb-true k x e)),
        )
    go false e ih =
        let z : one (eqb k x) ≡ 0 = ap one e in
        omega (arith, count-cons (λ j. eqb j x) k n, z, ih)

mem-two : (j x : ℕ) (xs : List ℕ) → one (mem j (x ∷ xs)) ≤ one (eqb j x) + one (mem j xs)
unfolding mem
mem-two j x xs = go (eqb j x) (mem j xs)
  where
    go : (b c : Bool) → one (pick b true c) ≤ one b + one c
    go true c = omega arith
    go false c = omega arith

mem-none : (k n : ℕ) → length (keep (λ j. mem j []) (from k n)) ≡ 0
unfolding mem
mem-none k zero = count_none (λ j. false) k
mem-none k (suc n) = omega (arith, count-cons (λ j. false) k n, mem-none (suc k) n)

count-mem : (l : List ℕ) (k n : ℕ) → length (keep (λ j. mem j l) (from k n)) ≤ length l
count-mem [] k n = omega (arith, mem-none k n)
count-mem (x ∷ xs) k n =
    omega (
      arith,
      count-two (λ j. mem j (x ∷ xs)) (λ j. eqb j x) (λ j. mem j xs) (λ j. mem-two j x xs) k n,
      count-one x k n,
      count-mem xs k n,
    )

-- no operation keeps what is in neither
hold-two : (o : Operation) (s t : Bool) → one (holds o s t) ≤ one s + one t
hold-two o true t = omega (arith, one-most (holds o true t))
hold-two o false true = omega (arith, one-most (holds o false true))
hold-two o false false = omega (arith, ap one (neither o))

pair-most : (o : Operation) (a b : List ℕ) (k n : ℕ)
    → length (keep (λ j. holds o (mem j a) (mem j b)) (from k n)) ≤ length a + length b
pair-most o a b k n =
    omega (
      arith,
      count-two (λ j. holds o (mem j a) (mem j b)) (λ j. mem j a) (λ j. mem j b)
          (λ j. hold-two o (mem j a) (mem j b)) k n,
      count-mem a k n,
      count-mem b k n,
    )

-- ---- a container of the result and the two that it is made of
low-length : (s : List ℕ) (at d : ℕ) → d < 32 → length (container s at d) ≤ d
unfolding container
low-length s at d h = rw (lt-ltb d 32 h) (omega (arith, length-take d (drop at s)))

pair-low : (o : Operation) (a : List ℕ) (at d : ℕ) (b : List ℕ) (bt e : ℕ) → d < 32 → e < 32
    → length (pair_members o a at d b bt e) ≤ d + e
unfolding pair_members pair_holds
pair-low o a at d b bt e h g =
    omega (arith, pair-most o (container a at d) (container b bt e) 0 256, low-length a at d h, low-length b bt e g)

pub pair-bytes : (o : Operation) (a : List ℕ) (at d : ℕ) (b : List ℕ) (bt e : ℕ)
    → min (length (pair_members o a at d b bt e)) 32 ≤ size_of d + size_of e
pair-bytes o a at d b bt e = ⊎_elim
    (λ h. ⊎_elim (λ g. omega (arith, pair-low o a at d b bt e h g, size_low d h, size_low e g))
    (λ g. omega (arith, size-high e g)) (below_or e 32))
    (λ h. omega (arith, size-high d h)) (below_or d 32)

-- ---- all of them
-- a judged bitmap's containers lie in it, and take at most 262,144 bytes
pub side-start : (x : Set) → x.start ≤ length x.bytes.now
side-start x = omega (arith, x.sound.ends)

pub side-most : (x : Set) → length x.bytes.now - x.start ≤ 262144
side-most x =
    omega (
      arith,
      x.sound.ends,
      sum-le (take (length x.descriptors.now) x.descriptors.now),
      length-take-le (length x.descriptors.now) x.descriptors.now (omega arith),
      x.sound.few,
    )

cells-suc : (l : List ℕ) (k : ℕ)
    → length (write_containers (map (cut l) (from 0 (suc k))))
    ≡ length (write_containers (map (cut l) (from 0 k))) + min (length (cut l k)) 32
cells-suc l k =
    let m : write_containers (map (cut l) (from 0 (suc k)))
    ≡ write_containers (map (cut l) (from 0 k)) ++ write_container (cut l k) =
    rw (← add-one k) (cells-more l k) in
    omega (
      arith,
      ap length m,
      length-append (write_containers (map (cut l) (from 0 k))) (write_container (cut l k)),
      write-size (cut l k) (min (length (cut l k)) 32) refl,
    )

pub next-size : (l : List ℕ) (k size t c m : ℕ) → size + t ≡ length (write_containers (map (cut l) (from 0 k)))
    → c ≡ length (cut l k) → m ≡ min c 32 → size + (t + m) ≡ length (write_containers (map (cut l) (from 0 (k + 1))))
next-size l k size t c m e n q = rw (add-one k) (omega (arith, cells-suc l k))

-- the containers from k on take at most 32 bytes each
pub cells-grow : (l : List ℕ) (k i : ℕ)
    → length (write_containers (map (cut l) (from 0 (k + i))))
    ≤ length (write_containers (map (cut l) (from 0 k))) + i * 32
cells-grow l k zero = let e : k + 0 ≡ k = omega arith in rw e (omega arith)
cells-grow l k (suc i) =
    let e : k + suc i ≡ suc (k + i) = omega arith in rw e (omega (arith, cells-suc l (k + i), cells-grow l k i))

pub cells-small : (l : List ℕ) (k : ℕ) → length (write_containers (map (cut l) (from 0 k))) ≤ k * 32
cells-small l k = let e : 0 + k ≡ k = omega arith in omega (arith, rw e at (cells-grow l 0 k), ap length (no_cells l))

-- so much room is enough
pub roomy-count : (l : List ℕ) (k n done room : ℕ) → done ≡ length (write_containers (map (cut l) (from 0 k)))
    → (n - k) * 32 ≤ room → Roomy l k n done room
roomy-count l k n done room e h =
    record {
      roomy = λ j p q. let i : k + (j - k) ≡ j = omega arith in omega (arith, rw i at (cells-grow l k (j - k)), e);
    }

module _ (o : Operation) (x y : Set) where
  cells-sources : (k : ℕ)
      → length (write_containers (map (cut (result_of o x y)) (from 0 k))) + (x.start + y.start)
      ≤ place_at x k + place_at y k
  cells-sources zero =
      omega (
        arith,
        ap length (no_cells (result_of o x y)),
        place-start x,
        place-start y,
      )
  cells-sources (suc k) =
      let c : cut (result_of o x y) k
      ≡ pair_members o x.bytes.now (place_at x k) (desc_at x.descriptors.now k) y.bytes.now (place_at y k)
      (desc_at y.descriptors.now k) =
      cut-pair o x y k (place_at x k) (place_at y k) refl refl in
      let p : place_at x k + size_of (desc_at x.descriptors.now k) ≡ place_at x (suc k) =
      rw (← add-one k) (place-next x k (place_at x k) _ refl refl) in
      let q : place_at y k + size_of (desc_at y.descriptors.now k) ≡ place_at y (suc k) =
      rw (← add-one k) (place-next y k (place_at y k) _ refl refl) in
      omega (
        arith,
        cells-suc (result_of o x y) k,
        ap length c,
        pair-bytes o x.bytes.now (place_at x k) (desc_at x.descriptors.now k) y.bytes.now (place_at y k)
            (desc_at y.descriptors.now k),
        p,
        q,
        cells-sources k,
      )

  pub cells-most : (k : ℕ)
      → length (write_containers (map (cut (result_of o x y)) (from 0 k)))
      ≤ (length x.bytes.now - x.start) + (length y.bytes.now - y.start)
  cells-most k =
      omega (
        arith,
        cells-sources k,
        side-room x k (place_at x k) refl,
        side-room y k (place_at y k) refl,
        side-start x,
        side-start y,
      )

  pub roomy-bytes : (n room : ℕ) → (length x.bytes.now - x.start) + (length y.bytes.now - y.start) + 32 ≤ room
      → Roomy (result_of o x y) 0 n 0 room
  roomy-bytes n room h = record { roomy = λ j p q. omega (arith, cells-most j) }
