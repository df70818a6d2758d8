-- A pass over the containers of the result: where it starts and what it has at its end, what its bytes take, and the
-- form that follows.
-- Assumes nothing.
use mathlib.Core.Path.{◌≡◌, refl, sym, ap, ◌∙◌}
use mathlib.Core.List.{List, ◌++◌, map, append-nil}
use Prim.Native.Nat.{ℕ, ◌+◌, ◌-◌, ◌*◌, ◌/◌, ◌≤◌, min, max}
use native.Mathlib.Omega.{arith}
use lib.ListN.{length, length-append, take}
use lib.Seq.{drop-length}
use Rattle.common.specs.Lists.{keep, from, mem, sum}
use Rattle.bitmap_spec.specs.Judge.{size_of}
use Rattle.bitmap_spec.specs.Form.{form, cut, write_chunks, write_containers}
use Rattle.bitmap_spec.specs.Output.{written}
use Rattle.bitmap_spec.specs.declared.Operation.{Operation}
use Rattle.bitmap_laws.proofs.Bodies.{sizes-are}
use Rattle.bitmap_laws.proofs.Cuts.{from-cat}
use Rattle.bitmap_laws.proofs.Length.{chunks_size}
use Rattle.bitmap_laws.proofs.Output.{from_start}
use Rattle.bitmap_laws.proofs.Values.{AllLe}
use Rattle.form_write.specs.Described.{descs_to, Describes}
use Rattle.form_write.proofs.Cells.{no-descs, no-members}
use Rattle.form_write.proofs.Trimming.{map-cat, containers-cat, no_cells, trims}
use Rattle.form_write.proofs.Whole.{fine, size, body-room}
use Rattle.pair_write.specs.Sides.{place_at, Reaches, Gathers, result_of}
use Rattle.pair_write.specs.declared.Reached.{Reached}
use Rattle.judge.specs.declared.set.Set.{Set}
use Rattle.pair_write.proofs.Pairs.{place-start}
use Rattle.pair_write.proofs.Sources.{cells-most}
use Rattle.bitmap_laws.proofs.Bound.{chunks-tight, descs-32}
use Rattle.pair_write.proofs.Result.{trimmed-long, trimmed-bytes, describes}

-- ---- the end of a pass from container k to container n
gathered-at : (l : List ℕ) (x y : Set) (k n : ℕ) (p : Reached) (before ds body : List ℕ)
    (t : ℕ) (r : Reached)
    → Reaches l x y k p → t ≤ length body → r.size ≡ p.size + t
    → r.card ≡ length (keep (λ z. mem z l) (from 0 (n * 256))) → r.card ≤ n * 256
    → p.size + t ≡ length (write_containers (map (cut l) (from 0 n))) → r.at ≡ place_at x n
    → r.bt ≡ place_at y n
    → ((first : List ℕ) → n ≤ length first → before ≡ written first 0 (descs_to l k)
    → ds ≡ written first 0 (descs_to l n))
    → write_containers (map (cut l) (from 0 k)) ++ take t body ≡ write_containers (map (cut l) (from 0 n))
    → Gathers l x y k n p before ds body r
gathered-at l x y k n p before ds body t r v room es m few b p₁ p₂ d w =
    let e : r.size - p.size ≡ t = omega (arith, es) in
    record {
      reached = record { members = m; few = few; bytes = es ∙ b; first = p₁; second = p₂ };
      descs = d;
      grown = omega (arith, es);
      within = omega (arith, e);
      bytes = rw e w;
    }

pub gathered : (l : List ℕ) (x y : Set) (k n j : ℕ) (p : Reached) (before ds body : List ℕ)
    (t : ℕ) (r : Reached)
    → Reaches l x y k p → j ≡ n → t ≤ length body → r.size ≡ p.size + t
    → r.card ≡ length (keep (λ z. mem z l) (from 0 (j * 256))) → r.card ≤ j * 256
    → p.size + t ≡ length (write_containers (map (cut l) (from 0 j))) → r.at ≡ place_at x j
    → r.bt ≡ place_at y j
    → ((first : List ℕ) → n ≤ length first → before ≡ written first 0 (descs_to l k)
    → ds ≡ written first 0 (descs_to l j))
    → write_containers (map (cut l) (from 0 k)) ++ take t body ≡ write_containers (map (cut l) (from 0 j))
    → Gathers l x y k n p before ds body r
gathered l x y k n j p before ds body t r v ej room es m few b p₁ p₂ d w =
    gathered-at l x y k n p before ds body t r v room es (rw ej at m) (rw ej at few) (rw ej at b) (rw ej at p₁)
    (rw ej at p₂) (rw ej at d) (rw ej at w)

-- ---- a pass from the first container on
pub starts : (o : Operation) (x y : Set) (p : Reached)
    → p.card ≡ 0 → p.size ≡ 0 → p.at ≡ x.start → p.bt ≡ y.start → Reaches (result_of o x y) x y 0 p
starts o x y p ec es ea eb = record {
  members = ec ∙ no-members (result_of o x y);
  few = omega (arith, ec);
  bytes = es ∙ ap length (no_cells (result_of o x y));
  first = ea ∙ place-start x;
  second = eb ∙ place-start y;
}

pub gathered-all : (l : List ℕ) (x y : Set) (n : ℕ) (p : Reached) (before ds body : List ℕ)
    (r : Reached)
    → Gathers l x y 0 n p before ds body r → p.size ≡ 0 → n ≤ length before
    → (ds ≡ written before 0 (descs_to l n))
    × (r.size ≤ length body)
    × (take r.size body ≡ write_containers (map (cut l) (from 0 n)))
gathered-all l x y n p before ds body r g e h =
    let z : r.size - p.size ≡ r.size = omega (arith, e) in (
      g.descs before h (no-descs l before),
      omega (arith, z, g.within),
      (rw (z, ← no_cells l) at g.bytes),
    )

-- ---- what the containers take
pub cells-within : (l : List ℕ) (k n : ℕ) → k ≤ n
    → length (write_containers (map (cut l) (from 0 k))) ≤ length (write_containers (map (cut l) (from 0 n)))
cells-within l k n h =
    let e : n ≡ k + (n - k) = omega arith in
    let s : write_containers (map (cut l) (from 0 n))
    ≡ write_containers (map (cut l) (from 0 k)) ++ write_containers (map (cut l) (from (0 + k) (n - k))) =
    ap (λ (z : ℕ). write_containers (map (cut l) (from 0 z))) e
    ∙ rw (from-cat 0 k (n - k), map-cat (cut l) (from 0 k) (from (0 + k) (n - k)))
    (containers-cat (map (cut l) (from 0 k)) (map (cut l) (from (0 + k) (n - k)))) in
    omega (
      arith,
      ap length s,
      length-append (write_containers (map (cut l) (from 0 k)))
          (write_containers (map (cut l) (from (0 + k) (n - k)))),
    )

pub cells-sum : (l : List ℕ) (n card : ℕ) (ds : List ℕ) → Describes l n card ds
    → sum size_of ds ≡ length (write_containers (map (cut l) (from 0 n)))
unfolding descs_to
cells-sum l n card ds d = ap (λ (s : List ℕ). sum size_of s) d.descs ∙ sizes-are (map (cut l) (from 0 n))

descs-few : (l : List ℕ) (n card : ℕ) (ds : List ℕ) → Describes l n card ds → AllLe 32 ds
unfolding descs_to
descs-few l n card ds d = rw d.descs (descs-32 (map (cut l) (from 0 n)))

-- ---- the descriptors can be trimmed, so the form is known before a byte of it is made
module _ (o : Operation) (x y : Set) (n : ℕ)
    (en : n ≡ max (length x.descriptors.now) (length y.descriptors.now)) where
  whole : descs_to (result_of o x y) n
      ≡ written (descs_to (result_of o x y) n) 0 (descs_to (result_of o x y) n)
  whole =
      sym (from_start (descs_to (result_of o x y) n) (descs_to (result_of o x y) n)
      ∙ rw (drop-length (descs_to (result_of o x y) n)) (append-nil (descs_to (result_of o x y) n)))

  form-facts :
      (6 + length (write_containers (map (cut (result_of o x y)) (from 0 n)))
      ≤ length (form (result_of o x y)))
      × (length (form (result_of o x y))
      ≤ 6 + 195 * ((n + 255) / 256) + length (write_containers (map (cut (result_of o x y)) (from 0 n))))
      × (length (form (result_of o x y)) ≤ 6 + 163 * ((n + 255) / 256) + 32 * n)
  form-facts =
      let ds = descs_to (result_of o x y) n in
      let t = trims ds n in
      let d : Describes (result_of o x y) (length (take t.0 ds))
      (length (keep (λ z. mem z (result_of o x y)) (from 0 (n * 256)))) (take t.0 ds) =
      describes o x y ds ds n t.0 _ en whole t.1 refl in
      let w : write_containers (map (cut (result_of o x y)) (from 0 n))
      ≡ write_containers (map (cut (result_of o x y)) (from 0 (length (take t.0 ds)))) =
      trimmed-bytes o x y ds ds n t.0 _ en whole t.1 refl in
      let m : length (take t.0 ds) ≡ t.0 = trimmed-long o x y ds ds n t.0 _ en whole t.1 refl in
      let r =
      body-room (result_of o x y) _ _ (take t.0 ds) d
      (6 + length (write_chunks (length (take t.0 ds) / 256) (take t.0 ds)))
      (length (form (result_of o x y))) refl (omega arith) in
      let c =
      chunks_size (length (take t.0 ds) / 256) (take t.0 ds) (fine _ _ _ _ d) (omega arith) (omega arith) in
      let z =
      chunks-tight (length (take t.0 ds) / 256) (take t.0 ds)
      (descs-few (result_of o x y) _ _ (take t.0 ds) d) (omega arith) (omega arith) in (
        omega (arith, ap length w, r),
        omega (arith, size _ _ _ _ d, cells-sum _ _ _ _ d, ap length w, c, m, t.1.within),
        omega (arith, size _ _ _ _ d, z, m, t.1.within),
      )

  pub form-room : 6 + length (write_containers (map (cut (result_of o x y)) (from 0 n)))
      ≤ length (form (result_of o x y))
  form-room = form-facts.0

  -- a bound by what both bitmaps' containers take, and one by the number of containers
  pub form-most : (most : ℕ) → most ≡ (length x.bytes.now - x.start) + (length y.bytes.now - y.start)
      → length (form (result_of o x y))
      ≤ 6 + min (195 * ((n + 255) / 256) + most) (163 * ((n + 255) / 256) + 32 * n)
  form-most most e = omega (arith, form-facts.1, form-facts.2, cells-most o x y n)
