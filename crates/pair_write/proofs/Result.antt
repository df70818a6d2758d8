-- The result of two judged bitmaps: it is a set, its containers are pairs combined, and its descriptors without the
-- last zeros describe it.
-- Assumes nothing.
use mathlib.Core.Path.{◌≡◌, refl, sym, ap, ap₂, ◌∙◌}
use mathlib.Core.Bool.{Bool, false}
use mathlib.Core.List.{List, [], ◌++◌, map, append_assoc}
use Prim.Native.Nat.{ℕ, zero, suc, ◌+◌, ◌*◌, ◌≤◌, min, max}
use native.Mathlib.Omega.{arith}
use lib.ListN.{length, take}
use lib.Seq.{length-take-le}
use Rattle.common.specs.Lists.{keep, from, mem}
use Rattle.bitmap_spec.specs.Judge.{container}
use Rattle.bitmap_spec.specs.Form.{cut, write_container, write_containers}
use Rattle.bitmap_spec.specs.Output.{written}
use Rattle.bitmap_spec.specs.Sets.{IsSet, holds, combine}
use Rattle.bitmap_spec.specs.declared.Operation.{Operation}
use Rattle.bitmap_laws.proofs.Accept.{members-up}
use Rattle.bitmap_laws.proofs.Containers.{keep_same}
use Rattle.bitmap_laws.proofs.Members.{rising-keep}
use Rattle.bitmap_laws.proofs.Output.{taken}
use Rattle.bitmap_laws.proofs.Rise.{count-bound, rising-length, weaker}
use Rattle.bitmap_laws.proofs.Sets.{mem-combine, set-combine, neither}
use Rattle.form_write.specs.Described.{descs_to, Describes, Trimmed}
use Rattle.form_write.proofs.Cells.{desc-length, card-more}
use Rattle.form_write.proofs.Trimming.{cells-more, write-size, trim-long, trim-bytes, trim-describes}
use Rattle.judge.specs.Post.{SliceView, viewed}
use Rattle.bitmap_read.proofs.Held.{set_past}
use Rattle.pair_write.specs.Sides.{desc_at, place_at, pair_holds, pair_members, result_of}
use Rattle.judge.specs.Asking.{members}
use Rattle.judge.specs.declared.set.Set.{Set}
use Rattle.pair_write.proofs.Pairs.{empty-mem, side-mem}

-- a judged bitmap's set is a set
view-set : (s d : List ℕ) (n start : ℕ) → SliceView s d n start (viewed s d n start) → IsSet (viewed s d n start)
unfolding viewed
view-set s d n start v =
    weaker 2097152 ((0 + length (take n d)) * 256) 0 (0 * 256) _ (omega arith)
    (omega (arith, length-take-le n d (omega (arith, v.few, v.long)), v.few))
    (members-up s 0 start (take n d) v.sound)

pair-off : (o : Operation) (a : List ℕ) (at : ℕ) (b : List ℕ) (bt j : ℕ) → pair_holds o a at 0 b bt 0 j ≡ false
unfolding pair_holds
pair-off o a at b bt j = rw (empty-mem a at j, empty-mem b bt j) (neither o)

pub keep-nothing : (f : ℕ → Bool) (k n : ℕ) → ((j : ℕ) → f j ≡ false) → keep f (from k n) ≡ []
unfolding keep from
keep-nothing f k zero h = refl
keep-nothing f k (suc n) h = rw (h k) (keep-nothing f (suc k) n h)

-- two empty containers give none
pub pair-none : (o : Operation) (a : List ℕ) (at : ℕ) (b : List ℕ) (bt : ℕ) → pair_members o a at 0 b bt 0 ≡ []
unfolding pair_members
pair-none o a at b bt = keep-nothing (pair_holds o a at 0 b bt 0) 0 256 (pair-off o a at b bt)

-- ---- the result
module _ (o : Operation) (x y : Set) where
  pub result-set : IsSet (result_of o x y)
  unfolding result_of
  result-set =
      set-combine o _ _ (count-bound _ (view-set x.bytes.now x.descriptors.now (length x.descriptors.now) x.start
      x.sound))
      (count-bound _ (view-set y.bytes.now y.descriptors.now (length y.descriptors.now) y.start y.sound))

  pub cut-pair : (k at bt : ℕ) → at ≡ place_at x k → bt ≡ place_at y k
      → cut (result_of o x y) k ≡ pair_members o x.bytes.now at (desc_at x.descriptors.now k) y.bytes.now bt
      (desc_at y.descriptors.now k)
  unfolding cut result_of pair_members pair_holds
  cut-pair k at bt p q =
      keep_same
      (λ j. mem (k * 256 + j) (combine o (members x) (members y)))
      (λ j. holds o (mem j (container x.bytes.now at (desc_at x.descriptors.now k)))
      (mem j (container y.bytes.now bt (desc_at y.descriptors.now k))))
      0 256
      (λ i l. mem-combine o (members x) (members y) (k * 256 + (0 + i))
      ∙ ap₂ (λ (s t : Bool). holds o s t) (side-mem x k at (0 + i) p (omega arith))
      (side-mem y k bt (0 + i) q (omega arith)))

  -- ---- one container more
  module _ (k at bt d e : ℕ) (p : at ≡ place_at x k) (q : bt ≡ place_at y k) (hd : d ≡ desc_at x.descriptors.now k)
      (he : e ≡ desc_at y.descriptors.now k) where
    pub next-cut : cut (result_of o x y) k ≡ pair_members o x.bytes.now at d y.bytes.now bt e
    next-cut = rw (hd, he) (cut-pair k at bt p q)

    pub next-card : (card c : ℕ) → c ≡ length (pair_members o x.bytes.now at d y.bytes.now bt e)
        → card ≡ length (keep (λ z. mem z (result_of o x y)) (from 0 (k * 256)))
        → card + c ≡ length (keep (λ z. mem z (result_of o x y)) (from 0 ((k + 1) * 256)))
    next-card card c n m = omega (arith, card-more (result_of o x y) k, ap length next-cut)

    pub next-bytes : (before body body' : List ℕ) (t c m : ℕ)
        → before ++ take t body ≡ write_containers (map (cut (result_of o x y)) (from 0 k))
        → c ≡ length (pair_members o x.bytes.now at d y.bytes.now bt e) → m ≡ min c 32
        → take (t + length (write_container (pair_members o x.bytes.now at d y.bytes.now bt e))) body'
        ≡ take t body ++ write_container (pair_members o x.bytes.now at d y.bytes.now bt e)
        → before ++ take (t + m) body' ≡ write_containers (map (cut (result_of o x y)) (from 0 (k + 1)))
    next-bytes before body body' t c m h n q w =
        let z : length (write_container (pair_members o x.bytes.now at d y.bytes.now bt e)) ≡ m =
        write-size (pair_members o x.bytes.now at d y.bytes.now bt e) m (q ∙ rw n) in
        ap (λ (u : List ℕ). before ++ u) (rw z at w)
        ∙ sym (append_assoc before (take t body) (write_container (pair_members o x.bytes.now at d y.bytes.now bt e)))
        ∙ ap₂ (λ (u v : List ℕ). u ++ v) h (ap write_container (sym next-cut))
        ∙ sym (cells-more (result_of o x y) k)

  far : (z : ℕ) → max (length x.descriptors.now) (length y.descriptors.now) * 256 ≤ z → mem z (result_of o x y) ≡ false
  unfolding result_of
  far z h =
      mem-combine o (members x) (members y) z
      ∙ rw (
        set_past x.bytes.now x.descriptors.now (length x.descriptors.now) x.start x.sound z (omega arith),
        set_past y.bytes.now y.descriptors.now (length y.descriptors.now) y.start y.sound z (omega arith),
      ) (neither o)

  -- the descriptors without the last zeros
  module _ (ds ds₀ : List ℕ) (n m card : ℕ) (en : n ≡ max (length x.descriptors.now) (length y.descriptors.now))
      (hd : ds ≡ written ds₀ 0 (descs_to (result_of o x y) n)) (t : Trimmed ds n m)
      (hc : card ≡ length (keep (λ z. mem z (result_of o x y)) (from 0 (n * 256)))) where
    few : n ≤ 8192
    few = omega (arith, en, x.sound.few, y.sound.few)

    past : (z : ℕ) → n * 256 ≤ z → mem z (result_of o x y) ≡ false
    past z h = far z (rw (← en) h)

    first : take n ds ≡ descs_to (result_of o x y) n
    first = taken ds ds₀ (descs_to (result_of o x y) n) n hd (sym (desc-length (result_of o x y) n))

    pub trimmed-long : length (take m ds) ≡ m
    trimmed-long = trim-long (result_of o x y) n result-set few past ds first m t

    -- and the bytes
    pub trimmed-bytes : write_containers (map (cut (result_of o x y)) (from 0 n))
        ≡ write_containers (map (cut (result_of o x y)) (from 0 (length (take m ds))))
    trimmed-bytes = trim-bytes (result_of o x y) n result-set few past ds first m t

    pub describes : Describes (result_of o x y) (length (take m ds)) card (take m ds)
    describes = trim-describes (result_of o x y) n result-set few past ds first m t card hc

pub pair-few : (o : Operation) (a : List ℕ) (at d : ℕ) (b : List ℕ) (bt e : ℕ)
    → length (pair_members o a at d b bt e) ≤ 256
unfolding pair_members
pair-few o a at d b bt e =
    omega (
      arith,
      rising-length 256 0 (keep (pair_holds o a at d b bt e) (from 0 256)) (omega arith)
          (rising-keep (pair_holds o a at d b bt e) 256 0 256 (omega arith)),
    )
