-- Settled descriptors describe the set of a judged bitmap, and lay out its form.
-- Assumes nothing.
use mathlib.Core.Path.{◌≡◌, refl, sym, ap, ◌∙◌}
use mathlib.Core.Bool.{false}
use mathlib.Core.List.{List, map}
use Prim.Native.Nat.{ℕ, ◌+◌, ◌*◌, ◌/◌, ◌%◌, ◌≤◌, ◌<◌, min}
use native.Mathlib.Omega.{arith}
use lib.ListN.{length, get_or, take, drop, length-map}
use lib.Seq.{get_or-take, length-take-le, ext_get_or}
use Rattle.common.specs.Outcome.{found}
use Rattle.common.specs.Lists.{from, mem}
use Rattle.bitmap_spec.specs.Judge.{judge}
use Rattle.bitmap_spec.specs.Form.{cut, count_of, descriptor_of, write_containers, form}
use Rattle.bitmap_laws.proofs.Accept.{judge-set}
use Rattle.bitmap_laws.proofs.Cuts.{length_from}
use Rattle.bitmap_laws.proofs.Round.{form-is}
use Rattle.bitmap_laws.proofs.Values.{map_at}
use Rattle.bitmap_read.proofs.Held.{has-at, has-not}
use Rattle.form_write.specs.Described.{descs_to, Describes}
use Rattle.form_write.proofs.Trimming.{trim-long, trim-bytes, trim-describes}
use Rattle.judge.specs.Post.{SliceView}
use Rattle.bitmap_rewrite.specs.Settled.{Settled, laid}
use Rattle.bitmap_rewrite.proofs.Bodies.{conts, body_bytes, cuts_are, descs-are}

module _ (s d d' l : List ℕ) (n start m card : ℕ) (j : judge s ≡ found l) (v : SliceView s d n start l)
    (small : (k : ℕ) → get_or s k 0 < 256) (ec : card ≡ length l) (same : length d' ≡ length d) (t : Settled d d' n m)
  where
    many : length (take n d) ≡ n
    many = length-take-le n d (omega (arith, v.long))

    many' : length (take n d') ≡ n
    many' = length-take-le n d' (omega (arith, v.long))

    cuts : map (cut l) (from 0 n) ≡ conts s start (take n d)
    cuts =
        ap (λ (k : ℕ). map (cut l) (from 0 k)) (sym many)
        ∙ cuts_are l s 0 start (take n d) v.sound (λ i p a b.
        let q : (0 + i) * 256 + p ≡ i * 256 + p = omega arith in
        let x : (i * 256 + p) % 256 ≡ p = omega arith in
        let y : 0 + i ≡ (i * 256 + p) / 256 = omega arith in
        rw (q, ← v.members) (rw x at (has-at s 0 start (take n d) (i * 256 + p) i v.sound y a)))

    first : take n d' ≡ descs_to l n
    unfolding descs_to
    first =
        ext_get_or 0 (take n d') (map (λ x. min x 32) (take n d))
        (many' ∙ sym (length-map (take n d) (λ x. min x 32) ∙ many))
        (λ i a. let b : i < n = rw many' at a in
        get_or-take n d' i 0 b ∙ t.levelled i b
        ∙ sym (map_at (λ x. min x 32) (take n d) i (rw many b) ∙ ap (λ x. min x 32) (get_or-take n d i 0 b)))
        ∙ sym (ap (map descriptor_of) cuts ∙ descs-are s start (take n d) v.sound (omega (arith, v.ends)))

    far : (z : ℕ) → n * 256 ≤ z → mem z l ≡ false
    far z h = rw (← v.members) (has-not s start (take n d) z v.sound (rw many (omega arith)))

    pub settled-many : length (take m d') ≡ m
    settled-many = trim-long l n (judge-set s l j) v.few far d' first m t.trimmed

    pub describes : Describes l m card (take m d')
    describes =
        let trimmed = trim-describes l n (judge-set s l j) v.few far d' first m t.trimmed _ refl in
        record {
          is_set = judge-set s l j;
          count = sym settled-many ∙ trimmed.count;
          cardinality = ec;
          descs = trimmed.descs ∙ ap (descs_to l) settled-many;
        }

    body : write_containers (map (cut l) (from 0 m)) ≡ drop start s
    body =
        ap (λ (k : ℕ). write_containers (map (cut l) (from 0 k))) (sym settled-many)
        ∙ sym (trim-bytes l n (judge-set s l j) v.few far d' first m t.trimmed)
        ∙ ap write_containers cuts ∙ body_bytes s start (take n d) small v.sound v.ends

    pub form-laid : form l ≡ laid s start (take m d') card
    unfolding form laid descs_to
    form-laid =
        let k : length (map (cut l) (from 0 (count_of l))) ≡ m =
        length-map (from 0 (count_of l)) (cut l) ∙ length_from 0 (count_of l) ∙ sym describes.count in
        let q : map descriptor_of (map (cut l) (from 0 m)) ≡ take m d' = sym (left_is (take m d') m describes.descs) in
        form-is (length l) (map (cut l) (from 0 (count_of l))) ∙ rw (k, ← describes.count, settled-many, ec, q, body)
      where
        left_is : (x : List ℕ) (m : ℕ) → x ≡ descs_to l m → x ≡ map descriptor_of (map (cut l) (from 0 m))
        left_is x m e = e
