-- Two containers joined as a block, and the container that the block stands for.
-- Assumes nothing.
use mathlib.Core.Path.{◌≡◌, refl, sym, ap, ◌∙◌}
use mathlib.Core.Bool.{Bool}
use mathlib.Core.List.{List, [], ◌++◌, append_assoc, append-nil}
use Prim.Native.Nat.{ℕ, ◌+◌, ◌*◌, ◌≤◌, ◌<◌}
use native.Mathlib.Nat.{add-zero}
use native.Mathlib.Omega.{arith}
use borrow.Author.Tests.{lt-ltb, le-ltb}
use lib.Dec.{eqb}
use lib.ListN.{length, take, drop, length-append}
use lib.Seq.{take_at, length-take-le}
use Rattle.common.specs.Lists.{keep, from, mem}
use Rattle.common.specs.Outcome.{one}
use Rattle.bitmap_spec.specs.Bits.{bit, bytes_of}
use Rattle.bitmap_spec.specs.Judge.{container, dense, size_of}
use Rattle.bitmap_spec.specs.Form.{write_container}
use Rattle.bitmap_spec.specs.Output.{written}
use Rattle.bitmap_spec.specs.Sets.{holds}
use Rattle.bitmap_spec.specs.declared.Operation.{Operation}
use Rattle.bitmap_laws.proofs.Containers.{keep_same}
use Rattle.bitmap_laws.proofs.Members.{mem-keep}
use Rattle.bitmap_laws.proofs.Pack.{bit-after, bit-before, length-bytes_of}
use Rattle.blocks.specs.Block.{block, joins}
use Rattle.blocks.proofs.Blocks.{block-members, block-is, block_same}
use Rattle.pair_write.specs.Sides.{half_holds, pair_holds, pair_members}

-- ---- containers as blocks
-- a loaded sparse container has its members
pub loaded : (s y : List ℕ) (at d : ℕ) → d < 32 → y ≡ block (λ p. mem p (take d (drop at s))) → (p : ℕ) → p < 256
    → mem p (dense y 0) ≡ mem p (container s at d)
unfolding container
loaded s y at d h e p l =
    rw (lt-ltb d 32 h)
    (ap (λ (m : List ℕ). mem p m) (ap (λ (m : List ℕ). dense m 0) e ∙ block-members (λ p. mem p (take d (drop at s))))
    ∙ mem-keep (λ p. mem p (take d (drop at s))) 0 256 p (omega arith) (omega arith))

-- a dense one is a block as it stands
pub as-block : (s : List ℕ) (at d p : ℕ) → 32 ≤ d → mem p (dense s at) ≡ mem p (container s at d)
unfolding container
as-block s at d p h = rw (le-ltb d 32 h)

pub low-room : (n at d : ℕ) → at + size_of d ≤ n → d < 32 → at + d ≤ n
unfolding size_of
low-room n at d r h = rw (lt-ltb d 32 h) at r

pub high-room : (n at d : ℕ) → at + size_of d ≤ n → 32 ≤ d → at + 32 ≤ n
unfolding size_of
high-room n at d r h = rw (le-ltb d 32 h) at r

-- what is said of one test is said of another that agrees
agree : (f g : ℕ → Bool) (before out : List ℕ) (to r : ℕ) → ((p : ℕ) → p < 256 → f p ≡ g p)
    → (r ≡ length (keep f (from 0 256))) × (out ≡ written before to (block f))
    → (r ≡ length (keep g (from 0 256))) × (out ≡ written before to (block g))
agree f g before out to r h e = (
  e.0 ∙ ap length (keep_same f g 0 256 (λ i l. h (0 + i) (omega arith))),
  e.1 ∙ ap (λ (l : List ℕ). written before to l) (block_same f g h),
)

module _ (o : Operation) (a : List ℕ) (at : ℕ) (b : List ℕ) (bt e : ℕ) (before out : List ℕ) (to r : ℕ) where
  pub second-low : (y : List ℕ) → e < 32 → y ≡ block (λ p. mem p (take e (drop bt b)))
      → (r ≡ length (keep (joins o a at y 0) (from 0 256))) × (out ≡ written before to (block (joins o a at y 0)))
      → (r ≡ length (keep (half_holds o a at b bt e) (from 0 256)))
      × (out ≡ written before to (block (half_holds o a at b bt e)))
  unfolding joins half_holds
  second-low y h q =
      agree (joins o a at y 0) (half_holds o a at b bt e) before out to r
      (λ p l. ap (holds o (mem p (dense a at))) (loaded b y bt e h q p l))

  pub second-high : 32 ≤ e
      → (r ≡ length (keep (joins o a at b bt) (from 0 256))) × (out ≡ written before to (block (joins o a at b bt)))
      → (r ≡ length (keep (half_holds o a at b bt e) (from 0 256)))
      × (out ≡ written before to (block (half_holds o a at b bt e)))
  unfolding joins half_holds
  second-high h =
      agree (joins o a at b bt) (half_holds o a at b bt e) before out to r
      (λ p l. ap (holds o (mem p (dense a at))) (as-block b bt e p h))

  module _ (d : ℕ) where
    pub first-low : (x : List ℕ) → d < 32 → x ≡ block (λ p. mem p (take d (drop at a)))
        → (r ≡ length (keep (half_holds o x 0 b bt e) (from 0 256)))
        × (out ≡ written before to (block (half_holds o x 0 b bt e)))
        → (r ≡ length (pair_members o a at d b bt e)) × (out ≡ written before to (block (pair_holds o a at d b bt e)))
    unfolding pair_members pair_holds half_holds
    first-low x h q =
        agree (half_holds o x 0 b bt e) (pair_holds o a at d b bt e) before out to r
        (λ p l. ap (λ (t : Bool). holds o t (mem p (container b bt e))) (loaded a x at d h q p l))

    pub first-high : 32 ≤ d
        → (r ≡ length (keep (half_holds o a at b bt e) (from 0 256)))
        × (out ≡ written before to (block (half_holds o a at b bt e)))
        → (r ≡ length (pair_members o a at d b bt e)) × (out ≡ written before to (block (pair_holds o a at d b bt e)))
    unfolding pair_members pair_holds half_holds
    first-high h =
        agree (half_holds o a at b bt e) (pair_holds o a at d b bt e) before out to r
        (λ p l. ap (λ (t : Bool). holds o t (mem p (container b bt e))) (as-block a at d p h))

-- ---- the beginning of what is written
pub take-before : (before l : List ℕ) (to : ℕ) → to ≤ length before → take to (written before to l) ≡ take to before
unfolding written
take-before before l to h = take_at (take to before) (l ++ drop (to + length l) before) to (length-take-le to before h)

pub take-written : (before l : List ℕ) (to : ℕ) → to ≤ length before
    → take (to + length l) (written before to l) ≡ take to before ++ l
unfolding written
take-written before l to h =
    ap (take (to + length l)) (sym (append_assoc (take to before) l (drop (to + length l) before)))
    ∙ take_at (take to before ++ l) (drop (to + length l) before) (to + length l)
    (length-append (take to before) l ∙ ap (λ (n : ℕ). n + length l) (length-take-le to before h))

-- ---- a block that is written, and the container it stands for
block-length : (f : ℕ → Bool) → length (block f) ≡ 32
unfolding block
block-length f = length-bytes_of (λ p. one (f p)) 32

pub block_room : (f : ℕ → Bool) (y : List ℕ) → y ≡ block f → 0 + 32 ≤ length y
block_room f y e = omega (arith, ap length e, block-length f)

dense-written : (f : ℕ → Bool) (before : List ℕ) (to : ℕ) → to ≤ length before
    → dense (written before to (block f)) to ≡ keep f (from 0 256)
unfolding written dense
dense-written f before to h =
    keep_same (λ j. eqb (bit (take to before ++ (block f ++ drop (to + length (block f)) before)) (to * 8 + j)) 1)
    (λ j. f j) 0 256
    (λ i l. let n : length (take to before) ≡ to = length-take-le to before h in
    let z = rw n at (bit-after (take to before) (block f ++ drop (to + length (block f)) before) (0 + i)) in
    rw (z, bit-before (block f) (drop (to + length (block f)) before) (0 + i) (rw (block-length f) (omega arith)))
    (block-is f (0 + i) (omega arith)))

sparse-bytes : (c : List ℕ) → length c < 32 → c ≡ write_container c
unfolding write_container
sparse-bytes c h = sym (rw (lt-ltb (length c) 32 h))

plain : (g : ℕ → Bool) → bytes_of (λ j. one (g j)) 32 ≡ block g
unfolding block
plain g = refl

dense-bytes : (f : ℕ → Bool) → 32 ≤ length (keep f (from 0 256)) → block f ≡ write_container (keep f (from 0 256))
unfolding write_container
dense-bytes f h =
    block_same f (λ j. mem j (keep f (from 0 256))) (λ p l. sym (mem-keep f 0 256 p (omega arith) (omega arith)))
    ∙ sym (rw (le-ltb (length (keep f (from 0 256))) 32 h) (plain (λ j. mem j (keep f (from 0 256)))))

-- ---- the container of a pair, of whose 32 bytes the rest is left over
module _ (o : Operation) (a : List ℕ) (at d : ℕ) (b : List ℕ) (bt e : ℕ) (before out : List ℕ) (to c : ℕ)
    (room : to + 32 ≤ length before)
    (q : (c ≡ length (pair_members o a at d b bt e)) × (out ≡ written before to (block (pair_holds o a at d b bt e))))
  where
    pub spread-members : dense out to ≡ pair_members o a at d b bt e
    unfolding pair_members
    spread-members =
        ap (λ (l : List ℕ). dense l to) q.1 ∙ dense-written (pair_holds o a at d b bt e) before to (omega arith)

    pub put_low : (out' : List ℕ) → c < 32 → length out ≡ length before → out' ≡ written out to (dense out to)
        → take (to + length (write_container (pair_members o a at d b bt e))) out'
        ≡ take to before ++ write_container (pair_members o a at d b bt e)
    put_low out' h n w =
        let m : write_container (pair_members o a at d b bt e) ≡ pair_members o a at d b bt e =
        sym (sparse-bytes (pair_members o a at d b bt e) (omega (arith, q.0))) in
        let t : take to out ≡ take to before =
        ap (take to) q.1 ∙ take-before before (block (pair_holds o a at d b bt e)) to (omega arith) in
        rw (m, w, spread-members) (take-written out (pair_members o a at d b bt e) to (omega (arith, n))
        ∙ ap (λ (l : List ℕ). l ++ pair_members o a at d b bt e) t)

    pub put-high : 32 ≤ c
        → take (to + length (write_container (pair_members o a at d b bt e))) out
        ≡ take to before ++ write_container (pair_members o a at d b bt e)
    unfolding pair_members
    put-high h =
        let m : block (pair_holds o a at d b bt e) ≡ write_container (keep (pair_holds o a at d b bt e) (from 0 256)) =
        dense-bytes (pair_holds o a at d b bt e) (omega (arith, q.0)) in
        rw (← m, q.1) (take-written before (block (pair_holds o a at d b bt e)) to (omega arith))

pub put-none : (c before : List ℕ) (to : ℕ) → c ≡ []
    → take (to + length (write_container c)) before ≡ take to before ++ write_container c
unfolding write_container
put-none c before to e = rw (e, add-zero to) (sym (append-nil (take to before)))
