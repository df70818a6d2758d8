-- Which answer a chunk has, test by test, in the order of the tests.
-- Assumes nothing.
use mathlib.Core.Path.{◌≡◌}
use mathlib.Core.Bool.{Bool, true, false}
use mathlib.Core.List.{List, ◌++◌}
use Prim.Native.Nat.{ℕ, ◌+◌, ◌-◌, ◌≤◌, ◌<◌}
use native.Mathlib.Omega.{arith}
use borrow.Author.Tests.{le-leb, lt-leb, leb-true}
use lib.ListN.{length, get_or, take, drop, length-drop}
use lib.Seq.{length-take-le, get_or-take, get_or-drop}
use lib.Dec.{leb}
use Rattle.common.specs.Lists.{every, from, table, rising}
use Rattle.common.specs.Outcome.{Outcome, refused, found, need}
use Rattle.bitmap_spec.specs.Bits.{spare_zero}
use Rattle.bitmap_spec.specs.Judge.{Chunk, chunk, chunk_with, descriptor, widths_ok, head_at, head_with, chunk_end}
use Rattle.bitmap_spec.specs.declared.ChunkHead.{ChunkHead}
use Rattle.common.proofs.Lists.{rising-range, both_left}
use Rattle.chunk_read.specs.Post.{Decoded, Laid}
use Rattle.std.specs.Prelude.{Ok, Err}
use Rattle.common.specs.declared.Refusal.{Refusal}
use Rattle.common.specs.Refusal.{number}

-- what is_rising says of the part of s between the offsets and what follows them
pub offsets-part : (n : ℕ) (s : List ℕ) (o e p : ℕ) (r : Bool) → p ≡ o + e → r ≡ rising n 0 (take (p - o) (drop o s))
    → r ≡ rising n 0 (take e (drop o s))
offsets-part n s o e p r q h =
    let m : p - o ≡ e = omega arith in
    rw m at h

-- offsets that passed the test are below n
pub offsets-inside : (n : ℕ) (s : List ℕ) (o e : ℕ) → rising n 0 (take e (drop o s)) ≡ true → o + e ≤ length s → (j : ℕ)
    → j < e → get_or s (o + j) 0 < n
offsets-inside n s o e t h j l =
    let len : length (take e (drop o s)) ≡ e = length-take-le e (drop o s) (rw length-drop (omega arith)) in
    let r = (rising-range n 0 (take e (drop o s)) j t (rw len l)).1 in
    rw (get_or-take e (drop o s) j 0 l, get_or-drop o s j 0) at r

module _ (o : Outcome Chunk) (before after : List ℕ) (k n : ℕ) where
  pub refuse : (r : Refusal) → o ≡ refused (number r) → Decoded o before after k n (Err r)
  refuse r e = record { says = rw e; holds = λ c q. absurd (let z : ◌≡◌ {A = ℕ} 0 1 = cc in omega arith) }

  pub accept : (ds : List ℕ) (at : ℕ) → o ≡ found (record { descs = ds; next = at })
      → take (k + n) after ≡ take k before ++ ds → Decoded o before after k n (Ok at)
  accept ds at e h =
      record { says = rw e; holds = λ c q. let z : record { descs = ds; next = at } ≡ c = cc in rw (← z) h }

module _ (s : List ℕ) (n : ℕ) (h : ChunkHead) where
  pub with4 : length s < chunk_end h → chunk_with s n h ≡ refused 4
  unfolding chunk_with need
  with4 g = rw (lt-leb _ _ g)

  module _ (room : chunk_end h ≤ length s) where
    pub with6 : rising n 0 (take h.e (drop h.offsets s)) ≡ false → chunk_with s n h ≡ refused 6
    unfolding chunk_with need
    with6 g = rw (le-leb _ _ room, g)

    module _ (six : rising n 0 (take h.e (drop h.offsets s)) ≡ true) where
      pub with7 : spare_zero s h.primary h.b1 n ≡ false → chunk_with s n h ≡ refused 7
      unfolding chunk_with need
      with7 g = rw (le-leb _ _ room, six, g)

      module _ (seven : spare_zero s h.primary h.b1 n ≡ true) where
        pub with7b : spare_zero s h.parts h.b2 h.e ≡ false → chunk_with s n h ≡ refused 7
        unfolding chunk_with need
        with7b g = rw (le-leb _ _ room, six, seven, g)

        module _ (seven' : spare_zero s h.parts h.b2 h.e ≡ true) where
          pub with8 : every (λ i. leb (descriptor s h i) 63) (from 0 n) ≡ false → chunk_with s n h ≡ refused 8
          unfolding chunk_with need
          with8 g = rw (le-leb _ _ room, six, seven, seven', g)

          pub with_all : every (λ i. leb (descriptor s h i) 63) (from 0 n) ≡ true
              → chunk_with s n h ≡ found (record { descs = table (descriptor s h) 0 n; next = chunk_end h })
          unfolding chunk_with need
          with_all g = rw (le-leb _ _ room, six, seven, seven', g)

module _ (s : List ℕ) (at n : ℕ) where
  pub chunk4 : length s < at + 3 → chunk s at n ≡ refused 4
  unfolding chunk need
  chunk4 h = rw (lt-leb _ _ h)

  module _ (room : at + 3 ≤ length s) where
    pub chunk5 : widths_ok (head_at s at n) ≡ false → chunk s at n ≡ refused 5
    unfolding chunk need
    chunk5 h = rw (le-leb _ _ room, h)

    pub chunk-rest : widths_ok (head_at s at n) ≡ true
        → chunk s at n ≡ chunk_with s n (head_at s at n)
    unfolding chunk need
    chunk-rest h = rw (le-leb _ _ room, h)

pub widths-sum : (h : ChunkHead) → widths_ok h ≡ true → h.b1 + h.b2 ≤ 8
unfolding widths_ok
widths-sum h e = leb-true (h.b1 + h.b2) 8 (both_left _ _ e)

-- what the three bytes give
pub head-narrow : (s : List ℕ) (at n : ℕ) (h : ChunkHead) → h ≡ head_at s at n → get_or s at 0 < 256
    → (h.b1 < 16) × (h.b2 < 16)
unfolding head_at head_with
head-narrow s at n h e l = rw e (omega arith, omega arith)

pub laid : (s : List ℕ) (at n : ℕ) (h : ChunkHead) → h ≡ head_at s at n → h.e < 256 → n ≤ 256 → at + 3 ≤ length s
    → widths_ok h ≡ true → Laid (length s) n h
unfolding head_at head_with
laid s at n h e l m g w = record {
  widths = widths-sum h w;
  few = l;
  some = m;
  begins = rw e g;
  second = rw e;
  third = rw e;
}
