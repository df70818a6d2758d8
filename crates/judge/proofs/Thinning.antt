-- Containers of no or one member, eight at a time.
-- Assumes nothing.
use mathlib.Core.Path.{◌≡◌, refl, sym, ap₂, ◌∙◌}
use mathlib.Core.Bool.{Bool, true, false}
use mathlib.Core.List.{List}
use Prim.Native.Nat.{ℕ, zero, suc, ◌+◌, ◌-◌, ◌*◌, ◌/◌, ◌%◌, ◌^◌, ◌≤◌, ◌<◌}
use native.Mathlib.Nat.{add-zero, zero-add, add_assoc}
use native.Mathlib.Numerals.{add-one}
use native.Mathlib.Omega.{arith}
use lib.ListN.{length, get_or, take, drop}
use lib.Bits.{bit_and, and_block, and_high}
use lib.Pow.{shr_mod}
use lib.Count.{ones, ones_in}
use Rattle.common.specs.Lists.{sum, rising}
use Rattle.common.specs.Bytes.{little_at}
use Rattle.bitmap_spec.specs.Judge.{size_of}
use Rattle.bitmap_spec.proofs.Reading.{walk}
use Rattle.bitmap_spec.proofs.Tally.{tally}
use Rattle.words.proofs.Words.{ones_low}
use Rattle.judge.specs.Post.{Thin, Passes}
use Rattle.judge.proofs.Walking.{size-sparse, size-container, ok-sparse, sum-cons, walk-bad, walk-good}
use Rattle.judge.proofs.Descents.{tally-cons, rises-short}
use Rattle.std.specs.Prelude.{Some}
use Rattle.std.specs.Bool.{then_some}

-- ---- eight descriptors as one number

-- 254 in each of n bytes
unfoldable pub mask : ℕ → ℕ
mask zero = 0
mask (suc n) = 254 + 256 * mask n

low_bit_lem : (b : ℕ) → b < 256 → bit_and b 254 ≡ 0 → b ≤ 1
low_bit_lem b h e =
    let y : bit_and b 254 ≡ b / 2 % 128 * 2 = and_high b 7 1 in
    let x : b / 2 % 128 ≡ b / 2 = shr_mod {n = b} 7 1 h in
    omega (arith, y, x, e)

pub thin-bytes : (d : List ℕ) (at n : ℕ) → ((k : ℕ) → get_or d k 0 < 256) → bit_and (little_at d at n) (mask n) ≡ 0
    → Thin d at n
unfolding little_at mask
thin-bytes d at zero h e j l = absurd (omega arith)
thin-bytes d at (suc n) h e j l = go (thin-bytes d (at + 1) n h (omega (arith, parts))) j l
  where
    parts : bit_and (little_at d (at + 1) n) (mask n) * 256 + bit_and (get_or d at 0) 254 ≡ 0
    parts =
        let a : get_or d at 0 + 256 * little_at d (at + 1) n ≡ little_at d (at + 1) n * 2 ^ 8 + get_or d at 0 = omega arith in
        let b : 254 + 256 * mask n ≡ mask n * 2 ^ 8 + 254 = omega arith in
        sym (and_block 8 (little_at d (at + 1) n) (mask n) (get_or d at 0) 254 (h at) (omega arith))
        ∙ ap₂ bit_and (sym a) (sym b) ∙ e

    go : Thin d (at + 1) n → (j : ℕ) → j < suc n → get_or d (at + j) 0 ≤ 1
    go r zero l = rw (add-zero at) (low_bit_lem (get_or d at 0) (h at) (omega (arith, parts)))
    go r (suc j) l =
        let q : at + suc j ≡ at + 1 + j = omega arith in
        rw q (r j (omega arith))

ones-one : (b : ℕ) → b ≤ 1 → ones b ≡ b
unfolding ones ones_in
ones-one zero l = refl
ones-one (suc zero) l = refl
ones-one (suc (suc b)) l = absurd (omega arith)

-- the descriptors from i on, added
pub added : List ℕ → ℕ → ℕ → ℕ
added d i k = tally (λ j. get_or d j 0) i k

pub thin-ones : (d : List ℕ) (at n : ℕ) → Thin d at n → ones (little_at d at n) ≡ added d at n
unfolding little_at added tally ones
thin-ones d at zero h = refl
thin-ones d at (suc n) h =
    let b : get_or d at 0 ≤ 1 = rw (add-zero at) at (h 0 (omega arith)) in
    let r = thin-ones d (at + 1) n
    (λ j l. let q : at + 1 + j ≡ at + suc j = omega arith in rw q (h (suc j) (omega arith))) in
    ones_low (get_or d at 0) (little_at d (at + 1) n) (omega arith)
    ∙ ap₂ (λ (x y : ℕ). x + y) (ones-one (get_or d at 0) b) (r ∙ rw (add-one at))
    ∙ sym (tally-cons (λ j. get_or d j 0) at n)

-- ---- the walk

module _ (s d : List ℕ) (n : ℕ) (bytes : (k : ℕ) → get_or s k 0 < 256) (g : n ≤ length d) where
  -- one container
  pub pass-one : (at i t : ℕ) (ok : Bool) → i < n → get_or d i 0 ≡ t → t < 32
      → at + sum size_of (drop i (take n d)) ≡ length s
      → ok ≡ rising 256 0 (take t (drop at s))
      → Passes s d n at i (then_some ok (record { count = 1; bytes = t }))
  pass-one at i t false l q b room e = λ card. walk-bad d n i g s at card l (rw q (ok-sparse s at t b ∙ sym e))
  pass-one at i t true l q b room e =
      let z = sum-cons d n i g l in
      let y = size-sparse (get_or d i 0) (rw q b) in
      let in-room : at + t ≤ length s = omega (arith, z, y) in record {
        good = λ card. walk-good d n i g s at card l (rw q (ok-sparse s at t b ∙ sym e))
            ∙ rw (q, size-sparse t b, size-container s at t b in-room);
        some = omega arith;
        upto = omega arith;
        room = omega (arith, z, y);
      }

  -- k containers of no or one member
  thin-sum : (i k : ℕ) → Thin d i k → i + k ≤ n
      → sum size_of (drop i (take n d)) ≡ added d i k + sum size_of (drop (i + k) (take n d))
  unfolding added tally
  thin-sum i zero h l = rw (add-zero i, zero-add (sum size_of (drop i (take n d))))
  thin-sum i (suc k) h l =
      let e : i + suc k ≡ i + k + 1 = omega arith in
      let b = h k (omega arith) in
      let y = size-sparse (get_or d (i + k) 0) (omega arith) in
      let before = thin-sum i k (λ j m. h j (omega arith)) (omega arith) in
      rw e (omega (arith, before, sum-cons d n (i + k) g (omega arith), y))

  thin-walk : (at card i k : ℕ) → Thin d i k → i + k ≤ n → at + sum size_of (drop i (take n d)) ≡ length s
      → walk s at card (drop i (take n d)) ≡ walk s (at + added d i k) (card + added d i k) (drop (i + k) (take n d))
  unfolding added tally
  thin-walk at card i zero h l room = rw (add-zero i, add-zero at, add-zero card)
  thin-walk at card i (suc k) h l room =
      let e : i + suc k ≡ i + k + 1 = omega arith in
      let b = h k (omega arith) in
      let t = get_or d (i + k) 0 in
      let y = size-sparse t (omega arith) in
      let before = thin-sum i k (λ j m. h j (omega arith)) (omega arith) in
      let z = sum-cons d n (i + k) g (omega arith) in
      let in-room : at + added d i k + t ≤ length s = omega (arith, before, z, y) in
      let good = ok-sparse s (at + added d i k) t (omega arith)
      ∙ sym (rises-short s (at + added d i k) t bytes in-room (omega arith)) in
      thin-walk at card i k (λ j m. h j (omega arith)) (omega arith) room
      ∙ walk-good d n (i + k) g s (at + added d i k) (card + added d i k) (omega arith) good
      ∙ rw (
        e,
        y,
        size-container s (at + added d i k) t (omega arith) in-room,
        add_assoc at (added d i k) t,
        add_assoc card (added d i k) t,
      )

  pub pass-eight : (at i b : ℕ) → i + 8 ≤ n → Thin d i 8 → at + sum size_of (drop i (take n d)) ≡ length s
      → b ≡ added d i 8 → Passes s d n at i (Some (record { count = 8; bytes = b }))
  pass-eight at i b l h room e = record {
    good = λ card. thin-walk at card i 8 h l room ∙ rw (← e);
    some = omega arith;
    upto = l;
    room = omega (arith, thin-sum i 8 h l);
  }

-- the literal is 254 in each of eight bytes
pub thin-if : (d : List ℕ) (i x : ℕ) → ((k : ℕ) → get_or d k 0 < 256) → x ≡ little_at d i 8
    → bit_and x 18374403900871474942 ≡ 0 → Thin d i 8
unfolding mask
thin-if d i x h e z = thin-bytes d i 8 h (rw (← e) z)

pub thin-start : (s d : List ℕ) (n from : ℕ) → walk s from (from - from) (take n d) ≡ walk s from 0 (take n d)
thin-start s d n from =
    let q : from - from ≡ 0 = omega arith in
    rw q
