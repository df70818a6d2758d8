-- Loops that write f i, f (i + 1), .. from byte k + i on and gather the or of all of them.
-- Assumes nothing.
use mathlib.Core.Path.{◌≡◌, refl, ap, ◌∙◌}
use mathlib.Core.Logic.{⊎_elim}
use mathlib.Core.List.{List}
use Prim.Native.Nat.{ℕ, ◌+◌, ◌-◌, ◌*◌, ◌%◌, ◌≤◌, ◌<◌}
use native.Mathlib.Omega.{arith}
use lib.ListN.{length, get_or, set}
use lib.Seq.{get_or-set_same, get_or-set_other}
use lib.Bits.{bit_or, or_lt, or_comm, or_add_and, and_le_r}
use Rattle.bitmap_spec.proofs.Window.{below_or}
use Rattle.chunk_read.specs.Post.{Wrote}

or_left : (x y : ℕ) → x ≤ bit_or x y
or_left x y = omega (arith, or_add_and x y, and_le_r x y)

or_right : (x y : ℕ) → y ≤ bit_or x y
or_right x y = rw (or_comm x y) (or_left y x)

pub nothing : (f : ℕ → ℕ) (i k : ℕ) (out : List ℕ) → Wrote f i i k out out 0
nothing f i k out = record {
  same = λ p l. refl;
  here = λ j l h. absurd (omega arith);
  small = λ s j l h. absurd (omega arith);
  large = λ s. absurd (omega arith);
}

pub one : (f : ℕ → ℕ) (i k : ℕ) (out : List ℕ) (v : ℕ) → k + i < length out → v ≡ f i
    → Wrote f i (i + 1) k out (set out (k + i) (v % 256)) v
one f i k out v room e = record {
  same = λ p l. get_or-set_other out (k + i) p (v % 256) 0 (λ q. omega arith);
  here = λ j l h.
      let q : j ≡ i = omega arith in
      rw q (get_or-set_same out (k + i) (v % 256) 0 room ∙ ap (λ (x : ℕ). x % 256) e);
  small = λ s j l h.
      let q : j ≡ i = omega arith in
      rw (q, ← e) s;
  large = λ s. (i, omega arith, omega arith, rw (← e) s);
}

-- one run behind another
pub joined : (f : ℕ → ℕ) (i m n k : ℕ) (a b c : List ℕ) (x y : ℕ) → i ≤ m → m ≤ n → Wrote f i m k a b x
    → Wrote f m n k b c y → Wrote f i n k a c (bit_or x y)
joined f i m n k a b c x y u v q r =
    record {
      same = λ p l. r.same p (omega arith) ∙ q.same p l;
      here = λ j l h. ⊎_elim (λ g. r.same (k + j) (omega arith) ∙ q.here j l g) (λ g. r.here j g h) (below_or j m);
      small = λ s j l h. ⊎_elim (λ g. q.small (omega (arith, or_left x y)) j l g)
          (λ g. r.small (omega (arith, or_right x y)) j g h) (below_or j m);
      large = λ s. ⊎_elim
          (λ g.
          ⊎_elim (λ e. absurd (omega (arith, or_lt 6 x y g e)))
          (λ e. let z = r.large e in (z.0, omega (arith, z.1), z.2, z.3)) (below_or y 64))
          (λ g. let z = q.large g in (z.0, z.1, omega (arith, z.2), z.3)) (below_or x 64);
    }

-- the same run, counted from another place
pub moved : (f g : ℕ → ℕ) (i n k to : ℕ) (a b : List ℕ) (x : ℕ) → to ≡ k + i → ((t : ℕ) → t < n → g t ≡ f (i + t))
    → Wrote g 0 n to a b x → Wrote f i (i + n) k a b x
moved f g i n k to a b x e h w = record {
  same = λ p l. w.same p (omega arith);
  here = λ j l u.
      let t : i + (j - i) ≡ j = omega arith in
      let q : to + (j - i) ≡ k + j = omega arith in
      let z = w.here (j - i) (omega arith) (omega arith) in
      rw (q, h (j - i) (omega arith), t) at z;
  small = λ s j l u.
      let t : i + (j - i) ≡ j = omega arith in
      let z = w.small s (j - i) (omega arith) (omega arith) in
      rw (h (j - i) (omega arith), t) at z;
  large = λ s.
      let z = w.large s in
      (i + z.0, omega arith, omega (arith, z.2), rw (← h z.0 z.2) z.3);
}

-- one value more
pub step : (f : ℕ → ℕ) (b i k : ℕ) (before out : List ℕ) (any v : ℕ) → b ≤ i → k + i < length out → v ≡ f i
    → Wrote f b i k before out any
    → Wrote f b (i + 1) k before (set out (k + i) (v % 256)) (bit_or any v)
step f b i k before out any v l room e w =
    joined f b i (i + 1) k before out _ any v l (omega arith) w (one f i k out v room e)

-- one more that is like the one before it
pub again : (m i k : ℕ) (before out : List ℕ) (any : ℕ) → 1 ≤ i → k + i < length out
    → Wrote (λ j. m) 0 i k before out any
    → Wrote (λ j. m) 0 (i + 1) k before (set out (k + i) (get_or out (k + i - 1) 0)) (bit_or any m)
again m i k before out any some room w =
    let last : k + i - 1 ≡ k + (i - 1) = omega arith in
    rw (last, w.here (i - 1) (omega arith) (omega arith))
    (step (λ j. m) 0 i k before out any m (omega arith) room refl w)

-- eight values more, written from their own place on
pub eight-more : (f g : ℕ → ℕ) (i k : ℕ) (before out after : List ℕ) (any x : ℕ)
    → ((t : ℕ) → t < 8 → g t ≡ f (i * 8 + t)) → Wrote f 0 (i * 8) k before out any
    → Wrote g 0 8 (k + i * 8) out after x → Wrote f 0 ((i + 1) * 8) k before after (bit_or any x)
eight-more f g i k before out after any x h w u =
    let e : (i + 1) * 8 ≡ i * 8 + 8 = omega arith in
    rw e
    (joined f 0 (i * 8) (i * 8 + 8) k before out after any x (omega arith) (omega arith) w
    (moved f g (i * 8) 8 k (k + i * 8) out after x refl h u))

-- the same values by another name
pub alike : (f g : ℕ → ℕ) (n k : ℕ) (a b : List ℕ) (x : ℕ) → ((t : ℕ) → g t ≡ f t) → Wrote g 0 n k a b x
    → Wrote f 0 n k a b x
alike f g n k a b x h w = record {
  same = w.same;
  here = λ j l u. w.here j l u ∙ ap (λ (z : ℕ). z % 256) (h j);
  small = λ s j l u. rw (← h j) (w.small s j l u);
  large = λ s. let z = w.large s in (z.0, z.1, z.2, rw (← h z.0) z.3);
}
