-- One turn of the loop that makes each descriptor at most 32.
-- Assumes nothing.
use mathlib.Core.Path.{◌≡◌, ◌∙◌}
use mathlib.Core.Logic.{⊎_elim}
use mathlib.Core.List.{List}
use Prim.Native.Nat.{ℕ, ◌+◌, ◌≤◌, ◌<◌, min}
use native.Mathlib.Omega.{arith}
use lib.ListN.{length, get_or, set}
use lib.Seq.{get_or-set_same, get_or-set_other}
use Rattle.bitmap_spec.proofs.Window.{below_or}

pub record Level (d₀ d : List ℕ) (i : ℕ) : Type 0 where
  pub long : length d ≡ length d₀
  pub done : (k : ℕ) → k < i → get_or d k 0 ≡ min (get_or d₀ k 0) 32
  pub left : (k : ℕ) → i ≤ k → get_or d k 0 ≡ get_or d₀ k 0

pub level-low : (d₀ d : List ℕ) (i : ℕ) → Level d₀ d i → get_or d i 0 ≤ 32 → Level d₀ d (i + 1)
level-low d₀ d i g h = record {
  long = g.long;
  done = λ k l. ⊎_elim (λ a. g.done k a)
      (λ a. let e : k ≡ i = omega arith in rw e (omega (arith, g.left i (omega arith)))) (below_or k i);
  left = λ k l. g.left k (omega arith);
}

pub level-high : (d₀ d : List ℕ) (i : ℕ) → Level d₀ d i → 32 < get_or d i 0 → i < length d → (d' : List ℕ)
    → d' ≡ set d i 32 → length d' ≡ length d → Level d₀ d' (i + 1)
level-high d₀ d i g h room d' e len = record {
  long = len ∙ g.long;
  done = λ k l. ⊎_elim (λ a. rw e (get_or-set_other d i k 32 0 (λ q. omega arith)) ∙ g.done k a)
      (λ a. let q : k ≡ i = omega arith in
      rw (q, e, get_or-set_same d i 32 0 room) (omega (arith, g.left i (omega arith)))) (below_or k i);
  left = λ k l. rw e (get_or-set_other d i k 32 0 (λ q. omega arith)) ∙ g.left k (omega arith);
}
