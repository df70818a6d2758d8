-- A loop that writes f of each element, one behind the other.
-- Assumes nothing.
use mathlib.Core.Path.{◌≡◌, ap, ◌∙◌}
use mathlib.Core.List.{List, [], ◌∷◌, map, map-append}
use Prim.Native.Nat.{ℕ, ◌+◌, ◌<◌}
use native.Mathlib.Nat.{zero-add}
use native.Mathlib.Numerals.{add-one}
use native.Mathlib.Omega.{arith}
use lib.ListN.{length, get_or, set, take, length-map}
use lib.Seq.{take-suc, take-length, length-take-le}
use Rattle.bitmap_spec.specs.Output.{written}
use Rattle.bitmap_laws.proofs.Output.{written-more, written_none}

pub map-start : (f : ℕ → ℕ) (l before : List ℕ) (at : ℕ) → before ≡ written before at (map f (take 0 l))
map-start f l before at = written_none before at

pub map-turn : (f : ℕ → ℕ) (l before out : List ℕ) (at i x : ℕ) → i < length l → at + i < length before → x ≡ f (get_or l i 0)
    → out ≡ written before at (map f (take i l))
    → set out (at + i) x ≡ written before at (map f (take (i + 1) l))
map-turn f l before out at i x h room e q =
    let n : length (map f (take i l)) ≡ i = length-map (take i l) f ∙ length-take-le i l (omega arith) in
    let m = rw n at (written-more before (map f (take i l)) at x (rw n room)) in
    ap (λ (o : List ℕ). set o (at + i) x) q ∙ m ∙ rw (add-one i, take-suc l i 0 h, map-append f (take i l) (get_or l i 0 ∷ []), e)

pub map-end : (f : ℕ → ℕ) (l before out : List ℕ) (at i : ℕ) → i ≡ length l
    → out ≡ written before at (map f (take i l)) → out ≡ written before at (map f l)
map-end f l before out at i e q = q ∙ rw (e, take-length l)

-- the same from the start of a list
pub front-turn : (f : ℕ → ℕ) (l before out : List ℕ) (i x : ℕ) → i < length l → i < length before
    → x ≡ f (get_or l i 0) → out ≡ written before 0 (map f (take i l))
    → set out i x ≡ written before 0 (map f (take (i + 1) l))
front-turn f l before out i x h room e q = rw (zero-add i) at (map-turn f l before out 0 i x h (rw (zero-add i) room) e q)
