-- Parts of a list written over one another: before what is written, under it, and wholly inside it.
-- Assumes nothing.
use mathlib.Core.Path.{◌≡◌, sym, ap, ap₂, ◌∙◌}
use mathlib.Core.List.{List, ◌++◌, append_assoc}
use Prim.Native.Nat.{ℕ, ◌+◌, ◌-◌, ◌≤◌}
use native.Mathlib.Nat.{add-zero}
use native.Mathlib.Omega.{arith}
use lib.ListN.{length, take, drop, length-append, length-drop, take-append-drop}
use borrow.Rule.Slice.PartMut.{put_mid}
use lib.Seq.{paste, length-take-le, take-append-le, drop-append-le, take-take, take-add, drop-drop, drop-append-add}
use lib.Seq.{take_at, drop_at}
use Rattle.bitmap_spec.specs.Output.{written}
use Rattle.bitmap_laws.proofs.Output.{written_none, taken}
use Rattle.bitmap_laws.proofs.Parts.{part_length}

-- a part overwritten by l
pub put-part : (out l l' : List ℕ) (to k : ℕ) → l' ≡ l → k ≡ length l → put_mid to k out l' ≡ written out to l
unfolding written
put-part out l l' to k e n = rw (e, n, drop-drop (length l) to out)

-- a part pasted
pub paste-part : (s : List ℕ) (at to n : ℕ) → at + n ≤ length s
    → paste s to (drop at s) (at + n - at) ≡ written s to (take n (drop at s))
unfolding written
paste-part s at to n h =
    let k : at + n - at ≡ n = omega arith in
    rw (k, part_length s at n h) (append_assoc (take to s) (take n (drop at s)) (drop (to + n) s))

-- what is read before what is written is as it was
read-front : (u r : List ℕ) (at n : ℕ) → at + n ≤ length u → take n (drop at (u ++ r)) ≡ take n (drop at u)
read-front u r at n h =
    rw (drop-append-le at u r (omega arith)) (take-append-le n (drop at u) r (rw (length-drop at u) (omega arith)))

pub read_below : (s l : List ℕ) (at n p : ℕ) → at + n ≤ p → p ≤ length s
    → take n (drop at (written s p l)) ≡ take n (drop at s)
unfolding written
read_below s l at n p h r =
    let k : length (take p s) ≡ p = length-take-le p s r in
    read-front (take p s) (l ++ drop (p + length l) s) at n (omega arith)
    ∙ sym (read-front (take p s) (drop p s) at n (omega arith))
    ∙ ap (λ (z : List ℕ). take n (drop at z)) (take-append-drop p s)

-- a part put before one that is written
pub written-before : (s l m : List ℕ) (q p : ℕ) → q + length m ≡ p → p + length l ≤ length s
    → written (written s p l) q m ≡ written s q (m ++ l)
unfolding written
written-before s l m q p e h =
    let n : length (take p s) ≡ p = length-take-le p s (omega arith) in
    let t : take q (take p s ++ (l ++ drop (p + length l) s)) ≡ take q s =
    take-append-le q (take p s) _ (rw n (omega arith)) ∙ take-take q p s (omega arith) in
    let d : drop (q + length m) (take p s ++ (l ++ drop (p + length l) s)) ≡ l ++ drop (p + length l) s =
    rw e (drop_at (take p s) _ p n) in
    let k : p + length l ≡ q + length (m ++ l) = omega (arith, length-append m l) in
    ap₂ (λ (u v : List ℕ). u ++ (m ++ v)) t d
    ∙ ap (λ (u : List ℕ). take q s ++ u)
    (sym (append_assoc m l (drop (p + length l) s)) ∙ ap (λ (i : ℕ). (m ++ l) ++ drop i s) k)

-- a part written inside what is then written over it leaves nothing
pub written_over : (s l m : List ℕ) (p : ℕ) → p + length l ≤ length m → length m ≤ length s
    → written (written s p l) 0 m ≡ written s 0 m
unfolding written
written_over s l m p h r =
    let n : length (take p s ++ l) ≡ p + length l =
    length-append (take p s) l ∙ ap (λ (y : ℕ). y + length l) (length-take-le p s (omega arith)) in
    let a : take p s ++ (l ++ drop (p + length l) s) ≡ (take p s ++ l) ++ drop (p + length l) s =
    sym (append_assoc (take p s) l (drop (p + length l) s)) in
    let j : 0 + length m ≡ length (take p s ++ l) + (length m - (p + length l)) = omega (arith, n) in
    let i : p + length l + (length m - (p + length l)) ≡ 0 + length m = omega arith in
    ap (λ (u : List ℕ). m ++ u)
    (ap (drop (0 + length m)) a ∙ ap (λ (i : ℕ). drop i ((take p s ++ l) ++ drop (p + length l) s)) j
    ∙ drop-append-add (take p s ++ l) (drop (p + length l) s) (length m - (p + length l))
    ∙ drop-drop (length m - (p + length l)) (p + length l) s ∙ ap (λ (i : ℕ). drop i s) i)

-- a part copied by way of an array
pub by_way : (s part part' s' : List ℕ) (at to n : ℕ) → at + n ≤ length s → part'
    ≡ written part 0 (take n (drop at s))
    → s' ≡ written s to (take n (drop 0 part')) → s' ≡ written s to (take n (drop at s))
by_way s part part' s' at to n h q w =
    w ∙ ap (written s to) (taken part' part (take n (drop at s)) n q (sym (part_length s at n h)))

-- k bytes more that are moved up, before those that are
pub move-turn : (s₀ s s' : List ℕ) (at to n j k i : ℕ) → at ≤ to → to + n ≤ length s₀ → j ≤ n → i + k ≡ j
    → s ≡ written s₀ (to + j) (take (n - j) (drop (at + j) s₀))
    → s' ≡ written s (to + i) (take k (drop (at + i) s)) → s' ≡ written s₀ (to + i) (take (n - i) (drop (at + i) s₀))
move-turn s₀ s s' at to n j k i h r g e q w =
    let lx : length (take (n - j) (drop (at + j) s₀)) ≡ n - j = part_length s₀ (at + j) (n - j) (omega arith) in
    let ly : length (take k (drop (at + i) s₀)) ≡ k = part_length s₀ (at + i) k (omega arith) in
    let u : take k (drop (at + i) s) ≡ take k (drop (at + i) s₀) =
    rw q (read_below s₀ (take (n - j) (drop (at + j) s₀)) (at + i) k (to + j) (omega arith) (omega arith)) in
    let e₁ : n - i ≡ k + (n - j) = omega arith in
    let e₂ : at + i + k ≡ at + j = omega arith in
    let c : take (n - i) (drop (at + i) s₀) ≡ take k (drop (at + i) s₀) ++ take (n - j) (drop (at + j) s₀) =
    rw (e₁, take-add k (n - j) (drop (at + i) s₀), drop-drop k (at + i) s₀, e₂) in
    w
    ∙ ap₂ (λ (y z : List ℕ). written y (to + i) z) q u
    ∙ written-before s₀ (take (n - j) (drop (at + j) s₀)) (take k (drop (at + i) s₀)) (to + i) (to + j) (omega arith)
    (omega arith)
    ∙ ap (written s₀ (to + i)) (sym c)

-- before the first turn nothing is moved
pub move-none : (s : List ℕ) (at to n : ℕ) → s ≡ written s (to + n) (take (n - n) (drop (at + n) s))
move-none s at to n =
    let z : n - n ≡ 0 = omega arith in
    rw z (written_none s (to + n))

-- the first bytes are the last to be moved
pub move-end : (s₀ s s' : List ℕ) (at to n j : ℕ) → at ≤ to → to + n ≤ length s₀ → j ≤ n
    → s ≡ written s₀ (to + j) (take (n - j) (drop (at + j) s₀)) → s' ≡ written s to (take j (drop at s))
    → s' ≡ written s₀ to (take n (drop at s₀))
move-end s₀ s s' at to n j h r g q w =
    let a : at + 0 ≡ at = add-zero at in
    let t : to + 0 ≡ to = add-zero to in
    let m : n - 0 ≡ n = omega arith in
    rw (a, t, m) at (move-turn s₀ s s' at to n j j 0 h r g (omega arith) q (rw (a, t) w))

-- what is written is there to be read
pub read_back : (s l : List ℕ) (p n : ℕ) → p ≤ length s → n ≡ length l → take n (drop p (written s p l)) ≡ l
unfolding written
read_back s l p n h e =
    rw (drop_at (take p s) (l ++ drop (p + length l) s) p (length-take-le p s h))
    (take_at l (drop (p + length l) s) n (sym e))

-- ---- bytes moved down
pub self-written : (s : List ℕ) (at to n : ℕ) → at ≡ to → at + n ≤ length s → s ≡ written s to (take n (drop at s))
unfolding written
self-written s at to n e h =
    let k : length (take n (drop at s)) ≡ n = part_length s at n h in
    rw (k, e, ← drop-drop n to s, take-append-drop n (drop to s)) (sym (take-append-drop to s))
