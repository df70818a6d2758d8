-- The width of an index is ceil(log2(entries)): the last index has that many binary digits. Assumes nothing.
use mathlib.Core.Path.{◌≡◌, refl}
use mathlib.Core.Bool.{Bool, true, false}
use Prim.Native.Nat.{ℕ, suc, ◌-◌, ◌^◌, ◌≤◌, ◌<◌}
use native.Mathlib.Nat.{pow-le-pow_right, zero-lt-suc}
use native.Mathlib.Omega.{arith}
use borrow.Author.Tests.{leb-true, leb-false}
use lib.Count.{count_leading_zeros, leading_top}
use lib.Dec.{leb}
use Rattle.bucket_spec.specs.Piece.{index_width}
use Rattle.bucket_laws.specs.Shown.{CeilLog}

-- w = j + 1, where 2^j is below e and 2^w is not
ceil-log : (e w j : ℕ) → w ≡ suc j → 2 ^ j < e → e ≤ 2 ^ w → CeilLog e w
ceil-log e w j s low high = record { enough = high; least = λ v h. by-test v h (leb w v) refl }
  where
    by-test : (v : ℕ) → e ≤ 2 ^ v → (t : Bool) → leb w v ≡ t → w ≤ v
    by-test v h true q = leb-true w v q
    by-test v h false q =
        let less = leb-false w v q in
        let small : v ≤ j = omega arith in
        absurd (omega (arith, pow-le-pow_right {n = 2} (zero-lt-suc 1) small))

pub index-width : (e : ℕ) → 2 ≤ e → e ≤ 255 → CeilLog e (index_width e)
unfolding index_width
index-width e h g =
    let t = leading_top 8 (e - 1) (omega arith) (omega arith) in
    let w : 8 - count_leading_zeros 8 (e - 1) ≡ suc t.0 = omega arith in
    ceil-log e (8 - count_leading_zeros 8 (e - 1)) t.0 w (omega (arith, t.2)) (rw w (omega (arith, t.3)))
