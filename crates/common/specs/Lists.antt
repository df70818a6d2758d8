-- Lists of numbers: runs, tests, rising lists, sums and tables.
use Rattle.std.specs.Prelude.{ℕ, zero, suc, ◌+◌, Bool, true, false, List, [], ◌∷◌, leb, ltb, eqb}
use Rattle.common.specs.Outcome.{pick, both}

-- the numbers from k on, n of them
unfoldable pub from : ℕ → ℕ → List ℕ
from k zero = []
from k (suc n) = k ∷ from (suc k) n

-- those of which the test holds, in their order
unfoldable pub keep : (ℕ → Bool) → List ℕ → List ℕ
keep f [] = []
keep f (x ∷ xs) = pick (f x) (x ∷ keep f xs) (keep f xs)

-- whether x is a member
unfoldable pub mem : ℕ → List ℕ → Bool
mem x [] = false
mem x (y ∷ ys) = pick (eqb x y) true (mem x ys)

-- strictly rising, from lo on, and each below n
unfoldable pub rising : ℕ → ℕ → List ℕ → Bool
rising n lo [] = true
rising n lo (x ∷ xs) = both (both (leb lo x) (ltb x n)) (rising n (suc x) xs)

-- f of each, added
unfoldable pub sum : (ℕ → ℕ) → List ℕ → ℕ
sum f [] = 0
sum f (x ∷ xs) = f x + sum f xs

-- the test holds of each
unfoldable pub every : (ℕ → Bool) → List ℕ → Bool
every f [] = true
every f (x ∷ xs) = both (f x) (every f xs)

-- f at k, k + 1, .., n of them
unfoldable pub table : (ℕ → ℕ) → ℕ → ℕ → List ℕ
table f k zero = []
table f k (suc n) = f k ∷ table f (suc k) n
