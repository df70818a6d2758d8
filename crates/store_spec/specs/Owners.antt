-- A store that two owners share (02: "our crew", owner 0, and "the client's engineers", owner 1): what an owner's slots
-- mean, what its calls make of that meaning, and what they leave.
-- Owner o has the numbers of slots 32 · o to 32 · o + 31 and the o-th half of the buffer, from whose first byte its
-- starts count. That is a share of 32 slots, and its entries are those of any share.
use Rattle.std.specs.Prelude.{ℕ, ◌+◌, ◌*◌, ◌/◌, ◌%◌, ◌≡◌, Bool, List, ◌++◌, length, take, drop, ltb, eqb, Result}
use Rattle.common.specs.Outcome.{Outcome, refused, found, then, need}
use Rattle.store_spec.specs.Store.{entries, put_in, fetch_in, drop_in, told, done_of, emptied}
use Rattle.common.specs.declared.Refusal.{Refusal}

-- ---- what is an owner's

-- "each has half the buffer, rounded down, ours first"
unfoldable pub half : List ℕ → ℕ
half buf = length buf / 2

-- the o-th of the parts that have n elements each
unfoldable pub part : ℕ → ℕ → List ℕ → List ℕ
part o n xs = take n (drop (o * n) xs)

-- "slots 0 to 31 are our crew's, 32 to 63 theirs"
unfoldable pub owns : ℕ → ℕ → Bool
owns o k = eqb (k / 32) o

-- "a crew's call judges only its own slots and half"; "42 also for a slot's form that lies outside its crew's half":
-- 42, or the entries of the owner's 32 slots
unfoldable pub own_entries : ℕ → List ℕ → List ℕ → Outcome (List (List ℕ))
own_entries o dir buf = need (eqb (length dir) 128) 42 (entries 32 (part o 64 dir) (part o (half buf) buf))

-- the entries of both, in the order of their slots: the whole store
unfoldable pub all_entries : List ℕ → List ℕ → Outcome (List (List ℕ))
all_entries dir buf = then (own_entries 0 dir buf) (λ x. then (own_entries 1 dir buf) (λ y. found (x ++ y)))

-- ---- the calls of owner o on slot k

-- "40 slot number over 63, first"; "44 for the other crew's slot, after 40"
unfoldable pub on_slot : {A : Type 0} → ℕ → ℕ → Outcome A → Outcome A
on_slot o k answer = need (ltb k 64) 40 (need (owns o k) 44 answer)

-- "a put is now refused for room by its own half only"
unfoldable pub put_on : ℕ → ℕ → List ℕ → List ℕ → List ℕ → Outcome (List (List ℕ))
put_on o k bitmap dir buf = on_slot o k (then (own_entries o dir buf) (put_in (half buf) (k % 32) bitmap))

unfoldable pub fetch_on : ℕ → ℕ → ℕ → List ℕ → List ℕ → Outcome (List ℕ)
fetch_on o k out dir buf = on_slot o k (then (own_entries o dir buf) (fetch_in out (k % 32)))

unfoldable pub drop_on : ℕ → ℕ → List ℕ → List ℕ → Outcome (List (List ℕ))
drop_on o k dir buf = on_slot o k (then (own_entries o dir buf) (drop_in (k % 32)))

-- ---- what a call leaves

-- all that is not the o-th part of n elements is as it was
unfoldable pub Beside : ℕ → ℕ → List ℕ → List ℕ → Type 0
Beside o n xs xs' = (take (o * n) xs' ≡ take (o * n) xs) × (drop (o * n + n) xs' ≡ drop (o * n + n) xs)

-- A refused call leaves directory and buffer as they were. Else they keep their lengths, the owner's slots mean the
-- entries es, and all that is not the owner's is as it was, to the byte: the other's numbers and half, and an odd last
-- byte.
unfoldable pub OwnLeft : ℕ → Outcome (List (List ℕ)) → List ℕ → List ℕ → List ℕ → List ℕ → Type 0
OwnLeft o (refused m) dir buf dir' buf' = (dir' ≡ dir) × (buf' ≡ buf)
OwnLeft o (found es) dir buf dir' buf' =
    (length dir' ≡ length dir) × (length buf' ≡ length buf) × (own_entries o dir' buf' ≡ found es)
    × Beside o 64 dir dir' × Beside o (half buf) buf buf'

-- put: a call of owner o and outcome x answers r and turns dir and buf into dir' and buf'
pub record OwnChanges (o : ℕ) (x : Outcome (List (List ℕ))) (dir buf dir' buf' : List ℕ) (r : Result (Unit {0}) Refusal) : Type 0 where
  pub says : told r ≡ done_of x
  pub left : OwnLeft o x dir buf dir' buf'

-- drop of slot k: the same with the buffer as it was, and the directory to the number
pub record OwnDrops (o : ℕ) (x : Outcome (List (List ℕ))) (k : ℕ) (dir buf dir' : List ℕ) (r : Result (Unit {0}) Refusal) : Type 0 where
  pub says : told r ≡ done_of x
  pub numbers : dir' ≡ emptied x k dir
  pub left : OwnLeft o x dir buf dir' buf

-- "save and load belong to the yard and touch both": load leaves a store that means the 64 entries es, with an odd last
-- byte as it was
unfoldable pub AllLeft : Outcome (List (List ℕ)) → List ℕ → List ℕ → List ℕ → List ℕ → Type 0
AllLeft (refused m) dir buf dir' buf' = (dir' ≡ dir) × (buf' ≡ buf)
AllLeft (found es) dir buf dir' buf' =
    (length dir' ≡ length dir) × (length buf' ≡ length buf) × (all_entries dir' buf' ≡ found es)
    × (drop (2 * half buf) buf' ≡ drop (2 * half buf) buf)

pub record AllChanges (x : Outcome (List (List ℕ))) (dir buf dir' buf' : List ℕ) (r : Result (Unit {0}) Refusal) : Type 0 where
  pub says : told r ≡ done_of x
  pub left : AllLeft x dir buf dir' buf'
