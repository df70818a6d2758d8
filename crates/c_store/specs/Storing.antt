-- What the calls that change a store return and leave behind.
use Rattle.std.specs.Prelude.{ℕ, ◌≡◌, List}
use Rattle.common.specs.Outcome.{Outcome, status}
use Rattle.store_spec.specs.Store.{emptied}
use Rattle.store_spec.specs.Owners.{OwnLeft, AllLeft}

-- put of owner o: a call of outcome x returns r and turns dir and buf into dir' and buf'
pub record PutCall (o : ℕ) (x : Outcome (List (List ℕ))) (r : ℕ) (dir buf dir' buf' : List ℕ) : Type 0 where
  pub says : r ≡ status x
  pub left : OwnLeft o x dir buf dir' buf'

-- drop of slot k: the same with the buffer as it was, and the directory to the number
pub record DropCall (o : ℕ) (x : Outcome (List (List ℕ))) (k r : ℕ) (dir buf dir' : List ℕ) : Type 0 where
  pub says : r ≡ status x
  pub numbers : dir' ≡ emptied x k dir
  pub left : OwnLeft o x dir buf dir' buf

-- load, of both owners' slots
pub record LoadCall (x : Outcome (List (List ℕ))) (r : ℕ) (dir buf dir' buf' : List ℕ) : Type 0 where
  pub says : r ≡ status x
  pub left : AllLeft x dir buf dir' buf'
