-- A call on a store whose answer is handed on keeps its record. Assumes nothing.
use mathlib.Core.Path.{◌≡◌, refl, ap, ◌∙◌}
use mathlib.Core.List.{List}
use Prim.Native.Nat.{ℕ}
use Rattle.common.specs.Outcome.{Outcome, refused, found, status}
use Rattle.store_spec.specs.Store.{told, done_of}
use Rattle.store_spec.specs.Owners.{OwnChanges, OwnDrops, AllChanges}
use Rattle.std.specs.Prelude.{Result}
use Rattle.common.specs.declared.Refusal.{Refusal}
use Rattle.c_store.specs.Storing.{PutCall, DropCall, LoadCall}

-- the status of what a call told
told-status : (x : Outcome (List (List ℕ))) (s : Result (Unit {0}) Refusal) (r : ℕ) → told s ≡ done_of x → r ≡ status (told s)
    → r ≡ status x
unfolding done_of
told-status x s r t e = e ∙ ap status t ∙ done x
  where
    done : (x : Outcome (List (List ℕ))) → status (done_of x) ≡ status x
    done (refused n) = refl
    done (found es) = refl

module _ (x : Outcome (List (List ℕ))) (s : Result (Unit {0}) Refusal) (r : ℕ) (e : r ≡ status (told s)) (dir buf dir' : List ℕ) where
  pub put-call : (o : ℕ) (buf' : List ℕ) → OwnChanges o x dir buf dir' buf' s → PutCall o x r dir buf dir' buf'
  put-call o buf' c = record { says = told-status x s r c.says e; left = c.left }

  pub drop-call : (o k : ℕ) → OwnDrops o x k dir buf dir' s → DropCall o x k r dir buf dir'
  drop-call o k c = record { says = told-status x s r c.says e; numbers = c.numbers; left = c.left }

  pub load-call : (buf' : List ℕ) → AllChanges x dir buf dir' buf' s → LoadCall x r dir buf dir' buf'
  load-call buf' c = record { says = told-status x s r c.says e; left = c.left }
