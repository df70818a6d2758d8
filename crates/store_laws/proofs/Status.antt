-- No call on a store refuses with 0: each definition is a walk down nested needs, and no need's number is 0.
-- Assumes nothing.
use mathlib.Core.Bool.{Bool, true, false}
use mathlib.Core.List.{List, [], ◌∷◌, ◌++◌}
use Prim.Native.Nat.{ℕ, zero, suc}
use Rattle.common.specs.Outcome.{Outcome, refused, then, pick, Numbered}
use Rattle.common.proofs.Outcomes.{refused-numbered, found-numbered, need-numbered, then-numbered}
use Rattle.bitmap_laws.proofs.Status.{judge-numbered, placed-numbered}
use Rattle.row_spec.specs.Varint.{varint_at}
use Rattle.row_spec.specs.declared.Varint.{Varint}
use Rattle.std.specs.Prelude.{Result, Ok, Err}
use Rattle.row_spec.specs.declared.ReadFault.{ReadFault}
use Rattle.store_spec.specs.Store.{entries, room_for, put_in, fetch_in, drop_in}
use Rattle.store_spec.specs.Owners.{own_entries, all_entries, on_slot, put_on, fetch_on, drop_on}
use Rattle.store_spec.specs.Saved.{Taken, on_shortest, entry_from, scan, fitting, save_on, load_on}
use Rattle.store_laws.proofs.Scans.{made}

entries-numbered : (n : ℕ) (dir buf : List ℕ) → Numbered (entries n dir buf)
unfolding entries
entries-numbered n dir buf = need-numbered _ _ _ (need-numbered _ _ _ (found-numbered _))

own-numbered : (o : ℕ) (dir buf : List ℕ) → Numbered (own_entries o dir buf)
unfolding own_entries
own-numbered o dir buf = need-numbered _ _ _ (entries-numbered 32 _ _)

all-numbered : (dir buf : List ℕ) → Numbered (all_entries dir buf)
unfolding all_entries
all-numbered dir buf =
    then-numbered _ _ (own-numbered 0 dir buf) (λ x.
    then-numbered _ _ (own-numbered 1 dir buf) (λ y. found-numbered _))

-- ---- the calls of an owner
slot-numbered : {A : Type 0} (o k : ℕ) (dir buf : List ℕ) (f : List (List ℕ) → Outcome A)
    → ((es : List (List ℕ)) → Numbered (f es)) → Numbered (on_slot o k (then (own_entries o dir buf) f))
unfolding on_slot
slot-numbered o k dir buf f h =
    need-numbered _ _ _ (need-numbered _ _ _ (then-numbered _ f (own-numbered o dir buf) h))

pub put-numbered : (o k : ℕ) (bitmap dir buf : List ℕ) → Numbered (put_on o k bitmap dir buf)
unfolding put_on put_in room_for
put-numbered o k bitmap dir buf =
    slot-numbered o k dir buf _ (λ es.
    then-numbered _ _ (judge-numbered bitmap) (λ l. need-numbered _ _ _ (found-numbered _)))

pub fetch-numbered : (o k out : ℕ) (dir buf : List ℕ) → Numbered (fetch_on o k out dir buf)
unfolding fetch_on fetch_in
fetch-numbered o k out dir buf = slot-numbered o k dir buf _ (λ es. need-numbered _ _ _ (placed-numbered _ out))

pub drop-numbered : (o k : ℕ) (dir buf : List ℕ) → Numbered (drop_on o k dir buf)
unfolding drop_on drop_in
drop-numbered o k dir buf = slot-numbered o k dir buf _ (λ es. need-numbered _ _ _ (found-numbered _))

-- ---- save and load
pub save-numbered : (out : ℕ) (dir buf : List ℕ) → Numbered (save_on out dir buf)
unfolding save_on
save-numbered out dir buf = then-numbered _ _ (all-numbered dir buf) (λ es. placed-numbered _ out)

entry-numbered : (s : List ℕ) (at : ℕ) → Numbered (entry_from s at)
unfolding entry_from
entry-numbered s at = go (varint_at s at)
  where
    picked : (b : Bool) (x : Outcome Taken) → Numbered x → Numbered (pick b x (refused 42))
    picked true x h = h
    picked false x h = refused-numbered 41

    go : (v : Result Varint ReadFault) → Numbered (on_shortest v (refused 42) (made s))
    go (Err e) = refused-numbered 41
    go (Ok r) = picked r.shortest _ (need-numbered _ _ _ (need-numbered _ _ _ (found-numbered _)))

scan-numbered : (s : List ℕ) (at : ℕ) (acc : List (List ℕ)) (n : ℕ) → Numbered (scan s at acc n)
unfolding scan
scan-numbered s at acc zero = found-numbered _
scan-numbered s at acc (suc n) =
    then-numbered _ _ (entry-numbered s at) (λ t. scan-numbered s t.next (acc ++ (t.entry ∷ [])) n)

pub load-numbered : (dir : List ℕ) (room : ℕ) (s : List ℕ) → Numbered (load_on dir room s)
unfolding load_on fitting
load-numbered dir room s =
    need-numbered _ _ _ (then-numbered _ _ (scan-numbered s 0 [] 64) (λ r.
    need-numbered _ _ _ (need-numbered _ _ _ (need-numbered _ _ _ (found-numbered _)))))
