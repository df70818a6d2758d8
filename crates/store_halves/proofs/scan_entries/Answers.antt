-- 32 entries are judged, and their length together is compared with the half.
-- Assumes nothing.
use Rattle.store_load.proofs.Steps.{scanned, scanned-bad}
use Rattle.store_halves.proofs.Loading.{ends-bad, ends-over, ends_at}
use Rattle.store_halves.proofs.scan_entries.Goals as goal

pub returns-in_err-entries : goal.returns-in_err-entries
returns-in_err-entries c =
    rw c.from_residual.ensures (ends-bad _ _ _ (scanned-bad _ _ _ c.in_err-entries.ensures))

pub returns-then-h-entries : goal.returns-then-h-entries
returns-then-h-entries c =
    let x = scanned _ _ _ _ c.in_ok-entries.ensures in
    ends-over _ _ _ x.0 x.1 _ x.3 c.if-h-entries.true

pub returns : goal.returns
returns c =
    let x = scanned _ _ _ _ c.in_ok-entries.ensures in
    ends_at _ _ _ x.0 x.1 _ x.3 _ x.2 c.if-h-entries.false
