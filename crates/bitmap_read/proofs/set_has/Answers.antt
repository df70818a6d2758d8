-- A position is a member exactly if its rest is one of its container, which starts after the sizes of those before it.
-- Assumes nothing.
use Prim.Native.Nat.{ℕ, ◌+◌, ◌/◌, ◌%◌}
use mathlib.Core.Path.{sym, ap, ◌∙◌}
use native.Mathlib.Omega.{arith}
use lib.ListN.{get_or}
use Rattle.common.specs.Lists.{mem}
use Rattle.bitmap_spec.specs.Judge.{container}
use Rattle.bitmap_read.proofs.Held.{set_past, set_at, set_room}
use Rattle.bitmap_read.proofs.set_has.Goals as goal

pub returns-then-set-k : goal.returns-then-set-k
returns-then-set-k c =
    sym (set_past _ _ _ _ c.args.set.now.sound c.args.position c.if-set-k.true)

pub container_has-requires : goal.container_has-requires
container_has-requires c =
    omega (
      arith,
      c.sizes.ensures.0,
      set_room _ _ _ _ c.args.set.now.sound (c.args.position / 256) c.if-set-k.false,
    )

pub returns : goal.returns
returns c =
    let set = c.args.set.now in
    c.container_has.ensures ∙ ap
    (λ (k : ℕ).
    mem (c.args.position % 256)
    (container set.bytes.now (set.start + k) (get_or set.descriptors.now (c.args.position / 256) 0)))
    c.sizes.ensures.0 ∙ sym
    (set_at _ _ _ _ set.sound c.args.position c.if-set-k.false)
