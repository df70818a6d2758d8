-- With room, the two's complement of the word; else it is cut short. Assumes nothing.
use Rattle.std.proofs.lemmas.Result.{err_from_is_err_and}
use Rattle.std.specs.Prelude.{Ok}
use mathlib.Core.Path.{sym, ap, ap₂, ◌∙◌}
use Prim.Native.Nat.{ℕ}
use native.Mathlib.Omega.{arith}
use lib.IntN.{ℤ}
use mir.Facts.{to_z-of_z}
use mir.Syntax.{w64}
use Rattle.common.specs.Bytes.{signed_of}
use Rattle.row_spec.specs.Read.{read}
use Rattle.row_spec.specs.Value.{whole_at}
use Rattle.row_spec.specs.declared.Field.TheVariants.{Whole}
use Rattle.values.proofs.Rooms.{room_there, no-room, with-room}
use Rattle.values.proofs.whole_at.Goals as goal

pub returns-in_err-n : goal.returns-in_err-n
unfolding whole_at
returns-in_err-n c =
    let p = err_from_is_err_and c.from_residual.result c.from_residual.ensures.1 in
    rw (p.1, p.2) (no-room c.args.s.now c.args.at c.args.w _ _ c.in_err-n.ensures.word c.args.at c.args.w
    (omega arith) _)

pub signed-requires : goal.signed-requires
signed-requires c =
    let h = with-room c.args.s.now c.args.at c.args.w _ _ c.in_ok-n.ensures.word in
    (c.requires.2, rw (h.value, ← c.requires.1) c.in_ok-n.ensures.small)

pub returns : goal.returns
unfolding whole_at
returns c =
    let h = with-room c.args.s.now c.args.at c.args.w _ _ c.in_ok-n.ensures.word in
    ap₂ (λ (z : ℤ) (p : ℕ). Ok (read (Whole z) p))
    (to_z-of_z {w = w64} (record { sfits = c.signed.type_inv }) ∙ c.signed.ensures ∙ ap (signed_of c.args.half) h.value)
    h.next
    ∙ sym (room_there c.args.s.now c.args.at c.args.w h.fits _)
