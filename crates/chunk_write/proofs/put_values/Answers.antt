-- The chosen widths and exceptions are those of the written chunk.
-- Assumes nothing.
use mathlib.Core.Path.{◌≡◌, refl, ap, ◌∙◌}
use mathlib.Core.List.{List, map}
use lib.ListN.{length, length-map}
use Prim.Native.Nat.{ℕ}
use native.Mathlib.Omega.{arith}
use Rattle.bitmap_spec.specs.Form.{width, largest, chunk_of}
use Rattle.bitmap_spec.specs.Output.{written}
use Rattle.bitmap_laws.proofs.Length.{size_at}
use Rattle.width_choice.proofs.Thresholds.{less_none}
use Rattle.chunk_write.proofs.Laying.{wider-many, size_is, chunk-is}
use Rattle.chunk_write.specs.Widths.{Chosen}
use Rattle.chunk_write.proofs.put_values.Goals as goal

pub choose_widths-t-requires : goal.choose_widths-t-requires
choose_widths-t-requires c = (c.requires.0, c.requires.2)

pub put_at-requires : goal.put_at-requires
put_at-requires c =
    let t : Chosen c.args.vs.now c.choose_widths-t.result = rw less_none at c.choose_widths-t.ensures in
    let size = size_is c.args.vs.now c.choose_widths-t.result.first c.choose_widths-t.result.second
    c.choose_widths-t.result.exceptions
    (largest (map width c.args.vs.now)) t.exceptions refl t.second in (
      c.requires.0,
      ap length c.requires.1 ∙ length-map c.args.vs.now width,
      omega (arith, t.within, c.requires.3),
      omega (arith, t.within, c.requires.3),
      omega (arith, t.few),
      wider-many c.args.vs.now c.args.ws.now c.choose_widths-t.result.first c.choose_widths-t.result.exceptions
          c.requires.1 t.exceptions,
      omega (arith, size, ap (λ (x : ℕ). size_at c.args.vs.now x) t.first, c.requires.4),
    )

pub returns : goal.returns
returns c =
    let t : Chosen c.args.vs.now c.choose_widths-t.result = rw less_none at c.choose_widths-t.ensures in
    let size = size_is c.args.vs.now c.choose_widths-t.result.first c.choose_widths-t.result.second
    c.choose_widths-t.result.exceptions
    (largest (map width c.args.vs.now)) t.exceptions refl t.second in
    let chunk = chunk-is c.args.vs.now c.choose_widths-t.result.first c.choose_widths-t.result.second
    c.choose_widths-t.result.exceptions
    (largest (map width c.args.vs.now)) t.exceptions refl t.second c.args.ws.now c.args.m c.requires.1 in (
      c.put_at.ensures.0 ∙ size ∙ ap (λ (x : ℕ). size_at c.args.vs.now x) t.first,
      c.put_at.ensures.1
          ∙ ap (λ (l : List ℕ). written c.args.out.now c.args.at l)
          (chunk ∙ ap (λ (x : ℕ). chunk_of c.args.vs.now c.args.m x) t.first),
    )
