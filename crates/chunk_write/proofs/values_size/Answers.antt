-- The chosen widths and exceptions, put into the length of a chunk.
-- Assumes nothing.
use mathlib.Core.List.{map}
use mathlib.Core.Path.{◌≡◌, refl, ap, ◌∙◌}
use Prim.Native.Nat.{◌*◌}
use lib.ListN.{length}
use Rattle.common.specs.Bytes.{ceil8}
use Rattle.bitmap_spec.specs.Form.{width, largest}
use Rattle.bitmap_laws.proofs.Length.{size_at}
use Rattle.width_choice.proofs.Thresholds.{less, length-less}
use Rattle.chunk_write.proofs.Laying.{size_is}
use Rattle.chunk_write.proofs.values_size.Goals as goal

pub returns : goal.returns
returns c =
    let vs = less c.args.m c.args.ds.now in
    let t = c.choose_widths-t.ensures in
    let low : c.packed_size-low.result ≡ ceil8 (length vs * c.choose_widths-t.result.first) =
    c.packed_size-low.ensures.0
    ∙ ap (λ n. ceil8 (n * c.choose_widths-t.result.first)) (length-less c.args.m c.args.ds.now) in
    let size = size_is vs c.choose_widths-t.result.first c.choose_widths-t.result.second
    c.choose_widths-t.result.exceptions
    (largest (map width vs)) t.exceptions refl t.second in
    rw (low, c.packed_size.ensures.0) (size ∙ ap (size_at vs) t.first)
