-- The descriptors less the least are the values of the written chunk, and their widths are asked once.
-- Assumes nothing.
use mathlib.Core.List.{List, map}
use lib.ListN.{length-map, length}
use Rattle.bitmap_spec.specs.Form.{width}
use Rattle.bitmap_spec.specs.Output.{written}
use Rattle.bitmap_laws.proofs.Values.{least_at}
use Rattle.bitmap_laws.proofs.Output.{taken}
use Rattle.chunk_write.proofs.Laying.{whole_chunk, whole-size, whole-narrow, whole-zero}
use mathlib.Core.Path.{sym, ap, ◌∙◌}
use Prim.Native.Nat.{ℕ, ◌-◌}
use native.Mathlib.Omega.{arith}
use Rattle.chunk_write.proofs.put_chunk.Goals as goal

pub less-n-requires : goal.less-n-requires
less-n-requires c =
    (omega arith, λ i h. rw c.least_of-m.ensures (least_at c.args.ds.now i h))

pub widths_of-k-requires : goal.widths_of-k-requires
widths_of-k-requires c =
    (omega arith, λ i h. rw c.least_of-m.ensures (least_at c.args.ds.now i h))

pub slice_bounds-put_values-end : goal.slice_bounds-put_values-end
slice_bounds-put_values-end c =
    let many = c.less-n.ensures.0 ∙ sym (length-map c.args.ds.now (λ d. d - c.least_of-m.result)) in
    let values = taken _ _ (map (λ d. d - c.least_of-m.result) c.args.ds.now) c.less-n.result c.less-n.ensures.1 many in
    many ∙ sym (ap length values)

pub slice_bounds-put_values-end-2 : goal.slice_bounds-put_values-end-2
slice_bounds-put_values-end-2 c =
    let long = length-map (map (λ d. d - c.least_of-m.result) c.args.ds.now) width ∙ length-map c.args.ds.now (λ d. d - c.least_of-m.result) in
    let first = taken _ _ (map width (map (λ d. d - c.least_of-m.result) c.args.ds.now)) c.widths_of-k.result c.widths_of-k.ensures.1
    (c.widths_of-k.ensures.0 ∙ sym long) in
    c.widths_of-k.ensures.0 ∙ sym (ap length first ∙ long)

pub put_values-requires : goal.put_values-requires
put_values-requires c =
    let many = c.less-n.ensures.0 ∙ sym (length-map c.args.ds.now (λ d. d - c.least_of-m.result)) in
    let values = taken _ _ (map (λ d. d - c.least_of-m.result) c.args.ds.now) c.less-n.result c.less-n.ensures.1 many in
    let long = length-map (map (λ d. d - c.least_of-m.result) c.args.ds.now) width ∙ length-map c.args.ds.now (λ d. d - c.least_of-m.result) in
    let first = taken _ _ (map width (map (λ d. d - c.least_of-m.result) c.args.ds.now)) c.widths_of-k.result c.widths_of-k.ensures.1
    (c.widths_of-k.ensures.0 ∙ sym long) in
    let size = ap length values ∙ length-map c.args.ds.now (λ d. d - c.least_of-m.result) in (
      rw size c.requires.1,
      first ∙ ap (λ (l : List ℕ). map width l) (sym values),
      whole-zero c.args.ds.now _ c.least_of-m.result c.least_of-m.ensures values,
      whole-narrow c.args.ds.now _ c.least_of-m.result c.requires.2 values,
      rw (whole-size c.args.ds.now _ c.least_of-m.result c.least_of-m.ensures values) c.requires.3,
    )

pub returns : goal.returns
returns c =
    let many = c.less-n.ensures.0 ∙ sym (length-map c.args.ds.now (λ d. d - c.least_of-m.result)) in
    let values = taken _ _ (map (λ d. d - c.least_of-m.result) c.args.ds.now) c.less-n.result c.less-n.ensures.1 many in (
      c.put_values.ensures.0 ∙ whole-size c.args.ds.now _ c.least_of-m.result c.least_of-m.ensures values,
      c.put_values.ensures.1
          ∙ ap (λ (l : List ℕ). written c.args.out.now c.args.at l) (whole_chunk c.args.ds.now _ c.least_of-m.result c.least_of-m.ensures values),
    )
