-- What is gathered, without the last empty containers, describes the result.
-- Assumes nothing.
use mathlib.Core.Path.{refl, sym, ◌∙◌}
use native.Mathlib.Omega.{arith}
use lib.Seq.{length-take-le}
use Rattle.pair_write.specs.Sides.{result_of}
use Rattle.pair_write.proofs.Passing.{starts, gathered-all}
use Rattle.pair_write.proofs.Result.{trimmed-long, trimmed-bytes, describes}
use Rattle.pair_place.proofs.put_through.Goals as goal

pub gather-g-requires : goal.gather-g-requires
gather-g-requires c = (
  starts c.args.o c.args.x c.args.y _ refl refl refl refl,
  omega arith,
  omega (arith, c.requires.0, c.args.x.sound.few, c.args.y.sound.few),
  c.requires.1,
  c.requires.2,
)

pub slice_bounds-put_form-end-2 : goal.slice_bounds-put_form-end-2
slice_bounds-put_form-end-2 c =
    let g = gathered-all
    (result_of c.args.o c.args.x c.args.y)
    c.args.x c.args.y c.args.n _ c.args.ds.now
    c.gather-g.new.ds c.gather-g.new.body _
    c.gather-g.ensures refl c.requires.1 in
    sym
    (trimmed-long c.args.o c.args.x c.args.y c.gather-g.new.ds _ c.args.n c.trim-m.result c.gather-g.result.card
    c.requires.0 g.0 c.trim-m.ensures c.gather-g.ensures.reached.members)

pub slice_bounds-put_form-end-3 : goal.slice_bounds-put_form-end-3
slice_bounds-put_form-end-3 c =
    let g = gathered-all
    (result_of c.args.o c.args.x c.args.y)
    c.args.x c.args.y c.args.n _ c.args.ds.now
    c.gather-g.new.ds c.gather-g.new.body _
    c.gather-g.ensures refl c.requires.1 in
    omega (arith, g.1)

pub slice_bounds-put_form-end-4 : goal.slice_bounds-put_form-end-4
slice_bounds-put_form-end-4 c =
    let g = gathered-all
    (result_of c.args.o c.args.x c.args.y)
    c.args.x c.args.y c.args.n _ c.args.ds.now
    c.gather-g.new.ds c.gather-g.new.body _
    c.gather-g.ensures refl c.requires.1 in
    sym (length-take-le c.gather-g.result.size _ g.1)

pub put_form-requires : goal.put_form-requires
put_form-requires c =
    let g = gathered-all
    (result_of c.args.o c.args.x c.args.y)
    c.args.x c.args.y c.args.n _ c.args.ds.now
    c.gather-g.new.ds c.gather-g.new.body _
    c.gather-g.ensures refl c.requires.1 in
    record {
      set = result_of c.args.o c.args.x c.args.y;
      formed = record {
        describes = describes c.args.o c.args.x c.args.y c.gather-g.new.ds _ c.args.n c.trim-m.result
            c.gather-g.result.card
            c.requires.0 g.0 c.trim-m.ensures c.gather-g.ensures.reached.members;
        bytes = g.2
            ∙ trimmed-bytes c.args.o c.args.x c.args.y c.gather-g.new.ds _ c.args.n c.trim-m.result
            c.gather-g.result.card
            c.requires.0 g.0 c.trim-m.ensures c.gather-g.ensures.reached.members;
      };
    }

pub returns : goal.returns
returns c =
    let g = gathered-all
    (result_of c.args.o c.args.x c.args.y)
    c.args.x c.args.y c.args.n _ c.args.ds.now
    c.gather-g.new.ds c.gather-g.new.body _
    c.gather-g.ensures refl c.requires.1 in
    c.put_form.ensures
    (result_of c.args.o c.args.x c.args.y)
    (record {
      describes = describes c.args.o c.args.x c.args.y c.gather-g.new.ds _ c.args.n c.trim-m.result
          c.gather-g.result.card
          c.requires.0 g.0 c.trim-m.ensures c.gather-g.ensures.reached.members;
      bytes = g.2
          ∙ trimmed-bytes c.args.o c.args.x c.args.y c.gather-g.new.ds _ c.args.n c.trim-m.result c.gather-g.result.card
          c.requires.0 g.0 c.trim-m.ensures c.gather-g.ensures.reached.members;
    })
