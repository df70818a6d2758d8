-- A chunk of descriptors up to 63 takes at most 195 bytes, so it fits.
use Rattle.std.proofs.Common.{◌≤◌, length, arith, sym}
use Rattle.std.proofs.lemmas.List.{length-take-le}
use Rattle.bitmap_laws.proofs.Length.{chunk-size}
use Rattle.chunk_vectors.proofs.written.Goals as goal

pub put_chunk-size-requires : goal.put_chunk-size-requires
put_chunk-size-requires g c =
    let small = c.any_large.ensures c.if-any_large.false in
    (omega arith, omega arith, small, omega (arith, chunk-size c.args.ds.now small (omega arith)))

pub slice_bounds-out-end : goal.slice_bounds-out-end
slice_bounds-out-end g c =
    let small = c.any_large.ensures c.if-any_large.false in
    omega (arith, c.put_chunk-size.ensures.0, chunk-size c.args.ds.now small (omega arith))

pub slice_bounds-print_bytes-end : goal.slice_bounds-print_bytes-end
slice_bounds-print_bytes-end g c =
    let small = c.any_large.ensures c.if-any_large.false in
    let fits : c.put_chunk-size.result ≤ length c.put_chunk-size.new.out =
    omega (arith, c.put_chunk-size.ensures.0, chunk-size c.args.ds.now small (omega arith)) in
    sym (length-take-le c.put_chunk-size.result _ fits)
