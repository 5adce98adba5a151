use Rattle.std.proofs.Common.{◌++◌, take, arith}
use Rattle.std.proofs.lemmas.Grind.{common_steps}
use Rattle.pure_io.proofs.Growth.{Consumes-append, Ok-from}
use Rattle.pure_io.proofs.reading.read_start.Goals as goal

pub returns-in_err-extend_from_slice-clause-most : goal.returns-in_err-extend_from_slice-clause-most
returns-in_err-extend_from_slice-clause-most g c =
    let says = c.read_count.ensures in
    let count = c.in_ok-count.count in
    let given = Ok-from c.read.result c.read_count.result _ count says.count says.fault c.in_ok-count.was in
    let bound = rw given at c.read.ensures.bound in
    let bytes = rw given at c.read.ensures.bytes in
    let piece = take count c.read.new.buf in (
      c.loop-chunk.bytes.items ++ piece,
      let kept = c.read.auto.buf in let b = bound.0 in grind (arith, common_steps),
      Consumes-append _ _ _ c.loop-chunk.bytes.items piece c.loop-chunk.invariant.consumed bytes.0,
    )
