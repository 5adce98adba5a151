use Rattle.std.proofs.Common.{arith}
use Rattle.pure_rows.proofs.Numbers.{eight}
use Rattle.pure_rows.proofs.row.number_of.Goals as goal

pub overflow_mul-number : goal.overflow_mul-number
overflow_mul-number c =
    let small = eight c.loop-digit.number c.loop-digit.digit-index c.loop-digit.invariant.bound (omega arith) in
    omega (arith, small)

pub overflow_add-number : goal.overflow_add-number
overflow_add-number c =
    let small = eight c.loop-digit.number c.loop-digit.digit-index c.loop-digit.invariant.bound (omega arith) in
    omega (arith, small, c.from.ensures)
