use Rattle.std.proofs.Common.{arith}
use Rattle.pure_print.proofs.Numerals.{numeral-step, numeral-digit}
use Rattle.pure_print.proofs.number.+push_number.Goals as goal
use Rattle.pure_print.proofs.number.+push_number.Goals.{then-number-ge10+in_ok-push_number, else-number-ge10}

pub returns : goal.returns
returns t c = elim c.if-number-ge10.branch [
  | then-number-ge10+in_ok-push_number w ↦ numeral-step _ _ _ _ w.if-number-ge10.true (omega (arith, c.ranges.number.fits)) (rw w.text-is w.in_ok-push_number.ensures) c.in_ok-push.ensures.items
  | else-number-ge10 w ↦ numeral-digit c.args.number c.args.text.now.items _ (omega (arith, w.if-number-ge10.false)) (rw w.text-is at c.in_ok-push.ensures.items)
]
