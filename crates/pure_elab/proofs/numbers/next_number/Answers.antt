use Rattle.std.proofs.Common.{◌≡◌, ◌+◌, length, arith}
use Rattle.pure_elab.proofs.NumbersLaws.{all_counted}
use Rattle.pure_elab.proofs.numbers.next_number.Goals as goal

pub returns : goal.returns
returns c image =
    let behind : c.in_ok-behind.behind ≡ c.args.first + length c.args.numbers.now.few.items = grind arith in
    all_counted image c.args.first c.args.numbers.now.few.items c.args.numbers.now.many c.binds.result.now c.in_ok-behind.behind c.in_ok-number.number behind c.binds.ensures.are c.in_ok-number.ensures
