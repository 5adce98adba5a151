use Rattle.std.proofs.Common.{subst}
use Rattle.pure_text.specs.Lists.{IsIn}
use Rattle.pure_promise_rows.proofs.grounds.is_held.Goals as goal

pub returns-then-not-stands_in : goal.returns-then-not-stands_in
returns-then-not-stands_in c = λ yes r is m.
    let told = c.stands_in.ensures (subst (IsIn c.args.other.now.label) (c.rests.ensures r is) m) in
    let other = c.if-not-stands_in.true in
    absurd cc

pub returns : goal.returns
returns c = λ holds r is m. c.is_grounded_by.ensures holds r is
