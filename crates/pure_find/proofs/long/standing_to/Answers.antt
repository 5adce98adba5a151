use Rattle.std.proofs.Common.{subst}
use Rattle.pure_find.specs.Findings.{IsLongFound}
use Rattle.pure_find.proofs.LongPropositions.{lacking-maybe, compared-so}
use Rattle.pure_find.proofs.long.standing_to.Goals as goal

pub returns-in-None : goal.returns-in-None
returns-in-None c C found = lacking-maybe c.args.prop.now (subst (IsLongFound c.args.prop.now) c.in-None.is c.in_ok-long_of.ensures.found) C

pub returns-in-Some : goal.returns-in-Some
returns-in-Some c = compared-so c.args.prop.now c.in-Some.left c.args.right.now (subst (IsLongFound c.args.prop.now) c.in-Some.is c.in_ok-long_of.ensures.found) _ c.compared.ensures
