use Rattle.pure_logic.specs.Connectives.{protect}
use Rattle.pure_resolve.proofs.ChainLaws.{first-premise, end-premises, more-premises}
use Rattle.pure_resolve.proofs.open.+put_premises.Goals as goal

pub returns-in_default : goal.returns-in_default
returns-in_default t c As C e = end-premises c.args.t.now As C c.args.premises.now.items c.copy.result c.in_default.ensures e c.copy.ensures

pub returns : goal.returns
returns t c As C e =
    let p = first-premise c.args.t.now c.in-Some.premise.now c.in-Some.rest.now As C c.in-Some.ensures e in
    more-premises c.put_premises.new.premises.items c.args.premises.now.items c.push.new.self.items c.in-Some.premise.now c.in_ok-copy.field-0 (protect C) p.rest As c.put_premises.result
    c.in_ok-push.ensures.items c.in_ok-copy.ensures p.is (c.put_premises.ensures p.rest C p.chained)
