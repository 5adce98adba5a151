use Rattle.pure_find.proofs.FindingLaws.{fact-put}
use Rattle.pure_find.proofs.facts.add_fact.Goals as goal

pub returns : goal.returns
returns c = fact-put c.args.long.now c.args.name.now c.args.prop.now c.in_ok-standing.standing _ _ c.in_ok-standing.ensures _ c.put.ensures.text c.put.ensures.standings
