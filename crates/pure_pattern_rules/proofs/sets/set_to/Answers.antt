use Rattle.pure_pattern_rules.proofs.TreatedLaws.{not_set}
use Rattle.pure_pattern_rules.proofs.sets.set_to.Goals as goal

pub returns-in-Err-clause-treated : goal.returns-in-Err-clause-treated
returns-in-Err-clause-treated c = not_set c.args.variable.now.name c.args.variable.now.index c.args.variable.now.typ c.args.image.now c.in-Err.fault c.in-Err.ensures
