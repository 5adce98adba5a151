use Rattle.pure_pattern_rules.proofs.TreatedLaws.{first_not_set, second_not_set}
use Rattle.pure_pattern_rules.proofs.sets.set_both.Goals as goal

pub returns-in-Err-clause-treated : goal.returns-in-Err-clause-treated
returns-in-Err-clause-treated c =
    first_not_set c.args.variable.now.name c.args.variable.now.index c.args.variable.now.typ c.args.image.now c.args.second.now.name c.args.second.now.index c.args.second.now.typ c.args.other.now c.in-Err.fault c.in-Err.ensures c.requires.other_typed
    c.requires.other_normal

pub returns-in-Err-long_form-clause-treated : goal.returns-in-Err-long_form-clause-treated
returns-in-Err-long_form-clause-treated c =
    second_not_set c.args.variable.now.name c.args.variable.now.index c.args.variable.now.typ c.args.image.now c.args.second.now.name c.args.second.now.index c.args.second.now.typ c.args.other.now c.in-Ok.long c.in-Ok.ensures.0
    c.in-Err-long_form.fault c.in-Err-long_form.ensures
