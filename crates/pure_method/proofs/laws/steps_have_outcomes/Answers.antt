use Rattle.pure_method.proofs.FrontLaws.{some_rule}
use Rattle.pure_method.proofs.OutcomeLaws.{begins_somehow, rule_somehow, elimination_somehow, destruction_somehow, assumption_somehow, prefer_somehow, defer_somehow, conversion_somehow}
use Rattle.pure_method.proofs.laws.steps_have_outcomes.Goals as goal

pub returns-clause-begins : goal.returns-clause-begins
returns-clause-begins c = begins_somehow

pub returns-clause-is_rule : goal.returns-clause-is_rule
returns-clause-is_rule c = some_rule

pub returns-clause-rule : goal.returns-clause-rule
returns-clause-rule c Q k s fact rests all h used normal = rule_somehow Q k s rests h fact all used normal

pub returns-clause-elimination : goal.returns-clause-elimination
returns-clause-elimination c Q k s fact rests all h used normal = elimination_somehow Q k s rests h fact all used normal

pub returns-clause-destruction : goal.returns-clause-destruction
returns-clause-destruction c Q k s fact rests all h used normal = destruction_somehow Q k s rests h fact all used normal

pub returns-clause-assumption : goal.returns-clause-assumption
returns-clause-assumption c = assumption_somehow

pub returns-clause-prefer : goal.returns-clause-prefer
returns-clause-prefer c = prefer_somehow

pub returns-clause-defer : goal.returns-clause-defer
returns-clause-defer c = defer_somehow

pub returns-clause-conversion : goal.returns-clause-conversion
returns-clause-conversion c = conversion_somehow
