use Rattle.pure_script.specs.Seen.{span}
use Rattle.pure_text.proofs.AnswerLaws.{test_fails}
use Rattle.pure_lookup.specs.Meaning.{constants, facts}
use Rattle.std.proofs.Common.{◌⊎◌}
use Rattle.pure_declare.specs.Commands.{IsTaken}
use Rattle.pure_declare.proofs.DefinitionSteps.{pair-taken, pair-next, pair-new}
use Rattle.pure_declare.proofs.definition.definition_change.Goals as goal

pub returns-then-is_pair_taken : goal.returns-then-is_pair_taken
returns-then-is_pair_taken c = pair-taken c.args.place.now c.args.base.now c.args.names.now.constant c.args.names.now.fact (span c.args.typ) (span c.args.text) (c.is_pair_taken.ensures.0 c.if-is_pair_taken.true)

pub new_definition-requires-clause-new : goal.new_definition-requires-clause-new
new_definition-requires-clause-new c = pair-new c.args.place.now c.args.names.now.constant c.args.names.now.fact c.is_pair_taken.result c.is_pair_taken.ensures c.if-is_pair_taken.false

pub returns : goal.returns
returns c =
    pair-next c.args.place.now c.args.base.now c.args.names.now.constant c.args.names.now.fact (span c.args.typ) (span c.args.text) c.new_definition.result
    (test_fails (IsTaken c.args.place.now constants c.args.names.now.constant ⊎ IsTaken c.args.place.now facts c.args.names.now.fact) c.is_pair_taken.result c.is_pair_taken.ensures c.if-is_pair_taken.false) c.new_definition.ensures
