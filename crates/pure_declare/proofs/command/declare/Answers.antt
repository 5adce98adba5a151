use Rattle.pure_script.specs.Seen.{seen_command}
use Rattle.pure_declare.specs.Seen.{seen_notes}
use Rattle.pure_declare.proofs.OutcomeSteps.{declares-at, own-at, names-at, ranges-at, labels-at}
use Rattle.pure_declare.proofs.command.declare.Goals as goal

pub declared-requires-clause-own : goal.declared-requires-clause-own
declared-requires-clause-own c = own-at c.args.names.now c.args.source.now c.args.label c.own_text-text.result.now c.args.stage.now.value c.make-place.result c.make-place.ensures c.own_text-text.ensures

pub declared-requires-clause-names : goal.declared-requires-clause-names
declared-requires-clause-names c =
    names-at c.args.names.now c.args.source.now c.args.label c.own_text-text.result.now c.args.stage.now.value c.make-place.result c.make-place.ensures (seen_command c.args.command.now) c.requires.names c.own_text-text.ensures

pub declared-requires-clause-ranges : goal.declared-requires-clause-ranges
declared-requires-clause-ranges c =
    ranges-at c.args.names.now c.args.source.now c.args.label c.own_text-text.result.now c.args.stage.now.value c.make-place.result c.make-place.ensures (seen_command c.args.command.now) c.requires.ranges

pub declared-requires-clause-labels : goal.declared-requires-clause-labels
declared-requires-clause-labels c =
    labels-at c.args.names.now c.args.source.now c.args.label c.own_text-text.result.now c.args.stage.now.value c.make-place.result c.make-place.ensures (seen_command c.args.command.now) c.requires.labels

pub returns : goal.returns
returns c =
    declares-at c.args.names.now c.args.source.now c.args.label c.own_text-text.result.now c.args.stage.now.value c.make-place.result c.make-place.ensures (seen_command c.args.command.now)
    (seen_notes c.in_ok-declared.declared.notes.items) c.in_ok-declared.declared.stage.value c.in_ok-declared.ensures
