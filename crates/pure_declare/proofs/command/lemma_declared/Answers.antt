use Rattle.std.proofs.Common.{map}
use Rattle.pure_script.specs.Seen.{span, seen_have, seen_command, seen_steps}
use Rattle.pure_declare.proofs.DeclareSteps.{parts-made, refusal-outcome}
use Rattle.pure_declare.proofs.command.lemma_declared.Goals as goal

pub returns-in-Ok : goal.returns-in-Ok
returns-in-Ok c =
    parts-made c.args.place.now c.requires.own c.requires.first (seen_command c.args.command.now) c.args.base.now (span c.args.at) (map seen_have c.args.haves.now) (seen_steps c.args.script.now) c.requires.lemma c.name_of-number.result c.name_of-number.ensures
    c.in-Ok.stated c.in-Ok.ensures.answer c.parts_declared.result c.parts_declared.ensures

pub lemma_refused-requires-clause-lemma : goal.lemma_refused-requires-clause-lemma
lemma_refused-requires-clause-lemma c = (c.args.base.now, span c.args.at, map seen_have c.args.haves.now, seen_steps c.args.script.now, c.requires.lemma)

pub lemma_refused-requires-clause-refused : goal.lemma_refused-requires-clause-refused
lemma_refused-requires-clause-refused c =
    rw c.in-Err-Refused.field-0-is
    (refusal-outcome c.args.place.now (seen_command c.args.command.now) c.args.base.now (span c.args.at) (map seen_have c.args.haves.now) (seen_steps c.args.script.now) c.requires.lemma c.name_of-number.result c.name_of-number.ensures
    c.in-Err-Refused.reason (rw c.in-Err-Refused.field-0-is at c.in-Err-Refused.ensures.answer))
