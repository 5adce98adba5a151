use Rattle.pure_script.specs.Seen.{seen_steps}
use Rattle.pure_declare.proofs.HaveSteps.{new-later, statement-later, binding-of}
use Rattle.pure_declare.proofs.haves.own_part.Goals as goal

pub later-later-requires : goal.later-later-requires
later-later-requires c = rw c.part_label.ensures c.requires.given

pub forked-requires-clause-new : goal.forked-requires-clause-new
forked-requires-clause-new c = new-later c.args.place.now c.later-later.result c.args.stage.now.value c.args.part (rw c.part_label.ensures at c.later-later.ensures) c.args.lemma c.requires.new

pub forked-requires-clause-statement : goal.forked-requires-clause-statement
forked-requires-clause-statement c = statement-later c.args.place.now c.later-later.result c.args.stage.now.value c.args.part (rw c.part_label.ensures at c.later-later.ensures) c.args.stated.prop c.requires.statement

pub returns : goal.returns
returns c =
    binding-of c.args.place.now c.later-later.result c.args.stage.now.value c.args.part (rw c.part_label.ensures at c.later-later.ensures) c.args.lemma (seen_steps c.args.script.now) c.args.stated c.in_ok-outcome.outcome c.in_ok-outcome.ensures
