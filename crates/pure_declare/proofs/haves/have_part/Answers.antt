use Rattle.pure_script.specs.Seen.{span, seen_have}
use Rattle.pure_declare.proofs.HaveSteps.{name-later, named-later, lies-later, part-of}
use Rattle.pure_declare.proofs.haves.have_part.Goals as goal

pub later-later-requires : goal.later-later-requires
later-later-requires c = rw c.part_label.ensures c.requires.given

pub have_declared-requires-clause-lemma : goal.have_declared-requires-clause-lemma
have_declared-requires-clause-lemma c =
    name-later c.args.place.now c.later-later.result c.args.stage.now.value c.args.part (rw c.part_label.ensures at c.later-later.ensures) c.args.base.now c.args.lemma c.requires.lemma

pub have_declared-requires-clause-name : goal.have_declared-requires-clause-name
have_declared-requires-clause-name c =
    named-later c.args.place.now c.later-later.result c.args.stage.now.value c.args.part (rw c.part_label.ensures at c.later-later.ensures) c.args.base.now c.args.have.now.name c.requires.name

pub have_declared-requires-clause-within : goal.have_declared-requires-clause-within
have_declared-requires-clause-within c =
    lies-later c.args.place.now c.later-later.result c.args.stage.now.value c.args.part (rw c.part_label.ensures at c.later-later.ensures) (span c.args.have.now.prop) c.requires.within

pub returns : goal.returns
returns c =
    part-of c.args.place.now c.later-later.result c.args.stage.now.value c.args.part (rw c.part_label.ensures at c.later-later.ensures) c.requires.own c.args.base.now (seen_have c.args.have.now) c.in_ok-outcome.outcome c.in_ok-outcome.ensures
