use Rattle.pure_script.specs.Seen.{span, seen_steps}
use Rattle.pure_declare.proofs.LemmaSteps.{bound-failed, bound-memory, bound-made}
use Rattle.pure_declare.proofs.lemma.bound_outcome.Goals as goal

pub returns-in_err-stated-clause-failed : goal.returns-in_err-stated-clause-failed
returns-in_err-stated-clause-failed c =
    bound-failed c.args.place.now c.args.name c.args.lemma (span c.args.at) (seen_steps c.args.script.now) c.in_err-stated.field-0.0 c.from_residual.result c.in_err-stated.ensures.answer c.from_residual.ensures.1

pub returns-in_err-outcome-clause-failed : goal.returns-in_err-outcome-clause-failed
returns-in_err-outcome-clause-failed c =
    bound-memory c.args.place.now c.args.name c.args.lemma (span c.args.at) (seen_steps c.args.script.now) c.from_residual-in_err-outcome.result c.from_residual-in_err-outcome.ensures.1

pub returns-clause-ok : goal.returns-clause-ok
returns-clause-ok c =
    bound-made c.args.place.now c.args.name c.args.lemma (span c.args.at) (seen_steps c.args.script.now) c.in_ok-stated.stated c.in_ok-outcome.outcome c.in_ok-stated.ensures.answer c.in_ok-outcome.ensures
