use Rattle.pure_script.specs.Seen.{sorts}
use Rattle.pure_declare.proofs.ArityLaws.{domains-failed, domains-next}
use Rattle.pure_declare.proofs.LookupSteps.{sorts-known}
use Rattle.pure_declare.proofs.arity.domains_arity.Goals as goal

pub returns-in_err-found : goal.returns-in_err-found
returns-in_err-found c = domains-failed c.args.place.now c.args.con (sorts c.args.domains.now) c.args.class.now c.in_err-found.field-0.0 c.from_residual.result c.in_err-found.ensures.failed c.from_residual.ensures.1

pub class_arity-requires-clause-domains : goal.class_arity-requires-clause-domains
class_arity-requires-clause-domains c =
    rw (c.as_slice.ensures.value)
    (sorts-known c.args.place.now.texts c.args.place.now.content c.is_in_session.ensures c.theory.ensures.sound.content (sorts c.args.domains.now) c.in_ok-found.found.items c.in_ok-found.ensures.ok)

pub returns : goal.returns
returns c = domains-next c.args.place.now c.args.con (sorts c.args.domains.now) c.args.class.now c.in_ok-found.found.items c.as_slice.result.now c.class_arity.result c.in_ok-found.ensures.ok c.as_slice.ensures.value c.class_arity.ensures
