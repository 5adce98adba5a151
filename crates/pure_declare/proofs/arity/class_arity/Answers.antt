use Rattle.pure_declare.proofs.ArityLaws.{known-of, class-failed, class-next}
use Rattle.pure_declare.proofs.LookupSteps.{one_class-known}
use Rattle.pure_declare.proofs.arity.class_arity.Goals as goal

pub returns-in_err-found : goal.returns-in_err-found
returns-in_err-found c = class-failed c.args.place.now c.args.con c.args.domains.now c.args.class.now c.in_err-found.field-0.0 c.from_residual.result c.in_err-found.ensures c.from_residual.ensures.1

pub found_arity-requires : goal.found_arity-requires
found_arity-requires c =
    known-of c.args.place.now c.args.con c.args.domains.now c.in_ok-found.found c.requires.con c.requires.domains
    (one_class-known c.args.place.now.texts c.args.place.now.content c.is_in_session.ensures c.theory.ensures.sound.content c.args.class.now c.in_ok-found.found c.in_ok-found.ensures)

pub returns : goal.returns
returns c = class-next c.args.place.now c.args.con c.args.domains.now c.args.class.now c.in_ok-found.found c.found_arity.result c.in_ok-found.ensures c.found_arity.ensures
