use Rattle.pure_script.specs.Seen.{sorts}
use Rattle.pure_declare.proofs.ArityLaws.{con-failed, con-next}
use Rattle.pure_declare.proofs.LookupSteps.{typ-known}
use Rattle.pure_declare.proofs.arity.arity_change.Goals as goal

pub returns-in_err-found : goal.returns-in_err-found
returns-in_err-found c = con-failed c.args.place.now c.args.con.now (sorts c.args.domains.now) c.args.class.now c.in_err-found.field-0.0 c.from_residual.result c.in_err-found.ensures c.from_residual.ensures.1

pub domains_arity-requires : goal.domains_arity-requires
domains_arity-requires c = typ-known c.args.place.now.texts c.args.place.now.content c.is_in_session.ensures c.theory.ensures.sound.content c.args.con.now c.in_ok-found.found c.in_ok-found.ensures

pub returns : goal.returns
returns c = con-next c.args.place.now c.args.con.now (sorts c.args.domains.now) c.args.class.now c.in_ok-found.found c.domains_arity.result c.in_ok-found.ensures c.domains_arity.ensures
