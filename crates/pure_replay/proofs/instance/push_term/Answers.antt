use Rattle.std.proofs.Common.{ap}
use Rattle.pure_definitions.specs.Terms.Term.{Var}
use Rattle.pure_definitions.specs.Terms.Subst.{term_variable}
use Rattle.pure_replay.proofs.NodeLaws.{term_bound-in}
use Rattle.pure_replay.proofs.instance.push_term.Goals as goal

pub returns-in-Some : goal.returns-in-Some
returns-in-Some c = λ h.
    h.1 (term_bound-in c.args.all.now (Var c.bind.inside.name c.bind.inside.index c.bind.inside.typ) (term_variable c.args.bind.now) c.in-Some.field-0.now (ap term_variable c.bind.view_is) c.in-Some.ensures.bound)
