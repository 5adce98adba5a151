use Rattle.std.proofs.Common.{sym, subst, ◌∙◌}
use Rattle.pure_definitions.specs.Terms.Term.{Term}
use Rattle.pure_theorem.specs.Shapes.{IsNoApplication}
use Rattle.pure_resolve.proofs.SharedLaws.{none_first, marked_first, is_first}
use Rattle.pure_resolve.proofs.shared.first_premise.Goals as goal

pub returns-in_default-clause-premise : goal.returns-in_default-clause-premise
returns-in_default-clause-premise c As C e = none_first c.args.t.now As C c.in_default.ensures e

pub returns-in-None-clause-premise : goal.returns-in-None-clause-premise
returns-in-None-clause-premise c As C e =
    marked_first c.args.t.now c.in-Some.function.now.value c.in-Some.argument.now.value As C c.in-Some.ensures (subst (λ (f : Term). IsNoApplication f) c.deref-whole.ensures c.in-None.ensures) e

pub returns-in-Some-shared_application-clause-premise : goal.returns-in-Some-shared_application-clause-premise
returns-in-Some-shared_application-clause-premise c As C e =
    is_first c.args.t.now c.in-Some.function.now.value c.in-Some.argument.now.value _ _ As C c.in-Some.ensures (sym c.deref-whole.ensures ∙ c.in-Some-shared_application.ensures) e
