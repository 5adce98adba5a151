use Rattle.std.proofs.Common.{◌≡◌, List, ◌++◌, ap, sym, subst, ◌∙◌}
use Rattle.pure_text.specs.Lists.{Each}
use Rattle.pure_definitions.specs.Names.{Label}
use Rattle.pure_definitions.specs.Terms.Term.{Term}
use Rattle.pure_definitions.specs.Reduction.Eta.{IsLongForm}
use Rattle.pure_logic.specs.Derivable.{Theorem}
use Rattle.pure_resolve.proofs.FollowLaws.{opened_others, first_is_implication, unifier_outcome, unifier_stopped}
use Rattle.pure_resolve.proofs.follow.with_instances.Goals as goal

pub unreachable-requires : goal.unreachable-requires
unreachable-requires g c = first_is_implication c.args.goal.now c.requires.goal c.goal.inside.prop (ap (λ (t : Theorem). t.prop) c.goal.view_is) c.in_default.ensures

pub both_settled-requires-clause-long : goal.both_settled-requires-clause-long
both_settled-requires-clause-long g c =
    let parts = opened_others c.args.goal.now c.requires.goal c.in-Some.field-0-0.now c.in-Some.rest.now (ap (λ (t : Theorem). t.prop) (sym c.goal.view_is) ∙ c.in-Some.ensures) c.new-others.result.items c.put_premises.new.premises.items c.in_ok-marked.marked c.new-others.ensures.items c.in_ok-marked.ensures in
    subst (λ (As : List Term). Each (λ A. IsLongForm A A) As) (sym parts.0) c.requires.goal.long

pub returns-in-Ok : goal.returns-in-Ok
returns-in-Ok g c = λ s first others a is stand p.
    let parts = opened_others c.args.goal.now c.requires.goal c.in-Some.field-0-0.now c.in-Some.rest.now (ap (λ (t : Theorem). t.prop) (sym c.goal.view_is) ∙ c.in-Some.ensures) c.new-others.result.items c.put_premises.new.premises.items c.in_ok-marked.marked c.new-others.ensures.items c.in_ok-marked.ensures in
    unifier_outcome c.args.goal.now c.requires.goal c.args.unifier c.requires.left c.args.premises.items (c.args.premises.items ++ c.put_premises.new.premises.items) c.in_ok-marked.marked (ap (λ (Bs : List Term). c.args.premises.items ++ Bs) parts.0) parts.1 c.in-Ok.subgoals.items c.in-Ok.ensures.long
    c.args.rests.items c.with_statement.result c.with_statement.ensures s first others a is stand p

pub returns-in-Err : goal.returns-in-Err
returns-in-Err g c = λ s first others a is stand p.
    let parts = opened_others c.args.goal.now c.requires.goal c.in-Some.field-0-0.now c.in-Some.rest.now (ap (λ (t : Theorem). t.prop) (sym c.goal.view_is) ∙ c.in-Some.ensures) c.new-others.result.items c.put_premises.new.premises.items c.in_ok-marked.marked c.new-others.ensures.items c.in_ok-marked.ensures in
    unifier_stopped c.args.goal.now c.requires.goal c.args.unifier c.args.premises.items (c.args.premises.items ++ c.put_premises.new.premises.items) (ap (λ (Bs : List Term). c.args.premises.items ++ Bs) parts.0) c.in-Err.fault c.in-Err.ensures.fault s first others a is stand p
    (λ (all : List Label). all ≡ c.args.rests.items)
