use Rattle.std.proofs.Common.{◌≡◌, List, ◌++◌, ap, sym, subst, ◌∙◌}
use Rattle.pure_text.specs.Lists.{Each}
use Rattle.pure_definitions.specs.Names.{Label}
use Rattle.pure_definitions.specs.Terms.Term.{Term}
use Rattle.pure_definitions.specs.Reduction.Eta.{IsLongForm}
use Rattle.pure_resolve.proofs.RestLaws.{before_outcome, before_stopped}
use Rattle.pure_resolve.proofs.follow.before_rest.Goals as goal

pub both_settled-requires-clause-long : goal.both_settled-requires-clause-long
both_settled-requires-clause-long g c =
    let h = c.requires.front in
    let taken = c.in_ok-tail.ensures h.front h.others h.statement h.stand h.counted in
    subst (λ (As : List Term). Each (λ A. IsLongForm A A) As) (sym (taken.0 ∙ ap (λ (As : List Term). As ++ h.front) c.new-front.ensures.items)) h.long

pub returns-in-Ok : goal.returns-in-Ok
returns-in-Ok g c = λ made b.
    let taken = c.in_ok-tail.ensures b.front b.others made.statement b.stand b.counted in
    before_outcome c.args.unifier c.requires.left c.args.premises.items (c.args.premises.items ++ c.put_first.new.premises.items) c.args.rest.now c.in_ok-tail.tail.now c.args.count c.in-Ok.subgoals.items made b
    (ap (λ (As : List Term). c.args.premises.items ++ As) (taken.0 ∙ ap (λ (As : List Term). As ++ b.front) c.new-front.ensures.items)) taken.1 c.in-Ok.ensures.long c.args.rests.items c.with_rest.result c.with_rest.ensures

pub returns-in-Err : goal.returns-in-Err
returns-in-Err g c = λ made b.
    let taken = c.in_ok-tail.ensures b.front b.others made.statement b.stand b.counted in
    before_stopped c.args.unifier c.args.premises.items (c.args.premises.items ++ c.put_first.new.premises.items) c.args.rest.now c.args.count c.in-Err.fault made b
    (ap (λ (As : List Term). c.args.premises.items ++ As) (taken.0 ∙ ap (λ (As : List Term). As ++ b.front) c.new-front.ensures.items)) c.in-Err.ensures.fault (λ (all : List Label). all ≡ c.args.rests.items)
