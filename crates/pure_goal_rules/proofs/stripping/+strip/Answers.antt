use Rattle.std.proofs.Common.{◌≡◌, arith}
use Rattle.pure_definitions.specs.Terms.Term.{Term}
use Rattle.pure_goal_rules.specs.Rules.{IsStrippedOn}
use Rattle.pure_goal_rules.proofs.RuleLaws.{ok_map, strip-end, strip-premise, strip-variable, specialised-count}
use Rattle.pure_goal_rules.proofs.stripping.+strip.Goals as goal

pub returns-in-Some : goal.returns-in-Some
returns-in-Some t c =
    ok_map (IsStrippedOn c.args.index c.args.name c.in-Some.rest.now c.push.new.self.items c.strip.new.premises.items) (IsStrippedOn c.args.index c.args.name c.args.rule.now c.args.premises.now.items c.strip.new.premises.items)
    (λ C s. strip-premise c.args.index c.args.name c.args.rule.now c.in-Some.premise.now c.in-Some.rest.now c.in_ok-copy.field-0 c.args.premises.now.items c.push.new.self.items c.strip.new.premises.items C
    c.in-Some.ensures c.in_ok-copy.ensures c.in_ok-push.ensures.items s) c.strip.result c.strip.ensures

pub strip-conclusion-requires : goal.strip-conclusion-requires
strip-conclusion-requires t c =
    let fewer = specialised-count c.args.rule.now c.in-Some-as_quantified.typ.now c.in-Some-as_quantified.body.now c.in_ok-rest.rest c.args.name c.args.index c.in-Some-as_quantified.ensures c.in_ok-rest.ensures in
    (omega (arith, fewer), tt)

pub returns-in-Some-as_quantified : goal.returns-in-Some-as_quantified
returns-in-Some-as_quantified t c =
    ok_map (IsStrippedOn c.args.index c.in_ok-next.next c.in_ok-rest.rest c.args.premises.now.items c.strip-conclusion.new.premises.items) (IsStrippedOn c.args.index c.args.name c.args.rule.now c.args.premises.now.items c.strip-conclusion.new.premises.items)
    (λ C s. strip-variable c.args.index c.args.name c.in_ok-next.next c.args.rule.now c.in-Some-as_quantified.typ.now c.in-Some-as_quantified.body.now c.in_ok-rest.rest c.args.premises.now.items c.strip-conclusion.new.premises.items C
    c.in-Some-as_quantified.ensures c.in_ok-next.ensures c.in_ok-rest.ensures s) c.strip-conclusion.result c.strip-conclusion.ensures

pub returns : goal.returns
returns t c =
    ok_map (λ (u : Term). u ≡ c.args.rule.now) (IsStrippedOn c.args.index c.args.name c.args.rule.now c.args.premises.now.items c.args.premises.now.items)
    (λ u e. strip-end c.args.index c.args.name c.args.rule.now u c.args.premises.now.items c.in_default.ensures c.in_default-as_quantified.ensures e) c.copy-2.result c.copy-2.ensures
