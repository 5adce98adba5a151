use Rattle.std.proofs.Common.{◌≡◌, List, ap, sym, ◌∙◌}
use Rattle.pure_definitions.specs.Names.{Label}
use Rattle.pure_definitions.specs.Terms.Term.{Term}
use Rattle.pure_definitions.specs.Declarations.Decl.{algebra_of}
use Rattle.pure_goal_steps.specs.Reading.{Place}
use Rattle.pure_goal_steps.specs.Steps.{elimination_attempt}
use Rattle.pure_goal_rules.specs.Shown.{shown}
use Rattle.pure_resolve.proofs.UseLaws.{tried_with}
use Rattle.pure_resolve.proofs.hypotheses.eliminated_by.Goals as goal

pub tried_from-requires-clause-may : goal.tried_from-requires-clause-may
tried_from-requires-clause-may g c = λ p e. c.requires.may c.in-Some.first.now c.in-Some.others.now (sym c.as_slice-premises.ensures.value ∙ c.in-Some.ensures.cases.0) p (ap shown (sym c.as_slice-items.ensures.value) ∙ e)

pub returns-clause-some : goal.returns-clause-some
returns-clause-some g c = λ P As e s first others is stand.
    tried_with (algebra_of (g.B.Base.content c.args.thy.now).declarations) c.args.resolver.now.maxidx s others (λ (all : List Label). all ≡ c.args.rests.now)
    (λ (Q : Term) (Bs : List Term) (p : Place). elimination_attempt c.args.parts.now.conclusion.now Q Bs c.args.resolver.now.rule.conclusion p) c.as_slice-items.result.now c.args.parts.now.prefix.items c.as_slice-items.ensures.value
    c.args.resolver.now.rule.premises.items P c.in-Some.first.now As c.in-Some.others.now e (sym c.as_slice-premises.ensures.value ∙ c.in-Some.ensures.cases.0) c.tried_from.result (c.tried_from.ensures s first others is stand)
