use Rattle.std.proofs.Common.{refl, ap, ◌∙◌, subst}
use Rattle.pure_definitions.specs.Terms.Bounds.{abstract_over}
use Rattle.pure_definitions.specs.Terms.Conditions.{variable_typ}
use Rattle.pure_logic.specs.Connectives.{all_of}
use Rattle.pure_logic.specs.Content.{IsCertifiedOf}
use Rattle.pure_logic.specs.Concludes.{IsFresh}
use Rattle.pure_theorem.specs.Made.{IsMade}
use Rattle.pure_replay.specs.Conclusion.{Conclusion}
use Rattle.pure_replay.specs.Step.{plain_content}
use Rattle.pure_replay.specs.Figures.{GivesAllIntro}
use Rattle.pure_replay.proofs.NodeLaws.{no_all-free}
use Rattle.pure_replay.proofs.StepLaws.{step-made}
use Rattle.pure_replay.proofs.quantification.all_intro.Goals as goal

pub returns-in-Some : goal.returns-in-Some
returns-in-Some c =
    no_all-free (plain_content c.args.declared.now) c.args.x.now c.args.above.now _ c.in-Some.field-0 (c.deref.ensures.value ∙ ap (λ (e : Conclusion). e.hyps) c.above.view_is) c.in-Some.ensures

pub returns : goal.returns
returns c =
    let A = all_of (variable_typ c.args.x.now) (abstract_over c.args.above.now.prop c.args.x.now) in
    step-made (record { hyps = c.args.above.now.hyps; prop = A }) (GivesAllIntro (plain_content c.args.declared.now) c.args.x.now c.args.above.now)
    (record {
      variable = c.is_variable.ensures.0 c.if-not-is_variable.false;
      typ = variable_typ c.args.x.now;
      certified = subst (IsCertifiedOf (plain_content c.args.declared.now) c.args.x.now) c.typ_of_variable.ensures (c.in_ok-is_certified_of.ensures.0 c.if-not-branch.false);
      fresh = subst (IsFresh c.args.x.now) (c.deref.ensures.value ∙ ap (λ (e : Conclusion). e.hyps) c.above.view_is) c.in_default.ensures;
      is = refl;
    }) c.kept.result
    (c.kept.ensures A (subst (λ (e : Conclusion). IsMade (all_of (variable_typ c.args.x.now) (abstract_over e.prop c.args.x.now)) c.quantified.result) c.above.view_is c.quantified.ensures))
