use Rattle.std.proofs.Common.{◌≡◌, ◌∙◌, ap, subst}
use Rattle.pure_definitions.specs.Terms.Term.{Term}
use Rattle.pure_definitions.specs.Declarations.Decl.{algebra_of}
use Rattle.pure_logic.specs.Connectives.{eq}
use Rattle.pure_logic.specs.Derivable.{Theorem, IsDerivable}
use Rattle.pure_unfold.specs.Unfold.{IsDefinition, IsNoDefinition}
use Rattle.pure_conv.specs.UnfoldAnswer.{GivesUnfolded, RefusesUnfolded}
use Rattle.pure_conv.proofs.AnswerLaws.{answer_by, given_by}
use Rattle.pure_conv.proofs.GivenLaws.{unfold-gives, unfold-derivable}
use Rattle.pure_conv.proofs.unfolding.unfold.Goals as goal

pub returns-in_default-clause-answer : goal.returns-in_default-clause-answer
returns-in_default-clause-answer g c = subst IsNoDefinition (ap (λ (th : Theorem). th.prop) c.def.view_is) c.in_default.ensures

pub returns-clause-answer : goal.returns-clause-answer
returns-clause-answer g c =
    let algebra = algebra_of (g.B.Base.content c.args.thy.now).declarations in
    let rule = c.in-Some.rule in
    let found = c.in-Some.ensures in
    let definition : IsDefinition c.args.def.now.prop rule.name rule.typ.now rule.body.now =
    subst (λ (A : Term). IsDefinition A rule.name rule.typ.now rule.body.now) (ap (λ (th : Theorem). th.prop) c.def.view_is) found.0 in
    let looked = c.in_ok-unfolds_some.ensures in
    let u = looked.0.0 in
    let B = eq c.in_ok-typ.typ c.args.t.now u in
    answer_by (λ (made : Theorem). made ≡ record c.args.def.now { prop = B }) (GivesUnfolded algebra c.args.def.now c.args.t.now) (RefusesUnfolded algebra c.args.def.now c.args.t.now)
    (unfold-gives algebra rule.order.now c.args.def.now rule.name rule.typ.now rule.body.now c.args.t.now u c.in_ok-typ.typ (found.1 ∙ c.order.ensures) definition (looked.1.0 c.if-not-branch.false) looked.0.1 c.in_ok-typ.ensures)
    c.from_one.result c.conv_answer.result c.conv_answer.ensures (c.from_one.ensures B (c.unfolded.ensures u looked.0.1))

pub returns-clause-derivable : goal.returns-clause-derivable
returns-clause-derivable g c q no_hyps no_pairs h certified =
    let Q = g.B.Base.content c.args.thy.now in
    given_by (GivesUnfolded (algebra_of Q.declarations) c.args.def.now c.args.t.now) (IsDerivable Q) (RefusesUnfolded (algebra_of Q.declarations) c.args.def.now c.args.t.now)
    (unfold-derivable Q q c.args.def.now c.args.t.now no_hyps no_pairs h certified) c.conv_answer.result (returns-clause-answer g c)
