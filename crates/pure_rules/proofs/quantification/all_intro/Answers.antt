use Rattle.std.proofs.Common.{◌≡◌, ◌∙◌, [], ◌∷◌, refl, sym, ap, subst}
use Rattle.pure_theorem.proofs.AnswerLaws.{answer-along, answer-holds}
use Rattle.pure_logic.specs.Derivable.{Theorem, IsDerivable}
use Rattle.pure_definitions.specs.Terms.Bounds.{abstract_over}
use Rattle.pure_definitions.specs.Terms.Conditions.{variable_typ}
use Rattle.pure_logic.specs.Connectives.{all_of}
use Rattle.pure_logic.specs.Concludes.{IsFresh}
use Rattle.pure_logic.specs.Laws.Inferences.{IsFreshInPairs}
use Rattle.pure_theorem.specs.Made.{IsMade}
use Rattle.pure_rules.specs.Quantification.{GivesAllIntro, RefusesAllIntro}
use Rattle.pure_rules.proofs.DerivedLaws.{all_intro-derived}
use Rattle.pure_rules.proofs.quantification.all_intro.Goals as goal

pub returns-clause-answer : goal.returns-clause-answer
returns-clause-answer g c =
    let B = all_of (variable_typ c.args.x.now) (abstract_over c.args.th.now.prop c.args.x.now) in
    let fresh = subst (IsFresh c.args.x.now) (c.deref.ensures.value ∙ ap (λ (t : Theorem). t.hyps) c.th.view_is) c.in_default.ensures in
    let apart = subst (IsFreshInPairs c.args.x.now) (c.deref-2.ensures.value ∙ ap (λ (t : Theorem). t.pairs) c.th.view_is) c.in_default-first_pair_with.ensures in
    let made = subst (λ (t : Theorem). IsMade (all_of (variable_typ c.args.x.now) (abstract_over t.prop c.args.x.now)) c.quantified.result) c.th.view_is c.quantified.ensures in
    answer-along (λ (new : Theorem). new ≡ record c.args.th.now { prop = B }) (GivesAllIntro c.args.x.now c.args.th.now) (RefusesAllIntro c.args.x.now c.args.th.now)
    (λ new e. record { fresh = fresh; fresh_in_pairs = apart; is = e }) c.from_one.result (c.from_one.ensures B made)

pub returns-clause-derivable : goal.returns-clause-derivable
returns-clause-derivable g c = λ q certified h.
    let B = all_of (variable_typ c.args.x.now) (abstract_over c.args.th.now.prop c.args.x.now) in
    let fresh = subst (IsFresh c.args.x.now) (c.deref.ensures.value ∙ ap (λ (t : Theorem). t.hyps) c.th.view_is) c.in_default.ensures in
    let apart = subst (IsFreshInPairs c.args.x.now) (c.deref-2.ensures.value ∙ ap (λ (t : Theorem). t.pairs) c.th.view_is) c.in_default-first_pair_with.ensures in
    let made = subst (λ (t : Theorem). IsMade (all_of (variable_typ c.args.x.now) (abstract_over t.prop c.args.x.now)) c.quantified.result) c.th.view_is c.quantified.ensures in
    answer-holds (GivesAllIntro c.args.x.now c.args.th.now) (RefusesAllIntro c.args.x.now c.args.th.now) (IsDerivable (g.B.Base.content c.args.thy.now))
    (all_intro-derived (g.B.Base.content c.args.thy.now) q c.args.x.now c.args.th.now c.requires.variable certified h) c.from_one.result
    (answer-along (λ (new : Theorem). new ≡ record c.args.th.now { prop = B }) (GivesAllIntro c.args.x.now c.args.th.now) (RefusesAllIntro c.args.x.now c.args.th.now)
    (λ new e. record { fresh = fresh; fresh_in_pairs = apart; is = e }) c.from_one.result (c.from_one.ensures B made))
