use Rattle.std.proofs.Common.{◌≡◌, ◌∙◌, sym, ap, subst}
use Rattle.pure_theorem.proofs.AnswerLaws.{answer-along, answer-holds}
use Rattle.pure_logic.specs.Derivable.{Theorem, IsDerivable}
use Rattle.pure_definitions.specs.Types.Typ.{arrow}
use Rattle.pure_definitions.specs.Terms.Bounds.{abstract_over}
use Rattle.pure_definitions.specs.Terms.Conditions.{variable_typ}
use Rattle.pure_logic.specs.Connectives.{eq}
use Rattle.pure_logic.specs.Concludes.{IsFresh}
use Rattle.pure_logic.specs.Laws.Inferences.{IsFreshInPairs}
use Rattle.pure_equal.specs.Congruence.{GivesAbstraction, RefusesAbstraction}
use Rattle.pure_equal.proofs.ClosedLaws.{closed-left, closed-right}
use Rattle.pure_equal.proofs.DerivedLaws.{abstraction-derived}
use Rattle.pure_equal.proofs.congruence.abstraction.Goals as goal

pub abstracted-requires-clause-closed_left : goal.abstracted-requires-clause-closed_left
abstracted-requires-clause-closed_left g c =
    let is : c.args.th.now.prop ≡ eq c.in-Some.typ.now c.in-Some.left.now c.in-Some.right.now = sym (ap (λ (t : Theorem). t.prop) c.th.view_is) ∙ c.in-Some.ensures in
    closed-left c.args.th.now.prop c.in-Some.typ.now c.in-Some.left.now c.in-Some.right.now is c.requires.closed

pub abstracted-requires-clause-closed_right : goal.abstracted-requires-clause-closed_right
abstracted-requires-clause-closed_right g c =
    let is : c.args.th.now.prop ≡ eq c.in-Some.typ.now c.in-Some.left.now c.in-Some.right.now = sym (ap (λ (t : Theorem). t.prop) c.th.view_is) ∙ c.in-Some.ensures in
    closed-right c.args.th.now.prop c.in-Some.typ.now c.in-Some.left.now c.in-Some.right.now is c.requires.closed

pub returns-clause-answer : goal.returns-clause-answer
returns-clause-answer g c =
    let x = c.args.x.now in
    let is : c.args.th.now.prop ≡ eq c.in-Some.typ.now c.in-Some.left.now c.in-Some.right.now = sym (ap (λ (t : Theorem). t.prop) c.th.view_is) ∙ c.in-Some.ensures in
    let B = eq (arrow (variable_typ x) c.in-Some.typ.now) (abstract_over c.in-Some.left.now x) (abstract_over c.in-Some.right.now x) in
    let fresh = subst (IsFresh x) (c.deref.ensures.value ∙ ap (λ (t : Theorem). t.hyps) c.th.view_is) c.in_default-first_with.ensures in
    let apart = subst (IsFreshInPairs x) (c.deref-2.ensures.value ∙ ap (λ (t : Theorem). t.pairs) c.th.view_is) c.in_default-first_pair_with.ensures in
    answer-along (λ (new : Theorem). new ≡ record c.args.th.now { prop = B }) (GivesAbstraction x c.args.th.now) (RefusesAbstraction x c.args.th.now)
    (λ new e. record { typ = c.in-Some.typ.now; left = c.in-Some.left.now; right = c.in-Some.right.now; equation = is; fresh = fresh; fresh_in_pairs = apart; is = e }) c.from_one.result (c.from_one.ensures B c.abstracted.ensures)

pub returns-clause-derivable : goal.returns-clause-derivable
returns-clause-derivable g c = λ q certified h.
    answer-holds (GivesAbstraction c.args.x.now c.args.th.now) (RefusesAbstraction c.args.x.now c.args.th.now) (IsDerivable (g.B.Base.content c.args.thy.now))
    (abstraction-derived (g.B.Base.content c.args.thy.now) q c.args.x.now c.args.th.now c.requires.variable certified h) c.from_one.result (returns-clause-answer g c)
