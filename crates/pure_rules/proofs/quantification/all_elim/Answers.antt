use Rattle.std.proofs.Common.{◌≡◌, ◌∙◌, [], ◌∷◌, refl, sym, ap, subst}
use Rattle.pure_theorem.proofs.AnswerLaws.{answer-along, answer-holds}
use Rattle.pure_logic.specs.Derivable.{Theorem, IsDerivable}
use Rattle.pure_text.proofs.AnswerLaws.{test_fails}
use Rattle.pure_definitions.specs.Terms.Typing.{HasType}
use Rattle.pure_term_laws.proofs.TypingLaws.{typed-closed}
use Rattle.pure_logic.specs.Connectives.{all_of}
use Rattle.pure_logic.specs.Laws.Quantification.{beta_applied}
use Rattle.pure_rules.specs.Quantification.{GivesAllElim, RefusesAllElim}
use Rattle.pure_rules.proofs.DerivedLaws.{all_elim-derived}
use Rattle.pure_rules.proofs.quantification.all_elim.Goals as goal

pub returns-then-not-branch-clause-answer : goal.returns-then-not-branch-clause-answer
returns-then-not-branch-clause-answer g c =
    let is : c.args.th.now.prop ≡ all_of c.in-Some.typ.now c.in-Some.function.now = sym (ap (λ (t : Theorem). t.prop) c.th.view_is) ∙ c.in-Some.ensures in
    (c.in-Some.typ.now, c.in-Some.function.now, is, test_fails (HasType [] c.args.t.now c.in-Some.typ.now) c.in_ok-has_typ.field-0 c.in_ok-has_typ.ensures c.if-not-branch.true)

pub applied-requires : goal.applied-requires
applied-requires g c = typed-closed c.args.t.now c.in-Some.typ.now (c.in_ok-has_typ.ensures.0 c.if-not-branch.false)

pub returns-clause-answer : goal.returns-clause-answer
returns-clause-answer g c =
    let is : c.args.th.now.prop ≡ all_of c.in-Some.typ.now c.in-Some.function.now = sym (ap (λ (t : Theorem). t.prop) c.th.view_is) ∙ c.in-Some.ensures in
    let B = beta_applied c.in-Some.function.now c.args.t.now in
    answer-along (λ (new : Theorem). new ≡ record c.args.th.now { prop = B }) (GivesAllElim c.args.t.now c.args.th.now) (RefusesAllElim c.args.t.now c.args.th.now)
    (λ new e. record { typ = c.in-Some.typ.now; function = c.in-Some.function.now; quantification = is; typed = c.in_ok-has_typ.ensures.0 c.if-not-branch.false; is = e }) c.from_one.result (c.from_one.ensures B c.applied.ensures)

pub returns-clause-derivable : goal.returns-clause-derivable
returns-clause-derivable g c = λ q certified h.
    let is : c.args.th.now.prop ≡ all_of c.in-Some.typ.now c.in-Some.function.now = sym (ap (λ (t : Theorem). t.prop) c.th.view_is) ∙ c.in-Some.ensures in
    let B = beta_applied c.in-Some.function.now c.args.t.now in
    answer-holds (GivesAllElim c.args.t.now c.args.th.now) (RefusesAllElim c.args.t.now c.args.th.now) (IsDerivable (g.B.Base.content c.args.thy.now))
    (all_elim-derived (g.B.Base.content c.args.thy.now) q c.args.t.now c.args.th.now certified h) c.from_one.result
    (answer-along (λ (new : Theorem). new ≡ record c.args.th.now { prop = B }) (GivesAllElim c.args.t.now c.args.th.now) (RefusesAllElim c.args.t.now c.args.th.now)
    (λ new e. record { typ = c.in-Some.typ.now; function = c.in-Some.function.now; quantification = is; typed = c.in_ok-has_typ.ensures.0 c.if-not-branch.false; is = e }) c.from_one.result (c.from_one.ensures B c.applied.ensures))
