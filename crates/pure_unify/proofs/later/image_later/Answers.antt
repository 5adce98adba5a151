use Rattle.std.proofs.Common.{rules, ◌≡◌, ◌-◌, ◌<◌, length, take, ap, sym, ◌∙◌, refl, arith}
use Rattle.pure_text.proofs.AnswerLaws.{test_fails}
use Rattle.pure_definitions.specs.Terms.Term.{Var}
use Rattle.pure_definitions.specs.Terms.Subst.{TermBind, term_variable}
use Rattle.pure_unify.specs.Later.{typ_later}
use Rattle.pure_unify.proofs.LaterLaws.{kept_typs, kept_term, kept_found, kept_some, single_at, first_is}
use Rattle.pure_unify.proofs.later.image_later.Goals as goal
use Rattle.pure_unify.proofs.later.image_later.Goals.{in-OfTyps, in-OfTerm+else-replaces}

pub bounds-terms-left : goal.bounds-terms-left
bounds-terms-left c =
    let single = single_at c.args.settings.now c.loop-i.i c.index-settings-i.result c.in-OfTerm.map c.requires.singles c.loop-i-test.true c.index-settings-i.is c.in-OfTerm.is in
    let some = kept_some c.args.settings.now c.args.name c.args.index c.args.typ.now c.loop-i.i c.loop-i.left c.index-settings-i.result c.in-OfTerm.map single.0 c.args.terms.now c.loop-i.invariant c.loop-i-test.true c.index-settings-i.is c.in-OfTerm.is single.1 c.requires.terms in
    let low = some.0 in
    let high = some.1 in
    omega arith

pub offset_bounds-terms-left : goal.offset_bounds-terms-left
offset_bounds-terms-left c = let inside : c.loop-i.left - 1 < length c.args.terms.now = bounds-terms-left c in search rules

pub returns-then-replaces : goal.returns-then-replaces
returns-then-replaces c =
    let single = single_at c.args.settings.now c.loop-i.i c.index-settings-i.result c.in-OfTerm.map c.requires.singles c.loop-i-test.true c.index-settings-i.is c.in-OfTerm.is in
    let first : c.index-binds-0.result ≡ single.0 = first_is c.binds-binds.result.now c.in-OfTerm.map c.index-binds-0.result single.0 c.binds-binds.ensures.are single.1 c.index-binds-0.is in
    let same = c.replaces.ensures.0 c.if-replaces.true ∙ ap term_variable first in
    kept_found c.args.settings.now c.args.name c.args.index c.args.typ.now c.loop-i.i c.loop-i.left (c.loop-i.left - 1) c.index-settings-i.result c.in-OfTerm.map single.0 c.index-terms-left.result c.args.terms.now c.loop-i.invariant
    c.loop-i-test.true c.index-settings-i.is c.in-OfTerm.is single.1 same refl c.requires.terms c.index-terms-left.is ∙ ap (λ (b : TermBind). b.image) (sym c.entry.view_is)

pub loop-i-preserved : goal.loop-i-preserved
loop-i-preserved c = elim c.match-settings-i.branch [
  | in-OfTyps w ↦ rw w.left-is (kept_typs c.args.settings.now c.args.name c.args.index c.args.typ.now c.loop-i.i c.loop-i.left c.index-settings-i.result w.in-OfTyps.field-0 c.loop-i.invariant c.loop-i-test.true c.index-settings-i.is w.in-OfTyps.is)
  | in-OfTerm+else-replaces w ↦
      let single = single_at c.args.settings.now c.loop-i.i c.index-settings-i.result w.in-OfTerm.map c.requires.singles c.loop-i-test.true c.index-settings-i.is w.in-OfTerm.is in
      let first : w.index-binds-0.result ≡ single.0 = first_is w.binds-binds.result.now w.in-OfTerm.map w.index-binds-0.result single.0 w.binds-binds.ensures.are single.1 w.index-binds-0.is in
      let differ : ¬ (Var c.args.name c.args.index (typ_later (take c.loop-i.i c.args.settings.now) c.args.typ.now) ≡ term_variable w.index-binds-0.result) = test_fails _ w.replaces.result w.replaces.ensures w.if-replaces.false in
      rw w.left-is (kept_term c.args.settings.now c.args.name c.args.index c.args.typ.now c.loop-i.i c.loop-i.left (c.loop-i.left - 1) c.index-settings-i.result w.in-OfTerm.map single.0 c.loop-i.invariant c.loop-i-test.true c.index-settings-i.is
      w.in-OfTerm.is single.1 (λ e. differ (e ∙ ap term_variable (sym first))) refl)
]
