use Rattle.std.proofs.Common.{sym, subst}
use Rattle.std.specs.Prelude.{Ok, Err}
use Rattle.pure_definitions.specs.Types.Typ.{Typ, prop}
use Rattle.pure_logic.specs.Content.{IsCertifiedOf}
use Rattle.pure_lookup.specs.Laws.{IsInSession}
use Rattle.pure_elab.specs.Answers.{IsFixedTyp}
use Rattle.pure_elab.specs.Found.{vocabulary_of}
use Rattle.pure_elab.proofs.CallLaws.{prop_is_fixed}
use Rattle.pure_kernel.specs.TheoryText.{IsTermText, IsTextAnswer}
use Rattle.pure_kernel.proofs.TheoryTextLaws.{handed, certified-prop}
use Rattle.pure_kernel.proofs.theory_text.proposition_of_text.Goals as goal

pub term_of_text-requires : goal.term_of_text-requires
term_of_text-requires c = subst IsFixedTyp (sym c.prop_typ-typ.ensures) prop_is_fixed

pub returns-in_err-term-clause-answer : goal.returns-in_err-term-clause-answer
returns-in_err-term-clause-answer c =
    handed (IsInSession c.args.names.now c.args.theory.now) c.args.text.now (IsTermText (vocabulary_of c.args.names.now c.args.theory.now) c.args.text.now prop) c.in_err-term.field-0.0 c.from_residual.result
    (subst (λ (T : Typ). IsTextAnswer (IsInSession c.args.names.now c.args.theory.now) c.args.text.now (IsTermText (vocabulary_of c.args.names.now c.args.theory.now) c.args.text.now T) (Err c.in_err-term.field-0.0)) c.prop_typ-typ.ensures c.in_err-term.ensures.answer)
    c.from_residual.ensures.1

pub returns-clause-answer : goal.returns-clause-answer
returns-clause-answer c = subst (λ (T : Typ). IsTermText (vocabulary_of c.args.names.now c.args.theory.now) c.args.text.now T (Ok c.in_ok-term.term)) c.prop_typ-typ.ensures c.in_ok-term.ensures.answer

pub returns-clause-proposition : goal.returns-clause-proposition
returns-clause-proposition c =
    subst (λ (T : Typ). IsCertifiedOf c.args.theory.now c.in_ok-term.term T) c.prop_typ-typ.ensures
    (c.in_ok-term.ensures.certified (certified-prop c.args.theory.now c.content_is_sound.ensures c.prop_typ-typ.result c.prop_typ-typ.ensures))
