use Rattle.std.proofs.Common.{refl, inl}
use Rattle.std.specs.Prelude.{Ok, Err}
use Rattle.pure_text.proofs.AnswerLaws.{test_fails}
use Rattle.pure_script.specs.Seen.{span}
use Rattle.pure_lookup.specs.Laws.{IsInSession}
use Rattle.pure_elab.specs.Found.{vocabulary_of}
use Rattle.pure_kernel.specs.TheoryText.{IsTermText}
use Rattle.pure_kernel.proofs.TheoryTextLaws.{short, refused, said, sound-here}
use Rattle.pure_kernel.proofs.theory_text.term_of_text.Goals as goal

pub may_look_up-requires : goal.may_look_up-requires
may_look_up-requires c = c.are_session_texts.ensures

pub returns-then-not-may_look_up-clause-answer : goal.returns-then-not-may_look_up-clause-answer
returns-then-not-may_look_up-clause-answer c = test_fails _ c.may_look_up.result c.may_look_up.ensures c.if-not-may_look_up.true

pub returns-then-is_too_long-clause-answer : goal.returns-then-is_too_long-clause-answer
returns-then-is_too_long-clause-answer c = inl (c.is_too_long.ensures.0 c.if-is_too_long.true, refl)

pub range_of-at-requires : goal.range_of-at-requires
range_of-at-requires c = test_fails _ c.is_too_long.result c.is_too_long.ensures c.if-is_too_long.false

pub make-language-requires : goal.make-language-requires
make-language-requires c = c.may_look_up.ensures.0 c.if-not-may_look_up.false

pub term_in-requires-clause-small : goal.term_in-requires-clause-small
term_in-requires-clause-small c = short c.args.text.now (test_fails _ c.is_too_long.result c.is_too_long.ensures c.if-is_too_long.false)

pub returns-in_err-term-clause-answer : goal.returns-in_err-term-clause-answer
returns-in_err-term-clause-answer c =
    refused (IsInSession c.args.names.now c.args.theory.now) c.args.text.now (IsTermText (vocabulary_of c.args.names.now c.args.theory.now) c.args.text.now c.args.typ.now) c.in_err-term.field-0.0 c.from_residual.result
    (said c.args.names.now c.args.theory.now c.make-language.result c.make-language.ensures c.args.text.now (span c.range_of-at.result) c.range_of-at.ensures.range (λ V s. IsTermText V c.args.text.now c.args.typ.now) (Err c.in_err-term.field-0.0) c.in_err-term.ensures.answer) c.from_residual.ensures.1

pub returns-clause-answer : goal.returns-clause-answer
returns-clause-answer c = said c.args.names.now c.args.theory.now c.make-language.result c.make-language.ensures c.args.text.now (span c.range_of-at.result) c.range_of-at.ensures.range (λ V s. IsTermText V c.args.text.now c.args.typ.now) (Ok c.in_ok-term.term) c.in_ok-term.ensures.answer

pub returns-clause-certified : goal.returns-clause-certified
returns-clause-certified c = λ certified. c.in_ok-term.ensures.certified c.args.theory.now (sound-here c.args.names.now c.args.theory.now c.make-language.result c.make-language.ensures (c.may_look_up.ensures.0 c.if-not-may_look_up.false) c.content_is_sound.ensures) certified
