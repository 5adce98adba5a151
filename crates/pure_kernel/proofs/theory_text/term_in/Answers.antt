use Rattle.std.proofs.Common.{subst}
use Rattle.std.specs.Prelude.{Ok, Err}
use Rattle.pure_grammar.specs.Theories.TheoryText.{Span}
use Rattle.pure_statements.specs.Chain.{Answers}
use Rattle.pure_statements.specs.Quoted.{IsReadTerm}
use Rattle.pure_statements.specs.Elaborated.{IsTypedTerm}
use Rattle.pure_statements.proofs.ChainLaws.{answers-next, answers-failed, fails-answers}
use Rattle.pure_kernel.specs.TheoryText.{whole}
use Rattle.pure_kernel.proofs.theory_text.term_in.Goals as goal

pub returns-in_err-raw-clause-answer : goal.returns-in_err-raw-clause-answer
returns-in_err-raw-clause-answer g c =
    answers-failed (IsReadTerm c.args.text.now (whole c.args.text.now)) (IsTypedTerm (g.L.Language.vocabulary c.args.language.now) c.args.typ.now) c.in_err-raw.field-0.0 c.from_residual.result
    (fails-answers (IsReadTerm c.args.text.now (whole c.args.text.now)) c.in_err-raw.field-0.0 (subst (λ (s : Span). Answers (IsReadTerm c.args.text.now s) (Err c.in_err-raw.field-0.0)) c.requires.range c.in_err-raw.ensures)) c.from_residual.ensures.1

pub returns-clause-answer : goal.returns-clause-answer
returns-clause-answer g c =
    answers-next (IsReadTerm c.args.text.now (whole c.args.text.now)) (IsTypedTerm (g.L.Language.vocabulary c.args.language.now) c.args.typ.now) c.in_ok-raw.raw c.elaborated_at.result
    (subst (λ (s : Span). IsReadTerm c.args.text.now s (Ok c.in_ok-raw.raw)) c.requires.range c.in_ok-raw.ensures) c.elaborated_at.ensures.answer
