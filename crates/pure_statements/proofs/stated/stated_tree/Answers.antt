use Rattle.pure_statements.proofs.ChainLaws.{answers-next, answers-failed, fails-answers}
use Rattle.pure_statements.proofs.StatedLaws.{if-ok}
use Rattle.pure_definitions.specs.Types.Typ.{prop}
use Rattle.pure_statements.specs.Elaborated.{IsTypedTerm}
use Rattle.pure_statements.specs.Statement.{IsStatedTerm}
use Rattle.pure_statements.proofs.stated.stated_tree.Goals as goal

pub returns-in_err-term-clause-answer : goal.returns-in_err-term-clause-answer
returns-in_err-term-clause-answer g c = answers-failed (IsTypedTerm (g.L.Language.vocabulary c.args.language.now) prop c.args.raw.now) (IsStatedTerm) c.in_err-term.field-0.0 c.from_residual.result (fails-answers (IsTypedTerm (g.L.Language.vocabulary c.args.language.now) prop c.args.raw.now) c.in_err-term.field-0.0 c.in_err-term.ensures.answer) c.from_residual.ensures.1

pub returns-clause-answer : goal.returns-clause-answer
returns-clause-answer g c = answers-next (IsTypedTerm (g.L.Language.vocabulary c.args.language.now) prop c.args.raw.now) (IsStatedTerm) c.in_ok-term.term c.stated_term.result c.in_ok-term.ensures.answer c.stated_term.ensures.answer

pub returns-clause-statement : goal.returns-clause-statement
returns-clause-statement g c = if-ok _ _ (λ s h Q content sound. h Q content (c.in_ok-term.ensures.certified Q sound)) c.stated_term.result c.stated_term.ensures.statement
