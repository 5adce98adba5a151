use Rattle.pure_text.proofs.AnswerLaws.{test_fails}
use Rattle.pure_lookup.specs.Meaning.{facts}
use Rattle.pure_script.specs.Seen.{span}
use Rattle.pure_declare.specs.Commands.{IsTaken}
use Rattle.pure_declare.proofs.LemmaSteps.{on-known, statement-taken, statement-passes, statement-fixed}
use Rattle.pure_declare.proofs.lemma.new_statement.Goals as goal

pub returns-then-is_fact_taken-clause-answer : goal.returns-then-is_fact_taken-clause-answer
returns-then-is_fact_taken-clause-answer c = statement-taken c.args.place.now c.args.name (span c.args.at) (c.is_fact_taken.ensures.0 c.if-is_fact_taken.true)

pub returns-clause-answer : goal.returns-clause-answer
returns-clause-answer c =
    statement-passes c.args.place.now c.args.name (span c.args.at) c.statement_of.result
    (test_fails (IsTaken c.args.place.now facts c.args.name) c.is_fact_taken.result c.is_fact_taken.ensures c.if-is_fact_taken.false) c.statement_of.ensures.answer

pub returns-clause-new : goal.returns-clause-new
returns-clause-new c =
    on-known c.statement_of.result (IsTaken c.args.place.now facts c.args.name → ⊥)
    (test_fails (IsTaken c.args.place.now facts c.args.name) c.is_fact_taken.result c.is_fact_taken.ensures c.if-is_fact_taken.false)

pub returns-clause-fixed : goal.returns-clause-fixed
returns-clause-fixed c = statement-fixed c.args.place.now c.args.name (span c.args.at) c.statement_of.result c.statement_of.ensures.answer
