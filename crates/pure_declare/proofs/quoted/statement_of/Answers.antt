use Rattle.pure_script.specs.Seen.{span}
use Rattle.pure_declare.proofs.QuotedLaws.{stated-at, statement-at}
use Rattle.pure_declare.proofs.quoted.statement_of.Goals as goal

pub returns-clause-answer : goal.returns-clause-answer
returns-clause-answer c = stated-at c.args.place.now c.language-language.result c.language-language.ensures c.source.result.now (span c.args.at) c.statement_of.result c.source.ensures.value c.statement_of.ensures.answer

pub returns-clause-statement : goal.returns-clause-statement
returns-clause-statement c = statement-at c.args.place.now c.language-language.result c.language-language.ensures c.is_in_session.ensures c.theory.ensures.sound c.statement_of.result c.statement_of.ensures.statement
