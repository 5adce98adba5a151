use Rattle.pure_declare.proofs.QuotedLaws.{certified_term-at}
use Rattle.pure_declare.proofs.quoted.typed_term.Goals as goal

pub returns-clause-certified : goal.returns-clause-certified
returns-clause-certified c = certified_term-at c.args.place.now c.language-language.result c.language-language.ensures c.is_in_session.ensures c.theory.ensures.sound c.args.typ.now c.elaborated_at.result c.requires.certified c.elaborated_at.ensures.certified
