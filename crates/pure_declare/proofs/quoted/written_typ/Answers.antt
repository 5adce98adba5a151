use Rattle.pure_script.specs.Seen.{span}
use Rattle.pure_declare.proofs.QuotedLaws.{typ-at, certified_typ-at}
use Rattle.pure_declare.proofs.quoted.written_typ.Goals as goal

pub returns-clause-answer : goal.returns-clause-answer
returns-clause-answer c = typ-at c.args.place.now c.language-language.result c.language-language.ensures c.source.result.now (span c.args.at) c.written_typ.result c.source.ensures.value c.written_typ.ensures.answer

pub returns-clause-certified : goal.returns-clause-certified
returns-clause-certified c = certified_typ-at c.args.place.now c.language-language.result c.language-language.ensures c.is_in_session.ensures c.theory.ensures.sound c.written_typ.result c.written_typ.ensures.certified
