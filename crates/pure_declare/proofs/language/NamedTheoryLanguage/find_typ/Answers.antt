use Rattle.pure_declare.proofs.LanguageLaws.{typ-found}
use Rattle.pure_declare.proofs.language.NamedTheoryLanguage.find_typ.Goals as goal

pub returns : goal.returns
returns c = rw (← c.self.view_is) (typ-found c.self.inside.names.now c.self.inside.theory.now c.self.invariant c.content_is_sound.ensures.content c.args.written.now c.find_typ.result c.find_typ.ensures)
