use Rattle.pure_declare.proofs.LanguageLaws.{class-found}
use Rattle.pure_declare.proofs.language.NamedTheoryLanguage.find_class.Goals as goal

pub returns : goal.returns
returns c = rw (← c.self.view_is) (class-found c.self.inside.names.now c.self.inside.theory.now c.self.invariant c.content_is_sound.ensures.content c.args.written.now c.find_class.result c.find_class.ensures)
