use Rattle.pure_declare.proofs.LanguageLaws.{name-found}
use Rattle.pure_declare.proofs.language.NamedTheoryLanguage.find_name.Goals as goal

pub returns : goal.returns
returns c = rw (← c.self.view_is) (name-found c.self.inside.names.now c.self.inside.theory.now c.self.invariant c.content_is_sound.ensures.content c.args.text.now c.find.result (rw c.names-names.ensures at c.find.ensures))
