use Rattle.pure_declare.proofs.LanguageLaws.{const-found}
use Rattle.pure_declare.proofs.language.NamedTheoryLanguage.find_const.Goals as goal

pub returns : goal.returns
returns c = rw (← c.self.view_is) (const-found c.self.inside.names.now c.self.inside.theory.now c.self.invariant c.content_is_sound.ensures.content c.args.written.now c.find_const.result c.find_const.ensures)
