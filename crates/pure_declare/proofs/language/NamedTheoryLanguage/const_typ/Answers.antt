use Rattle.pure_declare.proofs.LanguageLaws.{typ-declared}
use Rattle.pure_declare.proofs.language.NamedTheoryLanguage.const_typ.Goals as goal

pub returns : goal.returns
returns c = rw (← c.self.view_is) (typ-declared c.self.inside.names.now c.self.inside.theory.now c.self.invariant c.content_is_sound.ensures.content (λ t. t.now) c.args.name c.const_typ.result c.const_typ.ensures)
