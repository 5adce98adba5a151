use Rattle.pure_declare.proofs.LanguageLaws.{params-found}
use Rattle.pure_declare.proofs.language.NamedTheoryLanguage.typ_params.Goals as goal

pub returns : goal.returns
returns c = rw (← c.self.view_is) (params-found c.self.inside.names.now c.self.inside.theory.now c.self.invariant c.content_is_sound.ensures.content c.args.name c.typ_params.result c.typ_params.ensures)
