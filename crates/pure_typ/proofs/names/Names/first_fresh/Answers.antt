use Rattle.std.proofs.Common.{arith, length-append}
use Rattle.pure_typ.specs.NameTexts.{builtin_texts}
use Rattle.pure_typ.proofs.NamesLemmas.{length-builtin_texts}
use Rattle.pure_typ.proofs.names.Names.first_fresh.Goals as goal

pub returns : goal.returns
returns c = rw (← c.self.view_is, length-append builtin_texts c.self.inside.texts, length-builtin_texts) (omega arith)
