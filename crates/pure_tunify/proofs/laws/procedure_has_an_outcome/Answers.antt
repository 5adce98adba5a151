use Rattle.pure_tunify.specs.Unifiers.{IsOldPair}
use Rattle.pure_tunify.proofs.SettingLaws.{instance_pairs-identity}
use Rattle.pure_tunify.proofs.OutcomeLaws.{unifies_some}
use Rattle.pure_text.specs.Lists.{Each}
use Rattle.std.proofs.Common.{[], sym, subst}
use Rattle.pure_tunify.proofs.laws.procedure_has_an_outcome.Goals as goal

pub returns : goal.returns
returns c = λ A coregular index from pairs old. unifies_some A coregular index pairs 0 from [] (subst (Each (IsOldPair index from)) (sym (instance_pairs-identity pairs)) old)
