use Rattle.std.proofs.Common.{◌∙◌, sym, ap}
use Rattle.std.specs.Option.{option_and_then}
use Rattle.pure_typ.specs.NameBases.{base_of}
use Rattle.pure_typ.proofs.BaseLemmas.{name-told}
use Rattle.pure_typ.proofs.names.Names.base.Goals as goal

pub returns-in-Some-clause-base : goal.returns-in-Some-clause-base
returns-in-Some-clause-base c = name-told (λ base. base.now) c.args.self.now c.args.name c.base_in.result (c.base_in.ensures ∙ sym (ap (option_and_then base_of) c.in-Some.ensures))
