use Rattle.std.proofs.Common.{◌∙◌, sym}
use Rattle.pure_elab.specs.Faults.{typ_faults}
use Rattle.pure_elab.proofs.CallLaws.{nothing_found}
use Rattle.pure_elab.proofs.draft.check_typ.Goals as goal

pub returns-in-None : goal.returns-in-None
returns-in-None g c = nothing_found (typ_faults (g.L.Language.vocabulary c.args.language.now) c.args.raw.now) (sym c.in-None.is ∙ c.with_typ.ensures)
