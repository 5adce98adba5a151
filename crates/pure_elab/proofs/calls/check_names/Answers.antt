use Rattle.std.proofs.Common.{[], ◌∙◌, sym}
use Rattle.pure_elab.specs.Faults.{term_faults}
use Rattle.pure_elab.proofs.CallLaws.{nothing_found, found_refuses}
use Rattle.pure_elab.proofs.calls.check_names.Goals as goal

pub returns-in-None-clause-ok : goal.returns-in-None-clause-ok
returns-in-None-clause-ok g c = nothing_found (term_faults (g.L.Language.vocabulary c.args.language.now) [] c.args.raw.now) (sym c.in-None.is ∙ c.in_ok-found.ensures)

pub returns-clause-fault : goal.returns-clause-fault
returns-clause-fault g c =
    found_refuses (term_faults (g.L.Language.vocabulary c.args.language.now) [] c.args.raw.now) c.in-Some.found c.fault_of.result (sym c.in-Some.is ∙ c.in_ok-found.ensures) c.fault_of.ensures
