use Rattle.pure_elab.proofs.CallLaws.{solution_typed}
use Rattle.pure_elab.proofs.calls.typed_soon.Goals as goal

pub returns : goal.returns
returns g c =
    solution_typed (g.L.Language.vocabulary c.args.language.now) c.args.term.value c.args.constraints c.in_ok-found.found c.finished.result c.in_ok-found.ensures c.finished.ensures
