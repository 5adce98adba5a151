use Rattle.pure_tunify.specs.Settings.{composed}
use Rattle.pure_tunify.proofs.TreatLaws.{out_answer}
use Rattle.pure_tunify.proofs.turn.is_out_of_sort.Goals as goal

pub returns-in_ok-found-in-Con : goal.returns-in_ok-found-in-Con
returns-in_ok-found-in-Con c = rw (← c.t.view_is, c.in-Con.is, ← c.as_slice-args.ensures)
    (out_answer _ c.args.order.now c.in-Con.name c.args.sort.now c.as_slice-args.result.now (composed c.args.settings.now.sets) c.in_ok-found-in-Con.found c.is_none.result c.in_ok-found-in-Con.ensures c.is_none.ensures)
