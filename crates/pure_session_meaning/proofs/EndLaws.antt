-- Each theory that begins closes.
use Rattle.std.proofs.Common.{List, [], ◌∷◌, ◌++◌, length, append_assoc, append-nil, sym, subst}
use Rattle.pure_session_laws.specs.Declare.Notes.{Note}
use Rattle.pure_session_laws.proofs.Declare.PartSomeLaws.{commands_somehow}
use Rattle.pure_session_meaning.specs.Verdicts.{Ran, Closes}
use Rattle.pure_session_meaning.specs.Steps.{command_label}
use Rattle.pure_session_meaning.specs.Given.{RunsClose}
use Rattle.pure_session_meaning.proofs.StepLaws.{run_goes_on, run_closes}
use Rattle.pure_session_meaning.proofs.OrderlyLaws.{run-ordered}
use Rattle.pure_session_meaning.proofs.OwnLaws.{runs_give}

pub runs_close : RunsClose
runs_close texts theories session index notes now [] run = ([], now, subst (λ (ns : List Note). Closes texts theories index (Ran ns now)) (sym (append-nil notes)) (run_closes texts theories index notes now run))
runs_close texts theories session index notes now (c ∷ left) run =
    let give = runs_give texts theories session index run.theory run.is_at notes now c left run in
    let order = (run-ordered texts theories session index notes now (c ∷ left) run).orderly in
    let w = commands_somehow texts run.theory.source (command_label index (length run.done)) now c give.names give.ranges give.given order.good in
    let goes = run_goes_on texts theories index run.theory run.is_at notes now c left run w.0 w.1 w.2 in
    let rest = runs_close texts theories session index (notes ++ w.0) w.1 left goes in
    (w.0 ++ rest.0, rest.1, subst (λ (ns : List Note). Closes texts theories index (Ran ns rest.1)) (append_assoc notes w.0 rest.0) rest.2)
