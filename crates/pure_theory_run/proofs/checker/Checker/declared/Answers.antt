use Rattle.std.specs.Prelude.{List, ℕ}
use Rattle.std.proofs.Common.{subst}
use Rattle.pure_script.specs.Seen.{seen_command}
use Rattle.pure_session_meaning.specs.Declare.Fold.{Declares}
use Rattle.pure_session_meaning.specs.Declare.Seen.{seen_notes}
use Rattle.pure_theory_run.proofs.checker.Checker.declared.Goals as goal

pub returns : goal.returns
returns c =
    let d = c.in_ok-declared.declared in
    subst (λ (texts : List (List ℕ)). Declares texts c.args.theory.now.source c.args.label c.args.stage.now.value (seen_command c.args.command.now) (seen_notes d.notes.items) d.stage.value) c.names-names.ensures.value
    (subst (λ (source : List ℕ). Declares c.names-names.result.now source c.args.label c.args.stage.now.value (seen_command c.args.command.now) (seen_notes d.notes.items) d.stage.value) c.bytes-source.ensures c.in_ok-declared.ensures)
