use Rattle.std.proofs.Common.{◌≡◌, ◌∙◌, length, ap, arith}
use Rattle.std.specs.Prelude.{List}
use Rattle.pure_graph.specs.Outcome.{part_count}
use Rattle.pure_script.specs.declared.theory.Command.{Command}
use Rattle.pure_script.specs.Seen.{seen_commands}
use Rattle.pure_session_meaning.specs.Theory.Begin.{contents}
use Rattle.pure_theory_run.proofs.BeginLaws.{first-over}
use Rattle.pure_theory_run.proofs.PlaceLaws.{commands-few, parts-few}
use Rattle.pure_theory_run.proofs.checker.Checker.begun_over.Goals as goal

pub returns-in_ok-going-in-Ok : goal.returns-in_ok-going-in-Ok
returns-in_ok-going-in-Ok c =
    let count : c.len-left.result ≡ length c.args.theory.now.text.commands.items = omega (arith, c.len-left.ensures, c.args.theory.now.text.commands.ok) in
    let parts = c.part_count-parts.ensures ∙ ap (λ (cs : List Command). part_count (seen_commands cs)) c.as_slice.ensures.value in
    first-over c.args.self.now.texts c.args.index c.args.theory.now (contents c.args.stages.now) c.in_ok-going-in-Ok.going c.in-Ok.first c.args.name c.len-left.result c.part_count-parts.result c.requires.text c.requires.may
    c.in-Ok.ensures.ok count parts c.in_ok-going-in-Ok.ensures

pub overflow_cast-left : goal.overflow_cast-left
overflow_cast-left c =
    omega (arith, commands-few c.args.self.now.texts c.args.self.now.theories c.is_loaded_session.ensures c.args.index c.args.theory.now c.requires.theory, c.len-left.ensures, c.args.theory.now.text.commands.ok)

pub part_count-parts-requires : goal.part_count-parts-requires
part_count-parts-requires c = rw c.as_slice.ensures.value (parts-few c.args.self.now.texts c.args.self.now.theories c.is_loaded_session.ensures c.args.index c.args.theory.now c.requires.theory)
