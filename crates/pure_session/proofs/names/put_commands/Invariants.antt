use Rattle.std.proofs.Common.{take}
use Rattle.pure_text.specs.Lists.{IsIn, AnyOf}
use Rattle.pure_script.specs.Seen.{seen_command}
use Rattle.pure_graph.specs.SessionNames.{full_names}
use Rattle.pure_session.specs.NameSets.{Gains}
use Rattle.pure_session.proofs.names.put_commands.Given as goal

abbrev pub invariant-loop-command : goal.invariant-loop-command
invariant-loop-command l = Gains l.initial.texts l.texts (λ t. AnyOf (λ command. IsIn t (full_names l.theory (seen_command command))) (take l.command-index l.commands))
