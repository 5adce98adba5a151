-- The turns of a session's runs as turns of the core's work.
use Rattle.pure_table.specs.Declare.Notes.{Fork}
use Rattle.pure_table.specs.TheoryRun.Outline.{Outline}
use Rattle.pure_table.specs.TheoryRun.declared.run.Turn as run
use Rattle.pure_table.specs.TheoryRun.declared.run.Turn.TheVariants as run_code
use Rattle.pure_core.specs.declared.work.Turn.{Turn}
use Rattle.pure_core.specs.declared.work.Turn.TheVariants.{Declared, Forked, Closed}

-- the turn as the core sees it
abbrev pub core_turn : run.Turn → Turn Fork Outline
core_turn run_code.Declared = Declared
core_turn (run_code.Forked command goal) = Forked command goal
core_turn (run_code.Closed closed) = Closed closed
