-- Laws of statements.
use Rattle.std.specs.Prelude.{◌≡◌}
use Rattle.pure_definitions.specs.Terms.Term.{Term}
use Rattle.pure_logic.specs.Laws.Maps as maps
use Rattle.pure_logic.specs.Laws.Maps.{everything}
use Rattle.pure_statements.specs.Schematic.{generalised}

-- A statement with schematic variables in place of its fixed ones is the term with everything in it made schematic, with the index 0.
abbrev pub SchematicIsGeneralised : Type 0
SchematicIsGeneralised = (t : Term) → generalised t ≡ maps.generalised (everything 0) t
