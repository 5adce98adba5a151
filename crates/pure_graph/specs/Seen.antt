-- What contracts see of the files of theories.
use Rattle.std.specs.Prelude.{List, map}
use Rattle.pure_script.specs.Seen.{seen_theory}
use Rattle.pure_graph.specs.Outcome as spec
use Rattle.pure_graph.specs.Reading.{File}
use Rattle.pure_graph.specs.declared.outcome.Outcome.{Outcome}
use Rattle.pure_graph.specs.declared.outcome.Outcome.TheVariants.{Refused, Stands}
use Rattle.pure_graph.specs.declared.outcome.TheoryFile.{TheoryFile}

abbrev pub seen_outcome : Outcome → spec.Outcome
seen_outcome (Refused reason) = spec.Refused reason
seen_outcome (Stands source text) = spec.Stands source (seen_theory text)

abbrev pub seen_file : TheoryFile → File
seen_file file = record { theory = file.theory; outcome = seen_outcome file.outcome }

abbrev pub seen_files : List TheoryFile → List File
seen_files = map seen_file
