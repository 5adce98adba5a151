-- What reading a source gave.
use Rattle.std.specs.Prelude.{ℕ, ◌≤◌, List, length}
use Rattle.pure_script.specs.Seen.{seen_theory}
use Rattle.pure_graph.specs.Outcome.{IsTheoryText, IsFaultPlace}
use Rattle.pure_graph.specs.declared.source.Parsed.{Parsed}
use Rattle.pure_graph.specs.declared.source.Parsed.TheVariants.{Outside, Theory}

-- the source has this tree, or its first fault at this place
abbrev pub IsParsed : List ℕ → Parsed → Type 0
IsParsed source (Outside at) = IsFaultPlace source at × (at ≤ length source)
IsParsed source (Theory text) = IsTheoryText source (seen_theory text)
