use Rattle.std.proofs.Common.{◌≡◌, ◌++◌, map, drop}
use Rattle.pure_places.specs.Found.{found_commands}
use Rattle.pure_places.specs.Seen.{seen_command}
use Rattle.pure_places.specs.declared.mark.Before.TheVariants.{Other}
use Rattle.pure_places.proofs.search.commands_in.Given as goal

abbrev pub invariant-loop-place : goal.invariant-loop-place
invariant-loop-place l = map seen_command l.found.items ++ found_commands l.source l.before (drop l.place l.tokens) ≡ found_commands l.source Other l.tokens
