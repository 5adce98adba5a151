use Rattle.std.proofs.Common.{◌≡◌, ◌*◌, ◌<◌, map}
use Rattle.std.specs.List.{range_with_len}
use Rattle.pure_gen.specs.Generated.{number_behind, file_of}
use Rattle.pure_gen.proofs.library.generate.Given as goal

abbrev pub invariant-loop-theory : goal.invariant-loop-theory
invariant-loop-theory l =
    (l.drawn < 65537) × (l.drawn ≡ number_behind l.start (l.theory * l.lemmas)) × (l.files.items ≡ map (file_of l.start l.lemmas) (range_with_len 0 l.theory))
