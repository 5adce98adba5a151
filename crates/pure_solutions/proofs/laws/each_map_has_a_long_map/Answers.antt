use Rattle.pure_solutions.proofs.SolutionLaws.{each_map_has_a_long_map as law}
use Rattle.pure_solutions.proofs.laws.each_map_has_a_long_map.Goals as goal

pub returns : goal.returns
returns c = law
