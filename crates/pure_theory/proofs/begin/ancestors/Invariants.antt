use Rattle.std.proofs.Common.{◌≡◌, [], take}
use Rattle.std.specs.List.{flat_map}
use Rattle.pure_logic.specs.Beginning.{theories_of}
use Rattle.pure_theory.specs.Begin.{contents}
use Rattle.pure_theory.specs.Once.{all_once_more}
use Rattle.pure_theory.proofs.begin.ancestors.Given as goal

-- the theories of the parents so far
abbrev pub invariant-loop-place : goal.invariant-loop-place
invariant-loop-place l = l.theories.items ≡ all_once_more [] (flat_map theories_of (take l.place (contents l.parents)))
