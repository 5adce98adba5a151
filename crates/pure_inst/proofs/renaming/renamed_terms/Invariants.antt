use Rattle.std.proofs.Common.{◌≡◌, map, take}
use Rattle.pure_inst.specs.Renaming.{renamed}
use Rattle.pure_inst.proofs.renaming.renamed_terms.Given as goal

abbrev pub invariant-loop-term : goal.invariant-loop-term
invariant-loop-term l = l.images.items ≡ map (renamed l.renaming) (take l.term-index l.terms)
