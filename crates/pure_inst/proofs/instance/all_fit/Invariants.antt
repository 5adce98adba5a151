use Rattle.std.proofs.Common.{take}
use Rattle.pure_text.specs.Lists.{Each}
use Rattle.pure_definitions.specs.Terms.Term.{Term, IsWithin}
use Rattle.pure_logic.specs.Laws.Maps.{instantiated}
use Rattle.pure_inst.proofs.instance.all_fit.Given as goal

-- the images so far are within the limits
abbrev pub invariant-loop-t : goal.invariant-loop-t
invariant-loop-t l = Each (λ (t : Term). IsWithin (instantiated l.typs l.terms t)) (take l.t-index l.ts)
