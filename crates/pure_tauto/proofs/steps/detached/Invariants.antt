use Rattle.pure_kernel.specs.Theorems.Facts.{IsTheoryContent}
use Rattle.pure_tauto.specs.Decided.{AreDerivable}
use Rattle.pure_tauto.proofs.steps.detached.Given as goal

abbrev pub invariant-detaching : goal.invariant-detaching
invariant-detaching g l = let Q = g.B.Base.content l.fn.thy in IsTheoryContent Q → AreDerivable Q l.fn.known → AreDerivable Q l.all.items
