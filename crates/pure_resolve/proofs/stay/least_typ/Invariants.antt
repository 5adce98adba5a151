use Rattle.std.proofs.Common.{◌≤◌, take}
use Rattle.pure_text.specs.Lists.{Each}
use Rattle.pure_definitions.specs.Terms.Subst.{TypBind}
use Rattle.pure_resolve.proofs.stay.least_typ.Given as goal

abbrev pub invariant-loop-bind : goal.invariant-loop-bind
invariant-loop-bind l = Each (λ (b : TypBind). l.least ≤ b.index) (take l.bind-index l.binds)
