use Rattle.std.proofs.Common.{◌≤◌, take}
use Rattle.pure_text.specs.Lists.{Each}
use Rattle.pure_definitions.specs.Terms.Subst.{TermBind}
use Rattle.pure_norm.proofs.instance.least_index.Given as goal

-- no entry that was read replaces a variable of a lower index
abbrev pub invariant-loop-bind : goal.invariant-loop-bind
invariant-loop-bind l = Each (λ (b : TermBind). l.least ≤ b.index) (take l.bind-index l.binds)
