use Rattle.std.proofs.Common.{◌∙◌, sym, ap}
use Rattle.pure_kernel.specs.Logic.Derivable.{Theorem}
use Rattle.pure_rewrite.proofs.RewriteLaws.{from-left}
use Rattle.pure_rewrite.proofs.rewriting.is_from.Goals as goal

pub returns-in-Some : goal.returns-in-Some
returns-in-Some c = λ yes. from-left c.args.th.now _ c.in-Some.left.now c.args.t.now _ (sym (ap (λ (th : Theorem). th.prop) c.th.view_is) ∙ c.in-Some.ensures) (c.are_same.ensures.0 yes)
