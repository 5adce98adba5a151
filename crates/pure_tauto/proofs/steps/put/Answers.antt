use Rattle.std.proofs.Common.{◌++◌, ◌∷◌, [], ◌∙◌, ap}
use Rattle.pure_kernel.specs.Logic.Derivable.{Theorem}
use Rattle.pure_tauto.proofs.ProverLaws.{pushed-in}
use Rattle.pure_tauto.proofs.steps.put.Goals as goal

pub returns : goal.returns
returns c = pushed-in c.args.some.now.items c.push.new.self.items c.args.th.now (c.in_ok-push.ensures.items ∙ ap (λ (t : Theorem). c.args.some.now.items ++ t ∷ []) c.in_ok-copy.ensures)
