use Rattle.std.proofs.Common.{length, ap, sym, ◌∙◌}
use Rattle.pure_logic.specs.Derivable.{Theorem}
use Rattle.pure_goal_steps.proofs.Pairs.SmashLaws.{no-pairs}
use Rattle.pure_resolve.proofs.end.has_no_pairs.Goals as goal

pub returns-in-None : goal.returns-in-None
returns-in-None c = λ _. no-pairs c.args.th.now.pairs (ap length (ap (λ (t : Theorem). t.pairs) (sym c.th.view_is) ∙ sym c.as_slice.ensures.value) ∙ c.in-None.ensures.cases)
