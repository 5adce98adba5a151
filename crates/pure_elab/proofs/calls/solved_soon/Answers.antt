use Rattle.std.proofs.Common.{subst}
use Rattle.pure_definitions.specs.Types.Order.{Algebra}
use Rattle.pure_tunify.specs.Answers.{AreSettled}
use Rattle.pure_elab.proofs.calls.solved_soon.Goals as goal

pub returns : goal.returns
returns g c =
    record {
      unifier = c.in_ok-settings.settings;
      settled = subst (λ (A : Algebra). AreSettled A 2 0 c.args.pairs.items c.in_ok-settings.settings) c.order.ensures c.in_ok-settings.ensures;
      limited = c.in_ok-found.ensures;
    }

pub put_in-requires : goal.put_in-requires
put_in-requires g c = c.in_ok-settings.ensures.within.images
