use Rattle.std.proofs.Common.{ap, sym}
use Rattle.pure_logic.specs.Derivable.{Pair}
use Rattle.pure_pattern_rules.proofs.RigidLaws.{as_many}
use Rattle.pure_pattern_rules.proofs.rigid.argument_pairs.Goals as goal

pub push_argument_pairs-requires : goal.push_argument_pairs-requires
push_argument_pairs-requires c =
    as_many c.args.pair.now c.pair.inside.left c.pair.inside.right (ap (λ (p : Pair). p.left) (sym c.pair.view_is)) (ap (λ (p : Pair). p.right) (sym c.pair.view_is)) c.requires.long c.requires.heads
