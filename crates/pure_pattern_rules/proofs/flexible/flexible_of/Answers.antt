use Rattle.pure_pattern_rules.proofs.SideLaws.{side_places}
use Rattle.pure_pattern_rules.proofs.flexible.flexible_of.Goals as goal

pub unreachable-requires : goal.unreachable-requires
unreachable-requires c = (rw (c.in_default.is, c.term_body.ensures) at c.in_ok-places.ensures) (side_places c.args.t.now c.requires.pattern c.requires.flexible)
