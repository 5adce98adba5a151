use Rattle.std.proofs.Common.{sym, ◌∙◌}
use Rattle.pure_unify.proofs.clash.are_rigid_apart.Goals as goal

pub returns : goal.returns
returns c = record { left = sym c.is_schematic.ensures ∙ c.if-is_schematic.false; right = sym c.is_schematic-2.ensures ∙ c.if-is_schematic-2.false; apart = c.in-Apart.ensures }
