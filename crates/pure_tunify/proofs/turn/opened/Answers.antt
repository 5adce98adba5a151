use Rattle.pure_tunify.proofs.WrittenLaws.{not_schematic_absent}
use Rattle.pure_tunify.proofs.MeetingLaws.{not_so}
use Rattle.pure_tunify.specs.Procedure.{IsSchematic}
use Rattle.pure_tunify.proofs.turn.opened.Goals as goal

pub returns-then-not-is_schematic-clause-free : goal.returns-then-not-is_schematic-clause-free
returns-then-not-is_schematic-clause-free c = not_schematic_absent c.args.settings.now.sets c.args.t (not_so c.is_schematic.result (IsSchematic c.args.t) c.is_schematic.ensures c.if-not-is_schematic.true)
