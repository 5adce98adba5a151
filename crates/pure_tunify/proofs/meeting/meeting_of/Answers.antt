use Rattle.std.proofs.Common.{sym, ◌∙◌}
use Rattle.pure_definitions.specs.Models.Equality.{typ_eq-same}
use Rattle.pure_tunify.proofs.MeetingLaws.{meets_apart}
use Rattle.pure_tunify.proofs.meeting.meeting_of.Goals as goal

pub returns-then-eq-2 : goal.returns-then-eq-2
returns-then-eq-2 c = typ_eq-same c.args.left.now c.args.right.now (sym c.eq-2.ensures ∙ c.if-eq-2.true)

pub returns : goal.returns
returns c = meets_apart c.args.left.now c.args.right.now c.is_schematic.result c.is_schematic-2.result c.have_arguments.result c.eq-2.result
    c.is_schematic.ensures c.if-is_schematic.false c.is_schematic-2.ensures c.if-is_schematic-2.false c.have_arguments.ensures c.if-have_arguments.false c.eq-2.ensures c.if-eq-2.false
