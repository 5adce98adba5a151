use Rattle.pure_shared_maps.proofs.FindLaws.{last_less}
use Rattle.pure_shared_maps.proofs.entries.are_less.Goals as goal

pub returns-in-Some : goal.returns-in-Some
returns-in-Some g c t = last_less c.args.entries.now c.in-Some.last.now c.args.key c.requires c.in-Some.ensures.value t
