use Rattle.std.proofs.Common.{sym}
use Rattle.pure_pattern.proofs.GivenLaws.{none-above_pairs}
use Rattle.pure_pattern.proofs.given.is_given.Goals as goal

pub returns-then-maxidx-index : goal.returns-then-maxidx-index
returns-then-maxidx-index c = rw (← c.bind.view_is) (sym (none-above_pairs c.args.maxidx c.bind.inside.name c.bind.inside.index c.bind.inside.typ c.if-maxidx-index.true c.args.pairs.now c.requires))
