use Rattle.pure_text.proofs.TextListLaws.{begins-behind, begins-first}
use Rattle.pure_text.proofs.text_list.beginning_at.Goals as goal

pub returns-then-place-eq0 : goal.returns-then-place-eq0
returns-then-place-eq0 c = begins-first 0 c.args.ends.now c.args.place c.if-place-eq0.true

pub returns-else-place-eq0 : goal.returns-else-place-eq0
returns-else-place-eq0 c = begins-behind 0 c.args.ends.now c.args.place 0 c.if-place-eq0.false c.requires
