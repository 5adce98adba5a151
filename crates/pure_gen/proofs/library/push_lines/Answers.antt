use Rattle.std.proofs.Common.{◌*◌}
use Rattle.pure_gen.proofs.Lines.{lines-more, no-lines}
use Rattle.pure_gen.proofs.library.push_lines.Goals as goal

pub loop-i-init : goal.loop-i-init
loop-i-init c = (c.requires.drawn, λ start drawn. rw drawn (no-lines start c.args.lemmas (c.args.theory * c.args.lemmas) c.args.text.now.items))

pub loop-i-preserved : goal.loop-i-preserved
loop-i-preserved c = (
  c.next_number-last.ensures.low,
  λ start drawn. lines-more start c.args.lemmas (c.args.theory * c.args.lemmas) c.loop-i.i c.loop-i.last c.next_number-last.result c.args.text.now.items c.loop-i.text.items c.push_line.new.text.items
      (c.loop-i.invariant.1 start drawn) c.next_number-last.ensures.is c.in_ok-push_line.ensures,
)
