use Rattle.pure_text.proofs.AnswerLaws.{yes_as}
use Rattle.pure_certify.proofs.ConstLemmas.{no_classes}
use Rattle.pure_certify.proofs.constant.is_of_sort.Goals as goal

pub returns-then-wanted-eq0 : goal.returns-then-wanted-eq0
returns-then-wanted-eq0 c = yes_as _ (no_classes c.args.order.now c.args.typ.now c.args.sort.now c.classes-wanted.result.now c.classes-wanted.ensures.are c.if-wanted-eq0.true)
