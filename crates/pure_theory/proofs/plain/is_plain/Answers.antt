use Rattle.pure_text.proofs.AnswerLaws.{test_fails, yes_as, no_as}
use Rattle.pure_theory.proofs.PlainLaws.{is_pure, not_pure}
use Rattle.pure_theory.proofs.plain.is_plain.Goals as goal

pub returns-then-has_dot : goal.returns-then-has_dot
returns-then-has_dot c = no_as _ (λ p. p.0 (c.has_dot.ensures.0 c.if-has_dot.true))

pub returns-then-are_same_texts : goal.returns-then-are_same_texts
returns-then-are_same_texts c = no_as _ (λ p. p.1 (is_pure c.args.text.now (c.are_same_texts.ensures.0 c.if-are_same_texts.true)))

pub returns : goal.returns
returns c = yes_as _ (test_fails _ c.has_dot.result c.has_dot.ensures c.if-has_dot.false, not_pure c.args.text.now (test_fails _ c.are_same_texts.result c.are_same_texts.ensures c.if-are_same_texts.false))
