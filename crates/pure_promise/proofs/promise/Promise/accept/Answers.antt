use Rattle.pure_text.proofs.AnswerLaws.{test_fails}
use Rattle.pure_method.proofs.Theory.CertifiedLaws.{below_same}
use Rattle.pure_promise.proofs.promise.Promise.accept.Goals as goal

pub returns-then-not-is_of_prop : goal.returns-then-not-is_of_prop
returns-then-not-is_of_prop c = (
  below_same c.theory_of-theory.result.now _ _ _ c.theory_of-theory.ensures c.deref-own.ensures c.in_default.ensures,
  rw c.thm-theorem.ensures at (test_fails _ c.is_of_prop.result c.is_of_prop.ensures c.if-not-is_of_prop.true),
)

pub returns-then-not-is_without_hyps : goal.returns-then-not-is_without_hyps
returns-then-not-is_without_hyps c = (
  (below_same c.theory_of-theory.result.now _ _ _ c.theory_of-theory.ensures c.deref-own.ensures c.in_default.ensures, rw c.thm-theorem.ensures at (c.is_of_prop.ensures.0 c.if-not-is_of_prop.false)),
  rw c.thm-theorem.ensures at (test_fails _ c.is_without_hyps.result c.is_without_hyps.ensures c.if-not-is_without_hyps.true),
)

pub returns-then-not-is_without_pairs : goal.returns-then-not-is_without_pairs
returns-then-not-is_without_pairs c = (
  ((below_same c.theory_of-theory.result.now _ _ _ c.theory_of-theory.ensures c.deref-own.ensures c.in_default.ensures, rw c.thm-theorem.ensures at (c.is_of_prop.ensures.0 c.if-not-is_of_prop.false)), rw c.thm-theorem.ensures at (c.is_without_hyps.ensures.0 c.if-not-is_without_hyps.false)),
  rw c.thm-theorem.ensures at (test_fails _ c.is_without_pairs.result c.is_without_pairs.ensures c.if-not-is_without_pairs.true),
)

pub returns-in-Some-first_dependency : goal.returns-in-Some-first_dependency
returns-in-Some-first_dependency c = (
  (((below_same c.theory_of-theory.result.now _ _ _ c.theory_of-theory.ensures c.deref-own.ensures c.in_default.ensures, rw c.thm-theorem.ensures at (c.is_of_prop.ensures.0 c.if-not-is_of_prop.false)), rw c.thm-theorem.ensures at (c.is_without_hyps.ensures.0 c.if-not-is_without_hyps.false)), rw c.thm-theorem.ensures at (c.is_without_pairs.ensures.0 c.if-not-is_without_pairs.false)),
  rw c.thm-theorem.ensures at c.in-Some-first_dependency.ensures,
)

pub returns-in-None : goal.returns-in-None
returns-in-None c = (
  (((below_same c.theory_of-theory.result.now _ _ _ c.theory_of-theory.ensures c.deref-own.ensures c.in_default.ensures, rw c.thm-theorem.ensures at (c.is_of_prop.ensures.0 c.if-not-is_of_prop.false)), rw c.thm-theorem.ensures at (c.is_without_hyps.ensures.0 c.if-not-is_without_hyps.false)), rw c.thm-theorem.ensures at (c.is_without_pairs.ensures.0 c.if-not-is_without_pairs.false)),
  rw c.thm-theorem.ensures at c.in-None.ensures,
)
