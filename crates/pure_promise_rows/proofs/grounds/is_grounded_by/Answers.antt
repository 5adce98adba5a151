use Rattle.std.proofs.Common.{subst}
use Rattle.pure_theory.specs.Certified.{Certified}
use Rattle.pure_promise_rows.specs.Grounds.{IsStatedIn, IsOfTheory}
use Rattle.pure_promise_rows.proofs.GroundLemmas.{one_proof}
use Rattle.pure_promise_rows.proofs.grounds.is_grounded_by.Goals as goal

pub returns-then-is_stated_in : goal.returns-then-is_stated_in
returns-then-is_stated_in c = λ holds r is. subst (λ (s : Certified). IsStatedIn s.content c.args.other.now × IsOfTheory s.content c.args.other.now) (one_proof c.args.lemma.now.own c.in-Proved.proof r c.in-Proved.is is)
    (rw c.theory_of-theory.ensures at (c.is_stated_in.ensures c.if-is_stated_in.true), rw c.theory_of-theory.ensures at (c.is_of_theory.ensures holds))
