use Rattle.std.proofs.Common.{subst, refl}
use Rattle.pure_logic.specs.Content.{IsBelow}
use Rattle.pure_theory.specs.Certified.{Certified}
use Rattle.pure_theory.proofs.CertifiedLaws.{below_same}
use Rattle.pure_promise_rows.proofs.GroundLemmas.{one_proof}
use Rattle.pure_promise_rows.proofs.grounds.is_of_theory.Goals as goal

pub returns-in-Proved : goal.returns-in-Proved
returns-in-Proved c = λ holds s is. subst (λ (r : Certified). IsBelow r.content c.args.theory.now) (one_proof c.args.lemma.now.own c.in-Proved.proof s c.in-Proved.is is)
    (below_same c.theory_of.result.now c.in-Proved.proof.content c.args.theory.now c.args.theory.now c.theory_of.ensures refl (c.below.ensures.0 holds))
