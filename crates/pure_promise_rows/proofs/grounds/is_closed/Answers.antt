use Rattle.std.proofs.Common.{subst}
use Rattle.pure_theory.specs.Certified.{Certified}
use Rattle.pure_promise_rows.specs.Grounds.{IsAlone}
use Rattle.pure_promise_rows.proofs.GroundLemmas.{one_proof}
use Rattle.pure_promise_rows.proofs.grounds.is_closed.Goals as goal

pub returns-in-Proved : goal.returns-in-Proved
returns-in-Proved c = λ holds r is. subst (λ (s : Certified). IsAlone s.theorem c.args.lemma.now.prop.value) (one_proof c.args.lemma.now.own c.in-Proved.proof r c.in-Proved.is is) (rw (c.thm.ensures, c.deref.ensures) at (c.is_alone.ensures holds))
