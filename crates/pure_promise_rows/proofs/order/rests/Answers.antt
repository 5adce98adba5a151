use Rattle.std.proofs.Common.{◌∙◌, ap, sym}
use Rattle.pure_logic.specs.Derivable.{Theorem}
use Rattle.pure_theory.specs.Certified.{Certified}
use Rattle.pure_promise_rows.proofs.GroundLemmas.{one_proof}
use Rattle.pure_promise_rows.proofs.order.rests.Goals as goal

pub returns-in-Proved : goal.returns-in-Proved
returns-in-Proved c = λ r is.
    ap (λ (s : Certified). s.theorem.rests) (one_proof c.args.lemma.now.own r c.in-Proved.proof is c.in-Proved.is)
    ∙ ap (λ (t : Theorem). t.rests) (sym c.thm.ensures) ∙ ap (λ (t : Theorem). t.rests) (sym c.behind-proof.view_is) ∙ sym c.as_slice.ensures.value
