use Rattle.std.proofs.Common.{◌∙◌, sym, ap, subst}
use Rattle.pure_kernel.specs.Definitions.Declarations.Certified.{IsCertified}
use Rattle.pure_kernel.specs.Logic.Derivable.{Theorem}
use Rattle.pure_tauto.proofs.ProverLaws.{premise-certified, derivable-at}
use Rattle.pure_tauto.proofs.steps.premise_at.Goals as goal

pub returns : goal.returns
returns c = λ Q q h.
    subst (IsCertified Q.declarations) c.in-Some-as_implication.ensures
    (premise-certified Q q c.index-known-place.result (derivable-at Q c.args.known.now c.args.place c.index-known-place.result c.requires c.index-known-place.is h) c.in-Some.premise.now _ (sym (ap (λ (t : Theorem). t.prop) c.th.view_is) ∙ c.in-Some.ensures))
