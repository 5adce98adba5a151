-- What a table of declarations tells of terms.
use Rattle.std.proofs.Common.{◌≡◌, ◌≢◌, ◌↔◌, Bool, IsTrue, List, subst}
use Rattle.pure_definitions.specs.Types.Typ.{Typ}
use Rattle.pure_definitions.specs.Terms.Term.{Term}
use Rattle.pure_definitions.specs.Declarations.Decl.{Decl}
use Rattle.pure_certify.specs.Answer.{IsTermFault}
use Rattle.pure_certify.specs.declared.fault.CertFault.{CertFault}
use Rattle.pure_certify.specs.declared.fault.CertFault.TheVariants.{Memory}
use Rattle.pure_certify.proofs.TermLemmas.{faulty-not_certified}
use Rattle.pure_logic.specs.Content.{Content, IsCertifiedOf}
use Rattle.pure_logic.proofs.ConclusionLaws.{one_type}
use Rattle.pure_replay.specs.Step.{plain_content}

pub uncertified : (ds : List Decl) (t : Term) (fault : CertFault) → IsTermFault ds t fault → fault ≢ Memory → (T : Typ) → ¬ IsCertifiedOf (plain_content ds) t T
uncertified ds t fault f n T h = faulty-not_certified ds t fault f n h.certified

pub same_typ : (Q : Content) (t : Term) (own T : Typ) (b : Bool) → IsCertifiedOf Q t own → (IsTrue b ↔ (own ≡ T)) → IsTrue b ↔ IsCertifiedOf Q t T
same_typ Q t own T b h test = (λ y. subst (IsCertifiedOf Q t) (test.0 y) h, λ k. test.1 (one_type Q t own T h k))
