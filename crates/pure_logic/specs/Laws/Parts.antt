-- Laws of respecting maps: what is certified stays certified, and maps one after the other respect a content again.
use Rattle.pure_definitions.specs.Types.Typ.{Typ}
use Rattle.pure_definitions.specs.Terms.Term.{Term}
use Rattle.pure_definitions.specs.Terms.Subst.{typ_instance, term_instance}
use Rattle.pure_definitions.specs.Declarations.Certified.{HasCertifiedParts}
use Rattle.pure_logic.specs.Content.{Content, IsContent, IsCertifiedOf}
use Rattle.pure_logic.specs.Concludes.{AreRespecting}

-- Certified parts are kept by the respecting maps of a content.
abbrev pub PartsOfInstance : Type 0
PartsOfInstance = (Q : Content) → IsContent Q → (typs : Typ → Typ) (terms : Term → Term) → AreRespecting Q typs terms → (t : Term)
    → HasCertifiedParts Q.declarations t → HasCertifiedParts Q.declarations (term_instance typs terms t)

-- So the instance of a certified term is certified, of the instance of its type.
abbrev pub InstanceIsCertified : Type 0
InstanceIsCertified = (Q : Content) → IsContent Q → (typs : Typ → Typ) (terms : Term → Term) → AreRespecting Q typs terms → (t : Term) (T : Typ)
    → IsCertifiedOf Q t T → IsCertifiedOf Q (term_instance typs terms t) (typ_instance typs T)

-- Respecting maps one after the other, read as one, are respecting.
abbrev pub ComposedMapsRespect : Type 0
ComposedMapsRespect = (Q : Content) → IsContent Q → (typs more_typs : Typ → Typ) (terms more_terms : Term → Term) → AreRespecting Q typs terms → AreRespecting Q more_typs more_terms
    → AreRespecting Q (λ v. typ_instance more_typs (typs v)) (λ v. term_instance more_typs more_terms (terms v))
