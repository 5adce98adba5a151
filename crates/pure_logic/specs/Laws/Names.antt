-- Laws of the names of connectives: over a content above Pure's the name tells the constant, so that a test of names is enough. And of respecting maps: what they keep.
use Rattle.std.specs.Prelude.{◌≡◌, List}
use Rattle.pure_definitions.specs.Names.{all_name, imp_name, eq_name, protect_name}
use Rattle.pure_definitions.specs.Types.Typ.{Typ}
use Rattle.pure_definitions.specs.Terms.Term.{Term}
use Rattle.pure_definitions.specs.Terms.Subst.{TypBind, TermBind, typ_image, KeepsFixedTerms}
use Rattle.pure_definitions.specs.Declarations.Certified.{IsCertifiedConst}
use Rattle.pure_term_laws.specs.LawsMaps.{AreImagesClosed}
use Rattle.pure_logic.specs.Connectives.{all_typ, imp_typ, eq_typ, protect_typ}
use Rattle.pure_logic.specs.Content.{Content, IsContent, IsBelow}
use Rattle.pure_logic.specs.PureContent.{pure_content}
use Rattle.pure_logic.specs.Tree.{joined_terms}
use Rattle.pure_logic.specs.Concludes.{AreRespecting}

-- A certified constant with the name of implication, or of the mark of a goal, has its type; and one with the name of quantification, or of equality, has its type at some type.
abbrev pub ImplicationByName : Type 0
ImplicationByName = (Q : Content) → IsContent Q → IsBelow pure_content Q → (T : Typ) → IsCertifiedConst Q.declarations imp_name T → T ≡ imp_typ

abbrev pub MarkByName : Type 0
MarkByName = (Q : Content) → IsContent Q → IsBelow pure_content Q → (T : Typ) → IsCertifiedConst Q.declarations protect_name T → T ≡ protect_typ

abbrev pub QuantificationByName : Type 0
QuantificationByName = (Q : Content) → IsContent Q → IsBelow pure_content Q → (T : Typ) → IsCertifiedConst Q.declarations all_name T → (U : Typ) × (T ≡ all_typ U)

abbrev pub EqualityByName : Type 0
EqualityByName = (Q : Content) → IsContent Q → IsBelow pure_content Q → (T : Typ) → IsCertifiedConst Q.declarations eq_name T → (U : Typ) × (T ≡ eq_typ U)

-- Respecting maps have images without loose bound variables.
abbrev pub RespectingImagesAreClosed : Type 0
RespectingImagesAreClosed = (Q : Content) (typs : Typ → Typ) (terms : Term → Term) → AreRespecting Q typs terms → AreImagesClosed terms

-- The joined finite maps of a call leave fixed variables as they are, but for their types.
abbrev pub JoinedMapsKeepFixed : Type 0
JoinedMapsKeepFixed = (typs : List TypBind) (terms : List TermBind) → KeepsFixedTerms (typ_image typs) (joined_terms typs terms)
