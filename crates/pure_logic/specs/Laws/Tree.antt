-- Laws of derivation trees.
use Rattle.std.specs.Prelude.{◌≡◌, List}
use Rattle.pure_text.specs.Lists.{Each}
use Rattle.pure_definitions.specs.Terms.Term.{Term}
use Rattle.pure_definitions.specs.Terms.Subst.{TypBind, TermBind, typ_image, term_image, term_instance, inst_typ, inst_term, AreSortRespecting}
use Rattle.pure_definitions.specs.Declarations.Decl.{algebra_of}
use Rattle.pure_definitions.specs.Declarations.Certified.{IsCertifiedTyp}
use Rattle.pure_logic.specs.Content.{Content, IsContent, IsBelow, IsCertifiedOf}
use Rattle.pure_logic.specs.Tree.{Tree, hyps_of, rests_of, joined_terms}
use Rattle.pure_logic.specs.Concludes.{AreRespecting, Concludes}
use Rattle.pure_logic.specs.Derivable.{Pair, Theorem, IsUnderPairs, IsDerivable}

-- A tree concludes one proposition at most.
abbrev pub OneConclusion : Type 0
OneConclusion = (Q : Content) → IsContent Q → (d : Tree) (A B : Term) → Concludes Q d A → Concludes Q d B → A ≡ B

-- A proposition stands under pairs in one way at most.
abbrev pub OneUnderPairs : Type 0
OneUnderPairs = (pairs : List Pair) (A q r : Term) → IsUnderPairs pairs A q → IsUnderPairs pairs A r → q ≡ r

-- What a tree over Q concludes, a tree over each content above Q concludes, with the same hypotheses and resting on the same promises.
-- It is the same tree but for the maps of its axioms and promises, which are read at the variables of Q alone: the content above may have sorts and types at which their images aren't certified.
abbrev pub WeakeningOfTrees : Type 0
WeakeningOfTrees = (Q R : Content) → IsContent Q → IsBelow Q R → (d : Tree) (A : Term) → Concludes Q d A
    → (e : Tree) × Concludes R e A × (hyps_of e ≡ hyps_of d) × (rests_of e ≡ rests_of d)

-- What is derivable over Q is derivable over each content above it.
abbrev pub WeakeningOfDerivable : Type 0
WeakeningOfDerivable = (Q R : Content) → IsContent Q → IsBelow Q R → (th : Theorem) → IsDerivable Q th → IsDerivable R th

-- The identity maps respect each content.
abbrev pub IdentityRespects : Type 0
IdentityRespects = (Q : Content) → AreRespecting Q (λ T. T) (λ t. t)

-- Finite maps whose images are of their variables' sorts and types, and certified, respect the content when they are joined; and the instance by the joined maps is that by the type map and then by the term map.
abbrev pub JoinedMapsRespect : Type 0
JoinedMapsRespect = (Q : Content) (typs : List TypBind) (terms : List TermBind) → AreSortRespecting (algebra_of Q.declarations) typs → Each (λ b. IsCertifiedTyp Q.declarations b.image) typs
    → Each (λ b. IsCertifiedOf Q b.image b.typ) terms → AreRespecting Q (typ_image typs) (joined_terms typs terms)

abbrev pub JoinedInstance : Type 0
JoinedInstance = (typs : List TypBind) (terms : List TermBind) (t : Term)
    → term_instance (typ_image typs) (joined_terms typs terms) t ≡ inst_term (term_image terms) (inst_typ (typ_image typs) t)
