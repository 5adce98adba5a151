-- The condition of a search for a unifier: which pairs it may be given.
use Rattle.std.specs.Prelude.{ℕ, ◌≤◌, List}
use Rattle.pure_text.specs.Lists.{Each}
use Rattle.pure_definitions.specs.Types.Typ.{Typ, TVar}
use Rattle.pure_definitions.specs.Terms.Term.{Term, Var}
use Rattle.pure_definitions.specs.Terms.Bounds.{Occurs}
use Rattle.pure_term_laws.specs.LawsOccurs.{TypOccurs}
use Rattle.pure_definitions.specs.Declarations.Decl.{algebra_of}
use Rattle.pure_equation_laws.specs.Equated.{IsPairEquated}
use Rattle.pure_unify_definitions.specs.Node.{Node}
use Rattle.pure_logic.specs.Content.{Content, IsContent, IsBelow}
use Rattle.pure_logic.specs.PureContent.{pure_content}
use Rattle.pure_logic.specs.Derivable.{Pair}
use Rattle.pure_unify_laws.specs.Reached.{IsReached, IsRespecting, AreSidesCertified, pair_after}
use Rattle.pure_tunify.specs.Closed.{AreClassesDeclared}

-- The indexes of the schematic type variables and of the schematic variables in the term are at most this number.
pub record HasIndexesUpTo (maxidx : ℕ) (t : Term) : Type 0 where
  pub typs : (x i : ℕ) (s : List ℕ) → TypOccurs (TVar x i s) t → i ≤ maxidx
  pub terms : (x i : ℕ) (T : Typ) → Occurs (Var x i T) t → i ≤ maxidx

-- The same of both sides of a pair.
abbrev pub AreIndexesUpTo : (maxidx : ℕ) → Pair → Type 0
AreIndexesUpTo maxidx p = HasIndexesUpTo maxidx p.left × HasIndexesUpTo maxidx p.right

-- A content over which terms are unified: above Pure's, and over declared classes alone.
pub record IsUnifyContent (Q : Content) : Type 0 where
  pub content : IsContent Q
  pub above : IsBelow pure_content Q
  pub declared : AreClassesDeclared Q.declarations

-- The sides of the pairs are certified, and the indexes in them are at most `maxidx`.
pub record AreUnifiable (Q : Content) (maxidx : ℕ) (ps : List Pair) : Type 0 where
  pub certified : Each (AreSidesCertified Q.declarations) ps
  pub indexes : Each (AreIndexesUpTo maxidx) ps

-- Over such a content all settings on the path to a success respect the content; and after them the sides of each given pair are equated modulo the flex-flex pairs.
abbrev pub AllSettingsRespect : Type 0
AllSettingsRespect = (Q : Content) → IsUnifyContent Q → (maxidx : ℕ) (ps : List Pair) → Each (AreSidesCertified Q.declarations) ps → (m : Node) → IsReached (algebra_of Q.declarations) maxidx ps m → Each (IsRespecting Q) m.path.settings

abbrev pub AllSettingsEquate : Type 0
AllSettingsEquate = (Q : Content) → IsUnifyContent Q → (maxidx : ℕ) (ps : List Pair) → Each (AreSidesCertified Q.declarations) ps → (m : Node) → IsReached (algebra_of Q.declarations) maxidx ps m
    → Each (λ p. IsPairEquated Q.declarations m.pairs (pair_after m.path.settings p)) ps
