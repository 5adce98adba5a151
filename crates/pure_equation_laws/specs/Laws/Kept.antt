-- Laws of stability: what keeps terms equated.
use Rattle.std.specs.Prelude.{◌≡◌, ℕ, List, ◌∷◌, ◌++◌, length, map}
use Rattle.pure_text.specs.Lists.{Each}
use Rattle.pure_definitions.specs.Types.Typ.{Typ}
use Rattle.pure_definitions.specs.Terms.Term.{Term}
use Rattle.pure_definitions.specs.Terms.Bounds.{lift_term, subst_under}
use Rattle.pure_definitions.specs.Terms.Subst.{typ_instance, term_instance}
use Rattle.pure_definitions.specs.Declarations.Decl.{Decl}
use Rattle.pure_definitions.specs.Declarations.Certified.{IsCertifiedTyp}
use Rattle.pure_logic.specs.Content.{Content, IsContent}
use Rattle.pure_logic.specs.Concludes.{AreRespecting}
use Rattle.pure_logic.specs.Derivable.{Pair}
use Rattle.pure_logic.specs.Laws.Substitution.{pair_instance}
use Rattle.pure_equation_laws.specs.Equated.{AreEquated, IsPairEquated}

-- Lifting over further binders, with the term's own within them.
abbrev pub EquatedOfLift : Type 0
EquatedOfLift = (ds : List Decl) (pairs : List Pair) (bs es cs : List Typ) (n by : ℕ) (T : Typ) (t u : Term) → n ≡ length bs → by ≡ length es
    → AreEquated ds pairs (bs ++ cs) T t u → AreEquated ds pairs (bs ++ (es ++ cs)) T (lift_term by n t) (lift_term by n u)

-- A wider scope: further binders around the binders that there are leave the terms as they are.
abbrev pub EquatedInScope : Type 0
EquatedInScope = (ds : List Decl) (pairs : List Pair) (bs cs : List Typ) (T : Typ) (t u : Term) → AreEquated ds pairs bs T t u → AreEquated ds pairs (bs ++ cs) T t u

-- Instantiation of a bound variable with equated terms, under further binders of the term's own.
abbrev pub EquatedOfSubst : Type 0
EquatedOfSubst = (ds : List Decl) (pairs : List Pair) (bs cs : List Typ) (n : ℕ) (V T : Typ) (b c a d : Term) → n ≡ length bs → Each (IsCertifiedTyp ds) bs → IsCertifiedTyp ds V
    → AreEquated ds pairs (bs ++ V ∷ cs) T b c → AreEquated ds pairs cs V a d → AreEquated ds pairs (bs ++ cs) T (subst_under n a b) (subst_under n d c)

-- Respecting maps of a content, which map the pairs and the types of the binders too.
abbrev pub EquatedOfInstance : Type 0
EquatedOfInstance = (Q : Content) → IsContent Q → (typs : Typ → Typ) (terms : Term → Term) → AreRespecting Q typs terms → (pairs : List Pair) (bs : List Typ) (T : Typ) (t u : Term)
    → AreEquated Q.declarations pairs bs T t u
    → AreEquated Q.declarations (map (pair_instance typs terms) pairs) (map (typ_instance typs) bs) (typ_instance typs T) (term_instance typs terms t) (term_instance typs terms u)

-- Other pairs, modulo which the sides of each of these are equated.
abbrev pub EquatedModuloOthers : Type 0
EquatedModuloOthers = (ds : List Decl) (pairs others : List Pair) → Each (IsPairEquated ds others) pairs → (bs : List Typ) (T : Typ) (t u : Term)
    → AreEquated ds pairs bs T t u → AreEquated ds others bs T t u
