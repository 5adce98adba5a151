-- A unifier as maps, and what it is for given pairs.
use Rattle.std.specs.Prelude.{◌≡◌, List, map}
use Rattle.pure_text.specs.Lists.{Each}
use Rattle.pure_definitions.specs.Types.Typ.{Typ}
use Rattle.pure_definitions.specs.Terms.Term.{Term}
use Rattle.pure_definitions.specs.Terms.Subst.{typ_image, term_image, retyped_variable, term_instance, IsTypMap, IsTermMap, AreSortRespecting, AreTypeRespecting}
use Rattle.pure_definitions.specs.Reduction.Eta.{IsLongForm}
use Rattle.pure_definitions.specs.Declarations.Decl.{algebra_of}
use Rattle.pure_logic.specs.Content.{Content}
use Rattle.pure_logic.specs.Concludes.{AreRespecting}
use Rattle.pure_logic.specs.Derivable.{Pair}
use Rattle.pure_logic.specs.Laws.Substitution.{pair_instance}
use Rattle.pure_equation_laws.specs.Equated.{IsPairEquated}
use Rattle.pure_equation_laws.specs.Laws.Proved.{IsCertifiedPair}
use Rattle.pure_unify_definitions.specs.Children.{IsFlexFlex}
use Rattle.pure_unify_definitions.specs.Search.{Unifier}

-- the type map of a unifier, and its term map: a variable is looked up with its type under the type map, and where it isn't found it has that type
abbrev pub unifier_typs : Unifier → Typ → Typ
unifier_typs u = typ_image u.typs

abbrev pub unifier_terms : Unifier → Term → Term
unifier_terms u v = term_image u.terms (retyped_variable (unifier_typs u) v)

-- The pair is one that a unifier may leave: its sides are certified, of one type, in long form and flexible.
pub record IsLeftPair (Q : Content) (p : Pair) : Type 0 where
  pub certified : IsCertifiedPair Q p
  pub left_long : IsLongForm p.left p.left
  pub right_long : IsLongForm p.right p.right
  pub flexible : IsFlexFlex p

-- The unifier solves the pairs: its maps respect the content, and under them the sides of each pair are equated modulo the flex-flex pairs.
pub record Solves (Q : Content) (ps : List Pair) (u : Unifier) : Type 0 where
  pub respecting : AreRespecting Q (unifier_typs u) (unifier_terms u)
  pub flexflex : Each (IsLeftPair Q) u.flexflex
  pub equated : Each (IsPairEquated Q.declarations u.flexflex) (map (pair_instance (unifier_typs u) (unifier_terms u)) ps)

-- The unifier is two finite maps: no variable has two entries, each image of a type variable is of its sort, each image of a variable has its type, and the maps applied again change nothing.
pub record IsFiniteUnifier (Q : Content) (u : Unifier) : Type 0 where
  pub typs : IsTypMap u.typs
  pub terms : IsTermMap u.terms
  pub sorts : AreSortRespecting (algebra_of Q.declarations) u.typs
  pub types : AreTypeRespecting u.terms
  pub again : (t : Term) → term_instance (unifier_typs u) (unifier_terms u) (term_instance (unifier_typs u) (unifier_terms u) t) ≡ term_instance (unifier_typs u) (unifier_terms u) t
