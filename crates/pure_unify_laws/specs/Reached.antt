-- From which node a unifier comes, and what its settings do to the sides of the given pairs.
use Rattle.std.specs.Prelude.{◌≡◌, ℕ, List, [], ◌∷◌}
use Rattle.pure_text.specs.Lists.{IsIn, Each}
use Rattle.pure_definitions.specs.Types.Typ.{Typ}
use Rattle.pure_definitions.specs.Types.Order.{Algebra}
use Rattle.pure_definitions.specs.Terms.Term.{Term}
use Rattle.pure_definitions.specs.Terms.Subst.{term_image, retyped_variable}
use Rattle.pure_definitions.specs.Declarations.Decl.{Decl, algebra_of}
use Rattle.pure_logic.specs.Content.{Content, IsContent, IsBelow}
use Rattle.pure_logic.specs.PureContent.{pure_content}
use Rattle.pure_logic.specs.Concludes.{AreRespecting}
use Rattle.pure_logic.specs.Derivable.{Pair}
use Rattle.pure_tunify.specs.Unifiers.{IsSubstitution}
use Rattle.pure_tunify.specs.Settings.{composed}
use Rattle.pure_equation_laws.specs.Equated.{IsTypedUnder, IsPairEquated}
use Rattle.pure_unify_definitions.specs.Fronts.{pair}
use Rattle.pure_unify_definitions.specs.Node.{Setting, Typs, Single, Node, root, term_after}
use Rattle.pure_unify_definitions.specs.Simplification.{Simple, Visits}
use Rattle.pure_unify_definitions.specs.Children.{IsFlexFlex, IsChoice, children}
use Rattle.pure_unify_definitions.specs.Search.{Unifier, unifier_of, Unified, IsUnifyAnswer}

-- The second node is what the first, or a node below it, is simplified to.
pub data Leads (A : Algebra) (maxidx : ℕ) : Node → Node → Type 0 where
  at_once : {n m : Node} → Visits A maxidx n (Simple m) → Leads A maxidx n m
  by_child : {n k c m : Node} (f h : Term) → Visits A maxidx n (Simple k) → IsChoice k.pairs f h → IsIn c (children maxidx k f h) → Leads A maxidx c m → Leads A maxidx n m

-- The node is a success of the search for a unifier of the pairs.
pub record IsReached (A : Algebra) (maxidx : ℕ) (ps : List Pair) (m : Node) : Type 0 where
  pub leads : Leads A maxidx (root ps) m
  pub flexible : Each IsFlexFlex m.pairs

-- Each unifier is that of a success.
abbrev pub UnifierIsReached : Type 0
UnifierIsReached = (A : Algebra) (maxidx : ℕ) (ps : List Pair) (u : Unifier) → IsUnifyAnswer A maxidx ps (Unified u) → (m : Node) × IsReached A maxidx ps m × (u ≡ unifier_of m)

-- the maps that a setting is
abbrev pub setting_typs : Setting → Typ → Typ
setting_typs (Typs bs) = composed bs
setting_typs (Single b) = λ v. v

abbrev pub setting_terms : Setting → Term → Term
setting_terms (Typs bs) = retyped_variable (composed bs)
setting_terms (Single b) = term_image (b ∷ [])

-- The maps of the setting respect the content.
abbrev pub IsRespecting : Content → Setting → Type 0
IsRespecting Q s = AreRespecting Q (setting_typs s) (setting_terms s)

-- Where the setting is one of type variables, its maps respect the content; of the others nothing is said.
abbrev pub IsTypRespecting : Content → Setting → Type 0
IsTypRespecting Q (Typs bs) = IsRespecting Q (Typs bs)
IsTypRespecting Q (Single b) = Unit {0}

-- Where the setting is one of type variables, its map respects sorts and leaves the fixed type variables as they are.
abbrev pub RespectsSorts : Algebra → Setting → Type 0
RespectsSorts A (Typs bs) = IsSubstitution A (composed bs)
RespectsSorts A (Single b) = Unit {0}

-- So do the settings on the path to a success.
abbrev pub SettingsRespectSorts : Type 0
SettingsRespectSorts = (A : Algebra) (maxidx : ℕ) (ps : List Pair) (m : Node) → IsReached A maxidx ps m → Each (RespectsSorts A) m.path.settings

-- Both sides of the pair are certified, each of some type.
abbrev pub AreSidesCertified : List Decl → Pair → Type 0
AreSidesCertified ds p = ((T : Typ) × IsTypedUnder ds [] p.left T) × ((U : Typ) × IsTypedUnder ds [] p.right U)

-- the pair with settings put into its sides, one after the other
abbrev pub pair_after : List Setting → Pair → Pair
pair_after ss p = pair (term_after ss p.left) (term_after ss p.right)

-- Over a content above Pure's, the settings on the path to a success respect the content where those of type variables do: the image of each schematic variable is certified and has the variable's type.
abbrev pub SettingsRespect : Type 0
SettingsRespect = (Q : Content) → IsContent Q → IsBelow pure_content Q → (maxidx : ℕ) (ps : List Pair) → Each (AreSidesCertified Q.declarations) ps
    → (m : Node) → IsReached (algebra_of Q.declarations) maxidx ps m → Each (IsTypRespecting Q) m.path.settings → Each (IsRespecting Q) m.path.settings

-- Then, after these settings, one after the other, the sides of each given pair are equated modulo the flex-flex pairs.
abbrev pub SettingsEquate : Type 0
SettingsEquate = (Q : Content) → IsContent Q → IsBelow pure_content Q → (maxidx : ℕ) (ps : List Pair) → Each (AreSidesCertified Q.declarations) ps
    → (m : Node) → IsReached (algebra_of Q.declarations) maxidx ps m → Each (IsTypRespecting Q) m.path.settings → Each (λ p. IsPairEquated Q.declarations m.pairs (pair_after m.path.settings p)) ps
