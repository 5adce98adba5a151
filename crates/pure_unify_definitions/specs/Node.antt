-- Nodes of the search: pairs, and what was set on the path from the root.
use Rattle.std.specs.Prelude.{ℕ, List, [], ◌∷◌, ◌++◌, map}
use Rattle.pure_definitions.specs.Types.Typ.{Typ}
use Rattle.pure_definitions.specs.Terms.Term.{Term, Var}
use Rattle.pure_definitions.specs.Terms.Subst.{TypBind, TermBind, term_variable, term_image, typ_instance, inst_typ, inst_term}
use Rattle.pure_logic.specs.Derivable.{Pair}
use Rattle.pure_tunify.specs.Settings.{composed}
use Rattle.pure_unify_definitions.specs.Fronts.{pair, variables, pair_variables}

-- A setting: type variables, set one after the other by one unification of types, or one schematic variable.
pub data Setting : Type 0 where
  Typs : (binds : List TypBind) → Setting
  Single : (bind : TermBind) → Setting

-- the path from the root to a node: its settings in order, how many choices were made, and the first name of a fresh type variable that isn't used
pub record Path : Type 0 where
  pub settings : List Setting
  pub choices : ℕ
  pub fresh : ℕ

pub record Node : Type 0 where
  pub pairs : List Pair
  pub path : Path

-- the root
abbrev pub root : List Pair → Node
root ps = record { pairs = ps; path = record { settings = []; choices = 0; fresh = 0 } }

-- an entry that sets a variable
abbrev pub bind : (name index : ℕ) → Typ → (image : Term) → TermBind
bind x i T u = record { name = x; index = i; typ = T; image = u }

-- the term with a setting put in, not reduced
abbrev pub with_setting : Setting → Term → Term
with_setting (Typs bs) t = inst_typ (composed bs) t
with_setting (Single b) t = inst_term (term_image (b ∷ [])) t

-- the pairs with a setting put into each side
abbrev pub with_setting_put : Setting → List Pair → List Pair
with_setting_put s ps = map (λ p. pair (with_setting s p.left) (with_setting s p.right)) ps

-- the path with one setting more
abbrev pub further : Path → Setting → Path
further path s = record path { settings = path.settings ++ s ∷ [] }

-- the type variables that the settings set, in order, each with its image as it was set
abbrev pub typ_settings : List Setting → List TypBind
typ_settings [] = []
typ_settings (Typs bs ∷ ss) = bs ++ typ_settings ss
typ_settings (Single b ∷ ss) = typ_settings ss

-- the type that comes of a type under all settings
abbrev pub typ_after : List Setting → Typ → Typ
typ_after ss T = typ_instance (composed (typ_settings ss)) T

-- the term that comes of a term under all settings, one after the other
abbrev pub term_after : List Setting → Term → Term
term_after [] t = t
term_after (s ∷ ss) t = term_after ss (with_setting s t)

-- the type variables that were set, in order, each with its image under all later settings
abbrev pub written_typs : List TypBind → List TypBind
written_typs [] = []
written_typs (b ∷ bs) = record b { image = typ_instance (composed bs) b.image } ∷ written_typs bs

-- the schematic variables that were set, in order, each with its type and its image under all later settings; nothing is reduced
abbrev pub resolved : List Setting → List TermBind
resolved [] = []
resolved (Typs bs ∷ ss) = resolved ss
resolved (Single b ∷ ss) = bind b.name b.index (typ_after ss b.typ) (term_after ss b.image) ∷ resolved ss

-- the schematic variables of entries: those that are set, and those of the images
abbrev pub entry_variables : List TermBind → List Term
entry_variables [] = []
entry_variables (b ∷ bs) = term_variable b ∷ (variables b.image ++ entry_variables bs)

-- the schematic variables of a node: those of its pairs and of the substitution so far
abbrev pub node_variables : Node → List Term
node_variables n = pair_variables n.pairs ++ entry_variables (resolved n.path.settings)
