-- With what a theory begins: the merge of its parents' contents, its own name and index, and its ancestors.
use Rattle.std.specs.Prelude.{◌≡◌, ◌≢◌, ◌⊎◌, ◌<◌, Bool, ◌&&◌, nat_eq, if◌then◌else◌, List, [], ◌∷◌, ◌++◌, Some}
use Rattle.std.specs.Option.{option_to_list}
use Rattle.std.specs.List.{flat_map}
use Rattle.pure_text.specs.Lists.{IsIn, Each}
use Rattle.pure_definitions.specs.Types.Order.{IsCoregular}
use Rattle.pure_definitions.specs.Declarations.Decl.{Decl, algebra_of}
use Rattle.pure_logic.specs.Content.{TheoryId, Content}

-- A list is added to another without repeats: of its declarations, in order, each that isn't there yet is put at the end.
abbrev pub IsAdded : (before added after : List Decl) → Type 0
IsAdded before [] after = after ≡ before
IsAdded before (d ∷ ds) after = (IsIn d before × IsAdded before ds after) ⊎ ((¬ IsIn d before) × IsAdded (before ++ d ∷ []) ds after)

-- The parents' lists are added one after the other, in order, and the list after each of them is coregular.
abbrev pub IsMergeAfter : (before : List Decl) → (parents : List Content) → (merged : List Decl) → Type 0
IsMergeAfter before [] merged = merged ≡ before
IsMergeAfter before (Q ∷ Qs) merged = (after : List Decl) × IsAdded before Q.declarations after × IsCoregular (algebra_of after) × IsMergeAfter after Qs merged

-- The list is the merge of the parents: with it a theory begins.
abbrev pub IsMerge : (parents : List Content) → (merged : List Decl) → Type 0
IsMerge parents merged = IsMergeAfter [] parents merged

-- whether two theories have one name and one index
abbrev pub theory_eq : TheoryId → TheoryId → Bool
theory_eq t u = nat_eq t.name u.name && nat_eq t.index u.index

-- the theories without one of them, at each place where it stands
abbrev pub without_theory : TheoryId → List TheoryId → List TheoryId
without_theory t [] = []
without_theory t (u ∷ us) = if theory_eq t u then without_theory t us else u ∷ without_theory t us

-- the theories in order without repeats: of each its first occurrence stays
abbrev pub each_once : List TheoryId → List TheoryId
each_once [] = []
each_once (t ∷ ts) = t ∷ without_theory t (each_once ts)

-- the theories that a content names: its ancestors, then its own, if it has one
abbrev pub theories_of : Content → List TheoryId
theories_of Q = Q.ancestors ++ option_to_list Q.own

-- the ancestors of a theory with these parents: each parent's ancestors and then the parent itself, in order, without repeats
abbrev pub ancestors_of : (parents : List Content) → List TheoryId
ancestors_of parents = each_once (flat_map theories_of parents)

-- The content with which a theory begins, over the contents of its parents, of which there is one at least: their merge, the theory itself, and its ancestors.
pub record IsBeginning (theory : TheoryId) (parents : List Content) (Q : Content) : Type 0 where
  pub some_parent : ¬ (parents ≡ [])
  pub merge : IsMerge parents Q.declarations
  pub own : Q.own ≡ Some theory
  pub ancestors : Q.ancestors ≡ ancestors_of parents

-- The theories are told apart by their names, and by their indexes: two that agree in one agree in both.
pub record AreToldApart (theories : List TheoryId) : Type 0 where
  pub by_name : (t u : TheoryId) → IsIn t theories → IsIn u theories → t.name ≡ u.name → t ≡ u
  pub by_index : (t u : TheoryId) → IsIn t theories → IsIn u theories → t.index ≡ u.index → t ≡ u

-- The theory is new over these: it comes after each of them in load order, and has another name.
pub record IsNewOver (theory : TheoryId) (theories : List TheoryId) : Type 0 where
  pub index : Each (λ t. t.index < theory.index) theories
  pub name : Each (λ t. t.name ≢ theory.name) theories

-- What the own theory and the ancestors of a content agree on, so that look-ups may go by name or by index: its ancestors are told apart, and its own theory is new over them.
-- It is no part of being a content: it is asked of a theory that begins, of its name and index and its parents' theories.
pub record HasTheoriesApart (Q : Content) : Type 0 where
  pub ancestors : AreToldApart Q.ancestors
  pub own : (theory : TheoryId) → Q.own ≡ Some theory → IsNewOver theory Q.ancestors
