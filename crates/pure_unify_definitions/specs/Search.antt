-- The search for a unifier of pairs: the nodes of the tree in preorder.
use Rattle.std.specs.Prelude.{◌≡◌, ◌≢◌, ℕ, ◌+◌, ◌<◌, List, [], ◌∷◌, ◌++◌, Bool, true, false}
use Rattle.pure_text.specs.Lists.{Each}
use Rattle.pure_definitions.specs.Types.Order.{Algebra}
use Rattle.pure_definitions.specs.Terms.Term.{Term, IsWithin}
use Rattle.pure_definitions.specs.Terms.Limits.{IsWithinTyp}
use Rattle.pure_definitions.specs.Terms.Subst.{TypBind, TermBind}
use Rattle.pure_logic.specs.Derivable.{Pair}
use Rattle.pure_unify_definitions.specs.Node.{Setting, Node, root, typ_settings, written_typs, resolved}
use Rattle.pure_unify_definitions.specs.LongSides.{Stop, Big}
use Rattle.pure_unify_definitions.specs.Simplification.{Simple, Failed, Halted, Visits}
use Rattle.pure_unify_definitions.specs.Children.{IsFlexFlex, IsChoice, children}

-- how many choices a path may make, and how many nodes are visited
abbrev pub max_choices : ℕ
max_choices = 64

abbrev pub max_nodes : ℕ
max_nodes = 10000

-- a unifier: what type variables and schematic variables become, and the pairs that are left, whose sides are flexible
pub record Unifier : Type 0 where
  pub typs : List TypBind
  pub terms : List TermBind
  pub flexflex : List Pair

-- The images of types and of terms are within the limits.
pub record AreImagesWithin (u : Unifier) : Type 0 where
  pub typs : Each (λ b. IsWithinTyp b.image) u.typs
  pub terms : Each (λ b. IsWithin b.image) u.terms

-- the unifier of a success: each variable that was set on its path, in order, with its image under all later settings
abbrev pub unifier_of : Node → Unifier
unifier_of m = record { typs = written_typs (typ_settings m.path.settings); terms = resolved m.path.settings; flexflex = m.pairs }

-- what the search answers
pub data Answer : Type 0 where
  Unified : Unifier → Answer
  NoUnifier : Answer
  SearchBound : Answer
  Stopped : Stop → Answer

-- So many nodes have been visited, a cut node may have been among them, and these nodes are to come, each with its children behind it: this is the answer.
pub data Searches (A : Algebra) (maxidx : ℕ) : (visited : ℕ) → (cut : Bool) → List Node → Answer → Type 0 where
  -- no node is left
  over : {k : ℕ} → Searches A maxidx k false [] NoUnifier
  over_cut : {k : ℕ} → Searches A maxidx k true [] SearchBound
  -- there is one node more than may be visited
  bound : {k : ℕ} {cut : Bool} {n : Node} {ns : List Node} → k ≡ max_nodes → Searches A maxidx k cut (n ∷ ns) SearchBound
  -- the node fails, and its branch ends
  node_fails : {k : ℕ} {cut : Bool} {n : Node} {ns : List Node} {answer : Answer} → k < max_nodes → Visits A maxidx n Failed
      → Searches A maxidx (k + 1) cut ns answer → Searches A maxidx k cut (n ∷ ns) answer
  -- the node stops the search
  node_stops : {k : ℕ} {cut : Bool} {n : Node} {ns : List Node} {s : Stop} → k < max_nodes → Visits A maxidx n (Halted s) → Searches A maxidx k cut (n ∷ ns) (Stopped s)
  -- the node is a success: the answer is its unifier, or that this is too large
  success : {k : ℕ} {cut : Bool} {n m : Node} {ns : List Node} → k < max_nodes → Visits A maxidx n (Simple m) → Each IsFlexFlex m.pairs → AreImagesWithin (unifier_of m)
      → Searches A maxidx k cut (n ∷ ns) (Unified (unifier_of m))
  too_large : {k : ℕ} {cut : Bool} {n m : Node} {ns : List Node} → k < max_nodes → Visits A maxidx n (Simple m) → Each IsFlexFlex m.pairs → ¬ AreImagesWithin (unifier_of m)
      → Searches A maxidx k cut (n ∷ ns) (Stopped Big)
  -- the node is cut: no further choice may be made
  node_is_cut : {k : ℕ} {cut : Bool} {n m : Node} {ns : List Node} {f h : Term} {answer : Answer} → k < max_nodes → Visits A maxidx n (Simple m) → IsChoice m.pairs f h → m.path.choices ≡ max_choices
      → Searches A maxidx (k + 1) true ns answer → Searches A maxidx k cut (n ∷ ns) answer
  -- its children come next
  inner : {k : ℕ} {cut : Bool} {n m : Node} {ns : List Node} {f h : Term} {answer : Answer} → k < max_nodes → Visits A maxidx n (Simple m) → IsChoice m.pairs f h → m.path.choices < max_choices
      → Searches A maxidx (k + 1) cut (children maxidx m f h ++ ns) answer → Searches A maxidx k cut (n ∷ ns) answer

-- The answer of the search for a unifier of the pairs, whose indexes are at most `maxidx`.
abbrev pub IsUnifyAnswer : (A : Algebra) → (maxidx : ℕ) → List Pair → Answer → Type 0
IsUnifyAnswer A maxidx ps answer = Searches A maxidx 0 false (root ps ∷ []) answer
