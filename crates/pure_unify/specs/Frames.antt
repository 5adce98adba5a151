-- The nodes to come, as the search holds them.
use Rattle.std.specs.Prelude.{◌≡◌, ℕ, ◌+◌, ◌<◌, ◌≤◌, ◌^◌, List, [], ◌∷◌, ◌++◌, map, Result, Ok, Err, Option, Some, None, Bool}
use Rattle.pure_text.specs.Lists.{Each}
use Rattle.pure_definitions.specs.Types.Typ.{Typ, typ_depth}
use Rattle.pure_definitions.specs.Types.Order.{Algebra}
use Rattle.pure_definitions.specs.Terms.Term.{Term, Var}
use Rattle.pure_definitions.specs.Terms.Typing.{HasType}
use Rattle.pure_logic.specs.Derivable.{Pair}
use Rattle.pure_norm.specs.declared.fault.NormFault.{NormFault}
use Rattle.pure_unify_definitions.specs.Node as node
use Rattle.pure_unify_definitions.specs.Children.{IsFlexFlex, IsChoice, child, images}
use Rattle.pure_unify_definitions.specs.Search as search
use Rattle.pure_unify_definitions.specs.Search.{Searches, AreImagesWithin, unifier_of, max_choices, max_nodes}
use Rattle.pure_unify_definitions.specs.Simplification as rules
use Rattle.pure_unify_definitions.specs.Simplification.{IsLeft, Visits}
use Rattle.pure_unify_steps.specs.declared.node.Node.{Node}
use Rattle.pure_unify_steps.specs.Held.{IsNode}
use Rattle.pure_unify_nodes.specs.Long.{IsLongPair}
use Rattle.pure_unify.specs.declared.branch.Branch.{Branch}
use Rattle.pure_unify.specs.declared.branch.Chosen.{Chosen}
use Rattle.pure_unify.specs.declared.branch.Chosen.TheVariants.{Nothing, Cut, At}
use Rattle.pure_unify.specs.declared.search.Frame.{Frame}
use Rattle.pure_unify.specs.declared.search.Search.{Search}
use Rattle.pure_unify.specs.declared.unifier.Unifier.{Unifier}
use Rattle.pure_unify.specs.declared.fault.UnifyFault.{UnifyFault}
use Rattle.pure_unify.specs.declared.fault.UnifyFault.TheVariants.{Big, Memory}
use Rattle.pure_unify_visits.specs.declared.scan.Visited.{Visited}
use Rattle.pure_unify_visits.specs.declared.scan.Visited.TheVariants.{Simple, Failed}
use Rattle.pure_unify_visits.specs.Visited.{IsVisitAnswer}
use Rattle.pure_unify.specs.Images.{HasCountable, HasFlexibleSide, images_from}
use Rattle.pure_unify.specs.Unified.{seen, IsToldAs, IsLeftOver}

-- The sides of the pair are of one type, and one of them is flexible.
pub record IsOpen (p : Pair) : Type 0 where
  pub flexible : HasFlexibleSide p
  pub typ : Typ
  pub left : HasType [] p.left typ
  pub right : HasType [] p.right typ

-- the images of the branch that are still to be tried
abbrev pub images_left : Branch → List Term
images_left branch = images_from branch.new_index branch.typ branch.head branch.next

-- The branch is of the first pair with one flexible side: the images of its variable, for the new variables of this index.
pub record IsBranch (ps : List Pair) (index : ℕ) (branch : Branch) : Type 0 where
  pub rigid : Term
  pub choice : IsChoice ps (Var branch.name branch.index branch.typ) rigid
  pub are : images_left branch ≡ images index branch.typ rigid

-- What is chosen at a node of these pairs, on the way to which so many choices were made: nothing, where all pairs are flexible; nothing either, where no further choice may be made; or a branch.
abbrev pub IsChosen : (maxidx : ℕ) → List Pair → (choices : ℕ) → Chosen → Type 0
IsChosen maxidx ps choices Nothing = Each IsFlexFlex ps
IsChosen maxidx ps choices Cut = (f : Term) × (h : Term) × IsChoice ps f h × (choices ≡ max_choices)
IsChosen maxidx ps choices (At branch) = IsBranch ps (maxidx + (choices + 1)) branch × (choices < max_choices)

-- The types of the branch are so deep that their arrows can be counted.
pub record IsCountableBranch (branch : Branch) : Type 0 where
  pub variable : typ_depth branch.typ < 2 ^ 32
  pub head : HasCountable branch.head

-- So it is, and its images have its variable's type; where none is chosen nothing is said.
pub record IsTypedBranch (branch : Branch) : Type 0 where
  pub countable : IsCountableBranch branch
  pub images : Each (λ u. HasType [] u branch.typ) (images_left branch)

abbrev pub IsTypedChosen : Chosen → Type 0
IsTypedChosen (At branch) = IsTypedBranch branch
IsTypedChosen _ = Unit {0}

-- The frame holds these nodes: the children of its node that are still to come.
pub record IsFrame (frame : Frame) (mine : List node.Node) : Type 0 where
  pub parent : node.Node
  pub held : IsNode frame.node parent
  pub are : mine ≡ map (child parent frame.branch.name frame.branch.index frame.branch.typ) (images_left frame.branch)

-- The frames hold these nodes: those of the last frame come first.
abbrev pub HoldNodes : List Frame → List node.Node → Type 0
HoldNodes [] ns = ns ≡ []
HoldNodes (frame ∷ rest) ns = (mine : List node.Node) × (later : List node.Node) × IsFrame frame mine × HoldNodes rest later × (ns ≡ later ++ mine)

-- The node is a simple one: no rule applies to its pairs, whose sides are in long form; and no more choices than allowed were made on the way to it.
pub record IsSimpleHeld (held : Node) : Type 0 where
  pub node : node.Node
  pub is : IsNode held node
  pub left : Each IsLeft node.pairs
  pub long : Each IsLongPair held.pairs.items
  pub few : held.path.choices ≤ max_choices

-- So is the node, where the visit comes to a simple one.
abbrev pub IsSimpleVisit : Visited → Type 0
IsSimpleVisit (Simple held) = IsSimpleHeld held
IsSimpleVisit Failed = Unit {0}

-- A child of the frame's node can be made.
pub record IsReady (frame : Frame) : Type 0 where
  pub parent : node.Node
  pub held : IsNode frame.node parent
  pub long : Each IsLongPair frame.node.pairs.items
  pub typed : IsTypedBranch frame.branch
  pub few : frame.node.path.choices < max_choices

-- The search can go on.
pub record CanGoOn (s : Search) : Type 0 where
  pub few : s.visited ≤ max_nodes
  pub ready : Each IsReady s.frames.items

-- What becomes of a search of which this is to be told: it goes on, and what its rest answers is told of the whole; or it has its answer; or memory was wanted.
abbrev pub IsStep : (A : Algebra) → (maxidx : ℕ) → (Whole : search.Answer → Type 0) → (new : Search) → Result (Option Unifier) UnifyFault → Type 0
IsStep A maxidx Whole new (Ok None) = (ns : List node.Node) × HoldNodes new.frames.items ns × ((answer : search.Answer) → Searches A maxidx new.visited new.cut ns answer → Whole answer)
IsStep A maxidx Whole new (Ok (Some u)) = IsToldAs Whole (Ok u)
IsStep A maxidx Whole new (Err fault) = IsToldAs Whole (Err fault)

-- The fault is the answer of a search whose first node stops it by this, or for want of memory.
abbrev pub IsStopOf : NormFault → UnifyFault → Type 0
IsStopOf stop fault = (A : Algebra) (maxidx : ℕ) (n : node.Node) (ns : List node.Node) (k : ℕ) (cut : Bool) → IsVisitAnswer A maxidx n (Err stop) → k < max_nodes → IsToldAs (Searches A maxidx k cut (n ∷ ns)) (Err fault)

-- What becomes of the search when a node, the last one that was counted, comes to this.
abbrev pub IsAfterVisit : (maxidx : ℕ) → (old new : Search) → Result Visited NormFault → Result (Option Unifier) UnifyFault → Type 0
IsAfterVisit maxidx old new outcome result = (A : Algebra) (n : node.Node) (ns : List node.Node) (k : ℕ) → IsVisitAnswer A maxidx n outcome → HoldNodes old.frames.items ns → old.visited ≡ k + 1 → k < max_nodes
    → IsStep A maxidx (Searches A maxidx k old.cut (n ∷ ns)) new result

-- The same of a node that comes to a simple one.
abbrev pub IsAfterSimple : (maxidx : ℕ) → (old new : Search) → Node → Result (Option Unifier) UnifyFault → Type 0
IsAfterSimple maxidx old new held result = (A : Algebra) (n m : node.Node) (ns : List node.Node) (k : ℕ) → IsNode held m → Visits A maxidx n (rules.Simple m) → HoldNodes old.frames.items ns → old.visited ≡ k + 1 → k < max_nodes
    → IsStep A maxidx (Searches A maxidx k old.cut (n ∷ ns)) new result

-- The answer at a success: its unifier, or that this is too large; or memory was wanted.
abbrev pub IsSuccess : node.Node → Result (Option Unifier) UnifyFault → Type 0
IsSuccess m (Ok (Some u)) = (seen u ≡ unifier_of m) × AreImagesWithin (unifier_of m)
IsSuccess m (Ok None) = ⊥
IsSuccess m (Err Big) = ¬ AreImagesWithin (unifier_of m)
IsSuccess m (Err Memory) = Unit {0}
IsSuccess m (Err fault) = ⊥

-- The pairs of the unifier, where there is one, are ones that a unifier may leave.
abbrev pub AreLeftOver : Option Unifier → Type 0
AreLeftOver (Some u) = Each IsLeftOver u.flexflex.items
AreLeftOver None = Unit {0}
