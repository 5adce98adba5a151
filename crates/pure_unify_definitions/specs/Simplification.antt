-- Simplification of a node: as long as a rule applies to some pair, the first pair to which one applies is treated by the first that applies.
use Rattle.std.specs.Prelude.{◌≡◌, ℕ, List, [], ◌∷◌, ◌++◌, length}
use Rattle.pure_text.specs.Lists.{Each}
use Rattle.pure_definitions.specs.Types.Typ.{Typ}
use Rattle.pure_definitions.specs.Types.Order.{Algebra}
use Rattle.pure_definitions.specs.Terms.Subst.{TermBind}
use Rattle.pure_logic.specs.Derivable.{Pair}
use Rattle.pure_unify_definitions.specs.Fronts.{argument_pairs}
use Rattle.pure_unify_definitions.specs.Node.{Node, Single, with_setting_put, further}
use Rattle.pure_unify_definitions.specs.LongSides.{Stop, AllLong, Stopped, AreLong}
use Rattle.pure_unify_definitions.specs.Treatment.{Treatment, Drop, Differ, Fail, Put, Split, Unify, Leave, IsTreatment}
use Rattle.pure_unify_definitions.specs.Retyping.{Next, Goes, Fails, Stops, IsRetyped}

-- No rule applies to the pair.
abbrev pub IsLeft : Pair → Type 0
IsLeft p = IsTreatment p.left p.right Leave

-- Of the pairs, p, which stands between the front and the rest, is the first to which a rule applies, and this is its treatment.
pub record IsFirst (ps front : List Pair) (p : Pair) (rest : List Pair) (how : Treatment) : Type 0 where
  pub stands : ps ≡ front ++ p ∷ rest
  pub before : Each IsLeft front
  pub treated : IsTreatment p.left p.right how

-- the node with other pairs
abbrev pub with_pairs : Node → List Pair → Node
with_pairs n ps = record n { pairs = ps }

-- the node with a variable set: its pairs are these
abbrev pub with_bind : Node → TermBind → List Pair → Node
with_bind n b ps = record { pairs = ps; path = further n.path (Single b) }

-- The node comes of the other, of whose pairs the one at the front's end is replaced in its place by the pairs of its arguments.
pub record IsSplitAt (front : List Pair) (m split : Node) : Type 0 where
  pub before : List Pair
  pub at : Pair
  pub behind : List Pair
  pub stands : m.pairs ≡ before ++ at ∷ behind
  pub place : length before ≡ length front
  pub are : split ≡ with_pairs m (before ++ (argument_pairs at.left at.right ++ behind))

-- What one step makes of a node.
pub data Applies (A : Algebra) (maxidx : ℕ) (n : Node) : Next → Type 0 where
  -- a pair with equal sides is dropped
  drops : {front rest : List Pair} {p : Pair} → IsFirst n.pairs front p rest Drop → Applies A maxidx n (Goes (with_pairs n (front ++ rest)))
  -- different types of the sides are unified
  retypes : {front rest : List Pair} {p : Pair} {T U : Typ} {next : Next} → IsFirst n.pairs front p rest (Differ T U) → IsRetyped A maxidx n T U next → Applies A maxidx n next
  -- the node fails
  fails : {front rest : List Pair} {p : Pair} → IsFirst n.pairs front p rest Fail → Applies A maxidx n Fails
  -- a variable is set, the pair goes, and the other pairs are brought to long form
  puts : {front rest qs : List Pair} {p : Pair} {b : TermBind} → IsFirst n.pairs front p rest (Put b) → AreLong (with_setting_put (Single b) (front ++ rest)) (AllLong qs)
      → Applies A maxidx n (Goes (with_bind n b qs))
  put_stops : {front rest : List Pair} {p : Pair} {b : TermBind} {s : Stop} → IsFirst n.pairs front p rest (Put b) → AreLong (with_setting_put (Single b) (front ++ rest)) (Stopped s)
      → Applies A maxidx n (Stops s)
  -- a pair with the same heads is replaced by the pairs of the arguments
  splits : {front rest : List Pair} {p : Pair} → IsFirst n.pairs front p rest Split → Applies A maxidx n (Goes (with_pairs n (front ++ (argument_pairs p.left p.right ++ rest))))
  -- and so is one whose heads are constants of one name, once their types are unified
  unifies : {front rest : List Pair} {p : Pair} {T U : Typ} {m split : Node} → IsFirst n.pairs front p rest (Unify T U) → IsRetyped A maxidx n T U (Goes m) → IsSplitAt front m split
      → Applies A maxidx n (Goes split)
  unify_fails : {front rest : List Pair} {p : Pair} {T U : Typ} → IsFirst n.pairs front p rest (Unify T U) → IsRetyped A maxidx n T U Fails → Applies A maxidx n Fails
  unify_stops : {front rest : List Pair} {p : Pair} {T U : Typ} {s : Stop} → IsFirst n.pairs front p rest (Unify T U) → IsRetyped A maxidx n T U (Stops s) → Applies A maxidx n (Stops s)

-- what simplification comes to: a node to no pair of which a rule applies, or the node fails, or it stops the search
pub data Visit : Type 0 where
  Simple : Node → Visit
  Failed : Visit
  Halted : Stop → Visit

pub data Simplifies (A : Algebra) (maxidx : ℕ) : Node → Visit → Type 0 where
  simple : {n : Node} → Each IsLeft n.pairs → Simplifies A maxidx n (Simple n)
  step : {n m : Node} {visit : Visit} → Applies A maxidx n (Goes m) → Simplifies A maxidx m visit → Simplifies A maxidx n visit
  failed : {n : Node} → Applies A maxidx n Fails → Simplifies A maxidx n Failed
  halted : {n : Node} {s : Stop} → Applies A maxidx n (Stops s) → Simplifies A maxidx n (Halted s)

-- A node is visited: its sides are brought to long form, and it is simplified.
pub data Visits (A : Algebra) (maxidx : ℕ) (n : Node) : Visit → Type 0 where
  visited : {qs : List Pair} {visit : Visit} → AreLong n.pairs (AllLong qs) → Simplifies A maxidx (with_pairs n qs) visit → Visits A maxidx n visit
  visit_stops : {s : Stop} → AreLong n.pairs (Stopped s) → Visits A maxidx n (Halted s)
