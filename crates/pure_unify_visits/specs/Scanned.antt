-- A node while it is simplified: the pairs that were passed, and those still to come.
use Rattle.std.specs.Prelude.{◌≡◌, ℕ, List, ◌∷◌, ◌++◌, reverse, length, Option, Some, None, Result, Ok, Err}
use Rattle.pure_text.specs.Lists.{Each}
use Rattle.pure_definitions.specs.Types.Typ.{Typ}
use Rattle.pure_definitions.specs.Types.Order.{Algebra}
use Rattle.pure_logic.specs.Derivable.{Pair}
use Rattle.pure_norm.specs.declared.fault.NormFault.{NormFault}
use Rattle.pure_norm.specs.declared.fault.NormFault.TheVariants.{Steps, Big, Memory}
use Rattle.pure_unify_definitions.specs.Fronts.{term_body, arguments, argument_pairs}
use Rattle.pure_unify_definitions.specs.LongSides as sides
use Rattle.pure_unify_definitions.specs.LongSides.{AllLong, AreLong}
use Rattle.pure_unify_definitions.specs.Node as node
use Rattle.pure_unify_definitions.specs.Node.{with_setting_put, further}
use Rattle.pure_unify_definitions.specs.Retyping.{Goes, Fails, Stops, IsRetyped}
use Rattle.pure_unify_definitions.specs.Simplification.{IsLeft, Visit, Simplifies}
use Rattle.pure_unify_nodes.specs.SideAnswer.{IsSidesFault}
use Rattle.pure_unify_steps.specs.declared.node.Node.{Node}
use Rattle.pure_unify_steps.specs.Held.{IsPath, IsNode}
use Rattle.pure_unify_nodes.specs.Long.{IsLongPair}
use Rattle.pure_unify_visits.specs.declared.scan.Scan.{Scan}
use Rattle.pure_unify_visits.specs.declared.scan.Turn.{Turn}
use Rattle.pure_unify_visits.specs.declared.scan.Turn.TheVariants.{Onward, Ends}
use Rattle.pure_unify_visits.specs.Visited.{IsSimplified, IsLongVisit}

-- the pairs of a scan, in order
abbrev pub scanned : Scan → List Pair
scanned scan = scan.passed.items ++ reverse scan.rest.items

-- The scan is one of the node.
pub record IsScan (scan : Scan) (n : node.Node) : Type 0 where
  pub pairs : scanned scan ≡ n.pairs
  pub path : IsPath scan.path n.path

-- So it is with this pair, which stands between those that were passed and those still to come.
pub record IsAt (scan : Scan) (p : Pair) (n : node.Node) : Type 0 where
  pub pairs : scan.passed.items ++ p ∷ reverse scan.rest.items ≡ n.pairs
  pub path : IsPath scan.path n.path

-- No rule applies to the pairs that were passed, and all sides are in long form.
pub record IsReady (scan : Scan) : Type 0 where
  pub left : Each IsLeft scan.passed.items
  pub passed : Each IsLongPair scan.passed.items
  pub rest : Each IsLongPair scan.rest.items

-- What comes of a turn: a scan, and what its node comes to the first node comes to; or the first node comes to an end.
abbrev pub IsTurned : Algebra → (maxidx : ℕ) → node.Node → Result Turn NormFault → Type 0
IsTurned A maxidx n (Ok (Onward scan)) = (m : node.Node) × IsScan scan m × ((visit : Visit) → Simplifies A maxidx m visit → Simplifies A maxidx n visit)
IsTurned A maxidx n (Ok (Ends visited)) = IsSimplified A maxidx n (Ok visited)
IsTurned A maxidx n (Err fault) = IsSimplified A maxidx n (Err fault)

-- A scan that goes on is ready, and a node that is simple has sides in long form.
abbrev pub IsReadyTurn : Turn → Type 0
IsReadyTurn (Onward scan) = IsReady scan
IsReadyTurn (Ends visited) = IsLongVisit visited

-- The pairs with a setting put in come to long forms, of which this is a scan from the front, with the setting on the path; or to a stop.
abbrev pub IsPutInto : List Pair → node.Path → node.Setting → Result Scan NormFault → Type 0
IsPutInto ps path s (Ok scan) = (qs : List Pair) × AreLong (with_setting_put s ps) (AllLong qs) × IsScan scan (record { pairs = qs; path = further path s })
IsPutInto ps path s (Err fault) = IsSidesFault (with_setting_put s ps) fault

-- What comes of a node whose types T and U are unified: another node, which is held; or it fails; or it stops the search; or memory was wanted.
abbrev pub IsRetypedNode : Algebra → (maxidx : ℕ) → node.Node → (T U : Typ) → Result (Option Node) NormFault → Type 0
IsRetypedNode A maxidx n T U (Ok (Some held)) = (m : node.Node) × IsNode held m × IsRetyped A maxidx n T U (Goes m)
IsRetypedNode A maxidx n T U (Ok None) = IsRetyped A maxidx n T U Fails
IsRetypedNode A maxidx n T U (Err Big) = IsRetyped A maxidx n T U (Stops sides.Big)
IsRetypedNode A maxidx n T U (Err Steps) = IsRetyped A maxidx n T U (Stops sides.Steps)
IsRetypedNode A maxidx n T U (Err Memory) = Unit {0}

-- The sides of the pair have as many arguments.
abbrev pub HasAsMany : Pair → Type 0
HasAsMany p = length (arguments (term_body p.left)) ≡ length (arguments (term_body p.right))

-- So have those of the pair behind so many others.
pub record HasAsManyAt (ps : List Pair) (count : ℕ) : Type 0 where
  pub before : List Pair
  pub at : Pair
  pub behind : List Pair
  pub stands : ps ≡ before ++ at ∷ behind
  pub place : length before ≡ count
  pub many : HasAsMany at

-- The second pairs are the first, of which the one behind so many others is replaced in its place by the pairs of its arguments.
pub record ArePairsSplit (count : ℕ) (ps qs : List Pair) : Type 0 where
  pub before : List Pair
  pub at : Pair
  pub behind : List Pair
  pub stands : ps ≡ before ++ at ∷ behind
  pub place : length before ≡ count
  pub are : qs ≡ before ++ (argument_pairs at.left at.right ++ behind)
