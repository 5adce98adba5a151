-- A step on types: two types are unified, and the unifier is put into a node.
use Rattle.std.specs.Prelude.{◌≡◌, ◌≢◌, ℕ, ◌+◌, List, [], ◌∷◌}
use Rattle.pure_text.specs.Lists.{IsIn}
use Rattle.pure_definitions.specs.Types.Typ.{Typ}
use Rattle.pure_definitions.specs.Types.Order.{Algebra}
use Rattle.pure_definitions.specs.Terms.Term.{Term}
use Rattle.pure_definitions.specs.Terms.Subst.{TypBind, retyped_variable}
use Rattle.pure_logic.specs.Derivable.{Pair}
use Rattle.pure_tunify.specs.Steps as typs
use Rattle.pure_tunify.specs.Settings.{composed}
use Rattle.pure_tunify.specs.Procedure.{Outcome, Unified, NotTyped, TooBig, Unifies}
use Rattle.pure_unify_definitions.specs.Node.{Node, Typs, with_setting_put, further, node_variables}
use Rattle.pure_unify_definitions.specs.LongSides.{Stop, Big, AllLong, Stopped, AreLong}

-- what a node becomes: it goes on as another, it fails, or it stops the search
pub data Next : Type 0 where
  Goes : Node → Next
  Fails : Next
  Stops : Stop → Next

-- The two types come to this outcome of unification. Fresh type variables have the index 65 above the greatest of the given pairs, and the path's names.
abbrev pub Unifying : (A : Algebra) → (maxidx : ℕ) → Node → (T U : Typ) → Outcome → Type 0
Unifying A maxidx n T U outcome = Unifies A (maxidx + 65) 0 n.path.fresh [] (typs.pair T U ∷ []) outcome

-- The type map makes two different variables of the list the same.
pub record MakesTwoSame (map : Typ → Typ) (vs : List Term) : Type 0 where
  pub first : Term
  pub second : Term
  pub first_in : IsIn first vs
  pub second_in : IsIn second vs
  pub differ : first ≢ second
  pub same : retyped_variable map first ≡ retyped_variable map second

-- the node with a type map put in: its pairs are these
abbrev pub retyped : Node → List TypBind → (next : ℕ) → List Pair → Node
retyped n sets next ps = record { pairs = ps; path = record (further n.path (Typs sets)) { fresh = next } }

-- What comes of a node whose types T and U are unified: it fails where there is no unifier, or where the unifier makes two different variables of the node the same; it stops the search where the unifier is beyond the limits, or a side comes to a stop.
pub data IsRetyped (A : Algebra) (maxidx : ℕ) (n : Node) (T U : Typ) : Next → Type 0 where
  no_typing : {at : ℕ} → Unifying A maxidx n T U (NotTyped at) → IsRetyped A maxidx n T U Fails
  beyond : {at : ℕ} → Unifying A maxidx n T U (TooBig at) → IsRetyped A maxidx n T U (Stops Big)
  two_same : {sets : List TypBind} {next : ℕ} → Unifying A maxidx n T U (Unified sets next) → MakesTwoSame (composed sets) (node_variables n) → IsRetyped A maxidx n T U Fails
  side_stops : {sets : List TypBind} {next : ℕ} {s : Stop} → Unifying A maxidx n T U (Unified sets next) → ¬ MakesTwoSame (composed sets) (node_variables n)
      → AreLong (with_setting_put (Typs sets) n.pairs) (Stopped s) → IsRetyped A maxidx n T U (Stops s)
  all_long : {sets : List TypBind} {next : ℕ} {qs : List Pair} → Unifying A maxidx n T U (Unified sets next) → ¬ MakesTwoSame (composed sets) (node_variables n)
      → AreLong (with_setting_put (Typs sets) n.pairs) (AllLong qs) → IsRetyped A maxidx n T U (Goes (retyped n sets next qs))
