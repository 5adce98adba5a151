-- Each unifier is that of a success.
use Rattle.std.proofs.Common.{◌≡◌, ◌⊎◌, ℕ, List, [], ◌∷◌, ◌++◌, Bool, inl, inr, refl, subst}
use Rattle.pure_text.specs.Lists.{IsIn, Each}
use Rattle.pure_text.proofs.ListLaws.{in_split}
use Rattle.pure_definitions.specs.Types.Order.{Algebra}
use Rattle.pure_definitions.specs.Terms.Term.{Term}
use Rattle.pure_logic.specs.Derivable.{Pair}
use Rattle.pure_unify_definitions.specs.Node.{Node, root}
use Rattle.pure_unify_definitions.specs.Simplification.{Simple, Visits}
use Rattle.pure_unify_definitions.specs.Children.{IsFlexFlex, IsChoice, children}
use Rattle.pure_unify_definitions.specs.Search.{Unifier, unifier_of, Answer, Unified, Searches, over, over_cut, bound, node_fails, node_stops, success, too_large, node_is_cut, inner, IsUnifyAnswer}
use Rattle.pure_unify_laws.specs.Reached.{Leads, at_once, by_child, IsReached}

-- One of the nodes leads to the success.
record IsFound (A : Algebra) (maxidx : ℕ) (ns : List Node) (u : Unifier) : Type 0 where
  from : Node
  stands : IsIn from ns
  to : Node
  leads : Leads A maxidx from to
  flexible : Each IsFlexFlex to.pairs
  unifier : u ≡ unifier_of to

module _ (A : Algebra) (maxidx : ℕ) where
  found-later : (n : Node) (ns : List Node) (u : Unifier) → IsFound A maxidx ns u → IsFound A maxidx (n ∷ ns) u
  found-later n ns u f = record { from = f.from; stands = inr f.stands; to = f.to; leads = f.leads; flexible = f.flexible; unifier = f.unifier }

  found-below : (n m : Node) (ns : List Node) (u : Unifier) (f h : Term) → Visits A maxidx n (Simple m) → IsChoice m.pairs f h → IsFound A maxidx (children maxidx m f h ++ ns) u → IsFound A maxidx (n ∷ ns) u
  found-below n m ns u f h v c found = by (in_split found.from (children maxidx m f h) ns found.stands)
    where
      by : IsIn found.from (children maxidx m f h) ⊎ IsIn found.from ns → IsFound A maxidx (n ∷ ns) u
      by (inl i) = record { from = n; stands = inl refl; to = found.to; leads = by_child f h v c i found.leads; flexible = found.flexible; unifier = found.unifier }
      by (inr i) = record { from = found.from; stands = inr i; to = found.to; leads = found.leads; flexible = found.flexible; unifier = found.unifier }

  found : {k : ℕ} {cut : Bool} {ns : List Node} {answer : Answer} → Searches A maxidx k cut ns answer → (u : Unifier) → answer ≡ Unified u → IsFound A maxidx ns u
  found over u e = absurd (cc)
  found over_cut u e = absurd (cc)
  found (bound i) u e = absurd (cc)
  found (node_fails {n = n} {ns = ns} w v s) u e = found-later n ns u (found s u e)
  found (node_stops w v) u e = absurd (cc)
  found (success {n = n} {m = m} {ns = ns} w v f i) u e = let same : u ≡ unifier_of m = cc in record { from = n; stands = inl refl; to = m; leads = at_once v; flexible = f; unifier = same }
  found (too_large w v f i) u e = absurd (cc)
  found (node_is_cut {n = n} {ns = ns} w v c i s) u e = found-later n ns u (found s u e)
  found (inner {n = n} {m = m} {ns = ns} {f = f} {h = h} w v c i s) u e = found-below n m ns u f h v c (found s u e)

pub unifier_is_reached : (A : Algebra) (maxidx : ℕ) (ps : List Pair) (u : Unifier) → IsUnifyAnswer A maxidx ps (Unified u) → (m : Node) × IsReached A maxidx ps m × (u ≡ unifier_of m)
unifier_is_reached A maxidx ps u s = by (found A maxidx s u refl)
  where
    by : IsFound A maxidx (root ps ∷ []) u → (m : Node) × IsReached A maxidx ps m × (u ≡ unifier_of m)
    by f = (f.to, record { leads = subst (λ (n : Node). Leads A maxidx n f.to) (first f.stands) f.leads; flexible = f.flexible }, f.unifier)
      where
        first : {n : Node} → IsIn n (root ps ∷ []) → n ≡ root ps
        first (inl e) = e
        first (inr m) = absurd m
