-- The settings of type variables on a path respect sorts.
use Rattle.std.proofs.Common.{ℕ, ◌+◌, List, [], ◌∷◌, map, inl, inr, sym, subst}
use Rattle.pure_text.specs.Lists.{IsIn, Each}
use Rattle.pure_text.proofs.ListLaws.{each-append}
use Rattle.pure_definitions.specs.Types.Typ.{Typ}
use Rattle.pure_definitions.specs.Types.Order.{Algebra}
use Rattle.pure_definitions.specs.Terms.Term.{Term, Const, Free, Var, Bound, Abs, App}
use Rattle.pure_logic.specs.Derivable.{Pair}
use Rattle.pure_tunify.proofs.SortLaws.{unified_substitution}
use Rattle.pure_unify_definitions.specs.Node.{Typs, Single, Node, bind as node_bind}
use Rattle.pure_unify_definitions.specs.Retyping.{Goes, IsRetyped, all_long}
use Rattle.pure_unify_definitions.specs.Simplification.{Applies, drops, retypes, puts, splits, unifies, Simple, Simplifies, simple, step, Visits, visited}
use Rattle.pure_unify_definitions.specs.Children.{children, child, images}
use Rattle.pure_unify_laws.specs.Reached.{Leads, at_once, by_child, IsReached, RespectsSorts}

module _ (A : Algebra) (maxidx : ℕ) where
  retyped-sorts : (n m : Node) (T U : Typ) → IsRetyped A maxidx n T U (Goes m) → Each (RespectsSorts A) n.path.settings → Each (RespectsSorts A) m.path.settings
  retyped-sorts n m T U (all_long {sets = sets} {next = next} u apart l) h =
      each-append (RespectsSorts A) n.path.settings (Typs sets ∷ []) h (unified_substitution A sets next u, tt)

  step-sorts : (n m : Node) → Applies A maxidx n (Goes m) → Each (RespectsSorts A) n.path.settings → Each (RespectsSorts A) m.path.settings
  step-sorts n m (drops f) h = h
  step-sorts n m (retypes {T = T} {U = U} f t) h = retyped-sorts n m T U t h
  step-sorts n m (puts {b = b} f l) h = each-append (RespectsSorts A) n.path.settings (Single b ∷ []) h (tt, tt)
  step-sorts n m (splits f) h = h
  step-sorts n m (unifies {T = T} {U = U} {m = k} f t a) h = subst (λ (o : Node). Each (RespectsSorts A) o.path.settings) (sym a.are) (retyped-sorts n k T U t h)

  simplified-sorts : {n m : Node} → Simplifies A maxidx n (Simple m) → Each (RespectsSorts A) n.path.settings → Each (RespectsSorts A) m.path.settings
  simplified-sorts (simple each) h = h
  simplified-sorts {n = n} (step {m = k} f s) h = simplified-sorts s (step-sorts n k f h)

  visit-sorts : (n m : Node) → Visits A maxidx n (Simple m) → Each (RespectsSorts A) n.path.settings → Each (RespectsSorts A) m.path.settings
  visit-sorts n m (visited l s) h = simplified-sorts s h

  among-sorts : (k c : Node) (x i : ℕ) (T : Typ) (us : List Term) → IsIn c (map (child k x i T) us) → Each (RespectsSorts A) k.path.settings → Each (RespectsSorts A) c.path.settings
  among-sorts k c x i T [] m h = absurd m
  among-sorts k c x i T (u ∷ us) (inl e) h = subst (λ (o : Node). Each (RespectsSorts A) o.path.settings) (sym e) (each-append (RespectsSorts A) k.path.settings (Single (node_bind x i T u) ∷ []) h (tt, tt))
  among-sorts k c x i T (u ∷ us) (inr m) h = among-sorts k c x i T us m h

  child-sorts : (k c : Node) (f h : Term) → IsIn c (children maxidx k f h) → Each (RespectsSorts A) k.path.settings → Each (RespectsSorts A) c.path.settings
  child-sorts k c (Var x i T) h m r = among-sorts k c x i T (images (maxidx + (k.path.choices + 1)) T h) m r
  child-sorts k c (Const d U) h m r = absurd m
  child-sorts k c (Free x U) h m r = absurd m
  child-sorts k c (Bound p) h m r = absurd m
  child-sorts k c (Abs U b) h m r = absurd m
  child-sorts k c (App g a) h m r = absurd m

  leads-sorts : {n m : Node} → Leads A maxidx n m → Each (RespectsSorts A) n.path.settings → Each (RespectsSorts A) m.path.settings
  leads-sorts {n = n} {m = m} (at_once v) h = visit-sorts n m v h
  leads-sorts {n = n} (by_child {k = k} {c = c} f g v choice i l) h = leads-sorts l (child-sorts k c f g i (visit-sorts n k v h))

pub settings_respect_sorts : (A : Algebra) (maxidx : ℕ) (ps : List Pair) (m : Node) → IsReached A maxidx ps m → Each (RespectsSorts A) m.path.settings
settings_respect_sorts A maxidx ps m reached = leads-sorts A maxidx reached.leads tt
