-- Steps on types.
use Rattle.std.proofs.Common.{◌≡◌, ◌⊎◌, ℕ, ◌+◌, ◌≤◌, List, [], ◌∷◌, ◌++◌, Bool, true, false, true≢false, inl, inr, refl, ap, sym, subst, ◌∙◌}
use Rattle.std.specs.Prelude.{Option, Some, None, Result, Ok, Err, IfOk, IfSome, MatchBool}
use Rattle.pure_text.specs.Lists.{IsIn, Each, EachTwo}
use Rattle.pure_definitions.specs.Types.Typ.{Typ, TFree, TVar, Con, Typs, none, also}
use Rattle.pure_definitions.specs.Types.Order.{Algebra}
use Rattle.pure_definitions.specs.Types.Occurs.{OccursInTyp, OccursInTyps}
use Rattle.pure_definitions.specs.Terms.Term.{Term}
use Rattle.pure_definitions.specs.Terms.Subst.{TypBind, typ_image}
use Rattle.pure_norm.specs.declared.fault.NormFault.{NormFault}
use Rattle.pure_norm.specs.declared.fault.NormFault.TheVariants.{Steps, Big, Memory}
use Rattle.pure_tunify.specs.Steps as typs
use Rattle.pure_tunify.specs.Unifiers.{IsFresh, IsOld, IsOldPair}
use Rattle.pure_tunify.specs.Settings.{composed}
use Rattle.pure_tunify.specs.Procedure.{Unified, NotTyped, TooBig, Unifies}
use Rattle.pure_tunify.specs.Working.{IsWritten}
use Rattle.pure_tunify.specs.Answers.{AreUnified}
use Rattle.pure_logic.specs.Derivable.{Pair}
use Rattle.pure_unify_definitions.specs.Fronts.{pair_variables}
use Rattle.pure_unify_definitions.specs.LongSides as sides
use Rattle.pure_unify_definitions.specs.LongSides.{AllLong, Stopped, AreLong}
use Rattle.pure_unify_definitions.specs.Node as node
use Rattle.pure_unify_definitions.specs.Node.{Typs as OfSets, with_setting_put, node_variables}
use Rattle.pure_unify_definitions.specs.Retyping.{Goes, Fails, Stops, MakesTwoSame, retyped, IsRetyped, no_typing, beyond, two_same, side_stops, all_long}
use Rattle.pure_tunify.specs.declared.pair.TypPair.{TypPair}
use Rattle.pure_unify_steps.specs.declared.node.Setting.{Setting}
use Rattle.pure_unify_steps.specs.Held.{IsSetting}
use Rattle.pure_unify_steps.specs.declared.retype.Retyping.{Retyping}
use Rattle.pure_unify_steps.specs.Gathered.{gathered}
use Rattle.pure_unify_steps.specs.Old.{HasNoFresh, HaveNoFresh}
use Rattle.pure_unify_steps.specs.Retyped.{IsTyping, IsPutAnswer, ArePut, IsApartAnswer, GoesOn, IsRetypingAnswer}
use Rattle.pure_unify_steps.proofs.GatherLaws.{list_in_node, node_in_list, same_elsewhere, same_written, same_settings}

mutual
  no_fresh_old : (index from : ℕ) (t : Typ) → HasNoFresh index from t → (v : Typ) → OccursInTyp v t → ¬ IsFresh index from v
  no_fresh_old index from (TFree x s) h v o f = subst (IsFresh index from) o f
  no_fresh_old index from (TVar x i s) h v o f = let own : IsFresh index from (TVar x i s) = subst (IsFresh index from) o f in h own.0 own.1
  no_fresh_old index from (Con k ts) h v (inl e) f = subst (IsFresh index from) e f
  no_fresh_old index from (Con k ts) h v (inr o) f = none_fresh_old index from ts h v o f

  none_fresh_old : (index from : ℕ) (ts : Typs) → HaveNoFresh index from ts → (v : Typ) → OccursInTyps v ts → ¬ IsFresh index from v
  none_fresh_old index from none h v o f = o
  none_fresh_old index from (also t ts) h v (inl o) f = no_fresh_old index from t h.0 v o f
  none_fresh_old index from (also t ts) h v (inr o) f = none_fresh_old index from ts h.1 v o f

pub old_of : (index from : ℕ) (t : Typ) → HasNoFresh index from t → IsOld index from t
old_of index from t h v o f = no_fresh_old index from t h v o f

-- Whether variables of the node become the same, by those that were gathered.
pub same_in_node : (n : node.Node) (map : List TypBind) (list : List Term) (test : Bool) → list ≡ gathered [] n.path.settings ++ pair_variables n.pairs
    → MatchBool test (MakesTwoSame (typ_image map) list) (¬ MakesTwoSame (typ_image map) list) → MatchBool test (MakesTwoSame (typ_image map) (node_variables n)) (¬ MakesTwoSame (typ_image map) (node_variables n))
same_in_node n map list true e h = same_elsewhere (typ_image map) list (node_variables n) (list_in_node n list e) h
same_in_node n map list false e h = λ m. h (same_elsewhere (typ_image map) (node_variables n) list (node_in_list n list e) m)

apart_in : (n : node.Node) (map sets : List TypBind) → IsWritten sets map → ¬ MakesTwoSame (typ_image map) (node_variables n) → ¬ MakesTwoSame (composed sets) (node_variables n)
apart_in n map sets w free m = free (same_settings sets map (node_variables n) w m)

pub apart_some : (n : node.Node) (map sets : List TypBind) (next : ℕ) (ps : List Pair) (r : Retyping) → IsWritten sets map → ps ≡ n.pairs → ¬ MakesTwoSame (typ_image map) (node_variables n)
    → IsPutAnswer ps sets next (Ok r) → IsApartAnswer n sets next (Ok (Some r))
apart_some n map sets next ps r w e free h = (apart_in n map sets w free, subst (λ (qs : List Pair). IsPutAnswer qs sets next (Ok r)) e h)

pub apart_fault : (n : node.Node) (map sets : List TypBind) (next : ℕ) (ps : List Pair) (fault : NormFault) → IsWritten sets map → ps ≡ n.pairs → ¬ MakesTwoSame (typ_image map) (node_variables n)
    → IsPutAnswer ps sets next (Err fault) → IsApartAnswer n sets next (Err fault)
apart_fault n map sets next ps Big w e free h = (apart_in n map sets w free, subst (λ (qs : List Pair). IsPutAnswer qs sets next (Err Big)) e h)
apart_fault n map sets next ps Steps w e free h = (apart_in n map sets w free, subst (λ (qs : List Pair). IsPutAnswer qs sets next (Err Steps)) e h)
apart_fault n map sets next ps Memory w e free h = tt

pub retyping : (A : Algebra) (maxidx from : ℕ) (n : node.Node) (T U : Typ) (map : List TypBind) (next : ℕ) (r : Result (Option Retyping) NormFault) → from ≡ n.path.fresh
    → (h : AreUnified A (maxidx + 65) from (typs.pair T U ∷ []) map next) → IsApartAnswer n h.sets next r → IsRetypingAnswer A maxidx n T U r
retyping A maxidx from n T U map next r e h a = by r a
  where
    unifies : Unifies A (maxidx + 65) 0 n.path.fresh [] (typs.pair T U ∷ []) (Unified h.sets next)
    unifies = subst (λ (k : ℕ). Unifies A (maxidx + 65) 0 k [] (typs.pair T U ∷ []) (Unified h.sets next)) e h.unifies

    by : (r : Result (Option Retyping) NormFault) → IsApartAnswer n h.sets next r → IsRetypingAnswer A maxidx n T U r
    by (Ok None) same = two_same unifies same
    by (Ok (Some s)) a = record {
      sets = h.sets;
      held = a.1.0;
      becomes = subst (λ (k : ℕ). IsRetyped A maxidx n T U (Goes (retyped n h.sets k s.pairs.items))) (sym a.1.1) (all_long unifies a.0 a.1.2);
    }
    by (Err Memory) a = tt
    by (Err Big) a = side_stops unifies a.0 a.1
    by (Err Steps) a = side_stops unifies a.0 a.1

pub retyping_put : (A : Algebra) (index from : ℕ) (T U : Typ) (ps : List Pair) (map : List TypBind) (next : ℕ) (r : Result (Option Retyping) NormFault) → (h : AreUnified A index from (typs.pair T U ∷ []) map next)
    → IfOk r (λ o. IfSome o (λ s. AreLong (with_setting_put (OfSets h.sets) ps) (AllLong s.pairs.items))) → IfOk r (λ o. IfSome o (λ s. ArePut A index from T U ps s.pairs.items))
retyping_put A index from T U ps map next (Ok (Some s)) h a = record { sets = h.sets; next = next; unifies = h.unifies; long = a }
retyping_put A index from T U ps map next (Ok None) h a = tt
retyping_put A index from T U ps map next (Err fault) h a = tt

pub retyping_none : (A : Algebra) (maxidx from : ℕ) (n : node.Node) (T U : Typ) → from ≡ n.path.fresh → IsTyping A (maxidx + 65) from T U (Ok None) → IsRetyped A maxidx n T U Fails
retyping_none A maxidx from n T U e h = no_typing (subst (λ (k : ℕ). Unifies A (maxidx + 65) 0 k [] (typs.pair T U ∷ []) (NotTyped h.0)) e h.1)

pub retyping_fault : (A : Algebra) (maxidx from : ℕ) (n : node.Node) (T U : Typ) (fault : NormFault) → from ≡ n.path.fresh → IsTyping A (maxidx + 65) from T U (Err fault) → IsRetypingAnswer A maxidx n T U (Err fault)
retyping_fault A maxidx from n T U Big e h = beyond (subst (λ (k : ℕ). Unifies A (maxidx + 65) 0 k [] (typs.pair T U ∷ []) (TooBig h.0)) e h.1)
retyping_fault A maxidx from n T U Steps e h = absurd h
retyping_fault A maxidx from n T U Memory e h = tt

pub pair_old : (index from : ℕ) (T U : Typ) (ps : List TypPair) → ps ≡ typs.pair T U ∷ [] → HasNoFresh index from T → HasNoFresh index from U → Each (IsOldPair index from) ps
pair_old index from T U ps e h k = subst (λ (qs : List TypPair). Each (IsOldPair index from) qs) (sym e) ((old_of index from T h, old_of index from U k), tt)

pub settings_at : (xs ys : List Setting) (ss : List node.Setting) → xs ≡ ys → EachTwo IsSetting ys ss → EachTwo IsSetting xs ss
settings_at xs ys ss e h = subst (λ (zs : List Setting). EachTwo IsSetting zs ss) (sym e) h

pub are_same_there : (n : node.Node) (map : List TypBind) (test : Bool) → test ≡ true → MatchBool test (MakesTwoSame (typ_image map) (node_variables n)) (¬ MakesTwoSame (typ_image map) (node_variables n)) → MakesTwoSame (typ_image map) (node_variables n)
are_same_there n map true e h = h
are_same_there n map false e h = absurd (true≢false (sym e))

pub are_apart_there : (n : node.Node) (map : List TypBind) (test : Bool) → test ≡ false → MatchBool test (MakesTwoSame (typ_image map) (node_variables n)) (¬ MakesTwoSame (typ_image map) (node_variables n)) → ¬ MakesTwoSame (typ_image map) (node_variables n)
are_apart_there n map false e h = h
are_apart_there n map true e h = absurd (true≢false e)
