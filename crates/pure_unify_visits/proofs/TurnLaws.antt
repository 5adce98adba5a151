-- What one turn makes of a node, and a row of turns.
use Rattle.std.proofs.Common.{◌≡◌, ℕ, List, [], ◌∷◌, ◌++◌, length, reverse, refl, ap, sym, subst, ◌∙◌, append_assoc}
use Rattle.std.specs.Prelude.{Option, Some, None, Result, Ok, Err}
use Rattle.std.proofs.lemmas.List.{append-nil}
use Rattle.pure_text.specs.Lists.{Each}
use Rattle.pure_text.proofs.ListLaws.{each-append}
use Rattle.pure_definitions.specs.Types.Typ.{Typ}
use Rattle.pure_definitions.specs.Types.Order.{Algebra}
use Rattle.pure_definitions.specs.Terms.Subst.{TypBind, TermBind}
use Rattle.pure_norm.specs.declared.fault.NormFault.{NormFault}
use Rattle.pure_norm.specs.declared.fault.NormFault.TheVariants.{Steps, Big, Memory}
use Rattle.pure_logic.specs.Derivable.{Pair}
use Rattle.pure_unify_definitions.specs.Fronts.{argument_pairs}
use Rattle.pure_unify_definitions.specs.Node as node
use Rattle.pure_unify_definitions.specs.Node.{Typs, Single, with_setting_put, further}
use Rattle.pure_unify_definitions.specs.LongSides.{AllLong, AreLong}
use Rattle.pure_unify_definitions.specs.Retyping.{Fails, retyped, IsRetyped}
use Rattle.pure_unify_definitions.specs.Treatment as rules
use Rattle.pure_unify_definitions.specs.Treatment.{IsTreatment}
use Rattle.pure_unify_definitions.specs.Simplification as ends
use Rattle.pure_unify_definitions.specs.Simplification.{IsLeft, IsFirst, with_pairs, with_bind, IsSplitAt, drops, retypes, fails, puts, put_stops, splits, unifies, unify_fails, unify_stops, simple, step, failed, halted, visited, visit_stops}
use Rattle.pure_unify_nodes.specs.SideAnswer.{IsSidesFault}
use Rattle.pure_unify_steps.specs.declared.node.Node.{Node}
use Rattle.pure_unify_steps.specs.declared.node.Path.{Path}
use Rattle.pure_unify_steps.specs.declared.retype.Retyping.{Retyping}
use Rattle.pure_unify_steps.specs.Held.{IsSetting, IsPath, IsNode}
use Rattle.pure_unify_steps.specs.Retyped.{IsRetypingAnswer}
use Rattle.pure_unify_nodes.specs.Long.{IsLongPair}
use Rattle.pure_unify_visits.specs.declared.scan.Visited.{Visited}
use Rattle.pure_unify_visits.specs.declared.scan.Visited.TheVariants.{Simple, Failed}
use Rattle.pure_unify_visits.specs.declared.scan.Scan.{Scan}
use Rattle.pure_unify_visits.specs.declared.scan.Turn.TheVariants.{Onward, Ends}
use Rattle.pure_unify_visits.specs.Visited.{IsSimplified, IsVisitAnswer}
use Rattle.pure_unify_visits.specs.Scanned.{scanned, IsScan, IsAt, IsReady, IsTurned, IsPutInto, IsRetypedNode}
use Rattle.pure_unify_visits.proofs.ListLaws.{last_first, last_each, put_in_front}

-- The pair that is popped stands between those that were passed and those still to come.
pub popped_at : (scan next : Scan) (p : Pair) (n : node.Node) → scan.rest.items ≡ next.rest.items ++ p ∷ [] → next.passed.items ≡ scan.passed.items → next.path ≡ scan.path → IsScan scan n → IsAt next p n
popped_at scan next p n e f g h = record {
  pairs = (λ i. f i ++ sym (last_first scan.rest.items next.rest.items p e) i) ∙ h.pairs;
  path = subst (λ (path : Path). IsPath path n.path) (sym g) h.path;
}

pub popped_ready : (scan next : Scan) (p : Pair) → scan.rest.items ≡ next.rest.items ++ p ∷ [] → next.passed.items ≡ scan.passed.items → IsReady scan → IsReady next × IsLongPair p
popped_ready scan next p e f h =
    let rest = last_each IsLongPair scan.rest.items next.rest.items p e h.rest in (
      record { left = subst (λ (ps : List Pair). Each IsLeft ps) (sym f) h.left; passed = subst (λ (ps : List Pair). Each IsLongPair ps) (sym f) h.passed; rest = rest.0 },
      rest.1,
    )

pub passed_ready : (scan next : Scan) (p : Pair) → IsReady scan → IsLongPair p → IsLeft p → next.passed.items ≡ scan.passed.items ++ p ∷ [] → next.rest.items ≡ scan.rest.items → IsReady next
passed_ready scan next p h k l e f = record {
  left = subst (λ (ps : List Pair). Each IsLeft ps) (sym e) (each-append IsLeft scan.passed.items (p ∷ []) h.left (l, tt));
  passed = subst (λ (ps : List Pair). Each IsLongPair ps) (sym e) (each-append IsLongPair scan.passed.items (p ∷ []) h.passed (k, tt));
  rest = subst (λ (ps : List Pair). Each IsLongPair ps) (sym f) h.rest;
}

-- The pair is the first to which a rule applies.
first : (scan : Scan) (p : Pair) (n : node.Node) (how : rules.Treatment) → IsReady scan → IsAt scan p n → IsTreatment p.left p.right how → IsFirst n.pairs scan.passed.items p (reverse scan.rest.items) how
first scan p n how h k t = record { stands = sym k.pairs; before = h.left; treated = t }

-- A setting is put into pairs.
pub put_made : (ps qs : List Pair) (p : node.Path) (s : node.Setting) (scan : Scan) → AreLong (with_setting_put s ps) (AllLong qs) → IsScan scan (record { pairs = qs; path = further p s }) → IsPutInto ps p s (Ok scan)
put_made ps qs p s scan l h = (qs, l, h)

module _ (A : Algebra) (maxidx : ℕ) where
  pub passed_on : (scan next : Scan) (p : Pair) (n : node.Node) → IsAt scan p n → next.passed.items ≡ scan.passed.items ++ p ∷ [] → next.rest.items ≡ scan.rest.items → next.path ≡ scan.path → IsTurned A maxidx n (Ok (Onward next))
  passed_on scan next p n h e f g = (
    n,
    record {
      pairs = (λ i. e i ++ reverse (f i)) ∙ (append_assoc scan.passed.items (p ∷ []) (reverse scan.rest.items) ∙ h.pairs);
      path = subst (λ (path : Path). IsPath path n.path) (sym g) h.path;
    },
    λ v s. s,
  )

  pub dropped_on : (scan : Scan) (p : Pair) (n : node.Node) → IsReady scan → IsAt scan p n → IsTreatment p.left p.right rules.Drop → IsTurned A maxidx n (Ok (Onward scan))
  dropped_on scan p n h k t = (with_pairs n (scanned scan), record { pairs = refl; path = k.path }, λ v s. step (drops (first scan p n rules.Drop h k t)) s)

  pub failed_there : (scan : Scan) (p : Pair) (n : node.Node) → IsReady scan → IsAt scan p n → IsTreatment p.left p.right rules.Fail → IsTurned A maxidx n (Ok (Ends Failed))
  failed_there scan p n h k t = failed (fails (first scan p n rules.Fail h k t))

  pub split_on : (scan next : Scan) (p : Pair) (n : node.Node) → IsReady scan → IsAt scan p n → IsTreatment p.left p.right rules.Split → next.passed.items ≡ scan.passed.items
      → next.rest.items ≡ scan.rest.items ++ reverse (argument_pairs p.left p.right) → next.path ≡ scan.path → IsTurned A maxidx n (Ok (Onward next))
  split_on scan next p n h k t e f g = (
    with_pairs n (scan.passed.items ++ (argument_pairs p.left p.right ++ reverse scan.rest.items)),
    record {
      pairs = λ i. e i ++ (ap reverse f ∙ put_in_front scan.rest.items (argument_pairs p.left p.right)) i;
      path = subst (λ (path : Path). IsPath path n.path) (sym g) k.path;
    },
    λ v s. step (splits (first scan p n rules.Split h k t)) s,
  )

  pub put_on : (scan next : Scan) (b : TermBind) (p : Pair) (n : node.Node) (ps qs : List Pair) → IsReady scan → IsAt scan p n → IsTreatment p.left p.right (rules.Put b) → ps ≡ scanned scan
      → AreLong (with_setting_put (Single b) ps) (AllLong qs) → IsScan next (with_bind n b qs) → IsTurned A maxidx n (Ok (Onward next))
  put_on scan next b p n ps qs h k t e l s =
      let long = subst (λ (os : List Pair). AreLong (with_setting_put (Single b) os) (AllLong qs)) e l in
      (with_bind n b qs, s, λ v x. step (puts (first scan p n (rules.Put b) h k t) long) x)

  put_stopped : (scan : Scan) (b : TermBind) (p : Pair) (n : node.Node) (fault : NormFault) → IsReady scan → IsAt scan p n → IsTreatment p.left p.right (rules.Put b) → IsSidesFault (with_setting_put (Single b) (scanned scan)) fault → IsTurned A maxidx n (Err fault)
  put_stopped scan b p n Big h k t s = halted (put_stops (first scan p n (rules.Put b) h k t) s)
  put_stopped scan b p n Steps h k t s = halted (put_stops (first scan p n (rules.Put b) h k t) s)
  put_stopped scan b p n Memory h k t s = tt

  pub put_fault : (scan : Scan) (b : TermBind) (p : Pair) (n : node.Node) (ps : List Pair) (fault : NormFault) → IsReady scan → IsAt scan p n → IsTreatment p.left p.right (rules.Put b) → ps ≡ scanned scan → IsSidesFault (with_setting_put (Single b) ps) fault
      → IsTurned A maxidx n (Err fault)
  put_fault scan b p n ps fault h k t e s = put_stopped scan b p n fault h k t (subst (λ (os : List Pair). IsSidesFault (with_setting_put (Single b) os) fault) e s)

  -- Steps on types.
  retyped_some : (n : node.Node) (T U : Typ) (o : Option Node) (held : Node) → o ≡ Some held → IsRetypedNode A maxidx n T U (Ok o) → IsRetypedNode A maxidx n T U (Ok (Some held))
  retyped_some n T U o held e r = subst (λ (x : Option Node). IsRetypedNode A maxidx n T U (Ok x)) e r

  retyped_none : (n : node.Node) (T U : Typ) (o : Option Node) → o ≡ None → IsRetypedNode A maxidx n T U (Ok o) → IsRetyped A maxidx n T U Fails
  retyped_none n T U o e r = subst (λ (x : Option Node). IsRetypedNode A maxidx n T U (Ok x)) e r

  pub retyped_held : (n : node.Node) (T U : Typ) (o : Option Retyping) (r : Retyping) (held : Node) → o ≡ Some r → IsRetypingAnswer A maxidx n T U (Ok o) → held.pairs.items ≡ r.pairs.items
      → ((sets : List TypBind) → IsSetting r.setting (Typs sets) → IsPath held.path (record (further n.path (Typs sets)) { fresh = r.next })) → IsRetypedNode A maxidx n T U (Ok (Some held))
  retyped_held n T U o r held e h f g =
      let own : IsRetypingAnswer A maxidx n T U (Ok (Some r)) = subst (λ (x : Option Retyping). IsRetypingAnswer A maxidx n T U (Ok x)) e h in
      (retyped n own.sets r.next r.pairs.items, record { pairs = f; path = g own.sets own.held }, own.becomes)

  pub differ_on : (scan next : Scan) (p : Pair) (n : node.Node) (T U : Typ) (o : Option Node) (held : Node) → IsReady scan → IsAt scan p n → IsTreatment p.left p.right (rules.Differ T U) → o ≡ Some held → IsRetypedNode A maxidx n T U (Ok o)
      → ((m : node.Node) → IsNode held m → IsScan next m) → IsTurned A maxidx n (Ok (Onward next))
  differ_on scan next p n T U o held h k t e f s =
      let r = retyped_some n T U o held e f in
      (r.0, s r.0 r.1, λ v x. step (retypes (first scan p n (rules.Differ T U) h k t) r.2) x)

  pub differ_none : (scan : Scan) (p : Pair) (n : node.Node) (T U : Typ) (o : Option Node) → IsReady scan → IsAt scan p n → IsTreatment p.left p.right (rules.Differ T U) → o ≡ None → IsRetypedNode A maxidx n T U (Ok o) → IsTurned A maxidx n (Ok (Ends Failed))
  differ_none scan p n T U o h k t e r = failed (retypes (first scan p n (rules.Differ T U) h k t) (retyped_none n T U o e r))

  pub differ_fault : (scan : Scan) (p : Pair) (n : node.Node) (T U : Typ) (fault : NormFault) → IsReady scan → IsAt scan p n → IsTreatment p.left p.right (rules.Differ T U) → IsRetypedNode A maxidx n T U (Err fault) → IsTurned A maxidx n (Err fault)
  differ_fault scan p n T U Big h k t r = halted (retypes (first scan p n (rules.Differ T U) h k t) r)
  differ_fault scan p n T U Steps h k t r = halted (retypes (first scan p n (rules.Differ T U) h k t) r)
  differ_fault scan p n T U Memory h k t r = tt

  pub unify_on : (scan next : Scan) (p : Pair) (n : node.Node) (T U : Typ) (o : Option Node) (held : Node) (count : ℕ) → IsReady scan → IsAt scan p n → IsTreatment p.left p.right (rules.Unify T U) → o ≡ Some held → IsRetypedNode A maxidx n T U (Ok o)
      → length scan.passed.items ≡ count → ((front : List Pair) (m : node.Node) → length front ≡ count → IsNode held m → (split : node.Node) × IsScan next split × IsSplitAt front m split) → IsTurned A maxidx n (Ok (Onward next))
  unify_on scan next p n T U o held count h k t f g e s =
      let r = retyped_some n T U o held f g in
      let made = s scan.passed.items r.0 e r.1 in
      (made.0, made.1, λ v x. step (unifies (first scan p n (rules.Unify T U) h k t) r.2 made.2) x)

  pub unify_none : (scan : Scan) (p : Pair) (n : node.Node) (T U : Typ) (o : Option Node) → IsReady scan → IsAt scan p n → IsTreatment p.left p.right (rules.Unify T U) → o ≡ None → IsRetypedNode A maxidx n T U (Ok o) → IsTurned A maxidx n (Ok (Ends Failed))
  unify_none scan p n T U o h k t e r = failed (unify_fails (first scan p n (rules.Unify T U) h k t) (retyped_none n T U o e r))

  pub unify_fault : (scan : Scan) (p : Pair) (n : node.Node) (T U : Typ) (fault : NormFault) → IsReady scan → IsAt scan p n → IsTreatment p.left p.right (rules.Unify T U) → IsRetypedNode A maxidx n T U (Err fault) → IsTurned A maxidx n (Err fault)
  unify_fault scan p n T U Big h k t r = halted (unify_stops (first scan p n (rules.Unify T U) h k t) r)
  unify_fault scan p n T U Steps h k t r = halted (unify_stops (first scan p n (rules.Unify T U) h k t) r)
  unify_fault scan p n T U Memory h k t r = tt

  -- No pair is left: the node is simple.
  pub simple_there : (scan : Scan) (held : Node) (n : node.Node) → IsReady scan → IsScan scan n → scan.rest.items ≡ [] → held.pairs.items ≡ scan.passed.items → held.path ≡ scan.path → IsTurned A maxidx n (Ok (Ends (Simple held)))
  simple_there scan held n h k e f g =
      let all : scan.passed.items ≡ n.pairs = sym (append-nil scan.passed.items) ∙ (ap (λ ps. scan.passed.items ++ reverse ps) (sym e) ∙ k.pairs) in
      (n, record { pairs = f ∙ all; path = subst (λ (path : Path). IsPath path n.path) (sym g) k.path }, simple (subst (λ (ps : List Pair). Each IsLeft ps) all h.left))

  -- A row of turns.
  pub turns_on : (n : node.Node) (scan next : Scan) → IsTurned A maxidx n (Ok (Onward scan)) → ((m : node.Node) → IsScan scan m → IsTurned A maxidx m (Ok (Onward next))) → IsTurned A maxidx n (Ok (Onward next))
  turns_on n scan next h s = let later = s h.0 h.1 in (later.0, later.1, λ v x. h.2 v (later.2 v x))

  ends_there : (n m : node.Node) (r : Result Visited NormFault) → ((v : ends.Visit) → ends.Simplifies A maxidx m v → ends.Simplifies A maxidx n v) → IsSimplified A maxidx m r → IsSimplified A maxidx n r
  ends_there n m (Ok (Simple held)) f h = (h.0, h.1, f (ends.Simple h.0) h.2)
  ends_there n m (Ok Failed) f h = f ends.Failed h
  ends_there n m (Err Big) f h = f (ends.Halted _) h
  ends_there n m (Err Steps) f h = f (ends.Halted _) h
  ends_there n m (Err Memory) f h = tt

  pub turns_end : (n : node.Node) (scan : Scan) (r : Result Visited NormFault) → IsTurned A maxidx n (Ok (Onward scan)) → ((m : node.Node) → IsScan scan m → IsSimplified A maxidx m r) → IsSimplified A maxidx n r
  turns_end n scan r h s = ends_there n h.0 r h.2 (s h.0 h.1)

  -- A visit.
  visit_at : (n : node.Node) (qs : List Pair) (r : Result Visited NormFault) → AreLong n.pairs (AllLong qs) → IsSimplified A maxidx (with_pairs n qs) r → IsVisitAnswer A maxidx n r
  visit_at n qs (Ok (Simple held)) l h = (h.0, h.1, visited l h.2)
  visit_at n qs (Ok Failed) l h = visited l h
  visit_at n qs (Err Big) l h = visited l h
  visit_at n qs (Err Steps) l h = visited l h
  visit_at n qs (Err Memory) l h = tt

  pub visit_there : (n : node.Node) (ps qs : List Pair) (r : Result Visited NormFault) → ps ≡ n.pairs → AreLong ps (AllLong qs) → IsSimplified A maxidx (with_pairs n qs) r → IsVisitAnswer A maxidx n r
  visit_there n ps qs r e l h = visit_at n qs r (subst (λ (os : List Pair). AreLong os (AllLong qs)) e l) h

  visit_stopped : (n : node.Node) (fault : NormFault) → IsSidesFault n.pairs fault → IsVisitAnswer A maxidx n (Err fault)
  visit_stopped n Big h = visit_stops h
  visit_stopped n Steps h = visit_stops h
  visit_stopped n Memory h = tt

  pub visit_fault : (n : node.Node) (ps : List Pair) (fault : NormFault) → ps ≡ n.pairs → IsSidesFault ps fault → IsVisitAnswer A maxidx n (Err fault)
  visit_fault n ps fault e h = visit_stopped n fault (subst (λ (os : List Pair). IsSidesFault os fault) e h)
