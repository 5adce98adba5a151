-- Visits of the root and of children.
use Rattle.std.proofs.Common.{◌≡◌, ℕ, ◌+◌, ◌≤◌, List, [], ◌∷◌, ◌++◌, refl, ap, sym, subst, ◌∙◌, arith}
use Rattle.std.specs.Prelude.{Result, Ok, Err, IfOk}
use Rattle.pure_text.specs.Lists.{Each, EachTwo}
use Rattle.pure_definitions.specs.Types.Typ.{Typ}
use Rattle.pure_definitions.specs.Types.Order.{Algebra}
use Rattle.pure_definitions.specs.Terms.Term.{Term}
use Rattle.pure_logic.specs.Derivable.{Pair}
use Rattle.pure_norm.specs.declared.fault.NormFault.{NormFault}
use Rattle.pure_norm.specs.declared.fault.NormFault.TheVariants.{Steps, Big, Memory}
use Rattle.pure_unify_definitions.specs.LongSides.{AllLong, AreLong}
use Rattle.pure_unify_definitions.specs.Node as nodes
use Rattle.pure_unify_definitions.specs.Node.{Single, bind, with_setting_put, further}
use Rattle.pure_unify_steps.specs.declared.node.Setting.TheVariants.{OfTerm}
use Rattle.pure_unify_definitions.specs.Treatment.{left}
use Rattle.pure_unify_definitions.specs.Simplification.{IsLeft, with_pairs, visited, visit_stops}
use Rattle.pure_unify_definitions.specs.Children.{IsFlexFlex, child}
use Rattle.pure_unify_definitions.specs.Search.{max_choices}
use Rattle.pure_unify_nodes.specs.SideAnswer.{IsSidesFault}
use Rattle.pure_unify_steps.specs.declared.node.Node.{Node}
use Rattle.pure_unify_steps.specs.declared.node.Path.{Path}
use Rattle.pure_unify_steps.specs.declared.node.Setting.{Setting}
use Rattle.pure_unify_steps.specs.Held.{IsSetting, IsPath, IsNode}
use Rattle.pure_unify_nodes.specs.Long.{IsLongPair}
use Rattle.pure_unify_visits.specs.declared.scan.Visited.{Visited}
use Rattle.pure_unify_visits.specs.declared.scan.Visited.TheVariants.{Simple, Failed}
use Rattle.pure_unify_visits.specs.Visited.{IsSimplified, IsVisitAnswer, IsLongVisit}
use Rattle.pure_unify.specs.declared.search.Frame.{Frame}
use Rattle.pure_unify.specs.Later.{IsSingle}
use Rattle.pure_unify.specs.Unified.{IsLeftOver}
use Rattle.pure_unify.specs.Frames.{IsOpen, IsSimpleHeld, IsSimpleVisit, IsReady}
use Rattle.pure_unify.proofs.PathLaws.{held_singles}
use Rattle.pure_unify.proofs.VisitLaws.{visit_left, visit_choices}

-- A visit comes to a simple node.
pub visit_simple : (A : Algebra) (maxidx : ℕ) (n : nodes.Node) (r : Result Visited NormFault) → n.path.choices ≤ max_choices → IsVisitAnswer A maxidx n r → IfOk r IsLongVisit → IfOk r IsSimpleVisit
visit_simple A maxidx n (Ok (Simple held)) few h long =
    let same = h.1.path.choices ∙ visit_choices A maxidx n h.0 h.2 in
    record { node = h.0; is = h.1; left = visit_left A maxidx n h.0 h.2; long = long; few = subst (λ c. c ≤ max_choices) (sym same) few }
visit_simple A maxidx n (Ok Failed) few h long = tt
visit_simple A maxidx n (Err fault) few h long = tt

-- The sides are brought to long form, and the node is simplified.
pub visited_answer : (A : Algebra) (maxidx : ℕ) (n : nodes.Node) (qs : List Pair) (r : Result Visited NormFault) → AreLong n.pairs (AllLong qs) → IsSimplified A maxidx (with_pairs n qs) r → IsVisitAnswer A maxidx n r
visited_answer A maxidx n qs (Ok (Simple held)) long h = (h.0, h.1, visited long h.2)
visited_answer A maxidx n qs (Ok Failed) long h = visited long h
visited_answer A maxidx n qs (Err Big) long h = visited long h
visited_answer A maxidx n qs (Err Steps) long h = visited long h
visited_answer A maxidx n qs (Err Memory) long h = tt

pub stopped_answer : (A : Algebra) (maxidx : ℕ) (n : nodes.Node) (fault : NormFault) → IsSidesFault n.pairs fault → IsVisitAnswer A maxidx n (Err fault)
stopped_answer A maxidx n Big h = visit_stops h
stopped_answer A maxidx n Steps h = visit_stops h
stopped_answer A maxidx n Memory h = tt

-- No rule applies to the pairs: one side of each is flexible, and both are of one type.
left-open : (p : Pair) → IsLeft p → IsOpen p
left-open p (left past flexible) = record { flexible = flexible; typ = past.typed.typ; left = past.typed.left; right = past.typed.right }

lefts-open : (ps : List Pair) → Each IsLeft ps → Each IsOpen ps
lefts-open [] h = tt
lefts-open (p ∷ ps) h = (left-open p h.0, lefts-open ps h.1)

pub simple_open : (held : Node) → IsSimpleHeld held → Each IsOpen held.pairs.items
simple_open held h = subst (λ (ps : List Pair). Each IsOpen ps) (sym h.is.pairs) (lefts-open h.node.pairs h.left)

pub simple_singles : (held : Node) → IsSimpleHeld held → Each IsSingle held.path.settings.items
simple_singles held h = held_singles held.path.settings.items h.node.path.settings h.is.path.settings

-- A node with the same pairs and the same path.
pub same_node : (held other : Node) (m : nodes.Node) → other.pairs.items ≡ held.pairs.items → other.path ≡ held.path → IsNode held m → IsNode other m
same_node held other m pairs path h = record { pairs = pairs ∙ h.pairs; path = subst (λ (p : Path). IsPath p m.path) (sym path) h.path }

pub same_simple : (held other : Node) → other.pairs.items ≡ held.pairs.items → other.path ≡ held.path → IsSimpleHeld held → IsSimpleHeld other
same_simple held other pairs path h = record {
  node = h.node;
  is = same_node held other h.node pairs path h.is;
  left = h.left;
  long = subst (λ (ps : List Pair). Each IsLongPair ps) (sym pairs) h.long;
  few = subst (λ (p : Path). p.choices ≤ max_choices) (sym path) h.few;
}

-- The pairs of a success may be left.
left-over : (ps : List Pair) → Each IsOpen ps → Each IsLongPair ps → Each IsFlexFlex ps → Each IsLeftOver ps
left-over [] o l f = tt
left-over (p ∷ ps) o l f =
    (record { flexible = f.0; left_long = l.0.0.form; right_long = l.0.1.form; typ = o.0.typ; left_typed = o.0.left; right_typed = o.0.right }, left-over ps o.1 l.1 f.1)

pub simple_left_over : (held : Node) (ps : List Pair) → IsSimpleHeld held → Each IsFlexFlex held.pairs.items → ps ≡ held.pairs.items → Each IsLeftOver ps
simple_left_over held ps h flexible e = subst (λ (qs : List Pair). Each IsLeftOver qs) (sym e) (left-over held.pairs.items (simple_open held h) h.long flexible)

-- The path of a child.
each-two-more : (hs : List Setting) (ss : List nodes.Setting) (h : Setting) (s : nodes.Setting) → EachTwo IsSetting hs ss → IsSetting h s → EachTwo IsSetting (hs ++ h ∷ []) (ss ++ s ∷ [])
each-two-more [] [] h s e k = (k, tt)
each-two-more [] (t ∷ ss) h s e k = absurd e
each-two-more (g ∷ hs) [] h s e k = absurd e
each-two-more (g ∷ hs) (t ∷ ss) h s e k = (e.0, each-two-more hs ss h s e.1 k)

pub path_child : (held new : Path) (p : nodes.Path) (setting : Setting) (s : nodes.Setting) → new.settings.items ≡ held.settings.items ++ setting ∷ [] → new.choices ≡ held.choices + 1 → new.fresh ≡ held.fresh → IsPath held p → IsSetting setting s
    → IsPath new (record (further p s) { choices = p.choices + 1 })
path_child held new p setting s settings choices fresh h k = record {
  settings = subst (λ (hs : List Setting). EachTwo IsSetting hs (p.settings ++ s ∷ [])) (sym settings) (each-two-more held.settings.items p.settings setting s h.settings k);
  choices = choices ∙ ap (λ n. n + 1) h.choices;
  fresh = fresh ∙ h.fresh;
}

-- A child is visited.
single_setting : (setting : Setting) (x i : ℕ) (T : Typ) (u : Term) → setting ≡ OfTerm (bind x i T u ∷ []) → IsSetting setting (Single (bind x i T u))
single_setting setting x i T u e = subst (λ (s : Setting). IsSetting s (Single (bind x i T u))) (sym e) refl

pub child_stopped : (A : Algebra) (maxidx : ℕ) (frame : Frame) (n : nodes.Node) (image : Term) (setting : Setting) (ps : List Pair) (fault : NormFault) → IsNode frame.node n → setting ≡ OfTerm (bind frame.branch.name frame.branch.index frame.branch.typ image ∷ [])
    → ps ≡ frame.node.pairs.items → ((s : nodes.Setting) → IsSetting setting s → IsSidesFault (with_setting_put s ps) fault) → IsVisitAnswer A maxidx (child n frame.branch.name frame.branch.index frame.branch.typ image) (Err fault)
child_stopped A maxidx frame n image setting ps fault is e same h =
    let b = bind frame.branch.name frame.branch.index frame.branch.typ image in
    let own = h (Single b) (single_setting setting frame.branch.name frame.branch.index frame.branch.typ image e) in
    stopped_answer A maxidx (child n frame.branch.name frame.branch.index frame.branch.typ image) fault
    (subst (λ (qs : List Pair). IsSidesFault (with_setting_put (Single b) qs) fault) (same ∙ is.pairs) own)

pub child_visited : (A : Algebra) (maxidx : ℕ) (frame : Frame) (n : nodes.Node) (image : Term) (setting : Setting) (ps made : List Pair) (path : Path) (r : Result Visited NormFault) → IsNode frame.node n
    → setting ≡ OfTerm (bind frame.branch.name frame.branch.index frame.branch.typ image ∷ []) → ps ≡ frame.node.pairs.items → ((s : nodes.Setting) → IsSetting setting s → AreLong (with_setting_put s ps) (AllLong made))
    → ((p : nodes.Path) (s : nodes.Setting) → IsPath frame.node.path p → IsSetting setting s → IsPath path (record (further p s) { choices = p.choices + 1 }))
    → ((m : nodes.Node) → made ≡ m.pairs → IsPath path m.path → IsSimplified A maxidx m r) → IsVisitAnswer A maxidx (child n frame.branch.name frame.branch.index frame.branch.typ image) r
child_visited A maxidx frame n image setting ps made path r is e same long below simplified =
    let b = bind frame.branch.name frame.branch.index frame.branch.typ image in
    let set = single_setting setting frame.branch.name frame.branch.index frame.branch.typ image e in
    let c = child n frame.branch.name frame.branch.index frame.branch.typ image in
    visited_answer A maxidx c made r (subst (λ (qs : List Pair). AreLong (with_setting_put (Single b) qs) (AllLong made)) (same ∙ is.pairs) (long (Single b) set))
    (simplified (with_pairs c made) refl (below n.path (Single b) is.path set))

pub child_simple : (A : Algebra) (maxidx : ℕ) (frame : Frame) (image : Term) (r : Result Visited NormFault) (h : IsReady frame) → IsVisitAnswer A maxidx (child h.parent frame.branch.name frame.branch.index frame.branch.typ image) r → IfOk r IsLongVisit → IfOk r IsSimpleVisit
child_simple A maxidx frame image r h answer long =
    let few = h.few in
    let same : frame.node.path.choices ≡ h.parent.path.choices = h.held.path.choices in
    visit_simple A maxidx (child h.parent frame.branch.name frame.branch.index frame.branch.typ image) r (omega arith) answer long
