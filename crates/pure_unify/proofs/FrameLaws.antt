-- The nodes that frames hold, and what comes of one of them.
use Rattle.std.proofs.Common.{◌≡◌, ℕ, ◌+◌, ◌<◌, ◌≤◌, List, [], ◌∷◌, ◌++◌, map, length, Bool, true, refl, ap, sym, subst, ◌∙◌, arith, append_assoc}
use Rattle.std.specs.Prelude.{Result, Ok, Err, Option, Some, None, IfOk, IfSome}
use Rattle.std.proofs.lemmas.List.{append-nil}
use Rattle.pure_text.specs.Lists.{Each}
use Rattle.pure_definitions.specs.Types.Order.{Algebra}
use Rattle.pure_definitions.specs.Terms.Term.{Term, Var}
use Rattle.pure_logic.specs.Derivable.{Pair}
use Rattle.pure_unify_definitions.specs.Node as node
use Rattle.pure_unify_definitions.specs.LongSides as sides
use Rattle.pure_unify_definitions.specs.Simplification as rules
use Rattle.pure_unify_definitions.specs.Simplification.{IsLeft, Visits}
use Rattle.pure_unify_definitions.specs.Children.{IsFlexFlex, IsChoice, child, images, children}
use Rattle.pure_unify_definitions.specs.Search as search
use Rattle.pure_unify_definitions.specs.Search.{Searches, AreImagesWithin, unifier_of, max_choices, max_nodes, over, over_cut, bound, node_fails, node_stops, success, too_large, node_is_cut, inner}
use Rattle.pure_unify_steps.specs.declared.node.Node.{Node}
use Rattle.pure_unify_steps.specs.Held.{IsNode}
use Rattle.pure_unify.specs.declared.branch.Branch.{Branch}
use Rattle.pure_unify.specs.declared.branch.Chosen.TheVariants as chosen
use Rattle.pure_unify.specs.declared.search.Frame.{Frame}
use Rattle.pure_unify.specs.declared.search.Search.{Search}
use Rattle.pure_unify.specs.declared.unifier.Unifier.{Unifier}
use Rattle.pure_unify.specs.declared.fault.UnifyFault.{UnifyFault}
use Rattle.pure_unify.specs.declared.fault.UnifyFault.TheVariants.{NoUnifier, SearchBound, Steps, Big, Memory}
use Rattle.pure_unify.specs.Unified.{seen, IsToldAs, UnlessStopped, IsLeftOver}
use Rattle.pure_unify.specs.Frames.{images_left, IsBranch, IsChosen, IsFrame, HoldNodes, IsStep, IsSuccess, AreLeftOver}

-- One frame more holds its nodes before the others.
pub hold_more : (fs : List Frame) (f : Frame) (mine ns : List node.Node) → HoldNodes fs ns → IsFrame f mine → HoldNodes (fs ++ f ∷ []) (mine ++ ns)
hold_more [] f mine ns h own = (mine, [], own, refl, ap (λ (xs : List node.Node). mine ++ xs) h ∙ append-nil mine)
hold_more (g ∷ fs) f mine ns h own =
    (h.0, mine ++ h.1, h.2, hold_more fs f mine h.1 h.3 own, ap (λ (xs : List node.Node). mine ++ xs) h.4 ∙ sym (append_assoc mine h.1 h.0))

pub record AreHeldLast (fs : List Frame) (f : Frame) (ns : List node.Node) : Type 0 where
  pub mine : List node.Node
  pub later : List node.Node
  pub own : IsFrame f mine
  pub others : HoldNodes fs later
  pub are : ns ≡ mine ++ later

pub hold_last : (fs : List Frame) (f : Frame) (ns : List node.Node) → HoldNodes (fs ++ f ∷ []) ns → AreHeldLast fs f ns
hold_last [] f ns h = record { mine = h.0; later = []; own = h.2; others = refl; are = h.4 ∙ (ap (λ (xs : List node.Node). xs ++ h.0) h.3 ∙ sym (append-nil h.0)) }
hold_last (g ∷ fs) f ns h =
    let rest = hold_last fs f h.1 h.3 in
    record {
      mine = rest.mine;
      later = rest.later ++ h.0;
      own = rest.own;
      others = (h.0, rest.later, h.2, rest.others, refl);
      are = h.4 ∙ (ap (λ (xs : List node.Node). xs ++ h.0) rest.are ∙ append_assoc rest.mine rest.later h.0);
    }

-- What is told of one search is told of another.
pub told_of : (P Q : search.Answer → Type 0) → ((answer : search.Answer) → P answer → Q answer) → (result : Result Unifier UnifyFault) → IsToldAs P result → IsToldAs Q result
told_of P Q f (Ok u) h = f (search.Unified (seen u)) h
told_of P Q f (Err NoUnifier) h = f search.NoUnifier h
told_of P Q f (Err SearchBound) h = f search.SearchBound h
told_of P Q f (Err Steps) h = f (search.Stopped sides.Steps) h
told_of P Q f (Err Big) h = f (search.Stopped sides.Big) h
told_of P Q f (Err Memory) h = tt

-- So is what is told of a search that may be broken off.
pub unless_stopped : (P Q : Result Unifier UnifyFault → Type 0) → ((result : Result Unifier UnifyFault) → P result → Q result) → (result : Result (Option Unifier) UnifyFault) → UnlessStopped P result → UnlessStopped Q result
unless_stopped P Q f (Ok (Some u)) h = f (Ok u) h
unless_stopped P Q f (Ok None) h = tt
unless_stopped P Q f (Err fault) h = f (Err fault) h

pub step_of : (A : Algebra) (maxidx : ℕ) (P Q : search.Answer → Type 0) (new : Search) → ((answer : search.Answer) → P answer → Q answer) → (result : Result (Option Unifier) UnifyFault) → IsStep A maxidx P new result → IsStep A maxidx Q new result
step_of A maxidx P Q new f (Ok None) h = (h.0, h.1, λ answer s. f answer (h.2 answer s))
step_of A maxidx P Q new f (Ok (Some u)) h = told_of P Q f (Ok u) h
step_of A maxidx P Q new f (Err fault) h = told_of P Q f (Err fault) h

-- The node fails.
pub step_failed : (A : Algebra) (maxidx : ℕ) (n : node.Node) (ns : List node.Node) (k : ℕ) (s : Search) → Visits A maxidx n rules.Failed → HoldNodes s.frames.items ns → s.visited ≡ k + 1 → k < max_nodes
    → IsStep A maxidx (Searches A maxidx k s.cut (n ∷ ns)) s (Ok None)
step_failed A maxidx n ns k s v hold e few = (ns, hold, λ answer rest. node_fails few v (subst (λ m. Searches A maxidx m s.cut ns answer) e rest))

-- The node is cut.
pub step_cut : (A : Algebra) (maxidx : ℕ) (n m : node.Node) (ns : List node.Node) (k : ℕ) (held : Node) (s new : Search) → IsNode held m → Visits A maxidx n (rules.Simple m) → HoldNodes s.frames.items ns → s.visited ≡ k + 1 → k < max_nodes
    → IsChosen maxidx held.pairs.items held.path.choices chosen.Cut → new.frames.items ≡ s.frames.items → new.visited ≡ s.visited → new.cut ≡ true → IsStep A maxidx (Searches A maxidx k s.cut (n ∷ ns)) new (Ok None)
step_cut A maxidx n m ns k held s new is v hold e few c frames visited cut =
    let choice : IsChoice m.pairs c.0 c.1 = subst (λ (ps : List Pair). IsChoice ps c.0 c.1) is.pairs c.2 in (
      ns,
      subst (λ (fs : List Frame). HoldNodes fs ns) (sym frames) hold,
      λ answer rest. node_is_cut few v choice (sym is.path.choices ∙ c.3) (subst (λ (l : Bool). Searches A maxidx (k + 1) l ns answer) cut (subst (λ j. Searches A maxidx j new.cut ns answer) (visited ∙ e) rest)),
    )

-- Its children come next.
branch-holds : (maxidx : ℕ) (held : Node) (m : node.Node) (branch : Branch) (frame : Frame) → IsNode held m → (b : IsBranch held.pairs.items (maxidx + (held.path.choices + 1)) branch) → frame ≡ record { node = held; branch = branch }
    → IsFrame frame (children maxidx m (Var branch.name branch.index branch.typ) b.rigid)
branch-holds maxidx held m branch frame is b e =
    let own : List node.Node = children maxidx m (Var branch.name branch.index branch.typ) b.rigid in
    subst (λ (f : Frame). IsFrame f own) (sym e) (record {
      parent = m;
      held = is;
      are = ap (λ j. map (child m branch.name branch.index branch.typ) (images (maxidx + (j + 1)) branch.typ b.rigid)) (sym is.path.choices)
          ∙ ap (map (child m branch.name branch.index branch.typ)) (sym b.are);
    })

pub step_branch : (A : Algebra) (maxidx : ℕ) (n m : node.Node) (ns : List node.Node) (k : ℕ) (held : Node) (branch : Branch) (frame : Frame) (s new : Search) → IsNode held m → Visits A maxidx n (rules.Simple m) → HoldNodes s.frames.items ns → s.visited ≡ k + 1 → k < max_nodes
    → IsChosen maxidx held.pairs.items held.path.choices (chosen.At branch) → frame ≡ record { node = held; branch = branch } → new.frames.items ≡ s.frames.items ++ frame ∷ [] → new.visited ≡ s.visited → new.cut ≡ s.cut
    → IsStep A maxidx (Searches A maxidx k s.cut (n ∷ ns)) new (Ok None)
step_branch A maxidx n m ns k held branch frame s new is v hold e few c made frames visited cut =
    let mine = children maxidx m (Var branch.name branch.index branch.typ) c.0.rigid in
    let choice : IsChoice m.pairs (Var branch.name branch.index branch.typ) c.0.rigid = subst (λ (ps : List Pair). IsChoice ps (Var branch.name branch.index branch.typ) c.0.rigid) is.pairs c.0.choice in
    let below : m.path.choices < max_choices = subst (λ j. j < max_choices) is.path.choices c.1 in (
      mine ++ ns,
      subst (λ (fs : List Frame). HoldNodes fs (mine ++ ns)) (sym frames) (hold_more s.frames.items frame mine ns hold (branch-holds maxidx held m branch frame is c.0 made)),
      λ answer rest. inner few v choice below (subst (λ (l : Bool). Searches A maxidx (k + 1) l (mine ++ ns) answer) cut (subst (λ j. Searches A maxidx j new.cut (mine ++ ns) answer) (visited ∙ e) rest)),
    )

-- The node is a success.
pub step_success : (A : Algebra) (maxidx : ℕ) (n m : node.Node) (ns : List node.Node) (k : ℕ) (cut : Bool) (new : Search) (result : Result (Option Unifier) UnifyFault) → Visits A maxidx n (rules.Simple m) → k < max_nodes → Each IsFlexFlex m.pairs → IsSuccess m result
    → IsStep A maxidx (Searches A maxidx k cut (n ∷ ns)) new result
step_success A maxidx n m ns k cut new (Ok (Some u)) v few flexible h =
    subst (λ (w : search.Unifier). Searches A maxidx k cut (n ∷ ns) (search.Unified w)) (sym h.0) (success few v flexible h.1)
step_success A maxidx n m ns k cut new (Ok None) v few flexible h = absurd h
step_success A maxidx n m ns k cut new (Err Big) v few flexible h = too_large few v flexible h
step_success A maxidx n m ns k cut new (Err Memory) v few flexible h = tt
step_success A maxidx n m ns k cut new (Err NoUnifier) v few flexible h = absurd h
step_success A maxidx n m ns k cut new (Err SearchBound) v few flexible h = absurd h
step_success A maxidx n m ns k cut new (Err Steps) v few flexible h = absurd h

-- An image is taken from a frame.
pub next_child : (frame : Frame) (mine : List node.Node) (image : Term) → IsFrame frame mine → (more : Frame) → more.node ≡ frame.node → more.branch.name ≡ frame.branch.name
    → more.branch.index ≡ frame.branch.index → more.branch.typ ≡ frame.branch.typ → images_left frame.branch ≡ image ∷ images_left more.branch
    → (n : node.Node) × (theirs : List node.Node) × IsNode more.node n × IsFrame more theirs × (mine ≡ child n more.branch.name more.branch.index more.branch.typ image ∷ theirs)
next_child frame mine image h more same_node same_name same_index same_typ e =
    let make : Term → node.Node = child h.parent more.branch.name more.branch.index more.branch.typ in
    let held : IsNode more.node h.parent = subst (λ (k : Node). IsNode k h.parent) (sym same_node) h.held in (
      h.parent,
      map make (images_left more.branch),
      held,
      record { parent = h.parent; held = held; are = refl },
      h.are ∙ (λ l. map (child h.parent (sym same_name l) (sym same_index l) (sym same_typ l)) (e l)),
    )

-- No image is left of a frame.
pub none_left : (A : Algebra) (maxidx : ℕ) (frame : Frame) (mine ns : List node.Node) (s : Search) → IsFrame frame mine → images_left frame.branch ≡ [] → HoldNodes s.frames.items ns → IsStep A maxidx (Searches A maxidx s.visited s.cut (mine ++ ns)) s (Ok None)
none_left A maxidx frame mine ns s is e hold =
    let none : mine ≡ [] = is.are ∙ ap (map (child is.parent frame.branch.name frame.branch.index frame.branch.typ)) e in
    (ns, hold, λ answer rest. subst (λ (xs : List node.Node). Searches A maxidx s.visited s.cut (xs ++ ns) answer) (sym none) rest)

-- The visit stops the search.
pub step_steps : (A : Algebra) (maxidx : ℕ) (n : node.Node) (ns : List node.Node) (k : ℕ) (cut : Bool) → Visits A maxidx n (rules.Halted sides.Steps) → k < max_nodes → Searches A maxidx k cut (n ∷ ns) (search.Stopped sides.Steps)
step_steps A maxidx n ns k cut v few = node_stops few v

pub step_big : (A : Algebra) (maxidx : ℕ) (n : node.Node) (ns : List node.Node) (k : ℕ) (cut : Bool) → Visits A maxidx n (rules.Halted sides.Big) → k < max_nodes → Searches A maxidx k cut (n ∷ ns) (search.Stopped sides.Big)
step_big A maxidx n ns k cut v few = node_stops few v

-- No node more may be visited.
pub step_bound : (A : Algebra) (maxidx : ℕ) (n : node.Node) (ns : List node.Node) (k : ℕ) (cut : Bool) → k ≤ max_nodes → max_nodes ≤ k → Searches A maxidx k cut (n ∷ ns) search.SearchBound
step_bound A maxidx n ns k cut few many = bound (omega arith)

-- What was visited is counted before.
pub step_counted : (A : Algebra) (maxidx : ℕ) (nodes : List node.Node) (k : ℕ) (old : Bool) (s new : Search) (result : Result (Option Unifier) UnifyFault) → s.cut ≡ old → IsStep A maxidx (Searches A maxidx k s.cut nodes) new result → IsStep A maxidx (Searches A maxidx k old nodes) new result
step_counted A maxidx nodes k old s new result e h = subst (λ (b : Bool). IsStep A maxidx (Searches A maxidx k b nodes) new result) e h

-- The nodes that come are told otherwise.
pub step_nodes : (A : Algebra) (maxidx k : ℕ) (cut : Bool) (xs ys : List node.Node) (new : Search) (result : Result (Option Unifier) UnifyFault) → ys ≡ xs → IsStep A maxidx (Searches A maxidx k cut xs) new result → IsStep A maxidx (Searches A maxidx k cut ys) new result
step_nodes A maxidx k cut xs ys new result e h = subst (λ (zs : List node.Node). IsStep A maxidx (Searches A maxidx k cut zs) new result) (sym e) h

-- The frames are all popped.
pub hold_none : (fs : List Frame) (ns : List node.Node) → length fs ≡ 0 → HoldNodes fs ns → ns ≡ []
hold_none [] ns e h = h
hold_none (f ∷ fs) ns e h = absurd (omega arith)

-- The flexible pairs of an answer at a success.
pub success_left : (result : Result (Option Unifier) UnifyFault) (ps : List Pair) → IfOk result (λ o. IfSome o (λ u. u.flexflex.items ≡ ps)) → ((qs : List Pair) → qs ≡ ps → Each IsLeftOver qs) → IfOk result AreLeftOver
success_left (Ok (Some u)) ps h f = f u.flexflex.items h
success_left (Ok None) ps h f = tt
success_left (Err fault) ps h f = tt

-- A step with its answer, and one that goes on.
pub found_at : (A : Algebra) (maxidx : ℕ) (Whole : search.Answer → Type 0) (new : Search) (o : Option Unifier) (u : Unifier) → o ≡ Some u → IsStep A maxidx Whole new (Ok o) → Whole (search.Unified (seen u))
found_at A maxidx Whole new o u e h = whole (subst (λ (x : Option Unifier). IsStep A maxidx Whole new (Ok x)) e h)
  where
    whole : IsStep A maxidx Whole new (Ok (Some u)) → Whole (search.Unified (seen u))
    whole k = k

pub onward_at : (A : Algebra) (maxidx : ℕ) (Whole : search.Answer → Type 0) (new : Search) (o : Option Unifier) → o ≡ None → IsStep A maxidx Whole new (Ok o) → IsStep A maxidx Whole new (Ok None)
onward_at A maxidx Whole new o e h = subst (λ (x : Option Unifier). IsStep A maxidx Whole new (Ok x)) e h

pub none_held : (fs : List Frame) → fs ≡ [] → HoldNodes fs []
none_held fs e = subst (λ (gs : List Frame). HoldNodes gs []) (sym e) refl
