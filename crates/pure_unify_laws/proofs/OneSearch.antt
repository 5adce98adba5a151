-- The search has one answer at most.
use Rattle.std.proofs.Common.{◌≡◌, ◌⊎◌, ℕ, ◌+◌, ◌<◌, List, ◌∷◌, ◌++◌, Bool, true, false, inl, inr, refl, sym, subst, ◌∙◌, arith}
use Rattle.pure_text.specs.Lists.{Each}
use Rattle.pure_text.proofs.ListLaws.{each-right}
use Rattle.pure_definitions.specs.Types.Order.{Algebra}
use Rattle.pure_definitions.specs.Terms.Term.{Term}
use Rattle.pure_logic.specs.Derivable.{Pair}
use Rattle.pure_order_tables.specs.Classes.{IsAntisymmetric}
use Rattle.pure_unify_definitions.specs.Fronts.{is_flexible}
use Rattle.pure_unify_definitions.specs.Node.{Node}
use Rattle.pure_unify_definitions.specs.LongSides.{Big}
use Rattle.pure_unify_definitions.specs.Simplification.{Visit, Simple, Failed, Halted, Visits}
use Rattle.pure_unify_definitions.specs.Children.{children, IsFlexFlex, HasFlexible, on_left, on_right, IsChoice}
use Rattle.pure_unify_definitions.specs.Search.{max_choices, max_nodes, AreImagesWithin, unifier_of, Answer, Unified, SearchBound, Stopped, Searches, over, over_cut, bound, node_fails, node_stops, success, too_large, node_is_cut, inner, IsUnifyAnswer}
use Rattle.pure_unify_laws.proofs.OneStep.{first-once, visits-once}

true-or-false : (b : Bool) → b ≡ true → b ≡ false → ⊥
true-or-false b e f = absurd (cc)

-- A pair with one flexible side isn't flexible on both.
not-both-flexible : (p : Pair) (f h : Term) → HasFlexible p f h → ¬ IsFlexFlex p
not-both-flexible p f h (on_left a b c d) both = true-or-false (is_flexible p.right) both.right b
not-both-flexible p f h (on_right a b c d) both = true-or-false (is_flexible p.left) both.left a

heads-once : (p : Pair) (f g h k : Term) → HasFlexible p f h → HasFlexible p g k → (f ≡ g) × (h ≡ k)
heads-once p f g h k (on_left a b c d) (on_left e i j l) = (c ∙ sym j, d ∙ sym l)
heads-once p f g h k (on_left a b c d) (on_right e i j l) = absurd (true-or-false (is_flexible p.left) a e)
heads-once p f g h k (on_right a b c d) (on_left e i j l) = absurd (true-or-false (is_flexible p.left) e a)
heads-once p f g h k (on_right a b c d) (on_right e i j l) = (c ∙ sym j, d ∙ sym l)

choice-once : (ps : List Pair) (f g h k : Term) → IsChoice ps f h → IsChoice ps g k → (f ≡ g) × (h ≡ k)
choice-once ps f g h k c d =
    let same = first-once IsFlexFlex c.front d.front c.pair d.pair c.rest d.rest (sym c.stands ∙ d.stands) c.before (not-both-flexible c.pair f h c.heads) d.before (not-both-flexible d.pair g k d.heads) in
    heads-once c.pair f g h k c.heads (subst (λ (p : Pair). HasFlexible p g k) (sym same.1.0) d.heads)

choice-not-all : (ps : List Pair) (f h : Term) → IsChoice ps f h → Each IsFlexFlex ps → ⊥
choice-not-all ps f h c each =
    let behind : Each IsFlexFlex (c.pair ∷ c.rest) = each-right IsFlexFlex c.front (c.pair ∷ c.rest) (subst (λ (qs : List Pair). Each IsFlexFlex qs) c.stands each) in
    not-both-flexible c.pair f h c.heads behind.0

module _ (A : Algebra) (anti : IsAntisymmetric A) (maxidx : ℕ) where
  -- How a search goes on behind a simplified node.
  data GoesOn (k : ℕ) (cut : Bool) (m : Node) (ns : List Node) (answer : Answer) : Type 0 where
    ends_well : Each IsFlexFlex m.pairs → AreImagesWithin (unifier_of m) → answer ≡ Unified (unifier_of m) → GoesOn k cut m ns answer
    ends_large : Each IsFlexFlex m.pairs → ¬ AreImagesWithin (unifier_of m) → answer ≡ Stopped Big → GoesOn k cut m ns answer
    is_cut : (f h : Term) → IsChoice m.pairs f h → m.path.choices ≡ max_choices → Searches A maxidx (k + 1) true ns answer → GoesOn k cut m ns answer
    has_children : (f h : Term) → IsChoice m.pairs f h → m.path.choices < max_choices → Searches A maxidx (k + 1) cut (children maxidx m f h ++ ns) answer → GoesOn k cut m ns answer

  abbrev Turns : ℕ → Bool → List Node → Answer → Visit → Type 0
  Turns k cut ns answer (Simple m) = GoesOn k cut m ns answer
  Turns k cut ns answer Failed = Searches A maxidx (k + 1) cut ns answer
  Turns k cut ns answer (Halted s) = answer ≡ Stopped s

  -- A search at a node: the bound is reached, or the node is visited.
  abbrev IsTurn : ℕ → Bool → Node → List Node → Answer → Type 0
  IsTurn k cut n ns answer = ((k ≡ max_nodes) × (answer ≡ SearchBound)) ⊎ ((k < max_nodes) × ((visit : Visit) × Visits A maxidx n visit × Turns k cut ns answer visit))

  as-turn : (k : ℕ) (cut : Bool) (n : Node) (ns : List Node) (answer : Answer) → Searches A maxidx k cut (n ∷ ns) answer → IsTurn k cut n ns answer
  as-turn k cut n ns answer (bound e) = inl (e, refl)
  as-turn k cut n ns answer (node_fails w v s) = inr (w, (Failed, v, s))
  as-turn k cut n ns answer (node_stops {s = s} w v) = inr (w, (Halted s, v, refl))
  as-turn k cut n ns answer (success {m = m} w v f i) = inr (w, (Simple m, v, ends_well f i refl))
  as-turn k cut n ns answer (too_large {m = m} w v f i) = inr (w, (Simple m, v, ends_large f i refl))
  as-turn k cut n ns answer (node_is_cut {m = m} {f = f} {h = h} w v c e s) = inr (w, (Simple m, v, is_cut f h c e s))
  as-turn k cut n ns answer (inner {m = m} {f = f} {h = h} w v c e s) = inr (w, (Simple m, v, has_children f h c e s))

  -- The other search turns in the same way.
  turned : (k : ℕ) (cut : Bool) (n : Node) (ns : List Node) (other : Answer) (visit : Visit) → k < max_nodes → Visits A maxidx n visit → IsTurn k cut n ns other → Turns k cut ns other visit
  turned k cut n ns other visit w v (inl (e, f)) = absurd (omega arith)
  turned k cut n ns other visit w v (inr (x, (sight, u, turns))) = subst (λ (s : Visit). Turns k cut ns other s) (visits-once A anti maxidx n sight visit u v) turns

  at-bound : (k : ℕ) (cut : Bool) (n : Node) (ns : List Node) (other : Answer) → k ≡ max_nodes → IsTurn k cut n ns other → SearchBound ≡ other
  at-bound k cut n ns other e (inl (f, g)) = sym g
  at-bound k cut n ns other e (inr (w, (visit, v, turns))) = absurd (omega arith)

  well-once : (k : ℕ) (cut : Bool) (m : Node) (ns : List Node) (other : Answer) → Each IsFlexFlex m.pairs → AreImagesWithin (unifier_of m) → GoesOn k cut m ns other → Unified (unifier_of m) ≡ other
  well-once k cut m ns other f i (ends_well g j e) = sym e
  well-once k cut m ns other f i (ends_large g j e) = absurd (j i)
  well-once k cut m ns other f i (is_cut g h c e s) = absurd (choice-not-all m.pairs g h c f)
  well-once k cut m ns other f i (has_children g h c e s) = absurd (choice-not-all m.pairs g h c f)

  large-once : (k : ℕ) (cut : Bool) (m : Node) (ns : List Node) (other : Answer) → Each IsFlexFlex m.pairs → ¬ AreImagesWithin (unifier_of m) → GoesOn k cut m ns other → Stopped Big ≡ other
  large-once k cut m ns other f i (ends_well g j e) = absurd (i j)
  large-once k cut m ns other f i (ends_large g j e) = sym e
  large-once k cut m ns other f i (is_cut g h c e s) = absurd (choice-not-all m.pairs g h c f)
  large-once k cut m ns other f i (has_children g h c e s) = absurd (choice-not-all m.pairs g h c f)

  cut-once : (k : ℕ) (cut : Bool) (m : Node) (ns : List Node) (one other : Answer) (f h : Term) → IsChoice m.pairs f h → m.path.choices ≡ max_choices
      → (Searches A maxidx (k + 1) true ns other → one ≡ other) → GoesOn k cut m ns other → one ≡ other
  cut-once k cut m ns one other f h c e rest (ends_well g j i) = absurd (choice-not-all m.pairs f h c g)
  cut-once k cut m ns one other f h c e rest (ends_large g j i) = absurd (choice-not-all m.pairs f h c g)
  cut-once k cut m ns one other f h c e rest (is_cut g i d j s) = rest s
  cut-once k cut m ns one other f h c e rest (has_children g i d j s) = absurd (omega arith)

  inner-once : (k : ℕ) (cut : Bool) (m : Node) (ns : List Node) (one other : Answer) (f h : Term) → IsChoice m.pairs f h → m.path.choices < max_choices
      → (Searches A maxidx (k + 1) cut (children maxidx m f h ++ ns) other → one ≡ other) → GoesOn k cut m ns other → one ≡ other
  inner-once k cut m ns one other f h c e rest (ends_well g j i) = absurd (choice-not-all m.pairs f h c g)
  inner-once k cut m ns one other f h c e rest (ends_large g j i) = absurd (choice-not-all m.pairs f h c g)
  inner-once k cut m ns one other f h c e rest (is_cut g i d j s) = absurd (omega arith)
  inner-once k cut m ns one other f h c e rest (has_children g i d j s) =
      let same = choice-once m.pairs f g h i c d in
      rest (rw (same.0, same.1) s)

  searches-once : {k : ℕ} {cut : Bool} {ns : List Node} {one : Answer} → Searches A maxidx k cut ns one → (other : Answer) → Searches A maxidx k cut ns other → one ≡ other
  searches-once over other over = refl
  searches-once over_cut other over_cut = refl
  searches-once (bound {k = k} {cut = cut} {n = n} {ns = ns} e) other g = at-bound k cut n ns other e (as-turn k cut n ns other g)
  searches-once (node_fails {k = k} {cut = cut} {n = n} {ns = ns} w v s) other g = searches-once s other (turned k cut n ns other Failed w v (as-turn k cut n ns other g))
  searches-once (node_stops {k = k} {cut = cut} {n = n} {ns = ns} {s = s} w v) other g = sym (turned k cut n ns other (Halted s) w v (as-turn k cut n ns other g))
  searches-once (success {k = k} {cut = cut} {n = n} {m = m} {ns = ns} w v f i) other g = well-once k cut m ns other f i (turned k cut n ns other (Simple m) w v (as-turn k cut n ns other g))
  searches-once (too_large {k = k} {cut = cut} {n = n} {m = m} {ns = ns} w v f i) other g = large-once k cut m ns other f i (turned k cut n ns other (Simple m) w v (as-turn k cut n ns other g))
  searches-once {one = one} (node_is_cut {k = k} {cut = cut} {n = n} {m = m} {ns = ns} {f = f} {h = h} w v c e s) other g =
      cut-once k cut m ns one other f h c e (λ r. searches-once s other r) (turned k cut n ns other (Simple m) w v (as-turn k cut n ns other g))
  searches-once {one = one} (inner {k = k} {cut = cut} {n = n} {m = m} {ns = ns} {f = f} {h = h} w v c e s) other g =
      inner-once k cut m ns one other f h c e (λ r. searches-once s other r) (turned k cut n ns other (Simple m) w v (as-turn k cut n ns other g))

pub search_has_one_answer : (A : Algebra) → IsAntisymmetric A → (maxidx : ℕ) (pairs : List Pair) (one other : Answer) → IsUnifyAnswer A maxidx pairs one → IsUnifyAnswer A maxidx pairs other → one ≡ other
search_has_one_answer A anti maxidx pairs one other f g = searches-once A anti maxidx f other g
