-- The heads of sides within the limits.
use Rattle.std.proofs.Common.{◌≡◌, ◌≤◌, List, ◌∷◌, true, ap, sym, subst, ◌∙◌, arith, true≢false}
use Rattle.pure_text.specs.Lists.{Each}
use Rattle.pure_text.proofs.ListLaws.{each-right}
use Rattle.pure_definitions.specs.Terms.Term.{Term, Const, Free, Var, Bound, Abs, App, term_depth}
use Rattle.pure_logic.specs.Derivable.{Pair}
use Rattle.pure_unify_definitions.specs.Fronts.{term_body, front, head, is_schematic}
use Rattle.pure_unify_definitions.specs.Children.{HasFlexible, on_left, on_right, IsChoice}
use Rattle.pure_unify_nodes.specs.Long.{IsLongSide, IsLongPair}
use Rattle.pure_unify.specs.Images.{HasCountable, IsCountableVariable}

body-depth : (t : Term) → term_depth (term_body t) ≤ term_depth t
body-depth (Const c T) = omega arith
body-depth (Free x T) = omega arith
body-depth (Var x i T) = omega arith
body-depth (Bound n) = omega arith
body-depth (Abs T b) = let inside = body-depth b in omega arith
body-depth (App f a) = omega arith

front-depth : (t : Term) → term_depth (front t) ≤ term_depth t
front-depth (Const c T) = omega arith
front-depth (Free x T) = omega arith
front-depth (Var x i T) = omega arith
front-depth (Bound n) = omega arith
front-depth (Abs T b) = omega arith
front-depth (App f a) = let inside = front-depth f in omega arith

head-depth : (t : Term) → term_depth (head t) ≤ term_depth t
head-depth t = let body = body-depth t in let inside = front-depth (term_body t) in omega arith

countable-head : (h : Term) → term_depth h ≤ 2000 → HasCountable h
countable-head (Const c T) e = omega arith
countable-head (Free x T) e = omega arith
countable-head (Var x i T) e = tt
countable-head (Bound n) e = tt
countable-head (Abs T b) e = tt
countable-head (App f a) e = tt

countable-variable : (v : Term) → is_schematic v ≡ true → term_depth v ≤ 2000 → IsCountableVariable v
countable-variable (Var x i T) s e = omega arith
countable-variable (Const c T) s e = absurd (true≢false (sym s))
countable-variable (Free x T) s e = absurd (true≢false (sym s))
countable-variable (Bound n) s e = absurd (true≢false (sym s))
countable-variable (Abs T b) s e = absurd (true≢false (sym s))
countable-variable (App f a) s e = absurd (true≢false (sym s))

shallow : (t h : Term) → IsLongSide t → h ≡ head t → term_depth h ≤ 2000
shallow t h long e =
    let within : term_depth t ≤ 2000 = long.within.depth in
    let top = head-depth t in
    let same : term_depth h ≡ term_depth (head t) = ap term_depth e in
    omega arith

pub choice_countable : (ps : List Pair) (f h : Term) → IsChoice ps f h → Each IsLongPair ps → IsCountableVariable f × HasCountable h
choice_countable ps f h c long = by c.heads (each-right IsLongPair c.front (c.pair ∷ c.rest) (subst (λ (qs : List Pair). Each IsLongPair qs) c.stands long)).0
  where
    by : HasFlexible c.pair f h → IsLongPair c.pair → IsCountableVariable f × HasCountable h
    by (on_left a b e k) l = (countable-variable f (ap is_schematic e ∙ a) (shallow c.pair.left f l.0 e), countable-head h (shallow c.pair.right h l.1 k))
    by (on_right a b e k) l = (countable-variable f (ap is_schematic e ∙ b) (shallow c.pair.right f l.1 e), countable-head h (shallow c.pair.left h l.0 k))
