-- The search answers that there is no unifier only where no map solves the pairs.
use Rattle.std.proofs.Common.{◌≡◌, ℕ, ◌+◌, ◌≤◌, inl, inr, List, [], ◌∷◌, true, false, ap, refl, sym, subst, ◌∙◌, arith}
use Rattle.pure_text.specs.Lists.{IsIn, Each}
use Rattle.pure_text.proofs.ListLaws.{each_at, each-left, each-right}
use Rattle.pure_definitions.specs.Types.Typ.{Typ}
use Rattle.pure_definitions.specs.Types.Order.{Algebra}
use Rattle.pure_definitions.specs.Terms.Term.{Term, Const, Free, Var, Bound, Abs, App}
use Rattle.pure_definitions.specs.Terms.Subst.{inst_term}
use Rattle.pure_logic.specs.Derivable.{Pair}
use Rattle.pure_reduction.specs.LongForms.{HaveOneLongForm}
use Rattle.pure_unify_definitions.specs.Fronts.{head, is_schematic, is_flexible}
use Rattle.pure_unify_definitions.specs.Node.{Node}
use Rattle.pure_unify_definitions.specs.LongSides.{AllLong, AreLong}
use Rattle.pure_unify_definitions.specs.Retyping.{Goes, IsRetyped}
use Rattle.pure_unify_definitions.specs.Simplification.{Applies, Simple, Failed, Simplifies, Visits}
use Rattle.pure_unify_definitions.specs.Children.{HasFlexible, on_left, on_right, IsChoice, children}
use Rattle.pure_unify_definitions.specs.Search.{NoUnifier, Searches}
use Rattle.pure_unify_answers.proofs.PartLaws.{HasParts}
use Rattle.pure_unify_answers.proofs.SpineLaws.{HavePartsIn}
use Rattle.pure_unify_answers.proofs.FitLaws.{sides-parts}
use Rattle.pure_solutions.specs.Solutions.{IsTermSubstitution}
use Rattle.pure_solutions.proofs.SolutionLaws.{one-long-swap}
use Rattle.pure_unify_final.specs.Laws.{HasVariablesUpTo, AreVariablesUpTo, ChildrenKeepSolutions, NoUnifierIsFinal}
use Rattle.pure_unify_final.proofs.SideLaws.{IsLongIn, IsLongPair, head-rigid}
use Rattle.pure_unify_final.proofs.RuleLaws.{sides-in_long, AnyTyp, IsUpTo, any-parts, AreSolvedIn, sides-long, sides-solved, step-solved, middle}
use Rattle.pure_unify_final.proofs.FailLaws.{AreImagesLong, longer-solved, fails-unsolved}
use Rattle.pure_unify_final.proofs.ChildLaws.{HasSolution, head-parts, image-built, child-solved}

-- Some child has a solution.
abbrev SomeChild : (maxidx : ℕ) → Node → (f h : Term) → Type 0
SomeChild maxidx m f h = (c : Node) × IsIn c (children maxidx m f h) × HasSolution maxidx c

module _ (terms : Term → Term) (s : IsTermSubstitution terms) (long : AreImagesLong terms) (maxidx : ℕ) (m : Node) (sides : AreSolvedIn terms (IsUpTo (maxidx + m.path.choices)) m.pairs) where
  abbrev Old : Term → Type 0
  Old = HasParts AnyTyp (IsUpTo (maxidx + m.path.choices))

  one-side : (f h l r : Term) → head l ≡ f → is_schematic f ≡ true → head r ≡ h → is_flexible r ≡ false → IsLongIn [] r → Old l → HaveOneLongForm (inst_term terms l) (inst_term terms r) → SomeChild maxidx m f h
  one-side (Var x i T) h l r e is g stiff k old same =
      let rigid = head-rigid r k.1.normal stiff in
      let low : Old (Var x i T) = subst Old e (head-parts (IsUpTo (maxidx + m.path.choices)) l old) in
      child-solved terms s long maxidx m x i T h l r e g (rw g at rigid) same low.1 sides (image-built terms s long maxidx m x i T h l r e g (rw g at rigid) same low.1 sides)
  one-side (Const c T) h l r e is g stiff k old same = absurd (cc)
  one-side (Free x T) h l r e is g stiff k old same = absurd (cc)
  one-side (Bound p) h l r e is g stiff k old same = absurd (cc)
  one-side (Abs T b) h l r e is g stiff k old same = absurd (cc)
  one-side (App u a) h l r e is g stiff k old same = absurd (cc)

  pair-choice : (f h : Term) (p : Pair) → HasFlexible p f h → IsLongPair p → HavePartsIn AnyTyp (IsUpTo (maxidx + m.path.choices)) p → HaveOneLongForm (inst_term terms p.left) (inst_term terms p.right) → SomeChild maxidx m f h
  pair-choice f h p (on_left is stiff e g) k old same = one-side f h p.left p.right (sym e) (ap is_schematic e ∙ is) (sym g) stiff k.1 old.0 same
  pair-choice f h p (on_right stiff is e g) k old same = one-side f h p.right p.left (sym e) (ap is_schematic e ∙ is) (sym g) stiff k.0 old.1 (one-long-swap same)

  choice-solved : (f h : Term) → IsChoice m.pairs f h → SomeChild maxidx m f h
  choice-solved f h choice =
      let here : (P : Pair → Type 0) → Each P m.pairs → P choice.pair = λ P each. middle terms s P m.pairs choice.front choice.rest choice.pair choice.stands each in
      pair-choice f h choice.pair choice.heads (here IsLongPair sides.long) (here (HavePartsIn AnyTyp (IsUpTo (maxidx + m.path.choices))) sides.variables)
      (here (λ p. HaveOneLongForm (inst_term terms p.left) (inst_term terms p.right)) sides.solved)

-- Simplification makes no choices.
retyped-choices : {A : Algebra} {maxidx : ℕ} {n m : Node} {T U : Typ} → IsRetyped A maxidx n T U (Goes m) → m.path.choices ≡ n.path.choices
retyped-choices (IsRetyped.all_long u a l) = refl

step-choices : {A : Algebra} {maxidx : ℕ} {n m : Node} → Applies A maxidx n (Goes m) → m.path.choices ≡ n.path.choices
step-choices (Applies.drops first) = refl
step-choices (Applies.retypes first r) = retyped-choices r
step-choices (Applies.puts first long) = refl
step-choices (Applies.splits first) = refl
step-choices (Applies.unifies {m = m} first r place) = ap (λ (n : Node). n.path.choices) place.are ∙ retyped-choices r

simple-choices : {A : Algebra} {maxidx : ℕ} {n m : Node} → Simplifies A maxidx n (Simple m) → m.path.choices ≡ n.path.choices
simple-choices (Simplifies.simple each) = refl
simple-choices (Simplifies.step a r) = simple-choices r ∙ step-choices a

simple-solved : (terms : Term → Term) → IsTermSubstitution terms → (V : Term → Type 0) {A : Algebra} {maxidx : ℕ} {n m : Node} → Simplifies A maxidx n (Simple m) → AreSolvedIn terms V n.pairs → AreSolvedIn terms V m.pairs
simple-solved terms s V (Simplifies.simple each) h = h
simple-solved terms s V {A = A} {maxidx = maxidx} {n = n} (Simplifies.step {m = k} a r) h = simple-solved terms s V r (step-solved terms s A maxidx n k V a h)

failed-unsolved : (terms : Term → Term) → IsTermSubstitution terms → AreImagesLong terms → (V : Term → Type 0) {A : Algebra} {maxidx : ℕ} {n : Node} → Simplifies A maxidx n Failed → AreSolvedIn terms V n.pairs → ⊥
failed-unsolved terms s long V {A = A} {maxidx = maxidx} {n = n} (Simplifies.step {m = k} a r) h = failed-unsolved terms s long V r (step-solved terms s A maxidx n k V a h)
failed-unsolved terms s long V {A = A} {maxidx = maxidx} {n = n} (Simplifies.failed a) h = fails-unsolved terms s long A maxidx n V a h

-- A node with a solution, once its sides are long.
sides-opened : (maxidx : ℕ) (n : Node) (h : HasSolution maxidx n) {qs : List Pair} → AreLong n.pairs (AllLong qs) → AreSolvedIn h.terms (IsUpTo (maxidx + n.path.choices)) qs
sides-opened maxidx n h l = record { long = sides-long l; variables = sides-parts AnyTyp (IsUpTo (maxidx + n.path.choices)) any-parts l h.variables; solved = sides-solved h.terms h.substitution l h.solved }

visit-unsolved : {A : Algebra} {maxidx : ℕ} {n : Node} → Visits A maxidx n Failed → ¬ HasSolution maxidx n
visit-unsolved {maxidx = maxidx} {n = n} (Visits.visited {qs = qs} l r) h =
    let map = longer-solved h.terms h.substitution (IsUpTo (maxidx + n.path.choices)) qs (sides-opened maxidx n h l) in
    failed-unsolved map.0 map.1 map.2 (IsUpTo (maxidx + n.path.choices)) r map.3

visit-solved : {A : Algebra} {maxidx : ℕ} {n m : Node} {f k : Term} → Visits A maxidx n (Simple m) → IsChoice m.pairs f k → HasSolution maxidx n → SomeChild maxidx m f k
visit-solved {maxidx = maxidx} {n = n} {m = m} {f = f} {k = k} (Visits.visited {qs = qs} l r) choice h =
    let map = longer-solved h.terms h.substitution (IsUpTo (maxidx + n.path.choices)) qs (sides-opened maxidx n h l) in
    let simple = simple-solved map.0 map.1 (IsUpTo (maxidx + n.path.choices)) r map.3 in
    let same : n.path.choices ≡ m.path.choices = sym (simple-choices r) in
    choice-solved map.0 map.1 map.2 maxidx m (subst (λ c. AreSolvedIn map.0 (IsUpTo (maxidx + c)) m.pairs) same simple) f k choice

-- Where a node was cut, the search doesn't answer that there is no unifier.
never-cut : {A : Algebra} {maxidx k : ℕ} {ns : List Node} → Searches A maxidx k true ns NoUnifier → ⊥
never-cut (Searches.node_fails lt v rest) = never-cut rest
never-cut (Searches.node_is_cut lt v choice e rest) = never-cut rest
never-cut (Searches.inner lt v choice le rest) = never-cut rest

none-solved : {A : Algebra} {maxidx k : ℕ} {ns : List Node} → Searches A maxidx k false ns NoUnifier → Each (λ n. ¬ HasSolution maxidx n) ns
none-solved Searches.over = tt
none-solved (Searches.node_fails lt v rest) = (visit-unsolved v, none-solved rest)
none-solved (Searches.node_is_cut lt v choice e rest) = absurd (never-cut rest)
none-solved {maxidx = maxidx} (Searches.inner {m = m} {ns = ns} {f = f} {h = h} lt v choice le rest) =
    let later = none-solved rest in
    let among = each_at (λ n. ¬ HasSolution maxidx n) (children maxidx m f h) (each-left (λ n. ¬ HasSolution maxidx n) (children maxidx m f h) ns later) in
    (λ solution. (let child = visit-solved v choice solution in among child.0 child.1 child.2), each-right (λ n. ¬ HasSolution maxidx n) (children maxidx m f h) ns later)

variables-parts : (n m : ℕ) → n ≤ m → (t : Term) → HasVariablesUpTo n t → HasParts AnyTyp (IsUpTo m) t
variables-parts n m le (Const c T) h = tt
variables-parts n m le (Free x T) h = tt
variables-parts n m le (Var x i T) h = let low = h x i T refl in (tt, omega arith)
variables-parts n m le (Bound p) h = tt
variables-parts n m le (Abs T b) h = (tt, variables-parts n m le b (λ x i U o. h x i U (inr o)))
variables-parts n m le (App f a) h = (variables-parts n m le f (λ x i U o. h x i U (inr (inl o))), variables-parts n m le a (λ x i U o. h x i U (inr (inr o))))

pairs-parts : (n m : ℕ) → n ≤ m → (ps : List Pair) → Each (AreVariablesUpTo n) ps → Each (HavePartsIn AnyTyp (IsUpTo m)) ps
pairs-parts n m le [] h = tt
pairs-parts n m le (p ∷ ps) h = ((variables-parts n m le p.left h.0.0, variables-parts n m le p.right h.0.1), pairs-parts n m le ps h.1)

pub children_keep_solutions : ChildrenKeepSolutions
children_keep_solutions maxidx m f h choice long variables terms s solved =
    let bound = maxidx + m.path.choices in
    let sides : AreSolvedIn terms (IsUpTo bound) m.pairs = record { long = sides-in_long m.pairs long; variables = pairs-parts bound bound (omega arith) m.pairs variables; solved = solved } in
    let map = longer-solved terms s (IsUpTo bound) m.pairs sides in
    let child = choice-solved map.0 map.1 map.2 maxidx m map.3 f h choice in
    (child.0, child.1, child.2.terms, child.2.substitution, child.2.solved)

pub no_unifier_is_final : NoUnifierIsFinal
no_unifier_is_final A maxidx ps variables answer terms s solved =
    let none = none-solved answer in
    none.0 (record { terms = terms; substitution = s; variables = pairs-parts maxidx (maxidx + 0) (omega arith) ps variables; solved = solved })
