-- The end of a proof: a statement without schematic variables stays as it is where pairs are smashed, and what the goal ends as is derivable.
use Rattle.std.proofs.Common.{◌≡◌, ℕ, ◌+◌, List, [], ◌∷◌, map, length, drop, Bool, true, false, cond, inl, inr, refl, ap, sym, subst, ◌∙◌, true≢false}
use Rattle.std.specs.Prelude.{Ok}
use Rattle.pure_text.specs.Lists.{IsIn, Each}
use Rattle.pure_text.proofs.ListLaws.{each_imply, none_in, each_of}
use Rattle.pure_definitions.specs.Names.{Label}
use Rattle.pure_definitions.specs.Types.Typ.{Typ}
use Rattle.pure_definitions.specs.Terms.Term.{Term, Const, Free, Var, Bound, Abs, App, term_eq}
use Rattle.pure_definitions.specs.Terms.Bounds.{Occurs}
use Rattle.pure_definitions.specs.Terms.Conditions.{variable_typ}
use Rattle.pure_definitions.specs.Models.Equality.{term_eq-same}
use Rattle.pure_term_laws.specs.LawsOccurs.{HasNoSchematic}
use Rattle.pure_logic.specs.Connectives.{protect}
use Rattle.pure_logic.specs.Content.{Content}
use Rattle.pure_logic.specs.Derivable.{Pair, Theorem, IsDerivable}
use Rattle.pure_logic.specs.Laws.Maps.{everything, generalised}
use Rattle.pure_logic.proofs.TheoremMapLaws.{generalised_is_derivable}
use Rattle.pure_unify_definitions.specs.Fronts.{front, arguments, head, is_schematic, is_flexible, below, domains}
use Rattle.pure_unify_definitions.specs.Children.{IsFlexFlex}
use Rattle.pure_unify_laws.specs.Condition.{IsUnifyContent}
use Rattle.pure_resolve.specs.Pairs.Smash.{with_constant, with_constants, pair_with, result_typ, fresh_variable, Smashes}
use Rattle.pure_resolve.proofs.Pairs.SmashLaws.{smashes-derivable}
use Rattle.pure_goal_laws.proofs.StateLaws.{end_is_derivable}
use Rattle.pure_resolve.specs.GoalSteps.State.{State, theorem_of, IsLeftPair}
use Rattle.pure_resolve.specs.GoalSteps.Steps.{EndsAs}
use Rattle.pure_resolve.specs.GoalSteps.Derivability.{IsSound}
use Rattle.pure_method.specs.Facts.{theorem}

false-true : false ≡ true → ⊥
false-true e = cc

-- A variable that doesn't occur in a term isn't replaced in it.
unless : (b : Bool) (x y : Term) → (b ≡ true → ⊥) → cond b x y ≡ y
unless true x y h = absurd (h refl)
unless false x y h = refl

front-occurs : (t : Term) → Occurs (front t) t
front-occurs (Const c T) = refl
front-occurs (Free x T) = refl
front-occurs (Var x i T) = refl
front-occurs (Bound n) = refl
front-occurs (Abs T b) = inl refl
front-occurs (App f a) = inr (inl (front-occurs f))

constant-keeps : (v : Term) (Ts : List Typ) (c t : Term) → ¬ Occurs v t → with_constant v Ts c t ≡ t
constant-keeps v Ts c (Const d T) h = refl
constant-keeps v Ts c (Free x T) h = refl
constant-keeps v Ts c (Var x i T) h = unless (term_eq v (Var x i T)) (below Ts c) (Var x i T) (λ e. h (term_eq-same v (Var x i T) e))
constant-keeps v Ts c (Bound n) h = refl
constant-keeps v Ts c (Abs T b) h = ap (Abs T) (constant-keeps v Ts c b (λ o. h (inr o)))
constant-keeps v Ts c (App f a) h =
    let function = constant-keeps v Ts c f (λ o. h (inr (inl o))) in
    let argument = constant-keeps v Ts c a (λ o. h (inr (inr o))) in
    let inside : App (with_constant v Ts c f) (with_constant v Ts c a) ≡ App f a = λ i. App (function i) (argument i) in
    unless (term_eq v (front f)) (below (drop (length (arguments f) + 1) Ts) c) (App (with_constant v Ts c f) (with_constant v Ts c a))
    (λ e. h (inr (inl (subst (λ (u : Term). Occurs u f) (sym (term_eq-same v (front f) e)) (front-occurs f))))) ∙ inside

-- The head of a flexible term doesn't occur in a term without schematic variables.
schematic-absent : (v C : Term) → HasNoSchematic C → is_schematic v ≡ true → ¬ Occurs v (protect C)
schematic-absent (Const d T) C closed e o = false-true e
schematic-absent (Free x T) C closed e o = false-true e
schematic-absent (Bound n) C closed e o = false-true e
schematic-absent (Abs T b) C closed e o = false-true e
schematic-absent (App f a) C closed e o = false-true e
schematic-absent (Var x i T) C closed e (inl o) = let no-way : ⊥ = cc in no-way
schematic-absent (Var x i T) C closed e (inr (inl o)) = let no-way : ⊥ = cc in no-way
schematic-absent (Var x i T) C closed e (inr (inr o)) = closed.terms x i T o

constants-keep : (p : Pair) (c C : Term) → HasNoSchematic C → IsFlexFlex p → with_constants p c (protect C) ≡ protect C
constants-keep p c C closed h =
    let l = head p.left in
    let r = head p.right in
    ap (with_constant r (domains (variable_typ r)) c) (constant-keeps l (domains (variable_typ l)) c (protect C) (schematic-absent l C closed h.left))
    ∙ constant-keeps r (domains (variable_typ r)) c (protect C) (schematic-absent r C closed h.right)

-- Flexible terms stay flexible where variables become constant functions.
below-flexible : (Ts : List Typ) (y j : ℕ) (R : Typ) → is_flexible (below Ts (Var y j R)) ≡ true
below-flexible [] y j R = refl
below-flexible (T ∷ Ts) y j R = below-flexible Ts y j R

chosen-flexible : (b : Bool) (t u : Term) → is_flexible t ≡ true → is_flexible u ≡ true → is_flexible (cond b t u) ≡ true
chosen-flexible true t u h k = h
chosen-flexible false t u h k = k

module _ (v : Term) (Ts : List Typ) (y j : ℕ) (R : Typ) where
  -- at the front of applications, where no abstraction stands
  front-flexible : (t : Term) → is_schematic (front t) ≡ true → is_flexible (with_constant v Ts (Var y j R) t) ≡ true
  front-flexible (Const d U) e = absurd (false-true e)
  front-flexible (Free z U) e = absurd (false-true e)
  front-flexible (Bound n) e = absurd (false-true e)
  front-flexible (Abs V b) e = absurd (false-true e)
  front-flexible (Var z k U) e = chosen-flexible (term_eq v (Var z k U)) (below Ts (Var y j R)) (Var z k U) (below-flexible Ts y j R) refl
  front-flexible (App f a) e = by (term_eq v (front f)) refl
    where
      by : (b : Bool) → term_eq v (front f) ≡ b → is_flexible (cond b (below (drop (length (arguments f) + 1) Ts) (Var y j R)) (App (with_constant v Ts (Var y j R) f) (with_constant v Ts (Var y j R) a))) ≡ true
      by true d = below-flexible (drop (length (arguments f) + 1) Ts) y j R
      by false d = ap is_schematic (front-kept f d e) ∙ e
        where
          front-kept : (t : Term) → term_eq v (front t) ≡ false → is_schematic (front t) ≡ true → front (with_constant v Ts (Var y j R) t) ≡ front t
          front-kept (Const d U) e is = refl
          front-kept (Free z U) e is = refl
          front-kept (Bound n) e is = refl
          front-kept (Abs V b) e is = absurd (false-true is)
          front-kept (Var z k U) e is = ap front (unless (term_eq v (Var z k U)) (below Ts (Var y j R)) (Var z k U) (λ d. true≢false (sym d ∙ e)))
          front-kept (App g x) e is = ap front (unless (term_eq v (front g)) (below (drop (length (arguments g) + 1) Ts) (Var y j R)) (App (with_constant v Ts (Var y j R) g) (with_constant v Ts (Var y j R) x)) (λ d. true≢false (sym d ∙ e))) ∙ front-kept g e is

  flexible-kept : (t : Term) → is_flexible t ≡ true → is_flexible (with_constant v Ts (Var y j R) t) ≡ true
  flexible-kept (Const d U) e = absurd (false-true e)
  flexible-kept (Free z U) e = absurd (false-true e)
  flexible-kept (Bound n) e = absurd (false-true e)
  flexible-kept (Var z k U) e = front-flexible (Var z k U) e
  flexible-kept (App f a) e = front-flexible (App f a) e
  flexible-kept (Abs V b) e = flexible-kept b e

pair-kept : (p q : Pair) (n : ℕ) → IsFlexFlex q → IsFlexFlex (pair_with p (Var 0 n (result_typ p)) q)
pair-kept p q n h =
    let twice : (t : Term) → is_flexible t ≡ true → is_flexible (with_constants p (Var 0 n (result_typ p)) t) ≡ true =
    λ t e. flexible-kept (head p.right) (domains (variable_typ (head p.right))) 0 n (result_typ p) (with_constant (head p.left) (domains (variable_typ (head p.left))) (Var 0 n (result_typ p)) t)
    (flexible-kept (head p.left) (domains (variable_typ (head p.left))) 0 n (result_typ p) t e) in
    record { left = twice q.left h.left; right = twice q.right h.right }

all-kept : (p : Pair) (n : ℕ) (qs : List Pair) → Each IsFlexFlex qs → Each IsFlexFlex (map (pair_with p (Var 0 n (result_typ p))) qs)
all-kept p n [] h = tt
all-kept p n (q ∷ qs) h = (pair-kept p q n h.0, all-kept p n qs h.1)

-- What is smashed of a theorem with such a proposition, without hypotheses: it has no hypotheses and no pairs, the same proposition, and the same promises.
pub record IsKept (th smashed : Theorem) : Type 0 where
  pub hyps : smashed.hyps ≡ []
  pub pairs : smashed.pairs ≡ []
  pub prop : smashed.prop ≡ th.prop
  pub rests : smashed.rests ≡ th.rests

pub smashed-kept : (th smashed : Theorem) (C : Term) → HasNoSchematic C → th.prop ≡ protect C → th.hyps ≡ [] → Each IsFlexFlex th.pairs → Smashes th smashed → IsKept th smashed
smashed-kept th smashed C closed e none flexible (Smashes.no_pair d) = record { hyps = none; pairs = d; prop = refl; rests = refl }
smashed-kept th smashed C closed e none flexible (Smashes.trivial {ps = ps} d g rest) =
    let kept = smashed-kept (record th { pairs = ps }) smashed C closed e none (subst (λ (qs : List Pair). Each IsFlexFlex qs) d flexible).1 rest in
    record { hyps = kept.hyps; pairs = kept.pairs; prop = kept.prop; rests = kept.rests }
smashed-kept th smashed C closed e none flexible (Smashes.constants {next = next} {p = p} {ps = ps} d differ is rest) =
    let each = subst (λ (qs : List Pair). Each IsFlexFlex qs) d flexible in
    let c = fresh_variable th p in
    let prop : next.prop ≡ protect C = is.prop ∙ ap (with_constants p c) e ∙ constants-keep p c C closed each.0 in
    let hyps : next.hyps ≡ [] = none_in next.hyps (each_of (λ A. IsIn A []) next.hyps (λ A m. subst (λ (As : List Term). IsIn A (map (with_constants p c) As)) none ((is.hyps.members A).0 m))) in
    let pairs = subst (λ (qs : List Pair). Each IsFlexFlex qs) (sym is.are_pairs) (all-kept p _ ps each.1) in
    let kept = smashed-kept next smashed C closed prop hyps pairs rest in
    record { hyps = kept.hyps; pairs = kept.pairs; prop = kept.prop ∙ prop ∙ sym e; rests = kept.rests ∙ is.rests }

-- Smashing asks nothing of promises.
resting : (th smashed : Theorem) (labels : List Label) → Smashes th smashed → Smashes (record th { rests = labels }) (record smashed { rests = labels })
resting th smashed labels (Smashes.no_pair e) = Smashes.no_pair e
resting th smashed labels (Smashes.trivial {p = p} {ps = ps} e g rest) = Smashes.trivial {p = p} {ps = ps} e g (resting (record th { pairs = ps }) smashed labels rest)
resting th smashed labels (Smashes.constants {next = next} {p = p} {ps = ps} e differ is rest) =
    Smashes.constants {next = record next { rests = labels }} {p = p} {ps = ps} e differ (record { hyps = is.hyps; are_pairs = is.are_pairs; prop = is.prop; rests = refl }) (resting next smashed labels rest)

module _ (Q : Content) (k : IsUnifyContent Q) (C : Term) (closed : HasNoSchematic C) (labels : List Label) where
  -- A sound goal for the statement that ends is the statement, derivable.
  pub end-derivable : (s : State) (th : Theorem) → IsSound Q labels s → s.statement ≡ C → EndsAs s (Ok th) → IsDerivable Q (theorem C labels)
  end-derivable s th sound e (EndsAs.proved {smashed = smashed} none smashes within is) =
      let bare : theorem_of s labels ≡ record { hyps = []; pairs = s.pairs; prop = protect C; rests = labels } = ends s none e in
      let flexible = each_imply IsLeftPair IsFlexFlex s.pairs (λ p l. l.flexible) sound.goal.left_pairs in
      let whole = smashes-derivable Q k.content k.above (theorem_of s labels) (record smashed { rests = labels }) (resting (theorem_of s []) smashed labels smashes) flexible sound.derivable in
      let kept = smashed-kept (theorem_of s labels) (record smashed { rests = labels }) C closed (ap (λ (t : Theorem). t.prop) bare) refl flexible (resting (theorem_of s []) smashed labels smashes) in
      let prop : smashed.prop ≡ protect C = kept.prop ∙ ap (λ (t : Theorem). t.prop) bare in
      let ended = end_is_derivable Q k.content k.above (record smashed { rests = labels }) C prop whole in
      subst (IsDerivable Q) (λ i. record { hyps = kept.hyps i; pairs = kept.pairs i; prop = C; rests = labels }) ended
    where
      ends : (s : State) → s.subgoals ≡ [] → s.statement ≡ C → theorem_of s labels ≡ record { hyps = []; pairs = s.pairs; prop = protect C; rests = labels }
      ends s none e = λ i. theorem_of (record { statement = e i; subgoals = none i; pairs = s.pairs }) labels

  -- And so it is with its fixed variables made schematic.
  pub generalised-derivable : IsDerivable Q (theorem C labels) → IsDerivable Q (theorem (generalised (everything 0) C) labels)
  generalised-derivable h = generalised_is_derivable Q k.content (everything 0) (theorem C labels) tt h
