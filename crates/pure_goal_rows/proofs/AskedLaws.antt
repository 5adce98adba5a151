-- Theorems of which tests make goals.
use Rattle.std.proofs.Common.{◌≡◌, List, [], ◌∷◌, length, refl, ap, sym, subst, ◌∙◌, arith}
use Rattle.pure_text.specs.Lists.{Each}
use Rattle.pure_definitions.specs.Terms.Term.{Term}
use Rattle.pure_definitions.specs.Reduction.Eta.{IsLongForm, EtaReduces}
use Rattle.pure_logic.specs.Connectives.{imp}
use Rattle.pure_logic.specs.Derivable.{Pair, Theorem}
use Rattle.pure_unify_definitions.specs.LongSides.{Long, ComesTo, is_long}
use Rattle.pure_unify_definitions.specs.Children.{IsFlexFlex}
use Rattle.pure_goal_steps.specs.State.{IsLeftPair}
use Rattle.pure_resolve.specs.Goals.{IsGoalTheorem, IsEquationFor}
use Rattle.pure_resolve.proofs.ChainLaws.{first-premise}
use Rattle.pure_goal_rows.specs.Asked.{IsMarkedTerm, IsGoalProposition, HaveOneTyp, EquatesFirst}

come-long : (t u : Term) → ComesTo t (Long u) → IsLongForm u u
come-long t u (is_long {n = n} b l w) = record { typ = l.typ; typed = l.long_typed; long_typed = l.long_typed; reduces = EtaReduces.done; normal = l.normal; saturated = l.saturated; parts = l.parts }

pub long_itself : (t u : Term) → t ≡ u → ComesTo t (Long u) → IsLongForm t t
long_itself t u e c = subst (λ (v : Term). IsLongForm v v) (sym e) (come-long t u c)

pub goal_end : (t : Term) → IsMarkedTerm t → IsGoalProposition t
goal_end t (C, e) = record { subgoals = []; statement = C; stands = e; long = tt }

pub goal_more : (t A rest : Term) → t ≡ imp A rest → IsLongForm A A → IsGoalProposition rest → IsGoalProposition t
goal_more t A rest e l g = record { subgoals = A ∷ g.subgoals; statement = g.statement; stands = e ∙ ap (imp A) g.stands; long = (l, g.long) }

pub left_pair : (p : Pair) → IsFlexFlex p → IsLongForm p.left p.left × IsLongForm p.right p.right → HaveOneTyp p → IsLeftPair p
left_pair p f l h = record { flexible = f; left_long = l.0; right_long = l.1; typ = h.0; left_typed = h.1; right_typed = h.2 }

goal-made : (th : Theorem) → th.hyps ≡ [] → Each IsLeftPair th.pairs → IsGoalProposition th.prop → IsGoalTheorem th
goal-made th h ps g = record {
  state = record { statement = g.statement; subgoals = g.subgoals; pairs = th.pairs };
  is = record { hyps = h; same_pairs = refl; prop = g.stands };
  goal = record { long_subgoals = g.long; left_pairs = ps };
}

pub goal_made : (th : Theorem) (hyps : List Term) (pairs : List Pair) (A : Term) → hyps ≡ th.hyps → pairs ≡ th.pairs → A ≡ th.prop → length hyps ≡ 0 → Each IsLeftPair pairs → IsGoalProposition A → IsGoalTheorem th
goal_made th hyps pairs A h p a none ps g = goal-made th (sym h ∙ nothing hyps none) (subst (λ (qs : List Pair). Each IsLeftPair qs) p ps) (subst IsGoalProposition a g)
  where
    nothing : (xs : List Term) → length xs ≡ 0 → xs ≡ []
    nothing [] e = refl
    nothing (x ∷ xs) e = absurd (omega arith)

equation-made : (goal e : Theorem) → IsGoalTheorem goal → (e.hyps ≡ []) × (e.pairs ≡ []) → EquatesFirst goal.prop e.prop → IsEquationFor goal e
equation-made goal e g alone f =
    let first = first-premise goal.prop f.subgoal f.rest g.state.subgoals g.state.statement f.first g.is.prop in
    record {
      state = g.state;
      is = g.is;
      left = f.subgoal;
      right = f.equates.right;
      others = first.rest;
      stand = first.is;
      equates = f.equates.is;
      right_typed = f.equates.typed;
      no_hyps = alone.0;
      no_pairs = alone.1;
    }

pub equation_made : (goal e : Theorem) → IsGoalTheorem goal → (e.hyps ≡ []) × (e.pairs ≡ []) → (A B : Term) → A ≡ goal.prop → B ≡ e.prop → EquatesFirst A B → IsEquationFor goal e
equation_made goal e g alone A B a b first = equation-made goal e g alone (subst (λ (k : Term × Term). EquatesFirst k.0 k.1) (λ i. (a i, b i)) first)
