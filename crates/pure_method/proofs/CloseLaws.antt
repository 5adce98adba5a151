-- Subgoals closed by assumption: what a loop over them keeps, and that it ends.
use Rattle.std.proofs.Common.{◌≡◌, ℕ, suc, ◌+◌, ◌<◌, List, [], ◌∷◌, length, refl, ap, subst, ◌∙◌, arith}
use Rattle.std.specs.Prelude.{Ok, Err}
use Rattle.pure_definitions.specs.Terms.Term.{Term, App}
use Rattle.pure_definitions.specs.Declarations.Decl.{algebra_of}
use Rattle.pure_logic.specs.Connectives.{protect, chain}
use Rattle.pure_logic.specs.Content.{Content}
use Rattle.pure_logic.specs.Derivable.{Theorem}
use Rattle.pure_resolve.specs.GoalSteps.State.{State, IsTheoremOf}
use Rattle.pure_resolve.specs.GoalSteps.Steps.{AssumptionStep}
use Rattle.pure_resolve.specs.Uses.{MayStep}
use Rattle.pure_method.specs.Proof.{Closes}
use Rattle.pure_method.specs.Closing.{CannotAssume, IsAssumed, IsClosed}
use Rattle.pure_method.proofs.ClosingLaws.{fewer-subgoals}
use Rattle.pure_method.proofs.RunLaws.{state-once}

-- A loop has come from the goal to another: what is closed from there is closed from the first.
pub record ClosesFrom (Q : Content) (goal now : Theorem) : Type 0 where
  pub before : State
  pub is_before : IsTheoremOf before goal
  pub here : State
  pub is_here : IsTheoremOf here now
  pub closes : (last : State) → Closes (algebra_of Q.declarations) here last → Closes (algebra_of Q.declarations) before last
  pub rests : now.rests ≡ goal.rests
  pub may : MayStep Q now

pub closes-start : (Q : Content) (goal : Theorem) → MayStep Q goal → ClosesFrom Q goal goal
closes-start Q goal m = record { before = m.is.state; is_before = m.is.is; here = m.is.state; is_here = m.is.is; closes = λ last rest. rest; rests = refl; may = m }

pub closes-turn : (Q : Content) (goal now next : Theorem) → ClosesFrom Q goal now → IsAssumed Q now next → ClosesFrom Q goal next
closes-turn Q goal now next c a = record {
  before = c.before;
  is_before = c.is_before;
  here = a.after;
  is_here = a.is_after;
  closes = λ last rest. c.closes last (Closes.goes_on (subst (λ (s : State). AssumptionStep (algebra_of Q.declarations) s (Ok a.after)) (state-once a.before c.here now a.is_before c.is_here) a.step) rest);
  rests = a.rests ∙ c.rests;
  may = a.may;
}

pub closes-end : (Q : Content) (goal now : Theorem) → ClosesFrom Q goal now → CannotAssume Q now → IsClosed Q goal now
closes-end Q goal now c (s, is, (f, step)) = record {
  before = c.before;
  is_before = c.is_before;
  after = c.here;
  is_after = c.is_here;
  closes = c.closes c.here (Closes.stops (subst (λ (t : State). AssumptionStep (algebra_of Q.declarations) t (Err f)) (state-once s c.here now is c.is_here) step));
  rests = c.rests;
  may = c.may;
}

-- the count of the premises of a proposition, whatever constant stands for implication
abbrev pub premise_count : Term → ℕ
premise_count (App (App f A) B) = premise_count B + 1
premise_count t = 0

-- Each success takes a premise away.
count-chain : (As : List Term) (C : Term) → premise_count (chain As (protect C)) ≡ length As
count-chain [] C = refl
count-chain (A ∷ As) C = let rest = count-chain As C in omega (arith, rest)

pub fewer-premises : (Q : Content) (now next : Theorem) → IsAssumed Q now next → premise_count next.prop < premise_count now.prop
fewer-premises Q now next a =
    let fewer = fewer-subgoals (algebra_of Q.declarations) a.before a.after (length a.before.subgoals) a.step (next_above (length a.before.subgoals)) in
    let old : premise_count now.prop ≡ length a.before.subgoals = ap premise_count a.is_before.prop ∙ count-chain a.before.subgoals a.before.statement in
    let new : premise_count next.prop ≡ length a.after.subgoals = ap premise_count a.is_after.prop ∙ count-chain a.after.subgoals a.after.statement in
    lower (premise_count next.prop) (premise_count now.prop) (length a.after.subgoals) (length a.before.subgoals) new old fewer
  where
    next_above : (m : ℕ) → m < suc m
    next_above m = omega arith

    lower : (a b c d : ℕ) → a ≡ c → b ≡ d → c < d → a < b
    lower a b c d e f h = omega (arith, e, f)
