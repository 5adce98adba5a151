-- Promises of a goal's content are those of lemmas with smaller numbers.
use Rattle.std.proofs.Common.{◌≡◌, ◌∙◌, ◌⊎◌, ◌<◌, ℕ, ◌+◌, List, ◌∷◌, ◌++◌, length, take, length-append, refl, sym, ap, subst, arith, Some, slice_get, inl, inr}
use Rattle.pure_text.specs.Lists.{IsIn}
use Rattle.pure_definitions.specs.Names.{Label}
use Rattle.pure_definitions.specs.Terms.Term.{Term}
use Rattle.pure_graph.specs.Order.{Loaded}
use Rattle.pure_logic.specs.Content.{Content}
use Rattle.pure_table.specs.Declare.Notes.{Note, Fork, Forked}
use Rattle.pure_table.specs.Method.Outcome.{IsOutcomeOf}
use Rattle.pure_table.specs.Method.declared.outcome.Outcome.{Outcome}
use Rattle.pure_table.specs.SessionLaws.Loaded.{IsLoadedSession}
use Rattle.pure_table.specs.SessionMeaning.Verdicts.{Verdict}
use Rattle.pure_table.specs.SessionMeaning.Statements.{notes_of, forks_of, IsFork}
use Rattle.pure_table.proofs.SessionMeaning.NoteLaws.{forks-append}
use Rattle.pure_table.proofs.SessionMeaning.FrontLaws.{run-closed}
use Rattle.pure_table.proofs.SessionMeaning.StatementLaws.{fork_once}
use Rattle.pure_table.specs.TheoryRun.Outline.{Outline}
use Rattle.pure_machine.specs.State.{State, Promise}
use Rattle.pure_machine.specs.Step.{Stands}
use Rattle.pure_core.specs.Legal.{IsLegal}
use Rattle.pure_core_end.specs.Promises.{promises_of}
use Rattle.pure_core_end.specs.Places.{IsPlaced, IsAncestor, ComesBefore}
use Rattle.pure_core_end.proofs.BeforeLaws.{smaller-numbers, goals-forked, count-within, placed-there, ancestor-whole}
use Rattle.pure_check_work.specs.Relations.{shape_of, ForksAfter, ClosesAfter, is_fault}
use Rattle.pure_check_work.specs.Earlier.{StandsBefore, PromisesComeBefore}
use Rattle.pure_check_work.proofs.StandLaws.{IsBefore, fork-before}

-- a theory that closes binds more lemmas than stand before one of its own
more-forks : (texts : List (List ℕ)) (theories : List Loaded) → IsLoadedSession texts theories → (j k count : ℕ) (f : Fork) (value : Outline) → IsFork texts theories j k f → ClosesAfter texts theories j count value → k < count
more-forks texts theories loaded j k count f value is closes =
    let w = run-closed texts theories loaded j (is.notes ++ Forked f ∷ is.more) is.now is.left is.run closes.1 in
    let long : length (forks_of ((is.notes ++ Forked f ∷ is.more) ++ w.3)) ≡ count = ap (λ (ns : List Note). length (forks_of ns)) (sym w.4) ∙ ap (λ (v : Verdict). length (forks_of (notes_of v))) (sym w.2) ∙ closes.3 in
    let outer = ap length (forks-append (is.notes ++ Forked f ∷ is.more) w.3) ∙ length-append (forks_of (is.notes ++ Forked f ∷ is.more)) (forks_of w.3) in
    let inner = ap length (forks-append is.notes (Forked f ∷ is.more)) ∙ length-append (forks_of is.notes) (f ∷ forks_of is.more) in
    omega (arith, long, outer, inner, is.count)

module _ (texts : List (List ℕ)) (theories : List Loaded) (loaded : IsLoadedSession texts theories) (s : State Fork Outline Outcome) (legal : IsLegal (shape_of theories) (ForksAfter texts theories) (ClosesAfter texts theories) (IsOutcomeOf texts) is_fault s) where
  -- the earlier lemma has a promise
  within : (number : ℕ) (goal : Promise Fork Outcome) → Stands s number goal → (l : Label) (A : Term) (b : IsBefore texts theories goal.theory (length (promises_of goal.theory (take number s.promises))) l A) → b.others < length (promises_of b.theory s.promises)
  within number goal stands l A b = elim b.comes [
    | inl older ↦ (let whole = ancestor-whole (shape_of theories) (ForksAfter texts theories) (ClosesAfter texts theories) (IsOutcomeOf texts) is_fault s legal number goal stands b.theory older in
        subst (λ n. b.others < n) (sym whole.3) (more-forks texts theories loaded b.theory b.others whole.0 b.fork whole.1 b.is whole.2))
    | inr same ↦ subst (λ j. b.others < length (promises_of j s.promises)) (sym same.0) (omega (arith, same.1, count-within goal.theory s.promises number))
  ]

  before : (number : ℕ) (goal : Promise Fork Outcome) → Stands s number goal → (l : Label) (A : Term) → IsBefore texts theories goal.theory (length (promises_of goal.theory (take number s.promises))) l A → StandsBefore s number l A
  before number goal stands l A b =
      let there = placed-there b.theory s.promises b.others (within number goal stands l A b) in
      let placed : IsPlaced s.promises number goal.theory (length (promises_of goal.theory (take number s.promises))) = record { promise = goal; stands = stands; theory_is = refl; count = refl } in
      let is = goals-forked (shape_of theories) (ForksAfter texts theories) (ClosesAfter texts theories) (IsOutcomeOf texts) is_fault s legal there.0 b.theory b.others there.1 in
      let same = fork_once texts theories loaded b.theory b.others (there.1.promise).goal b.fork is.lemma b.is in (
        there.0,
        there.1.promise,
        there.1.stands,
        ap Fork.label same ∙ b.label,
        ap Fork.prop same ∙ b.prop,
        smaller-numbers (shape_of theories) (ForksAfter texts theories) (ClosesAfter texts theories) (IsOutcomeOf texts) is_fault s legal there.0 number b.theory b.others goal.theory (length (promises_of goal.theory (take number s.promises))) there.1 placed b.comes,
      )

pub promises_come_before : PromisesComeBefore
promises_come_before texts theories loaded s legal number goal stands name l A m =
    let placed : IsPlaced s.promises number goal.theory (length (promises_of goal.theory (take number s.promises))) = record { promise = goal; stands = stands; theory_is = refl; count = refl } in
    let is = goals-forked (shape_of theories) (ForksAfter texts theories) (ClosesAfter texts theories) (IsOutcomeOf texts) is_fault s legal number goal.theory (length (promises_of goal.theory (take number s.promises))) placed in
    before texts theories loaded s legal number goal stands l A (fork-before texts theories loaded goal.theory (length (promises_of goal.theory (take number s.promises))) goal.goal is.lemma name l A m)
