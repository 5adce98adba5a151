-- Laws of promises that are settled by proofs.
use Rattle.std.specs.Prelude.{◌≡◌, ℕ, List}
use Rattle.pure_text.specs.Lists.{IsIn}
use Rattle.pure_definitions.specs.Names.{Label}
use Rattle.pure_definitions.specs.Terms.Term.{Term}
use Rattle.pure_logic.specs.Derivable.{IsDerivableAlone}
use Rattle.pure_check_work.specs.Theory.Certified.{Certified}
use Rattle.pure_graph.specs.Order.{Loaded}
use Rattle.pure_check_work.specs.Declare.Notes.{Fork}
use Rattle.pure_check_work.specs.Method.declared.outcome.Outcome.{Outcome}
use Rattle.pure_check_work.specs.Method.declared.outcome.Outcome.TheVariants.{Proved}
use Rattle.pure_check_work.specs.Promise.Accepting.{Fulfils}
use Rattle.pure_check_work.specs.Promise.declared.promise.Promise as code
use Rattle.pure_check_work.specs.SessionLaws.Loaded.{IsLoadedSession}
use Rattle.pure_check_work.specs.TheoryRun.Outline.{Outline}
use Rattle.pure_check_work.specs.Table.Fulfilled.{IsPromiseFor}
use Rattle.pure_machine.specs.State.{State, Promise, Settled}
use Rattle.pure_machine.specs.Step.{Stands}
use Rattle.pure_check_work.specs.Earlier.{StandsBefore}
use Rattle.pure_checking_laws.specs.Settled.{IsReached, forked_labels, IsJoinedLabel}

-- In every state of every legal run of the session, each promise that is settled by a proof is fulfilled by the proof's theorem, where the labels that were forked stand in the order of their promises' numbers.
abbrev pub OutcomesFulfil : Type 0
OutcomesFulfil = (texts : List (List ℕ)) (theories : List Loaded) → IsLoadedSession texts theories → (s : State Fork Outline Outcome) → IsReached texts theories s
    → (number : ℕ) (p : Promise Fork Outcome) → Stands s number p → (c : Certified) → p.standing ≡ Settled (Proved c)
    → (promise : code.Promise) → IsPromiseFor number p.goal promise → Fulfils (forked_labels s) promise c

-- And each promise on which the theorem rests is that of a lemma with a smaller number.
abbrev pub RestsComeBefore : Type 0
RestsComeBefore = (texts : List (List ℕ)) (theories : List Loaded) → IsLoadedSession texts theories → (s : State Fork Outline Outcome) → IsReached texts theories s
    → (number : ℕ) (p : Promise Fork Outcome) → Stands s number p → (c : Certified) → p.standing ≡ Settled (Proved c)
    → (l : Label) → IsIn l c.theorem.rests → (A : Term) × StandsBefore s number l A

-- In every state of every legal run of the session, the statement of each goal whose label is joined is derivable from the axioms of its content alone.
abbrev pub JoinedAreDerivable : Type 0
JoinedAreDerivable = (texts : List (List ℕ)) (theories : List Loaded) → IsLoadedSession texts theories → (s : State Fork Outline Outcome) → IsReached texts theories s
    → (number : ℕ) (p : Promise Fork Outcome) → Stands s number p → IsJoinedLabel s (p.goal).label → IsDerivableAlone (p.goal).content (p.goal).prop
