-- From what a core's theories left to the table.
use Rattle.std.proofs.Common.{◌≡◌, ◌∙◌, ℕ, suc, List, [], ◌∷◌, map, sym, ap, subst}
use Rattle.pure_text.specs.Lists.{Each, EachTwo}
use Rattle.pure_text.proofs.ListLaws.{each-append}
use Rattle.pure_theorem.specs.Sets.{IsLabelSet}
use Rattle.pure_graph.specs.Order.{Loaded}
use Rattle.pure_table.specs.Declare.Notes.{Fork}
use Rattle.pure_table.specs.Method.Outcome.{IsOutcomeOf}
use Rattle.pure_table.specs.Method.declared.outcome.Outcome.{Outcome}
use Rattle.pure_table.specs.Promise.declared.entry.Entry.{Entry as Held}
use Rattle.pure_table.specs.SessionLaws.Loaded.{IsLoadedSession}
use Rattle.pure_table.proofs.SessionMeaning.LabelLaws.{labels_ascend}
use Rattle.pure_table.specs.TheoryRun.Outline.{Outline}
use Rattle.pure_table.specs.TheoryRun.Sessions.{AreSaid}
use Rattle.pure_table.specs.Table.{IsEntryOf}
use Rattle.pure_table.proofs.PrintedLaws.{said_are_statements, said_are_parts}
use Rattle.pure_table.proofs.DerivedLaws.{table_has_fates}
use Rattle.pure_machine.specs.State.{Promise}
use Rattle.pure_core_end.specs.Promises.{AreInOrder}
use Rattle.pure_core_end.specs.Joined.{EndsSo, AreJoinedFrom, AreJoined}
use Rattle.pure_check_work.specs.Relations.{shape_of, ForksAfter, ClosesAfter}
use Rattle.pure_check_work.specs.Cancelled.{lemmas_of, cancelled_labels, IsHeldOf}
use Rattle.pure_check_work.specs.Said.{AreLeft, AreSaidBy}
use Rattle.pure_check_work.specs.Laws.{JoinedAreLeft, TableHasPremises}
use Rattle.pure_check_work.proofs.LeftLaws.{said-joined}
use Rattle.pure_check_work.proofs.EntryLaws.{entries-so, labels-of}
use Rattle.pure_check_work.proofs.HeldLaws.{held-seen, held-for}

-- each promise ended as its goal may
ended-from : (texts : List (List ℕ)) (theories : List Loaded) (i : ℕ) (values : List Outline) (promises : List (Promise Fork Outcome)) → AreJoinedFrom (ForksAfter texts theories) (ClosesAfter texts theories) (IsOutcomeOf texts) i values promises
    → Each (λ (p : Promise Fork Outcome). EndsSo (IsOutcomeOf texts) p.goal p.standing) promises
ended-from texts theories i [] promises h = subst (Each (λ (p : Promise Fork Outcome). EndsSo (IsOutcomeOf texts) p.goal p.standing)) (sym h) tt
ended-from texts theories i (value ∷ values) promises h =
    subst (Each (λ (p : Promise Fork Outcome). EndsSo (IsOutcomeOf texts) p.goal p.standing)) (sym h.2)
    (each-append (λ (p : Promise Fork Outcome). EndsSo (IsOutcomeOf texts) p.goal p.standing) h.0 h.1 h.3.ended (ended-from texts theories (suc i) values h.1 h.4))

pub joined_are_left : JoinedAreLeft
joined_are_left texts theories loaded values promises h = record { lemmas = lemmas_of promises; said = said; entries = entries-so texts promises ascend (ended-from texts theories 1 values promises h.left) }
  where
    said : AreSaid texts theories values (lemmas_of promises)
    said = said-joined texts theories loaded values promises h

    ascend : IsLabelSet (map (λ (p : Promise Fork Outcome). (p.goal).label) promises)
    ascend = (let notes = said_are_statements texts theories values (lemmas_of promises) said in subst IsLabelSet (ap (map Fork.label) (sym notes.2) ∙ labels-of promises) (labels_ascend texts theories loaded notes.0 notes.1))

pub table_has_premises : TableHasPremises
table_has_premises S loaded cancelled p texts left refused =
    let notes = said_are_statements S.names S.theories p.values left.lemmas left.said in
    (table_has_fates S loaded cancelled notes.0 p.entries notes.1 (subst (λ fs. EachTwo (IsEntryOf S.names cancelled) fs p.entries) notes.2 left.entries), said_are_parts S cancelled p left.lemmas texts left.said left.entries refused)

-- what a core left, with the entries that the program holds
pub said-by : (texts : List (List ℕ)) (theories : List Loaded) → IsLoadedSession texts theories → (numbered lent promises : List (Promise Fork Outcome)) (values : List Outline) (entries : List Held) → lent ≡ numbered → AreInOrder lent promises
    → AreJoined (shape_of theories) (ForksAfter texts theories) (ClosesAfter texts theories) (IsOutcomeOf texts) values promises → EachTwo IsHeldOf promises entries → (duties : List Fork) → duties ≡ lemmas_of promises → AreSaidBy texts theories numbered values entries duties
unfolding joined_are_left
said-by texts theories loaded numbered lent promises values entries same in_order joined held duties are =
    let seen_is = held-seen promises entries held in
    let left = joined_are_left texts theories loaded values promises joined in
    record {
      ordered = promises;
      in_order = subst (λ ps. AreInOrder ps promises) same in_order;
      entries_are = seen_is;
      duties_are = are;
      left = record { lemmas = lemmas_of promises; said = left.said; entries = subst (λ rows. EachTwo (IsEntryOf texts (cancelled_labels promises)) (lemmas_of promises) rows) (sym seen_is) left.entries };
      held = held-for texts (cancelled_labels promises) promises entries left.entries (ended-from texts theories 1 values promises joined.left) held;
    }
