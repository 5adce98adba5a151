-- What the table of a session is formed from.
use Rattle.std.specs.Prelude.{◌≡◌, ℕ, List}
use Rattle.pure_text.specs.Lists.{EachTwo}
use Rattle.pure_definitions.specs.Names.{Label}
use Rattle.pure_graph.specs.Order.{Loaded}
use Rattle.pure_table.specs.Declare.Notes.{Fork}
use Rattle.pure_table.specs.Promise.Entries.{LemmaEntry}
use Rattle.pure_table.specs.Promise.Seen.{seen}
use Rattle.pure_table.specs.Promise.declared.entry.Entry as code
use Rattle.pure_table.specs.TheoryRun.Outline.{Outline}
use Rattle.pure_table.specs.TheoryRun.Sessions.{AreSaid}
use Rattle.pure_table.specs.Method.declared.outcome.Outcome.{Outcome}
use Rattle.pure_table.specs.Table.{IsEntryOf}
use Rattle.pure_table.specs.Fulfilled.{IsHeldFor}
use Rattle.pure_machine.specs.State.{Promise}
use Rattle.pure_core_end.specs.Promises.{AreInOrder}
use Rattle.pure_check_work.specs.Cancelled.{lemmas_of, cancelled_labels, entries_of}

-- All theories closed with these values, and these are the entries of the lemmas that they bound, in order, where those with these labels are cancelled.
pub record AreLeft (texts : List (List ℕ)) (theories : List Loaded) (cancelled : List Label) (values : List Outline) (rows : List LemmaEntry) : Type 0 where
  pub lemmas : List Fork
  pub said : AreSaid texts theories values lemmas
  pub entries : EachTwo (IsEntryOf texts cancelled) lemmas rows

-- What the theories left, their lemmas and the entries of these, by these promises: the entries are those of the promises in load order, where the lemmas of the cancelled ones are cancelled; and a theorem that an entry holds is its lemma's result.
pub record AreSaidBy (texts : List (List ℕ)) (theories : List Loaded) (promises : List (Promise Fork Outcome)) (values : List Outline) (entries : List code.Entry) (duties : List Fork) : Type 0 where
  pub ordered : List (Promise Fork Outcome)
  pub in_order : AreInOrder promises ordered
  pub entries_are : seen entries ≡ entries_of ordered
  pub left : AreLeft texts theories (cancelled_labels ordered) values (seen entries)
  pub duties_are : duties ≡ left.lemmas
  pub held : EachTwo (IsHeldFor texts (cancelled_labels ordered)) (lemmas_of ordered) entries
