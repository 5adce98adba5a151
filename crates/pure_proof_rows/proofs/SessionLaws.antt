-- Sessions as they are loaded, and the lemmas that their statements bind.
use Rattle.std.proofs.Common.{ℕ, List, Option, sym, subst}
use Rattle.std.specs.List.{flat_map}
use Rattle.pure_text.specs.Lists.{Each}
use Rattle.pure_text.proofs.ListLaws.{each_of}
use Rattle.pure_typ.specs.NameTexts.{AreSessionTexts}
use Rattle.pure_io.specs.declared.library.File as library
use Rattle.pure_graph.specs.Order.{Loaded}
use Rattle.pure_graph.specs.Session.{Shown}
use Rattle.pure_graph.specs.SessionNames.{AreNames}
use Rattle.pure_session.specs.ToldTheories.{AreTheoriesOf}
use Rattle.pure_theory_run.specs.Declare.Notes.{Fork}
use Rattle.pure_theory_run.specs.Method.Outcome.{IsProvable}
use Rattle.pure_theory_run.specs.SessionLaws.Loaded.{IsLoadedSession}
use Rattle.pure_theory_run.proofs.SessionLaws.OrderLaws.{loaded-in-order}
use Rattle.pure_theory_run.proofs.SessionLaws.WellLaws.{loaded-well}
use Rattle.pure_theory_run.specs.SessionMeaning.Statements.{notes_of, forks_of, AreStatements}
use Rattle.pure_theory_run.proofs.SessionMeaning.ProvableLaws.{forks_provable}
use Rattle.pure_theory_run.proofs.SessionMeaning.StatementLaws.{statements_bind_forks}
use Rattle.pure_theory_run.specs.Outline.{Outline}
use Rattle.pure_theory_run.specs.Sessions.{AreSaid}

-- What was loaded of a library is what those who check it ask.
pub loaded_session : (told : Option (List library.File)) (theories : List Loaded) (refused : List Shown) (files : ℕ) (texts : List (List ℕ)) → AreTheoriesOf told theories refused files → AreNames theories texts → AreSessionTexts texts
    → IsLoadedSession texts theories
loaded_session told theories refused files texts of named session =
    let order = loaded-in-order of.answers theories of.refusals files of.loading in
    record {
      names = session;
      well = loaded-well of.answers theories of.refusals files of.loading texts named;
      distinct = order.names;
      parents = λ place theory is. (order.parents place theory is).earlier;
    }

statements-of : (texts : List (List ℕ)) (theories : List Loaded) (values : List Outline) (forks : List Fork) → (said : AreSaid texts theories values forks) → AreStatements texts theories (flat_map notes_of said.closed.verdicts)
statements-of texts theories values forks said = record { verdicts = said.closed.verdicts; are = said.closed.are; all = said.all; notes_are = λ _. flat_map notes_of said.closed.verdicts }

-- A proof can be run of each lemma that the statements of a loaded session bind.
pub all_provable : (texts : List (List ℕ)) (theories : List Loaded) (values : List Outline) (forks : List Fork) → IsLoadedSession texts theories → AreSaid texts theories values forks → Each (IsProvable texts) forks
all_provable texts theories values forks loaded said =
    let notes = flat_map notes_of said.closed.verdicts in
    let bound = statements_bind_forks texts theories loaded notes (statements-of texts theories values forks said) in
    subst (Each (IsProvable texts)) (sym said.closed.forks_are)
    (each_of (IsProvable texts) (forks_of notes) (λ f m. let some = (bound f).0 m in forks_provable texts theories loaded some.0 some.1 f some.2))
