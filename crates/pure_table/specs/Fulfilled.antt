-- Laws of results: the results of a session's lemmas fulfil their promises, and may be joined.
use Rattle.std.specs.Prelude.{◌≡◌, ℕ, List, ◌∷◌, ◌++◌, length, map, Ok}
use Rattle.pure_text.specs.Lists.{EachTwo}
use Rattle.pure_definitions.specs.Names.{Label}
use Rattle.pure_theory_run.specs.Theory.Certified.{Certified}
use Rattle.pure_graph.specs.Session.{Session}
use Rattle.pure_promise.specs.declared.promise.Promise.{Promise}
use Rattle.pure_promise.specs.declared.entry.Entry.{Entry}
use Rattle.pure_promise.specs.declared.entry.Own.{Own}
use Rattle.pure_promise.specs.declared.entry.Own.TheVariants.{Proved, Fault}
use Rattle.pure_promise.specs.Accepting.{Fulfils}
use Rattle.pure_promise.specs.Joining.{MayJoin}
use Rattle.pure_promise.specs.Seen.{seen_entry}
use Rattle.pure_theory_run.specs.Declare.Notes.{Fork, Note}
use Rattle.pure_theory_run.specs.Method.Facts.{theorem}
use Rattle.pure_theory_run.specs.Method.Proof.{IsProofIn}
use Rattle.pure_theory_run.specs.Method.declared.outcome.Outcome.{Outcome}
use Rattle.pure_theory_run.specs.Method.declared.outcome.Outcome.TheVariants as shown
use Rattle.pure_theory_run.specs.SessionMeaning.Statements.{forks_of, AreStatements}
use Rattle.pure_theory_run.specs.SessionLaws.Loaded.{IsLoadedSession}
use Rattle.pure_table.specs.Table.{IsEntryOf}

-- The theorem is the lemma's result: its statement over its content, resting on the promises to which its proof comes.
pub record IsResultOf (texts : List (List ℕ)) (f : Fork) (c : Certified) : Type 0 where
  pub labels : List Label
  pub content : c.content ≡ f.content
  pub states : c.theorem ≡ theorem f.prop labels
  pub proof : IsProofIn texts f.content f.lemma f.fixed f.script (Ok labels)

-- The promise is that of the lemma, before which so many were bound: it states what the lemma does, over its content.
pub record IsPromiseFor (number : ℕ) (f : Fork) (p : Promise) : Type 0 where
  pub number_is : p.number ≡ number
  pub label : p.label ≡ f.label
  pub content : p.stage.value ≡ f.content
  pub prop : p.prop ≡ f.prop

-- A lemma's result fulfils its promise, where the session's lemmas are forked in order.
abbrev pub ResultsFulfil : Type 0
ResultsFulfil = (S : Session) → IsLoadedSession S.names S.theories → (notes : List Note) → AreStatements S.names S.theories notes
    → (earlier later : List Fork) (f : Fork) → forks_of notes ≡ earlier ++ f ∷ later
    → (p : Promise) → IsPromiseFor (length earlier) f p → (c : Certified) → IsResultOf S.names f c → Fulfils (map Fork.label (forks_of notes)) p c

-- what became of a lemma whose proof came to this, as the code holds it
abbrev pub own_of : Outcome → Own
own_of (shown.Proved c) = Proved c
own_of (shown.Fault step fault) = Fault step fault

-- The entry, as the code holds it, is that of the lemma; and the theorem that it holds is the lemma's result.
pub record IsHeldFor (texts : List (List ℕ)) (cancelled : List Label) (f : Fork) (e : Entry) : Type 0 where
  pub entry : IsEntryOf texts cancelled f (seen_entry e)
  pub result : (c : Certified) → e.own ≡ Proved c → IsResultOf texts f c

-- Entries that are held for the session's lemmas may be joined.
abbrev pub EntriesMayJoin : Type 0
EntriesMayJoin = (S : Session) → IsLoadedSession S.names S.theories → (cancelled : List Label) (notes : List Note) → AreStatements S.names S.theories notes
    → (es : List Entry) → EachTwo (IsHeldFor S.names cancelled) (forks_of notes) es → MayJoin es
