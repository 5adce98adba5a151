-- Sessions without haves: nothing is local to a lemma, and the table is what it was.
use Rattle.std.specs.Prelude.{◌≡◌, ◌↔◌, ℕ, List, map, Option}
use Rattle.pure_text.specs.Lists.{IsIn, Each}
use Rattle.pure_definitions.specs.Names.{Label}
use Rattle.pure_definitions.specs.Terms.Term.{Term}
use Rattle.pure_definitions.specs.Declarations.Decl.{PromiseDecl}
use Rattle.pure_typ.specs.NameTexts.{AreSessionTexts, HasText}
use Rattle.pure_logic.specs.Content.{Content}
use Rattle.pure_lookup.specs.Meaning.{full_text}
use Rattle.pure_lookup.specs.LookUps.{Fact, IsFoundFact, IsFoundLocal}
use Rattle.pure_io.specs.declared.library.File as library
use Rattle.pure_graph.specs.Listing.{AreTheories}
use Rattle.pure_graph.specs.Reading.{Answer}
use Rattle.pure_graph.specs.Order.{Loaded}
use Rattle.pure_graph.specs.Session.{Session, IsSessionOf, answer_in}
use Rattle.pure_graph.specs.Laws.{HasNoVersionWord}
use Rattle.pure_graph.specs.First as loading
use Rattle.pure_loading_laws.specs.Plain.{HasNoDot, IsPlainText}
use Rattle.pure_table.specs.Declare.Notes.{Fork}
use Rattle.pure_table.specs.Method.Proof.{ProofOutcome, IsProof, IsProofIn}
use Rattle.pure_table.specs.SessionLaws.Loaded.{IsLoadedSession}
use Rattle.pure_table.specs.SessionMeaning.First.{HasNoHaves}
use Rattle.pure_table.specs.SessionMeaning.Laws.{IsSomeFork}
use Rattle.pure_table.specs.Table.{Table, IsTable, session_text}
use Rattle.pure_table_laws.specs.First as first

-- A loaded theory as all were while there were no haves, with names of identifiers.
pub record IsFirstTheory (l : Loaded) : Type 0 where
  pub without : HasNoHaves l
  pub plain : IsPlainText l.text

-- The name's text is that of a theory, a dot, and a base, which has no dot.
pub record HasTwoParts (texts : List (List ℕ)) (n : ℕ) : Type 0 where
  pub theory : List ℕ
  pub base : List ℕ
  pub plain_theory : HasNoDot theory
  pub plain_base : HasNoDot base
  pub full : HasText texts n (full_text theory base)

-- Each promise of the content has such a name.
abbrev pub HasPlainPromises : (texts : List (List ℕ)) → Content → Type 0
HasPlainPromises texts Q = (x : ℕ) (l : Label) (A : Term) → IsIn (PromiseDecl x l A) Q.declarations → HasTwoParts texts x

-- So it is with the content over which a lemma of such theories is bound.
abbrev pub PromisesHaveTwoParts : Type 0
PromisesHaveTwoParts = (texts : List (List ℕ)) (theories : List Loaded) → IsLoadedSession texts theories → Each IsFirstTheory theories
    → (f : Fork) → IsSomeFork texts theories f → HasPlainPromises texts f.content

-- Hence in its proof a fact is found that is found everywhere, and none else,
abbrev pub LookUpIsFirst : Type 0
LookUpIsFirst = (texts : List (List ℕ)) (theories : List Loaded) → IsLoadedSession texts theories → Each IsFirstTheory theories → (f : Fork) → IsSomeFork texts theories f
    → (written : List ℕ) (found : Option Fact) → IsFoundLocal texts f.content f.lemma written found ↔ IsFoundFact texts f.content written found

-- and the same comes of its proof.
abbrev pub ProofIsFirst : Type 0
ProofIsFirst = (texts : List (List ℕ)) (theories : List Loaded) → IsLoadedSession texts theories → Each IsFirstTheory theories → (f : Fork) → IsSomeFork texts theories f
    → (outcome : ProofOutcome) → IsProofIn texts f.content f.lemma f.fixed f.script outcome ↔ IsProof texts f.content f.fixed f.script outcome

-- The session of such theories comes to the table to which it came.
abbrev pub TableIsFirst : Type 0
TableIsFirst = (S : Session) → IsLoadedSession S.names S.theories → Each IsFirstTheory S.theories
    → (cancelled : List Label) (t : Table) → IsTable S cancelled t ↔ first.IsTable S cancelled t

-- This is the session of files with these answers, and the table to which it comes.
pub record IsTableOf (answers : List Answer) (S : Session) (cancelled : List Label) (t : Table) : Type 0 where
  pub session : IsSessionOf answers S
  pub table : IsTable S cancelled t

-- So it was while there were one version and no haves.
pub record WasTableOf (answers : List Answer) (S : Session) (cancelled : List Label) (t : Table) : Type 0 where
  pub session : loading.IsSessionOf loading.IsTheoryText loading.IsFaultPlace answers S
  pub table : first.IsTable S cancelled t

-- Files without the word `version` have the session that they had, where its names aren't too many, and come to the table to which they came.
abbrev pub TableWithoutVersions : Type 0
TableWithoutVersions = (answers : List Answer) → Each HasNoVersionWord answers → (S : Session) → AreSessionTexts S.names
    → (cancelled : List Label) (t : Table) → IsTableOf answers S cancelled t ↔ WasTableOf answers S cancelled t

-- The text is that of the files' table, where answers on their theories have such sessions and come to such tables.
pub record IsTextBy (Has : List Answer → Session → List Label → Table → Type 0) (files : List library.File) (cancelled : List Label) (text : List ℕ) : Type 0 where
  pub theories : List (List ℕ)
  pub listed : AreTheories (map (λ (f : library.File). f.name) files) theories
  pub session : Session
  pub names : AreSessionTexts session.names
  pub table : Table
  pub has : Has (map (answer_in files) theories) session cancelled table
  pub shown : text ≡ session_text session table

-- Where no file of a theory has the word `version`, the text is what it was.
abbrev pub TextWithoutVersions : Type 0
TextWithoutVersions = (files : List library.File) → ((theory : List ℕ) → HasNoVersionWord (answer_in files theory))
    → (cancelled : List Label) (text : List ℕ) → IsTextBy IsTableOf files cancelled text ↔ IsTextBy WasTableOf files cancelled text
