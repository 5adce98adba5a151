-- Where no command has haves look-ups, proofs and tables are what they were.
use Rattle.std.proofs.Common.{◌↔◌, ℕ, List, [], ◌∷◌, map, Option, Some, None, inl, inr, refl}
use Rattle.pure_text.specs.Lists.{IsIn, Each, EachTwo}
use Rattle.pure_text.proofs.ListLaws.{each_of, each_at, each_imply}
use Rattle.pure_definitions.specs.Names.{Label}
use Rattle.pure_typ.specs.NameTexts.{AreSessionTexts}
use Rattle.pure_lookup.specs.LookUps.{Fact, PromisedFact, IsFoundFact, IsFoundLocal, local, elsewhere}
use Rattle.pure_io.specs.declared.library.File as library
use Rattle.pure_graph.specs.Reading.{Answer}
use Rattle.pure_graph.specs.Order.{Loaded}
use Rattle.pure_graph.specs.Session.{Session, IsSessionOf, answer_in}
use Rattle.pure_graph.specs.Laws.{HasNoVersionWord}
use Rattle.pure_graph.specs.First as loading
use Rattle.pure_graph.proofs.VersionLemmas.{session_without_versions}
use Rattle.pure_loading_laws.specs.Plain.{IsPlainText}
use Rattle.pure_loading_laws.proofs.PlainLaws.{loaded_are_plain, no_haves_without_versions}
use Rattle.pure_table.specs.Declare.Notes.{Fork, Note}
use Rattle.pure_table.specs.Method.Proof.{ProofOutcome}
use Rattle.pure_table.proofs.Method.InLemmaLaws.{nothing_is_local}
use Rattle.pure_table.specs.Promise.Entries.{LemmaEntry}
use Rattle.pure_table.specs.SessionLaws.Loaded.{IsLoadedSession}
use Rattle.pure_table.proofs.SessionLaws.OrderLaws.{loaded-in-order}
use Rattle.pure_table.proofs.SessionLaws.WellLaws.{loaded-well}
use Rattle.pure_table.specs.SessionMeaning.Statements.{forks_of}
use Rattle.pure_table.specs.SessionMeaning.First.{HasNoHaves}
use Rattle.pure_table.specs.SessionMeaning.Laws.{IsSomeFork}
use Rattle.pure_table.proofs.SessionMeaning.FirstLaws.{statements_as_first}
use Rattle.pure_table.specs.Table.{Table, IsOwn, IsEntryOf, IsTable}
use Rattle.pure_table.proofs.DerivedLaws.{some_fork}
use Rattle.pure_table_laws.specs.First as first
use Rattle.pure_table_laws.specs.WithoutHaves.{IsFirstTheory, IsTableOf, WasTableOf, IsTextBy, LookUpIsFirst, ProofIsFirst, TableIsFirst, TableWithoutVersions, TextWithoutVersions}
use Rattle.pure_table_laws.proofs.PromiseLaws.{none-local}

pub look_up_is_first : LookUpIsFirst
look_up_is_first texts theories session all f some written found = (outside found, λ h. elsewhere (none-local texts theories session all f some written) h)
  where
    outside : (answer : Option Fact) → IsFoundLocal texts f.content f.lemma written answer → IsFoundFact texts f.content written answer
    outside (Some (PromisedFact n l A)) (local h) = absurd (none-local texts theories session all f some written n l A h)
    outside answer (elsewhere none h) = h

pub proof_is_first : ProofIsFirst
proof_is_first texts theories session all f some outcome = nothing_is_local texts f.content f.lemma (none-local texts theories session all f some) f.fixed f.script outcome

-- Of two lists each two elements are related otherwise, too.
two_imply : {A B : Type 0} (P : A → Type 0) (R S : A → B → Type 0) → ((a : A) (b : B) → P a → R a b → S a b) → (xs : List A) (ys : List B) → ((a : A) → IsIn a xs → P a) → EachTwo R xs ys → EachTwo S xs ys
two_imply P R S f [] [] each h = tt
two_imply P R S f [] (y ∷ ys) each h = absurd h
two_imply P R S f (x ∷ xs) [] each h = absurd h
two_imply P R S f (x ∷ xs) (y ∷ ys) each h = (f x y (each x (inl refl)) h.0, two_imply P R S f xs ys (λ a m. each a (inr m)) h.1)

module _ (texts : List (List ℕ)) (theories : List Loaded) (session : IsLoadedSession texts theories) (all : Each IsFirstTheory theories) (cancelled : List Label) where
  own_is_first : (f : Fork) → IsSomeFork texts theories f → (own : Option ProofOutcome) → IsOwn texts cancelled f own ↔ first.IsOwn texts cancelled f own
  own_is_first f some None = (λ h. h, λ h. h)
  own_is_first f some (Some outcome) = (
    λ h. (h.0, (proof_is_first texts theories session all f some outcome).0 h.1),
    λ h. (h.0, (proof_is_first texts theories session all f some outcome).1 h.1),
  )

  entry_to : (f : Fork) (e : LemmaEntry) → IsSomeFork texts theories f → IsEntryOf texts cancelled f e → first.IsEntryOf texts cancelled f e
  entry_to f e some h = record { label = h.label; name = h.name; prop = h.prop; own = (own_is_first f some e.own).0 h.own }

  entry_from : (f : Fork) (e : LemmaEntry) → IsSomeFork texts theories f → first.IsEntryOf texts cancelled f e → IsEntryOf texts cancelled f e
  entry_from f e some h = record { label = h.label; name = h.name; prop = h.prop; own = (own_is_first f some e.own).1 h.own }

  module _ (notes : List Note) (some : (f : Fork) → IsIn f (forks_of notes) → IsSomeFork texts theories f) (entries : List LemmaEntry) where
    entries_to : EachTwo (IsEntryOf texts cancelled) (forks_of notes) entries → first.AreEntriesOf texts cancelled notes entries
    entries_to h = two_imply (IsSomeFork texts theories) (IsEntryOf texts cancelled) (first.IsEntryOf texts cancelled) entry_to (forks_of notes) entries some h

    entries_from : first.AreEntriesOf texts cancelled notes entries → EachTwo (IsEntryOf texts cancelled) (forks_of notes) entries
    entries_from h = two_imply (IsSomeFork texts theories) (first.IsEntryOf texts cancelled) (IsEntryOf texts cancelled) entry_from (forks_of notes) entries some h

pub table_is_first : TableIsFirst
table_is_first S session all cancelled t =
    let none : Each HasNoHaves S.theories = each_imply IsFirstTheory HasNoHaves S.theories (λ l h. h.without) all in
    let same = statements_as_first S.names S.theories none t.notes in (
      λ h. record {
        statements = same.0 h.statements;
        entries = entries_to S.names S.theories session all cancelled t.notes (some_fork S.names S.theories session t.notes h.statements) t.entries h.entries;
        rows = h.rows;
      },
      λ h. record {
        statements = same.1 h.statements;
        entries = entries_from S.names S.theories session all cancelled t.notes (some_fork S.names S.theories session t.notes (same.1 h.statements)) t.entries h.entries;
        rows = h.rows;
      },
    )

-- The session of files is as those who check it ask, where its names are those of one.
session-loaded : (answers : List Answer) (S : Session) → IsSessionOf answers S → AreSessionTexts S.names → IsLoadedSession S.names S.theories
session-loaded answers S of names =
    let order = loaded-in-order answers S.theories S.refused S.files of.loading in
    record {
      names = names;
      well = loaded-well answers S.theories S.refused S.files of.loading S.names of.named;
      distinct = order.names;
      parents = λ place theory is. (order.parents place theory is).earlier;
    }

-- The theories of a session of files without the word `version` are as all were.
first-theories : (answers : List Answer) (S : Session) → Each HasNoVersionWord answers → IsSessionOf answers S → Each IsFirstTheory S.theories
first-theories answers S without of =
    let none : Each HasNoHaves S.theories = no_haves_without_versions answers S.theories S.refused S.files without of.loading in
    let plain : Each (λ (l : Loaded). IsPlainText l.text) S.theories = loaded_are_plain answers S.theories S.refused S.files of.loading in
    each_of IsFirstTheory S.theories (λ l m. record { without = each_at HasNoHaves S.theories none l m; plain = each_at (λ (k : Loaded). IsPlainText k.text) S.theories plain l m })

pub table_without_versions : TableWithoutVersions
table_without_versions answers without S names cancelled t = (
  λ h. record { session = same.0 h.session; table = (alike h.session).0 h.table },
  λ h. record { session = same.1 h.session; table = (alike (same.1 h.session)).1 h.table },
)
  where
    same : IsSessionOf answers S ↔ loading.IsSessionOf loading.IsTheoryText loading.IsFaultPlace answers S
    same = session_without_versions answers S without

    alike : IsSessionOf answers S → IsTable S cancelled t ↔ first.IsTable S cancelled t
    alike of = table_is_first S (session-loaded answers S of names) (first-theories answers S without of) cancelled t

-- A text that is so by tables of one kind is so by tables of another, where each of the one is of the other.
text-by : (Has Had : List Answer → Session → List Label → Table → Type 0) (files : List library.File) (cancelled : List Label)
    → ((theories : List (List ℕ)) (S : Session) → AreSessionTexts S.names → (t : Table) → Has (map (answer_in files) theories) S cancelled t → Had (map (answer_in files) theories) S cancelled t)
    → (text : List ℕ) → IsTextBy Has files cancelled text → IsTextBy Had files cancelled text
text-by Has Had files cancelled to text h = record {
  theories = h.theories;
  listed = h.listed;
  session = h.session;
  names = h.names;
  table = h.table;
  has = to h.theories h.session h.names h.table h.has;
  shown = h.shown;
}

pub text_without_versions : TextWithoutVersions
text_without_versions files without cancelled text = (
  text-by IsTableOf WasTableOf files cancelled (λ theories S names t. (alike theories S names t).0) text,
  text-by WasTableOf IsTableOf files cancelled (λ theories S names t. (alike theories S names t).1) text,
)
  where
    none : (theories : List (List ℕ)) → Each HasNoVersionWord (map (answer_in files) theories)
    none [] = tt
    none (theory ∷ theories) = (without theory, none theories)

    alike : (theories : List (List ℕ)) (S : Session) → AreSessionTexts S.names → (t : Table) → IsTableOf (map (answer_in files) theories) S cancelled t ↔ WasTableOf (map (answer_in files) theories) S cancelled t
    alike theories S names t = table_without_versions (map (answer_in files) theories) (none theories) S names cancelled t
