-- What the calls ask of lemmas and their entries, of those of a table.
use Rattle.std.proofs.Common.{◌≡◌, ℕ, List, [], ◌∷◌}
use Rattle.pure_text.specs.Lists.{IsIn, EachTwo}
use Rattle.pure_text.proofs.ListLaws.{each_of}
use Rattle.pure_definitions.specs.Names.{Label}
use Rattle.pure_graph.specs.Order.{Loaded}
use Rattle.pure_lookup.specs.Laws.{IsInSession}
use Rattle.pure_table.specs.Declare.Notes.{Fork, Note}
use Rattle.pure_table.specs.Promise.Entries.{LemmaEntry}
use Rattle.pure_table.specs.SessionLaws.Loaded.{IsLoadedSession}
use Rattle.pure_table.specs.SessionMeaning.Statements.{forks_of, AreStatements}
use Rattle.pure_table.specs.Table.{IsEntryOf, AreEntriesOf}
use Rattle.pure_table.proofs.DerivedLaws.{provable, some_fork}
use Rattle.pure_citations.specs.Cited.{AreInSession, AreBeside}
use Rattle.pure_citations.specs.Drawn.{AreNamedRests}
use Rattle.pure_citations.proofs.EdgeLaws.{edge-rests, rests-edge}

weaker : {A B : Type 0} (R T : A → B → Type 0) → ((a : A) (b : B) → R a b → T a b) → (xs : List A) (ys : List B) → EachTwo R xs ys → EachTwo T xs ys
weaker R T f [] [] h = tt
weaker R T f [] (y ∷ ys) h = absurd h
weaker R T f (x ∷ xs) [] h = absurd h
weaker R T f (x ∷ xs) (y ∷ ys) h = (f x y h.0, weaker R T f xs ys h.1)

module _ (texts : List (List ℕ)) (theories : List Loaded) (loaded : IsLoadedSession texts theories) (notes : List Note) (statements : AreStatements texts theories notes) where
  -- Their contents are those of the session,
  pub in-session : AreInSession texts (forks_of notes)
  in-session = each_of (λ (f : Fork). IsInSession texts f.content) (forks_of notes) (λ f m. (provable texts theories loaded f (some_fork texts theories loaded notes statements f m)).in_session)

  module _ (cancelled : List Label) (es : List LemmaEntry) (are : AreEntriesOf texts cancelled notes es) where
    -- each has its entry,
    pub beside-entries : AreBeside (forks_of notes) es
    beside-entries = weaker (IsEntryOf texts cancelled) (λ f e. e.label ≡ f.label) (λ f e h. h.label) (forks_of notes) es are

    -- and proofs rest on what their steps name.
    pub named-rests : AreNamedRests texts (forks_of notes) es
    named-rests l k = (edge-rests texts theories loaded notes statements cancelled es are l k, rests-edge texts theories loaded notes statements cancelled es are l k)
