-- What lemmas cite and reach is what edges lead to.
use Rattle.std.proofs.Common.{◌≡◌, ◌∙◌, ℕ, List, [], ◌∷◌, inl, inr, refl, sym, ap, subst, map}
use Rattle.std.specs.Prelude.{Ok}
use Rattle.pure_text.specs.Lists.{IsIn, EachTwo}
use Rattle.pure_definitions.specs.Names.{Label}
use Rattle.pure_definitions.specs.Terms.Term.{Term}
use Rattle.pure_grammar.specs.Theories.TheoryText.{Step}
use Rattle.pure_logic.specs.Content.{Content}
use Rattle.pure_graph.specs.Order.{Loaded}
use Rattle.pure_promise_fates.specs.Entries as fates
use Rattle.pure_promise_fates.specs.Entries.{Shown, Became, RestsOn, Reaches, directly, through}
use Rattle.pure_promise_fates.proofs.ProvedLaws.{in_mapped}
use Rattle.pure_table.specs.Declare.Notes.{Fork, Note}
use Rattle.pure_table.specs.Method.Facts.{AreNamedIn}
use Rattle.pure_table.specs.Method.Proof.{IsProofBy, IsProofIn}
use Rattle.pure_table.specs.Promise.Entries.{LemmaEntry, plain}
use Rattle.pure_table.specs.SessionLaws.Loaded.{IsLoadedSession}
use Rattle.pure_table.specs.SessionMeaning.Statements.{forks_of, AreStatements}
use Rattle.pure_table.specs.Table.{IsEntryOf, AreEntriesOf}
use Rattle.pure_citations.specs.Cites.{IsReachedFrom, IsOk, Cites}
use Rattle.pure_citations.specs.Edges.{Node, OfAxiom, OfLemma, Edge, Leads}
use Rattle.pure_citations.specs.Laws.{CitedAreLedTo, ReachedAreLedTo}
use Rattle.pure_citations.proofs.CitedLaws.{proof-of}

-- the promises that a proof's steps name are those on which it rests
named-of : (texts : List (List ℕ)) (Q : Content) (lemma : ℕ) (C : Term) (script : List Step) (labels : List Label) → IsProofIn texts Q lemma C script (Ok labels) → AreNamedIn texts Q lemma script labels
named-of texts Q lemma C script labels (IsProofBy.proved b h named) = named

-- Of two lists that belong together, what an element of the second stands beside.
beside-second : {A B : Type 0} (T : A → B → Type 0) (xs : List A) (ys : List B) → EachTwo T xs ys → (y : B) → IsIn y ys → (x : A) × IsIn x xs × T x y
beside-second T [] [] h y m = absurd m
beside-second T [] (b ∷ ys) h y m = absurd h
beside-second T (a ∷ xs) [] h y m = absurd h
beside-second T (a ∷ xs) (b ∷ ys) h y (inl e) = (a, inl refl, subst (T a) (sym e) h.0)
beside-second T (a ∷ xs) (b ∷ ys) h y (inr m) = let found = beside-second T xs ys h.1 y m in (found.0, inr found.1, found.2)

module _ (texts : List (List ℕ)) (theories : List Loaded) (loaded : IsLoadedSession texts theories) (notes : List Note) (statements : AreStatements texts theories notes) (cancelled : List Label) (es : List LemmaEntry)
    (are : AreEntriesOf texts cancelled notes es) where
  abbrev fs : List Fork
  fs = forks_of notes

  abbrev ps : List fates.Entry
  ps = map plain es

  -- An edge to a lemma is a promise on which the proof rests.
  pub edge-rests : (l k : Label) → Edge texts fs es l (OfLemma k) → RestsOn ps l k
  edge-rests l k e =
      let f = e.lemma in
      let rests = e.shown.0 in
      let became : Became ps f.label (Shown rests) = subst (λ i. Became ps i (Shown rests)) (sym e.label) e.shown.1 in
      let named = named-of texts f.content f.lemma f.fixed f.script rests (proof-of texts theories loaded notes statements cancelled es are f e.stands rests became) in
      (rests, e.shown.1, (named.exactly k).1 e.names)

  pub rests-edge : (l k : Label) → RestsOn ps l k → Edge texts fs es l (OfLemma k)
  rests-edge l k (rests, b, m) =
      let entry = in_mapped plain b.entry es b.stands in
      let beside = beside-second (IsEntryOf texts cancelled) fs es are entry.0 entry.1 in
      let f = beside.0 in
      let label : f.label ≡ l = sym beside.2.label ∙ ap (λ (x : fates.Entry). x.label) entry.2 ∙ b.of_label in
      let became : Became ps f.label (Shown rests) = subst (λ i. Became ps i (Shown rests)) (sym label) b in
      let named = named-of texts f.content f.lemma f.fixed f.script rests (proof-of texts theories loaded notes statements cancelled es are f beside.1 rests became) in
      record { lemma = f; stands = beside.1; label = label; shown = (rests, b); names = (named.exactly k).0 m }

  reached-led : (l k : Label) → Reaches ps l k → Leads texts fs es (OfLemma k) l
  reached-led l k (directly on) = Leads.at_once (rests-edge l k on)
  reached-led l k (through m on r) = Leads.further m (rests-edge l m on) (reached-led m k r)

  led-reached : (k l : Label) → Leads texts fs es (OfLemma k) l → Reaches ps l k
  led-reached k l (Leads.at_once e) = directly (edge-rests l k e)
  led-reached k l (Leads.further m e r) = through m (edge-rests l m e) (led-reached k m r)

  led-by : (m : Label) (to : Node) → Edge texts fs es m to → (l : Label) → Leads texts fs es (OfLemma m) l → Leads texts fs es to l
  led-by m to last l (Leads.at_once e) = Leads.further m e (Leads.at_once last)
  led-by m to last l (Leads.further k e r) = Leads.further k e (led-by m to last k r)

  cited-led : (l : Label) (name : ℕ) → Cites texts fs es l name → Leads texts fs es (OfAxiom name) l
  cited-led l name c =
      let f = c.lemma in
      let last : Edge texts fs es f.label (OfAxiom name) = record { lemma = f; stands = c.stands; label = refl; shown = c.shown; names = c.names } in
      elim c.reached [
        | inl same ↦ subst (Leads texts fs es (OfAxiom name)) (sym same) (Leads.at_once last)
        | inr r ↦ led-by f.label (OfAxiom name) last l (reached-led l f.label r)
      ]

  reached-further : (l m k : Label) → RestsOn ps l m → IsReachedFrom es m k → IsReachedFrom es l k
  reached-further l m k on (inl same) = inr (directly (subst (λ i. RestsOn ps l i) same on))
  reached-further l m k on (inr r) = inr (through m on r)

  led-cited : (name : ℕ) (l : Label) → Leads texts fs es (OfAxiom name) l → Cites texts fs es l name
  led-cited name l (Leads.at_once e) =
      record { lemma = e.lemma; stands = e.stands; reached = inl (sym e.label); shown = subst (IsOk es) (sym e.label) e.shown; names = e.names }
  led-cited name l (Leads.further m e r) =
      let c = led-cited name m r in
      record { lemma = c.lemma; stands = c.stands; reached = reached-further l m c.lemma.label (edge-rests l m e) c.reached; shown = c.shown; names = c.names }

pub cited_are_led_to : CitedAreLedTo
cited_are_led_to S loaded cancelled t table l name = (
  cited-led S.names S.theories loaded t.notes table.statements cancelled t.entries table.entries l name,
  led-cited S.names S.theories loaded t.notes table.statements cancelled t.entries table.entries name l,
)

pub reached_are_led_to : ReachedAreLedTo
reached_are_led_to S loaded cancelled t table l k = (
  reached-led S.names S.theories loaded t.notes table.statements cancelled t.entries table.entries l k,
  led-reached S.names S.theories loaded t.notes table.statements cancelled t.entries table.entries k l,
)
