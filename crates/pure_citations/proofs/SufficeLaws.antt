-- What is listed for a proved lemma suffices, and is what edges lead to.
use Rattle.std.proofs.Common.{◌≡◌, ◌∙◌, ℕ, List, [], ◌∷◌, inl, inr, refl, sym, ap, subst, map}
use Rattle.std.specs.Prelude.{Some}
use Rattle.std.proofs.lemmas.Option.{same_Some}
use Rattle.pure_text.specs.Lists.{IsIn, AnyOf, EachTwo}
use Rattle.pure_text.proofs.ListLaws.{any_of}
use Rattle.pure_definitions.specs.Names.{Label}
use Rattle.pure_graph.specs.Session.{Session}
use Rattle.pure_logic.specs.Derivable.{IsDerivableAlone}
use Rattle.pure_typ.specs.NameTexts.{HasText}
use Rattle.pure_promise_fates.specs.Entries as fates
use Rattle.pure_promise_fates.proofs.PlaceLaws.{at-in, in-at, at-once, at-map, one_place}
use Rattle.pure_promise_fates.specs.Reach.{IsAt}
use Rattle.pure_print.specs.declared.row.Row.{Row}
use Rattle.pure_print.specs.declared.row.RowStatus.TheVariants.{Proved}
use Rattle.pure_table.specs.Declare.Notes.{Fork}
use Rattle.pure_table.specs.Promise.Entries.{LemmaEntry, plain}
use Rattle.pure_table.specs.SessionLaws.Loaded.{IsLoadedSession}
use Rattle.pure_table.specs.SessionMeaning.Statements.{forks_of}
use Rattle.pure_table.specs.Table.{Table, IsTable, IsEntryOf, table_rows}
use Rattle.pure_table.proofs.DerivedLaws.{has_fates}
use Rattle.pure_citations.specs.Cites.{Cites}
use Rattle.pure_citations.specs.Edges.{OfAxiom, OfLemma, Leads}
use Rattle.pure_citations.specs.Heads.{Picks}
use Rattle.pure_citations.specs.Laws.{AreAllCited}
use Rattle.pure_citations.specs.Listed.{IsListed}
use Rattle.pure_citations.specs.Rowed.{Declares, IsListedFor, IsAxiomLedTo, IsFaultLedTo, ListedSuffice, ListedAreLedTo}
use Rattle.pure_citations.specs.Without.{with_axioms}
use Rattle.pure_citations.proofs.CitedLaws.{beside, cited_suffice, two_imply}
use Rattle.pure_citations.proofs.EdgeLaws.{cited_are_led_to, reached_are_led_to}
use Rattle.pure_citations.proofs.RowedLaws.{cited_have_rows}

-- An element with the property is picked.
picked-in : {A : Type 0} (P : A → Type 0) (xs picked : List A) → Picks P xs picked → (x : A) → IsIn x xs → P x → IsIn x picked
picked-in P [] [] Picks.none x m p = absurd m
picked-in P [] (y ∷ picked) h x m p = elim h [ ]
picked-in P (y ∷ xs) (y' ∷ picked) (Picks.takes q h) x (inl same) p = inl same
picked-in P (y ∷ xs) (y' ∷ picked) (Picks.takes q h) x (inr m) p = inr (picked-in P xs picked h x m p)
picked-in P (y ∷ xs) picked (Picks.leaves q h) x (inl same) p = absurd (q (subst P same p))
picked-in P (y ∷ xs) picked (Picks.leaves q h) x (inr m) p = picked-in P xs picked h x m p

pub listed_suffice : ListedSuffice
listed_suffice S loaded cancelled t table =
    two_imply _ _ (forks_of t.notes) t.lemmas (λ f row m derived proved name named listed picks names covers.
    let entry = beside (IsEntryOf S.names cancelled) (forks_of t.notes) t.entries table.entries f m in
    derived proved names (λ n cites.
    let r = cited_have_rows S loaded cancelled t table f.label n cites in
    let cited : Cites S.names (forks_of t.notes) t.entries (entry.0).label n = subst (λ l. Cites S.names (forks_of t.notes) t.entries l n) (sym entry.2.label) cites in
    let called : HasText S.names (entry.0).name name = subst (λ k. HasText S.names k name) (sym entry.2.name) named in
    let number = r.2.3 in
    let here : IsListedFor S t name r.0 = inl (r.2.0, r.2.1, r.2.2, (number.0, number.1, (entry.0, entry.1, called, subst (λ k. Cites S.names (forks_of t.notes) t.entries (entry.0).label k) (sym number.2) cited))) in
    covers n (any_of (Declares S.names n) r.0 listed (picked-in (IsListedFor S t name) (table_rows S t) listed picks r.0 r.1 here) r.2)))
    (cited_suffice S loaded cancelled t table)

one-text : (texts : List (List ℕ)) (n : ℕ) (a b : List ℕ) → HasText texts n a → HasText texts n b → a ≡ b
one-text texts n a b h k = same_Some a b (sym h ∙ k)

module _ (S : Session) (loaded : IsLoadedSession S.names S.theories) (cancelled : List Label) (t : Table) (table : IsTable S cancelled t) where
  -- entries with one label are one
  one-entry : (e g : LemmaEntry) → IsIn e t.entries → IsIn g t.entries → e.label ≡ g.label → e ≡ g
  one-entry e g m n same =
      let ascend = (has_fates S.names S.theories loaded t.notes table.statements cancelled t.entries table.entries).ascend in
      let p = in-at t.entries e m in
      let q = in-at t.entries g n in
      let place = one_place (map plain t.entries) ascend p.0 q.0 (plain e) (plain g) (at-map plain t.entries p.0 e p.1) (at-map plain t.entries q.0 g q.1) same in
      at-once t.entries q.0 e g (subst (λ k. IsAt t.entries k e) place p.1) q.1

  there : (name : List ℕ) (r : Row) → IsListedFor S t name r → IsListed S.names (IsAxiomLedTo S t name) (IsFaultLedTo S t name) name r
  there name r (inl (declared, full, heads, (n, text, (e, m, named, cites)))) = inl (declared, full, heads, (n, text, (e, m, named, (cited_are_led_to S loaded cancelled t table e.label n).0 cites)))
  there name r (inr (failed, other, (n, text, (e, g, m, named, k, fault, inl same, called)))) =
      let one : e ≡ g = one-entry e g m k same in
      let own : HasText S.names n name = subst (λ x. HasText S.names x name) (ap (λ (x : LemmaEntry). x.name) one ∙ called) named in
      absurd (other (one-text S.names n r.head name text own))
  there name r (inr (failed, other, (n, text, (e, g, m, named, k, fault, inr reached, called)))) =
      inr (failed, other, (n, text, (e, g, m, named, k, fault, (reached_are_led_to S loaded cancelled t table e.label g.label).0 reached, called)))

  back : (name : List ℕ) (r : Row) → IsListed S.names (IsAxiomLedTo S t name) (IsFaultLedTo S t name) name r → IsListedFor S t name r
  back name r (inl (declared, full, heads, (n, text, (e, m, named, led)))) = inl (declared, full, heads, (n, text, (e, m, named, (cited_are_led_to S loaded cancelled t table e.label n).1 led)))
  back name r (inr (failed, other, (n, text, (e, g, m, named, k, fault, led, called)))) =
      inr (failed, other, (n, text, (e, g, m, named, k, fault, inr ((reached_are_led_to S loaded cancelled t table e.label g.label).1 led), called)))

pub listed_are_led_to : ListedAreLedTo
listed_are_led_to S loaded cancelled t table name r = (there S loaded cancelled t table name r, back S loaded cancelled t table name r)
