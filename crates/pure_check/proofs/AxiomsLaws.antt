-- Where the answer on what a lemma rests on is clean: its row is that of a lemma with this name, which is proved, and so what is listed suffices.
use Rattle.std.proofs.Common.{◌≡◌, ◌∙◌, ℕ, zero, suc, ◌+◌, Bool, true, false, List, [], ◌∷◌, ◌++◌, map, refl, sym, ap, subst, inl, inr, true≢false, Option, Some, None}
use Rattle.std.specs.Prelude.{◌&&◌, slice_get, Result, Ok, Err, find, cond}
use Rattle.std.specs.List.{flat_map}
use Rattle.std.specs.Option.{unwrap_or}
use Rattle.pure_text.specs.Lists.{IsIn, EachTwo}
use Rattle.pure_text.proofs.ListLaws.{in_split}
use Rattle.pure_definitions.specs.Names.{Label}
use Rattle.pure_grammar.specs.Theories.Lexeme.{same}
use Rattle.pure_grammar.specs.Theories.TheoryText.{Span, Step, Have, Command, Class, TypeDecl, Arity as ArityOf, Const, Axiom, Definition, Lemma}
use Rattle.pure_grammar.proofs.Distinct.{same-is}
use Rattle.pure_typ.specs.NameTexts.{HasText}
use Rattle.pure_logic.specs.Content.{Content}
use Rattle.pure_promise_fates.specs.Entries.{Fate}
use Rattle.pure_promise_fates.specs.Entries as fates
use Rattle.pure_print.specs.declared.row.Row.{Row}
use Rattle.pure_print.specs.declared.row.RowStatus.{RowStatus}
use Rattle.pure_print.specs.declared.row.RowStatus.TheVariants.{Declared, Refused, Proved, Failed, Tainted, Cancelled, Unsettled}
use Rattle.pure_print.specs.NameText.{text_of_name}
use Rattle.pure_print.specs.RowText.{row_text}
use Rattle.pure_statements.specs.declared.reason.Reason.{Reason}
use Rattle.pure_statements.specs.Chain.{Gives, refuses, goes_on, holds, passes}
use Rattle.pure_graph.specs.Order.{Loaded}
use Rattle.pure_graph.specs.Session.{Session, Shown, shown}
use Rattle.pure_io.specs.declared.library.File as library
use Rattle.pure_check_work.specs.Declare.Notes.{Fork, Note, Said, Forked, Outcome, Change}
use Rattle.pure_check_work.specs.Declare.Commands.{Place, IsOutcome, IsSaid, IsClassChange, IsTypeChange, IsArityChange, IsConstChange, IsAxiomChange, IsDefinitionChange, IsLemmaOutcome, saying}
use Rattle.pure_check_work.specs.Declare.First.{outcome_of}
use Rattle.pure_check_work.specs.Declare.Parts.{Part, Whole, Within, End, binding, IsBoundOutcome, IsHaveOutcome, have_outcome, DeclaresPart}
use Rattle.pure_check_work.specs.Declare.Fold.{part_label, AreParts, AreDeclared}
use Rattle.pure_check_work.specs.Promise.Entries.{LemmaEntry}
use Rattle.pure_check_work.specs.Promise.Rows.{IsRowOf}
use Rattle.pure_check_work.specs.Promise.RowText.{fate_row, status_of}
use Rattle.pure_check_work.specs.SessionMeaning.Verdicts.{Verdict, Closes, barred, ran, IsBarred, by_parent, not_coregular}
use Rattle.pure_check_work.specs.SessionMeaning.Statements.{notes_of, forks_of, AreStatements}
use Rattle.pure_check_work.specs.Method.declared.outcome.Outcome as method
use Rattle.pure_check_work.specs.Table.Table.{Table, IsEntryOf, with_rows, refusal_row, table_rows}
use Rattle.pure_check_work.specs.TheoryRun.Checked.{Checked}
use Rattle.pure_check_work.specs.TheoryRun.Outline.{Outline}
use Rattle.pure_board.specs.Boards.{Ending}
use Rattle.pure_policy.specs.Asked.{Asked}
use Rattle.pure_citations.specs.Heads.{IsTextOf}
use Rattle.pure_citations.specs.Listed.{is_lemma, is_proved, is_own, own_row, IsListed, IsListing, IsSaidWith}
use Rattle.pure_citations.specs.Rowed.{IsListedFor, IsAxiomLedTo, IsFaultLedTo, ListedSuffice, ListedAreLedTo}
use Rattle.pure_citations.proofs.ListedLaws.{picks-same}
use Rattle.pure_check.specs.Laws.{proved_row, RestsOnListed, AxiomsSuffice, SaysLedWith, AxiomsAreLedTo}
use Rattle.pure_check.specs.Meaning.{IsCheckedSession, asked_for}

-- A row that is said is none of a proved lemma, and a lemma that is bound has a name with a text.
abbrev Fits : (texts : List (List ℕ)) → Note → Type 0
Fits texts (Said row) = row.status ≡ Proved → ⊥
Fits texts (Forked f) = (text : List ℕ) × HasText texts f.name text

declared-unproved : Declared ≡ Proved → ⊥
declared-unproved h = absurd (cc)

refused-unproved : Refused ≡ Proved → ⊥
refused-unproved h = absurd (cc)

given-outcome : (o O : Outcome) → Gives O (Ok o) → o ≡ O
given-outcome o O e = cc

module _ (P : Place) where
  said-fits : (command : Command) (Is : Result Change Reason → Type 0) (o : Outcome) → IsSaid P command Is (Ok o) → Fits P.texts o.note
  unfolding IsSaid
  said-fits command Is o (refuses reason h e) = absurd (cc)
  said-fits command Is o (goes_on c h e) = subst (λ (x : Outcome). Fits P.texts x.note) (sym (given-outcome o (saying P command c) e)) declared-unproved

  bound-fits : (number lemma : ℕ) (text : List ℕ) → HasText P.texts number text → (span : Span) (script : List Step) (o : Outcome) → IsBoundOutcome P number lemma span script (Ok o) → Fits P.texts o.note
  unfolding IsBoundOutcome
  bound-fits number lemma text is span script o (holds h e) = absurd (cc)
  bound-fits number lemma text is span script o (passes new (refuses reason h e)) = absurd (cc)
  bound-fits number lemma text is span script o (passes new (goes_on s h e)) = subst (λ (x : Outcome). Fits P.texts x.note) (sym (given-outcome o (binding P number lemma script s) e)) (text, is)

  lemma-fits : (number : ℕ) (text : List ℕ) → HasText P.texts number text → (span : Span) (script : List Step) (o : Outcome) → IsLemmaOutcome P number span script (Ok o) → Fits P.texts o.note
  unfolding IsLemmaOutcome IsBoundOutcome
  lemma-fits number text is span script o h = bound-fits number number text is span script o h

  outcome-fits : (command : Command) (o : Outcome) → IsOutcome P command (Ok o) → Fits P.texts o.note
  outcome-fits (Class x names) o (k, is, h) = said-fits (Class x names) (IsClassChange P k names) o h
  outcome-fits (TypeDecl x params) o (k, is, h) = said-fits (TypeDecl x params) (IsTypeChange P k params) o h
  outcome-fits (ArityOf con domains class) o h = said-fits (ArityOf con domains class) (IsArityChange P con domains class) o h
  outcome-fits (Const x span) o (k, is, h) = said-fits (Const x span) (IsConstChange P k span) o h
  outcome-fits (Axiom x span) o (k, is, h) = said-fits (Axiom x span) (IsAxiomChange P k span) o h
  outcome-fits (Definition x typ text) o (k, f, is, also, h) = said-fits (Definition x typ text) (IsDefinitionChange P x k f typ text) o h
  outcome-fits (Lemma x span haves script) o (k, is, h) = lemma-fits k _ is span script o h

  answer-fits : (command : Command) (o : Outcome) (answer : Result Outcome Reason) → IsOutcome P command answer → o ≡ outcome_of P command answer → Fits P.texts o.note
  answer-fits command o (Ok p) h e = subst (λ (x : Outcome). Fits P.texts x.note) (sym e) (outcome-fits command p h)
  answer-fits command o (Err reason) h e = subst (λ (x : Outcome). Fits P.texts x.note) (sym e) refused-unproved

  have-fits : (lemma : List ℕ) (have : Have) (o : Outcome) (answer : Result Outcome Reason) → IsHaveOutcome P lemma have answer → o ≡ have_outcome P lemma have answer → Fits P.texts o.note
  have-fits lemma have o (Ok p) (n, m, is, its, h) e = subst (λ (x : Outcome). Fits P.texts x.note) (sym e) (bound-fits n m _ is have.prop have.script p h)
  have-fits lemma have o (Err reason) h e = subst (λ (x : Outcome). Fits P.texts x.note) (sym e) refused-unproved

part-fits : (texts : List (List ℕ)) (source : List ℕ) (label : Label) (Q : Content) (part : Part) (note : Note) (next : Content) → DeclaresPart texts source label Q part note next → Fits texts note
part-fits texts source label Q (Whole command) note next d =
    let P : Place = record { texts = texts; source = source; label = label; theory = d.theory; content = Q } in
    answer-fits P command (record { note = note; next = next }) d.declares.0.answer d.declares.0.is d.declares.0.comes
part-fits texts source label Q (Within lemma have) note next d =
    let P : Place = record { texts = texts; source = source; label = label; theory = d.theory; content = Q } in
    have-fits P lemma have (record { note = note; next = next }) d.declares.answer d.declares.is d.declares.comes
part-fits texts source label Q (End lemma prop script) note next d =
    let P : Place = record { texts = texts; source = source; label = label; theory = d.theory; content = Q } in
    bound-fits P d.declares.0 d.declares.0 _ d.declares.1 prop script (record { note = note; next = next }) d.declares.2

-- What the parts of a command leave fits,
parts-fit : (texts : List (List ℕ)) (source : List ℕ) (label : Label) (place : ℕ) (Q : Content) (parts : List Part) (notes : List Note) (last : Content) → AreParts texts source label place Q parts notes last → (note : Note) → IsIn note notes → Fits texts note
parts-fit texts source label place Q [] notes last h note m = absurd (subst (λ ns. IsIn note ns) h.0 m)
parts-fit texts source label place Q (part ∷ parts) notes last (first, next, more, d, rest, is) note m = elim (subst (λ ns. IsIn note ns) is m) [
  | inl equal ↦ subst (Fits texts) (sym equal) (part-fits texts source (part_label label place) Q part first next d)
  | inr later ↦ parts-fit texts source label (place + 1) next parts more last rest note later
]

-- and what the commands of a theory leave;
declared-fit : (texts : List (List ℕ)) (source : List ℕ) (index place : ℕ) (Q : Content) (commands : List Command) (notes : List Note) (last : Content) → AreDeclared texts source index place Q commands notes last → (note : Note) → IsIn note notes → Fits texts note
declared-fit texts source index place Q [] notes last h note m = absurd (subst (λ ns. IsIn note ns) h.0 m)
declared-fit texts source index place Q (command ∷ commands) notes last (first, next, more, d, rest, is) note m = elim (in_split note first more (subst (λ ns. IsIn note ns) is m)) [
  | inl here ↦ parts-fit texts source (record { theory = index; command = place; part = 0 }) 0 Q d.parts first next d.are note here
  | inr later ↦ declared-fit texts source index (place + 1) next commands more last rest note later
]

barred-fits : (texts : List (List ℕ)) (theories : List Loaded) (theory : Loaded) (parents : List Verdict) (row : Row) → IsBarred texts theories theory parents row → row.status ≡ Proved → ⊥
barred-fits texts theories theory parents row (by_parent name first is) h = refused-unproved (sym (ap Row.status is) ∙ h)
barred-fits texts theories theory parents row (not_coregular contents last con c1 c2 first is) h = refused-unproved (sym (ap Row.status is) ∙ h)

-- so does what becomes of a theory,
closed-fit : (texts : List (List ℕ)) (theories : List Loaded) (index : ℕ) (v : Verdict) → Closes texts theories index v → (note : Note) → IsIn note (notes_of v) → Fits texts note
closed-fit texts theories index v (barred {theory = theory} {parents = parents} {row = row} is_at closed is) note (inl equal) = subst (Fits texts) (sym equal) (barred-fits texts theories theory parents row is)
closed-fit texts theories index v (barred is_at closed is) note (inr none) = absurd none
closed-fit texts theories index v (ran {theory = theory} {first = first} {last = last} {notes = notes} is_at closed begins declared) note m = declared-fit texts theory.source index 0 first theory.text.commands notes last declared note m

-- and all that is noted in a session.
verdicts-fit : (texts : List (List ℕ)) (verdicts : List Verdict) → ((v : Verdict) → IsIn v verdicts → (note : Note) → IsIn note (notes_of v) → Fits texts note) → (note : Note) → IsIn note (flat_map notes_of verdicts) → Fits texts note
verdicts-fit texts [] each note m = absurd m
verdicts-fit texts (v ∷ vs) each note m = elim (in_split note (notes_of v) (flat_map notes_of vs) m) [
  | inl here ↦ each v (inl refl) note here
  | inr later ↦ verdicts-fit texts vs (λ w n. each w (inr n)) note later
]

at-place : (vs : List Verdict) (v : Verdict) → IsIn v vs → (p : ℕ) × (slice_get vs p ≡ Some v)
at-place [] v m = absurd m
at-place (w ∷ vs) v (inl is) = (zero, ap (λ x. Some x) (sym is))
at-place (w ∷ vs) v (inr m) = let found = at-place vs v m in (suc found.0, found.1)

statements-fit : (texts : List (List ℕ)) (theories : List Loaded) (notes : List Note) → AreStatements texts theories notes → (note : Note) → IsIn note notes → Fits texts note
statements-fit texts theories notes s note m =
    verdicts-fit texts s.verdicts (λ v n. let at = at-place s.verdicts v n in closed-fit texts theories _ v (s.are at.0 v at.1)) note (subst (λ ns. IsIn note ns) s.notes_are m)

-- Both are related, and so on.
two-both : {A B : Type 0} (R T : A → B → Type 0) (xs : List A) (ys : List B) → EachTwo R xs ys → EachTwo T xs ys → EachTwo (λ x y. R x y × T x y) xs ys
two-both R T [] [] h k = tt
two-both R T [] (y ∷ ys) h k = absurd h
two-both R T (x ∷ xs) [] h k = absurd h
two-both R T (x ∷ xs) (y ∷ ys) h k = ((h.0, k.0), two-both R T xs ys h.1 k.1)

two-through : {A B C : Type 0} (R : A → B → Type 0) (T : B → C → Type 0) (xs : List A) (ys : List B) (zs : List C) → EachTwo R xs ys → EachTwo T ys zs → EachTwo (λ x z. (y : B) × R x y × T y z) xs zs
two-through R T [] [] [] h k = tt
two-through R T [] [] (z ∷ zs) h k = absurd k
two-through R T [] (y ∷ ys) zs h k = absurd h
two-through R T (x ∷ xs) [] zs h k = absurd h
two-through R T (x ∷ xs) (y ∷ ys) [] h k = absurd k
two-through R T (x ∷ xs) (y ∷ ys) (z ∷ zs) h k = ((y, h.0, k.0), two-through R T xs ys zs h.1 k.1)

-- A proved row among those of the notes is that of a lemma.
of-lemma : (R : Fork → Row → Type 0) (notes : List Note) (lemmas : List Row) → EachTwo R (forks_of notes) lemmas → ((row : Row) → IsIn (Said row) notes → row.status ≡ Proved → ⊥) → (r : Row) → r.status ≡ Proved → IsIn r (with_rows notes lemmas)
    → (f : Fork) × IsIn (Forked f) notes × IsIn f (forks_of notes) × R f r
of-lemma R [] lemmas h said r proved m = absurd m
of-lemma R (Said row ∷ notes) lemmas h said r proved (inl equal) = absurd (said row (inl refl) (subst (λ (x : Row). x.status ≡ Proved) equal proved))
of-lemma R (Said row ∷ notes) lemmas h said r proved (inr m) = let w = of-lemma R notes lemmas h (λ x n. said x (inr n)) r proved m in (w.0, inr w.1, w.2, w.3)
of-lemma R (Forked f ∷ notes) [] h said r proved m = absurd h
of-lemma R (Forked f ∷ notes) (row ∷ lemmas) h said r proved (inl equal) = (f, inl refl, inl refl, subst (R f) (sym equal) h.0)
of-lemma R (Forked f ∷ notes) (row ∷ lemmas) h said r proved (inr m) = let w = of-lemma R notes lemmas h.1 (λ x n. said x (inr n)) r proved m in (w.0, inr w.1, inr w.2, w.3)

refusals-unproved : (files : List Shown) (r : Row) → r.status ≡ Proved → IsIn r (map refusal_row files) → ⊥
refusals-unproved [] r proved m = absurd m
refusals-unproved (file ∷ files) r proved (inl equal) = refused-unproved (sym (ap Row.status equal) ∙ proved)
refusals-unproved (file ∷ files) r proved (inr m) = refusals-unproved files r proved m

-- What a search finds is there, and passes.
found-passes : {A : Type 0} (test : A → Bool) (xs : List A) (x : A) → find test xs ≡ Some x → IsIn x xs × (test x ≡ true)
found-passes test [] x e = absurd (cc)
found-passes test (y ∷ ys) x e = by (test y) refl e (found-passes test ys x)
  where
    same-some : Some y ≡ Some x → y ≡ x
    same-some h = cc

    by : (b : Bool) → test y ≡ b → cond b (Some y) (find test ys) ≡ Some x → (find test ys ≡ Some x → IsIn x ys × (test x ≡ true)) → IsIn x (y ∷ ys) × (test x ≡ true)
    by true is e later = (inl (sym (same-some e)), ap test (sym (same-some e)) ∙ is)
    by false is e later = let w = later e in (inr w.0, w.1)

second : (a b : Bool) → (a && b) ≡ true → b ≡ true
second true b h = h
second false b h = absurd (cc)

proved-status : (s : RowStatus) → true ≡ is_proved s → s ≡ Proved
proved-status Declared h = absurd (cc)
proved-status Refused h = absurd (cc)
proved-status Proved h = refl
proved-status Failed h = absurd (cc)
proved-status Tainted h = absurd (cc)
proved-status Cancelled h = absurd (cc)
proved-status Unsettled h = absurd (cc)

-- A row that says of a lemma that it is proved,
fate-proved : (fate : Fate) → status_of fate ≡ Proved → fate ≡ fates.Proved
fate-proved fates.Proved h = refl
fate-proved fates.Failed h = absurd (cc)
fate-proved (fates.Tainted faults) h = absurd (cc)
fate-proved fates.Gone h = absurd (cc)
fate-proved fates.Unsettled h = absurd (cc)

entry-row : (texts : List (List ℕ)) (es : List LemmaEntry) (e : LemmaEntry) (row : Row) → IsRowOf texts es e row → row.status ≡ Proved → row ≡ fate_row texts es e fates.Proved
entry-row texts es e row (fate, is_fate, is) proved = is ∙ ap (fate_row texts es e) (fate-proved fate (sym (ap Row.status is) ∙ proved))

-- says its statement, and its name.
says-statement : (texts : List (List ℕ)) (es : List LemmaEntry) (cancelled : List Label) (f : Fork) (e : LemmaEntry) (row : Row) → IsEntryOf texts cancelled f e → IsRowOf texts es e row → row.status ≡ Proved
    → row ≡ proved_row texts (text_of_name texts f.name) f.prop
says-statement texts es cancelled f e row of is proved =
    entry-row texts es e row is proved ∙ (λ i. proved_row texts (text_of_name texts (of.name i)) (of.prop i))

name-has : (texts : List (List ℕ)) (n : ℕ) (text : List ℕ) → HasText texts n text → text_of_name texts n ≡ text
name-has texts n text h = ap (λ (o : Option (List ℕ)). unwrap_or o []) h

module _ (suffice : ListedSuffice) (workers : ℕ) (name : List ℕ) (told : Option (List library.File)) (run : Option (Ending Checked Fork Outline method.Outcome)) (text : List ℕ) where
  module _ (S : Session) (t : Table) (board : Ending Checked Fork Outline method.Outcome) (is_run : run ≡ Some board) (checked : IsCheckedSession told (asked_for workers) board S t) where
    fits : (note : Note) → IsIn note t.notes → Fits S.names note
    fits note m = statements-fit S.names S.theories t.notes checked.table.statements note m

    -- The proved row of the name is that of a lemma.
    own-lemma : (own : Row) → own.status ≡ Proved → own_row name (table_rows S t) ≡ Some own → IsListing S.names (forks_of t.notes) t.entries (table_rows S t) name own text → RestsOnListed told workers name run text
    own-lemma own proved is_own_row listing =
        let rows = table_rows S t in
        let found = found-passes (is_own name) rows own is_own_row in
        let head : own.head ≡ name = same-is own.head name (second (is_lemma own.status) (same own.head name) found.1) in
        let here : IsIn own (with_rows t.notes t.lemmas) = elim (in_split own (with_rows t.notes t.lemmas) (map refusal_row (map shown S.refused)) found.0) [
          | inl early ↦ early
          | inr late ↦ absurd (refusals-unproved (map shown S.refused) own proved late)
        ] in
        let pairs = two-both _ _ (forks_of t.notes) t.lemmas (suffice S checked.loaded _ t checked.table)
        (two-through (IsEntryOf S.names _) (IsRowOf S.names t.entries) (forks_of t.notes) t.entries t.lemmas checked.table.entries checked.table.rows) in
        let of = of-lemma _ t.notes t.lemmas pairs (λ row n. fits (Said row) n) own proved here in
        let f = of.0 in
        let spelled = fits (Forked f) of.1 in
        let entry = of.3.1 in
        let row_is : own ≡ proved_row S.names (text_of_name S.names f.name) f.prop = says-statement S.names t.entries _ f entry.0 own entry.1 entry.2 proved in
        let called : text_of_name S.names f.name ≡ name = sym (ap Row.head row_is) ∙ head in
        let named : HasText S.names f.name name = subst (HasText S.names f.name) (sym (name-has S.names f.name spelled.0 spelled.1) ∙ called) spelled.1 in
        let whole : own ≡ proved_row S.names name f.prop = row_is ∙ ap (λ (n : List ℕ). proved_row S.names n f.prop) called in
        record {
          session = S;
          table = t;
          board = board;
          is_run = is_run;
          checked = checked;
          lemma = f;
          stands = of.2;
          named = named;
          listed = listing.listed.picked;
          picks = listing.listed.picks;
          text_is = listing.text_is ∙ (λ i. listing.listed.text_is i ++ row_text (whole i));
          derivable = of.3.0 proved name named listing.listed.picked listing.listed.picks;
        }

    by-own : (own : Option Row) → own_row name (table_rows S t) ≡ own → IsSaidWith S.names (forks_of t.notes) t.entries (table_rows S t) name own text true → RestsOnListed told workers name run text
    by-own None is says = absurd (true≢false says.1)
    by-own (Some own) is says = own-lemma own (proved-status own.status says.1) is says.0

pub axioms_suffice : ListedSuffice → AxiomsSuffice
axioms_suffice suffice workers name told run text a = by-own suffice workers name told run text a.session a.table a.board a.is_run a.checked (own_row name (table_rows a.session a.table)) refl a.says

-- What is listed is what edges lead to.
led-text : ListedAreLedTo → (S : Session) (t : Table) (asked : Asked) (board : Ending Checked Fork Outline method.Outcome) (told : Option (List library.File)) → IsCheckedSession told asked board S t → (name before : List ℕ)
    → IsTextOf row_text (IsListedFor S t name) (table_rows S t) before → IsTextOf row_text (IsListed S.names (IsAxiomLedTo S t name) (IsFaultLedTo S t name) name) (table_rows S t) before
led-text led S t asked board told checked name before h = record {
  picked = h.picked;
  picks = picks-same (IsListedFor S t name) (IsListed S.names (IsAxiomLedTo S t name) (IsFaultLedTo S t name) name) (led S checked.loaded _ t checked.table name) (table_rows S t) h.picked h.picks;
  text_is = h.text_is;
}

led-by : ListedAreLedTo → (S : Session) (t : Table) (asked : Asked) (board : Ending Checked Fork Outline method.Outcome) (told : Option (List library.File)) → IsCheckedSession told asked board S t → (name text : List ℕ) (clean : Bool) (own : Option Row)
    → IsSaidWith S.names (forks_of t.notes) t.entries (table_rows S t) name own text clean → SaysLedWith name S t own text clean
led-by led S t asked board told checked name text clean None says = says
led-by led S t asked board told checked name text clean (Some own) says = (says.0.before, led-text led S t asked board told checked name says.0.before says.0.listed, says.0.text_is, says.1)

pub axioms_are_led_to : ListedAreLedTo → AxiomsAreLedTo
axioms_are_led_to led workers name told run text clean a = record {
  session = a.session;
  table = a.table;
  board = a.board;
  is_run = a.is_run;
  checked = a.checked;
  says = led-by led a.session a.table (asked_for workers) a.board told a.checked name text clean (own_row name (table_rows a.session a.table)) a.says;
}
