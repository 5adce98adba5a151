-- From the lemma's course to what is said of the session's lemma.
use Rattle.std.proofs.Common.{◌≡◌, ℕ, Bool, List, [], refl, sym, ap, subst, ◌∙◌, Option, Some, None}
use Rattle.std.specs.Prelude.{map, Result, Ok, Err, IfOk}
use Rattle.std.specs.List.{flat_map}
use Rattle.pure_graph.specs.Order.{Loaded}
use Rattle.pure_definitions.specs.Names.{Label}
use Rattle.pure_places.specs.Parts.{Part, CommandParts, part_at}
use Rattle.pure_places.specs.Seen.{ArePlaces, seen_command}
use Rattle.pure_places.specs.declared.parts.CommandParts as code
use Rattle.pure_row_places.specs.Lines.{Theory}
use Rattle.pure_row_places.specs.Scans.{IsScanOf}
use Rattle.pure_theory_run.specs.Declare.Notes.{Fork}
use Rattle.pure_theory_run.specs.Method.Course.{CourseInOnce}
use Rattle.pure_theory_run.specs.Named.{lemma_named}
use Rattle.pure_theory_run.specs.Outline.{Outline}
use Rattle.pure_theory_run.specs.Sessions.{AreSaid}
use Rattle.pure_theory_run.specs.SessionMeaning.Statements.{forks_of, notes_of}
use Rattle.pure_theory_run.specs.SessionMeaning.Verdicts.{IsTheoryAt}
use Rattle.pure_show.specs.declared.named.Shown.{Shown}
use Rattle.pure_show.specs.Laws.{ShownOnce}
use Rattle.pure_show.specs.Lines.{course_text, is_clean, limit, room_left}
use Rattle.pure_show.specs.Answers.{IsAnswer, IsCourseText, IsShown, StandsIn, no_command, labelled_part, place_of}

-- what is said of the lemma with a name is said of the session
pub shown-so : (texts : List (List ℕ)) (theories : List Loaded) (values : List Outline) (forks lent : List Fork) → AreSaid texts theories values forks → lent ≡ forks → (names : List (List ℕ)) → names ≡ texts → (name : List ℕ) (found : Option Fork)
    → lemma_named names name lent ≡ found → (text : List ℕ) (clean : Bool) → IsShown texts theories name found text clean → IsAnswer texts theories name text clean
shown-so texts theories values forks lent said same names named name found at text clean is =
    let notes = flat_map notes_of said.closed.verdicts in
    let lemmas : lent ≡ forks_of notes = same ∙ said.closed.forks_are in
    let here : lemma_named texts name (forks_of notes) ≡ found = sym (ap (λ fs. lemma_named texts name fs) lemmas) ∙ (sym (ap (λ ns. lemma_named ns name lent) named) ∙ at) in
    record {
      notes = notes;
      statements = record { verdicts = said.closed.verdicts; are = said.closed.are; all = said.all; notes_are = refl };
      shown = subst (λ o. IsShown texts theories name o text clean) (sym here) is;
    }

-- the lemma stands in the scanned theory of its label
pub stands-in : (theories : List Loaded) (f : Fork) (theory : Loaded) → IsTheoryAt theories f.label.theory theory → (t : Theory) → IsScanOf theory.name theory.source t → (source : List ℕ) → source ≡ t.source → (part : Part ℕ)
    → part ≡ labelled_part t.places.commands f.label → StandsIn theories f source part
stands-in theories f theory at t scan source is part part_is =
    let same : source ≡ theory.source = is ∙ scan.source_is in
    record { theory = theory; is_at = at; source_is = same; places = t.places; are = subst (λ (s : List ℕ). ArePlaces s t.places) (sym same) scan.places; part_is = part_is }

-- a course has one text
pub shown-once : CourseInOnce → ShownOnce
shown-once once texts f session content anti name place one other clean also a b =
    let same = once texts f.content session content anti f.lemma f.fixed f.script a.states b.states a.end b.end a.course b.course in (
      a.text_is ∙ ((λ i. course_text texts place name f.fixed f.script (same.0 i) (same.1 i)) ∙ sym b.text_is),
      a.clean_is ∙ ((λ i. is_clean (room_left texts (Some limit) (same.0 i)) (same.1 i)) ∙ sym b.clean_is),
    )

-- the same of calls' answers
pub none-shown : {E : Type 0} (texts : List (List ℕ)) (theories : List Loaded) (values : List Outline) (forks lent : List Fork) → AreSaid texts theories values forks → lent ≡ forks → (names : List (List ℕ)) → names ≡ texts → (name : List ℕ)
    → lemma_named names name lent ≡ None → (r : Result Shown E) → IfOk r (λ s. IsShown [] [] [] None s.text s.clean) → IfOk r (λ s. IsAnswer texts theories name s.text s.clean)
none-shown texts theories values forks lent said same names named name at (Ok s) is = shown-so texts theories values forks lent said same names named name None at s.text s.clean is
none-shown texts theories values forks lent said same names named name at (Err fault) is = tt

pub some-shown : {E : Type 0} (texts : List (List ℕ)) (theories : List Loaded) (values : List Outline) (forks lent : List Fork) → AreSaid texts theories values forks → lent ≡ forks → (names : List (List ℕ)) → names ≡ texts → (name : List ℕ) (f : Fork)
    → lemma_named names name lent ≡ Some f → (r : Result Shown E) → IfOk r (λ s. IsShown texts theories name (Some f) s.text s.clean) → IfOk r (λ s. IsAnswer texts theories name s.text s.clean)
some-shown texts theories values forks lent said same names named name f at (Ok s) is = shown-so texts theories values forks lent said same names named name (Some f) at s.text s.clean is
some-shown texts theories values forks lent said same names named name f at (Err fault) is = tt

-- the part that was found is that of the label
pub part-is : (lent commands : List code.CommandParts) → lent ≡ commands → (label : Label) (n k : ℕ) → n ≡ label.command → k ≡ label.part → (none : CommandParts ℕ) → none ≡ no_command → (found : Part ℕ) → found ≡ part_at (map seen_command lent) n k none
    → found ≡ labelled_part (map seen_command commands) label
part-is lent commands same label n k command_is part_is none empty found is = is ∙ (λ i. part_at (map seen_command (same i)) (command_is i) (part_is i) (empty i))

-- a course with places that are these
pub placed-so : {E : Type 0} (texts : List (List ℕ)) (f : Fork) (name lent source : List ℕ) → lent ≡ source → (found part : Part ℕ) → found ≡ part → (r : Result Shown E) → IfOk r (λ s. IsCourseText texts f name (place_of lent found) s.text s.clean)
    → IfOk r (λ s. IsCourseText texts f name (place_of source part) s.text s.clean)
placed-so texts f name lent source same found part is r h = subst (λ (x : List ℕ × Part ℕ). IfOk r (λ s. IsCourseText texts f name (place_of x.0 x.1) s.text s.clean)) (λ i. (same i, is i)) h

-- the lemma in the scanned theory of its label
pub lemma-shown : {E : Type 0} (texts : List (List ℕ)) (theories : List Loaded) (f : Fork) (name : List ℕ) (number : ℕ) → number ≡ f.label.theory → (theory : Loaded) → IsTheoryAt theories number theory → (t : Theory) → IsScanOf theory.name theory.source t
    → (names : List (List ℕ)) → names ≡ texts → (r : Result Shown E) → IfOk r (λ s. IsCourseText names f name (place_of t.source (labelled_part t.places.commands f.label)) s.text s.clean)
    → IfOk r (λ s. IsShown texts theories name (Some f) s.text s.clean)
lemma-shown texts theories f name number is theory at t scan names named (Ok s) h = (
  t.source,
  labelled_part t.places.commands f.label,
  stands-in theories f theory (subst (λ (n : ℕ). IsTheoryAt theories n theory) is at) t scan t.source refl (labelled_part t.places.commands f.label) refl,
  subst (λ (ns : List (List ℕ)). IsCourseText ns f name (place_of t.source (labelled_part t.places.commands f.label)) s.text s.clean) named h,
)
lemma-shown texts theories f name number is theory at t scan names named (Err fault) h = tt
