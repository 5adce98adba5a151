-- The lemma of a session that has some name: it is found by a walk, is one that the session binds, and its theory is the one that its label names.
use Rattle.std.proofs.Common.{◌≡◌, ◌∙◌, ◌<◌, ℕ, ◌+◌, Bool, true, false, List, [], ◌∷◌, length, drop, get_or, add-one, drop-cons, refl, sym, ap, subst, inl, inr, Some}
use Rattle.std.specs.Prelude.{find, cond}
use Rattle.std.specs.List.{flat_map}
use Rattle.std.proofs.lemmas.Option.{same_Some}
use Rattle.pure_text.specs.Lists.{IsIn}
use Rattle.pure_definitions.specs.Names.{Label}
use Rattle.pure_grammar.specs.Theories.Lexeme.{same}
use Rattle.pure_print.specs.NameText.{text_of_name}
use Rattle.pure_graph.specs.Order.{Loaded}
use Rattle.pure_session_meaning.specs.Declare.Notes.{Fork}
use Rattle.pure_session_meaning.specs.Method.Outcome.{IsProvable}
use Rattle.pure_session_meaning.specs.SessionLaws.Loaded.{IsLoadedSession}
use Rattle.pure_session_meaning.specs.Laws.{ForksProvable, ForksStand, IsSomeFork, StatementsBindForks}
use Rattle.pure_session_meaning.specs.Statements.{AreStatements, forks_of, notes_of}
use Rattle.pure_session_meaning.specs.Verdicts.{IsTheoryAt}
use Rattle.pure_theory_run.specs.Named.{lemma_named}
use Rattle.pure_theory_run.specs.Outline.{Outline}
use Rattle.pure_theory_run.specs.Sessions.{AreSaid}

-- what is found is in the list
pub find-in : {A : Type 0} (test : A → Bool) (xs : List A) (x : A) → find test xs ≡ Some x → IsIn x xs
find-in test [] x e = absurd (cc)
find-in test (y ∷ ys) x e = by (test y) e (find-in test ys x)
  where
    by : (b : Bool) → cond b (Some y) (find test ys) ≡ Some x → (find test ys ≡ Some x → IsIn x ys) → IsIn x (y ∷ ys)
    by true e' behind = inl (sym (same_Some y x e'))
    by false e' behind = inr (behind e')

-- the lemma at a place stands before those behind it
cut-at : (forks : List Fork) (i : ℕ) (f : Fork) → i < length forks → f ≡ get_or forks i f → drop i forks ≡ f ∷ drop (i + 1) forks
cut-at forks i f within is =
    let cut : drop i forks ≡ get_or forks i f ∷ drop (i + 1) forks = rw add-one (drop-cons forks i f within) in
    cut ∙ ap (λ g. g ∷ drop (i + 1) forks) (sym is)

-- a lemma that has the name is the first one, and one that hasn't is passed over
pub named-here : (texts : List (List ℕ)) (name : List ℕ) (forks : List Fork) (i : ℕ) (f : Fork) → i < length forks → f ≡ get_or forks i f → same (text_of_name texts f.name) name ≡ true
    → lemma_named texts name (drop i forks) ≡ lemma_named texts name forks → lemma_named texts name forks ≡ Some f
named-here texts name forks i f within at is so_far =
    let here : lemma_named texts name (f ∷ drop (i + 1) forks) ≡ Some f = rw is refl in
    sym so_far ∙ (ap (lemma_named texts name) (cut-at forks i f within at) ∙ here)

pub named-behind : (texts : List (List ℕ)) (name : List ℕ) (forks : List Fork) (i : ℕ) (f : Fork) → i < length forks → f ≡ get_or forks i f → same (text_of_name texts f.name) name ≡ false
    → lemma_named texts name (drop i forks) ≡ lemma_named texts name forks → lemma_named texts name (drop (i + 1) forks) ≡ lemma_named texts name forks
named-behind texts name forks i f within at other so_far =
    let here : lemma_named texts name (f ∷ drop (i + 1) forks) ≡ lemma_named texts name (drop (i + 1) forks) = rw other refl in
    sym here ∙ (ap (lemma_named texts name) (sym (cut-at forks i f within at)) ∙ so_far)

-- A lemma of the session that is found is one that it binds.
pub found-fork : StatementsBindForks → (texts : List (List ℕ)) (theories : List Loaded) → IsLoadedSession texts theories → (values : List Outline) (forks lent : List Fork) → AreSaid texts theories values forks → lent ≡ forks
    → (names : List (List ℕ)) (name : List ℕ) (f : Fork) → lemma_named names name lent ≡ Some f → IsSomeFork texts theories f
found-fork bind texts theories loaded values forks lent said lent_is names name f at =
    let notes = flat_map notes_of said.closed.verdicts in
    let statements : AreStatements texts theories notes = record { verdicts = said.closed.verdicts; are = said.closed.are; all = said.all; notes_are = refl } in
    let within : IsIn f (forks_of notes) = subst (λ fs. IsIn f fs) (lent_is ∙ said.closed.forks_are) (find-in _ lent f at) in
    (bind texts theories loaded notes statements f).0 within

-- It can be proved,
pub found-provable : ForksProvable → StatementsBindForks → (texts : List (List ℕ)) (theories : List Loaded) → IsLoadedSession texts theories → (values : List Outline) (forks lent : List Fork) → AreSaid texts theories values forks → lent ≡ forks
    → (names : List (List ℕ)) → names ≡ texts → (name : List ℕ) (f : Fork) → lemma_named names name lent ≡ Some f → IsProvable names f
found-provable provable bind texts theories loaded values forks lent said lent_is names named name f at =
    let fork = found-fork bind texts theories loaded values forks lent said lent_is names name f at in
    subst (λ ns. IsProvable ns f) (sym named) (provable texts theories loaded fork.0 fork.1 f fork.2)

-- and its label names its theory.
pub found-theory : ForksStand → StatementsBindForks → (texts : List (List ℕ)) (theories : List Loaded) → IsLoadedSession texts theories → (values : List Outline) (forks lent : List Fork) → AreSaid texts theories values forks → lent ≡ forks
    → (names : List (List ℕ)) (name : List ℕ) (f : Fork) → lemma_named names name lent ≡ Some f → (theory : Loaded) × IsTheoryAt theories f.label.theory theory
found-theory stand bind texts theories loaded values forks lent said lent_is names name f at =
    let stands = stand texts theories loaded f (found-fork bind texts theories loaded values forks lent said lent_is names name f at) in
    (stands.run.theory, subst (λ (l : Label). IsTheoryAt theories l.theory stands.run.theory) (sym stands.label) stands.run.is_at)
