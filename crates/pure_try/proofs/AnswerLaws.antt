-- From a race of methods to what trying in order gives, and from a session's lemmas to what is said of one.
use Rattle.std.proofs.Common.{◌≡◌, ◌∙◌, ◌<◌, ℕ, List, map, length, refl, sym, ap, subst, Option, Some, None}
use Rattle.std.specs.Prelude.{slice_get, option_and_then}
use Rattle.std.specs.List.{flat_map}
use Rattle.std.proofs.lemmas.List.{length-map}
use Rattle.pure_text.specs.Lists.{Each, IsIn}
use Rattle.pure_graph.specs.Order.{Loaded}
use Rattle.pure_logic.specs.Content.{Content}
use Rattle.pure_race.specs.Least.{IsLeastWin}
use Rattle.pure_check_work.specs.Declare.Notes.{Fork}
use Rattle.pure_check_work.specs.Method.Outcome.{IsProvable}
use Rattle.pure_check_work.specs.SessionLaws.Loaded.{IsLoadedSession}
use Rattle.pure_check_work.specs.SessionMeaning.Laws.{ForksProvable, StatementsBindForks}
use Rattle.pure_check_work.specs.SessionMeaning.Statements.{AreStatements, forks_of, notes_of}
use Rattle.pure_check_work.specs.TheoryRun.Outline.{Outline}
use Rattle.pure_check_work.specs.TheoryRun.Sessions.{AreSaid}
use Rattle.pure_try.specs.declared.answer.Answer.TheVariants.{NoLemma, Tried}
use Rattle.pure_try.specs.declared.method.Method.{Method}
use Rattle.pure_check_work.specs.TheoryRun.Named.{lemma_named}
use Rattle.pure_try.specs.Answers.{IsAnswer, IsSaidOf}
use Rattle.pure_try.specs.First.{IsFirst, IsTried}
use Rattle.pure_try.specs.Methods.{methods_of}
use Rattle.pure_try.specs.Proofs.{MayRun, Raced, Wins, by_method}
use Rattle.pure_try.proofs.FirstLaws.{first-won}
use Rattle.pure_try.proofs.TryLaws.{methods-run}

-- the least number of a race of the methods
abbrev pub IsLeast : (texts : List (List ℕ)) → Fork → List Method → Option ℕ → Type 0
IsLeast texts f ms o = IsLeastWin (Wins (record { texts = texts; forks = map (by_method f) ms })) (length ms) o

-- the methods of a theory that is the lemma's content
pub methods-are : (texts : List (List ℕ)) (f : Fork) (Q : Content) (ms : List Method) → ms ≡ methods_of texts Q → Q ≡ f.content → ms ≡ methods_of texts f.content
methods-are texts f Q ms is same = is ∙ ap (methods_of texts) same

-- the lemmas with these proofs can be run
pub lent-run : (texts : List (List ℕ)) (f : Fork) → IsProvable texts f → (ms : List Method) (forks : List Fork) → forks ≡ map (by_method f) ms → Each (MayRun texts) forks
lent-run texts f p ms forks are = subst (Each (MayRun texts)) (sym are) (methods-run texts f p ms)

-- what the race of these lemmas answers
pub least-of : (texts : List (List ℕ)) (f : Fork) (ms : List Method) (forks : List Fork) → forks ≡ map (by_method f) ms → (raced : Raced) → raced ≡ record { texts = texts; forks = forks } → (o : Option ℕ)
    → IsLeastWin (Wins raced) (length raced.forks) o → IsLeast texts f ms o
least-of texts f ms forks are raced is o least =
    let here : IsLeastWin (Wins (record { texts = texts; forks = map (by_method f) ms })) (length (map (by_method f) ms)) o =
    subst (λ (r : Raced). IsLeastWin (Wins r) (length r.forks) o) (is ∙ ap (λ fs. record { texts = texts; forks = fs }) are) least in
    subst (λ n. IsLeastWin (Wins (record { texts = texts; forks = map (by_method f) ms })) n o) (length-map ms (by_method f)) here

tried-by : (texts : List (List ℕ)) (f : Fork) (ms lent : List Method) → ms ≡ methods_of texts f.content → lent ≡ ms → (o : Option ℕ) → IsLeast texts f lent o → IsTried texts f (option_and_then (slice_get ms) o)
tried-by texts f ms lent are same o least =
    subst (λ ks. IsFirst texts f ks (option_and_then (slice_get ms) o)) are
    (subst (λ ks. IsFirst texts f ks (option_and_then (slice_get ks) o)) same (first-won texts f lent o least))

pub tried-none : (texts : List (List ℕ)) (f : Fork) (ms lent : List Method) → ms ≡ methods_of texts f.content → lent ≡ ms → IsLeast texts f lent None → IsTried texts f None
tried-none texts f ms lent are same least = tried-by texts f ms lent are same None least

pub tried-some : (texts : List (List ℕ)) (f : Fork) (ms lent again : List Method) → ms ≡ methods_of texts f.content → lent ≡ ms → again ≡ ms → (n : ℕ) → IsLeast texts f lent (Some n) → (m : Method) → slice_get again n ≡ Some m → IsTried texts f (Some m)
tried-some texts f ms lent again are same once n least m at =
    subst (IsTried texts f) (ap (λ ks. slice_get ks n) (sym once) ∙ at) (tried-by texts f ms lent are same (Some n) least)

-- the number of a method is below their count
pub least-within : (texts : List (List ℕ)) (f : Fork) (ms lent again : List Method) → lent ≡ ms → again ≡ ms → (n : ℕ) → IsLeast texts f lent (Some n) → n < length again
least-within texts f ms lent again same once n least = subst (λ (ks : List Method). n < length ks) (same ∙ sym once) least.0

said-so : (texts : List (List ℕ)) (theories : List Loaded) (values : List Outline) (forks lent : List Fork) → AreSaid texts theories values forks → lent ≡ forks → (names : List (List ℕ)) → names ≡ texts → (name : List ℕ) (found : Option Fork)
    → lemma_named names name lent ≡ found → (answer : _) → IsSaidOf names found answer → IsAnswer texts theories name answer
said-so texts theories values forks lent said same names named name found at answer is =
    let notes = flat_map notes_of said.closed.verdicts in
    let lemmas : lent ≡ forks_of notes = same ∙ said.closed.forks_are in
    let here : lemma_named texts name (forks_of notes) ≡ found = sym (ap (λ fs. lemma_named texts name fs) lemmas) ∙ (sym (ap (λ ns. lemma_named ns name lent) named) ∙ at) in
    record {
      notes = notes;
      statements = record { verdicts = said.closed.verdicts; are = said.closed.are; all = said.all; notes_are = refl };
      said = subst (λ o. IsSaidOf texts o answer) (sym here) (subst (λ ns. IsSaidOf ns found answer) named is);
    }

pub answer-none : (texts : List (List ℕ)) (theories : List Loaded) (values : List Outline) (forks lent : List Fork) → AreSaid texts theories values forks → lent ≡ forks → (names : List (List ℕ)) → names ≡ texts → (name : List ℕ)
    → lemma_named names name lent ≡ None → IsAnswer texts theories name NoLemma
answer-none texts theories values forks lent said same names named name at = said-so texts theories values forks lent said same names named name None at NoLemma refl

pub answer-some : (texts : List (List ℕ)) (theories : List Loaded) (values : List Outline) (forks lent : List Fork) → AreSaid texts theories values forks → lent ≡ forks → (names : List (List ℕ)) → names ≡ texts → (name : List ℕ) (f : Fork)
    → lemma_named names name lent ≡ Some f → (first : Option Method) → IsTried names f first → IsAnswer texts theories name (Tried first)
answer-some texts theories values forks lent said same names named name f at first tried = said-so texts theories values forks lent said same names named name (Some f) at (Tried first) (first, refl, tried)
