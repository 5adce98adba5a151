-- What is said of the lemma of a session that has some name.
use Rattle.std.specs.Prelude.{◌≡◌, ℕ, Bool, true, false, List, [], ◌∷◌, ◌++◌, Option, Some, None, codes}
use Rattle.pure_graph.specs.Order.{Loaded}
use Rattle.pure_check_work.specs.Declare.Notes.{Fork, Note}
use Rattle.pure_check_work.specs.SessionMeaning.Statements.{forks_of, AreStatements}
use Rattle.pure_check_work.specs.TheoryRun.Named.{lemma_named}
use Rattle.pure_try.specs.declared.method.Method.{Method}
use Rattle.pure_try.specs.declared.method.Method.TheVariants.{Assumption, Rule}
use Rattle.pure_try.specs.declared.answer.Answer.{Answer}
use Rattle.pure_try.specs.declared.answer.Answer.TheVariants.{NoLemma, Tried}
use Rattle.pure_try.specs.First.{IsTried}

-- There is no such lemma, or this comes of trying in order to prove it.
abbrev pub IsSaidOf : (texts : List (List ℕ)) → Option Fork → Answer → Type 0
IsSaidOf texts None answer = answer ≡ NoLemma
IsSaidOf texts (Some f) answer = (first : Option Method) × (answer ≡ Tried first) × IsTried texts f first

-- The same of the lemma with this name among those that the session binds.
pub record IsAnswer (texts : List (List ℕ)) (theories : List Loaded) (name : List ℕ) (answer : Answer) : Type 0 where
  pub notes : List Note
  pub statements : AreStatements texts theories notes
  pub said : IsSaidOf texts (lemma_named texts name (forks_of notes)) answer

-- how a method is written behind `by`
abbrev pub method_text : Method → List ℕ
method_text Assumption = codes "assumption"
method_text (Rule fact) = codes "(rule " ++ fact ++ codes ")"

-- what is said of a lemma
abbrev pub first_text : Option Method → List ℕ
first_text None = codes "none"
first_text (Some m) = codes "by " ++ method_text m

-- The line that is written: `no lemma`; or the name, a colon, and the proof in one step, or `none`.
abbrev pub line_of : (name : List ℕ) → Answer → List ℕ
line_of name NoLemma = codes "no lemma" ++ 10 ∷ []
line_of name (Tried first) = name ++ codes ": " ++ first_text first ++ 10 ∷ []

-- whether a proof in one step was found
abbrev pub is_found : Answer → Bool
is_found (Tried (Some m)) = true
is_found _ = false
