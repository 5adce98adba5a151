-- A lemma with other proofs, and whether each of some proofs proves its lemma.
use Rattle.std.specs.Prelude.{◌≡◌, ◌-◌, ℕ, Bool, true, false, List, [], length, IfSome, Some, slice_get}
use Rattle.pure_grammar.specs.Theories.TheoryText.{Step}
use Rattle.pure_check_work.specs.Declare.Notes.{Fork}
use Rattle.pure_check_work.specs.Method.Outcome.{IsProvable}
use Rattle.pure_check_work.specs.Method.Running.{Proves}
use Rattle.pure_check_work.specs.Method.declared.proving.Place.{Place}
use Rattle.pure_check_work.specs.Method.declared.proving.Place.TheVariants.{Runs, Broken}
use Rattle.pure_check_work.specs.Method.declared.proving.Proving.{Proving}
use Rattle.pure_check_work.specs.Method.declared.outcome.Outcome.{Outcome}
use Rattle.pure_check_work.specs.Method.declared.outcome.Outcome.TheVariants.{Proved, Fault}
use Rattle.pure_try.specs.declared.method.Method.{Method}
use Rattle.pure_theory_tables.specs.declared.decl.Decl as outlined
use Rattle.pure_theory_tables.specs.declared.decl.Decl.TheVariants.{Axiom, Promise}
use Rattle.pure_try.specs.Methods.{script_of, written_name}
use Rattle.pure_try.specs.First.{Tells}

-- the lemma with these steps for its proof
abbrev pub by_script : Fork → List Step → Fork
by_script f script = record { label = f.label; name = f.name; lemma = f.lemma; content = f.content; fixed = f.fixed; prop = f.prop; script = script }

-- the lemma with the proof by this method
abbrev pub by_method : Fork → Method → Fork
by_method f m = by_script f (script_of m)

-- the session's names, and lemmas with proofs
pub record Raced : Type 0 where
  pub texts : List (List ℕ)
  pub forks : List Fork

-- A proof of three steps can be run of the lemma.
abbrev pub MayRun : (texts : List (List ℕ)) → Fork → Type 0
MayRun texts f = IsProvable texts f × (length f.script ≡ 3)

-- The lemma at this place is proved by its proof, or isn't.
abbrev pub Wins : Raced → (place : ℕ) → (proves : Bool) → Type 0
Wins r place proves = (f : Fork) × (slice_get r.forks place ≡ Some f) × Tells r.texts f f.script proves

-- The proof of the lemma at this place is on its way.
abbrev pub Tries : Raced → (place : ℕ) → Proving → Type 0
Tries r place proving = IfSome (slice_get r.forks place) (λ f. Proves r.texts f proving)

-- whether the proof is broken by want of memory
abbrev pub is_broken : Place → Bool
is_broken Broken = true
is_broken _ = false

-- how many steps of three are left where a proof stands so
abbrev pub left_at : Place → ℕ
left_at (Runs run) = 3 - run.at
left_at _ = 0

-- whether a proof comes to the lemma's theorem
abbrev pub is_proved : Outcome → Bool
is_proved (Proved result) = true
is_proved (Fault step fault) = false

-- the full name of the fact that a declaration is, by its kind and name
abbrev pub outlined_fact : (texts : List (List ℕ)) → outlined.Decl → List (List ℕ)
outlined_fact texts (Axiom name) = written_name texts name
outlined_fact texts (Promise name label) = written_name texts name
outlined_fact texts _ = []
