-- What the theories of a session leave, run one after the other.
use Rattle.std.specs.Prelude.{◌≡◌, ◌<◌, ℕ, List, [], ◌∷◌, ◌++◌, length, map, Option, Some, None}
use Rattle.std.specs.List.{flat_map}
use Rattle.pure_graph.specs.Order.{Loaded}
use Rattle.pure_session_meaning.specs.Declare.Notes.{Fork, Note}
use Rattle.pure_session_meaning.specs.Verdicts.{Verdict, Closes}
use Rattle.pure_session_meaning.specs.Statements.{notes_of, forks_of, AreVerdicts}
use Rattle.pure_theory_run.specs.Outline.{Outline, outline}
use Rattle.pure_theory_run.specs.Runs.{IsRunOf, turns_left}
use Rattle.pure_theory_run.specs.Turns.{ClosesWith}
use Rattle.pure_theory_run.specs.declared.run.Run.{Run}

-- The run goes on with a note more, and fewer turns are left.
pub record GoesOnWith (texts : List (List ℕ)) (theories : List Loaded) (index : ℕ) (notes : List Note) (old new : Run) (note : Note) : Type 0 where
  pub run : IsRunOf texts theories index (notes ++ note ∷ []) new
  pub fewer : turns_left new < turns_left old

-- A turn of a run was taken, and its lemma or have, if there is one, put behind the others: the run goes on, or the theory closes.
abbrev pub IsTaken : (texts : List (List ℕ)) → (theories : List Loaded) → (index : ℕ) → (notes : List Note) → (old new : Run) → (before after : List Fork) → Option Outline → Type 0
IsTaken texts theories index notes old new before after None = (note : Note) × GoesOnWith texts theories index notes old new note × (after ≡ before ++ forks_of (note ∷ []))
IsTaken texts theories index notes old new before after (Some value) = ClosesWith texts theories index notes value × (after ≡ before)

-- The theory with this index ran until it closed with this value, and its lemmas and haves are put behind the others.
pub record RanOut (texts : List (List ℕ)) (theories : List Loaded) (index : ℕ) (before after : List Fork) (value : Outline) : Type 0 where
  pub verdict : Verdict
  pub closes : Closes texts theories index verdict
  pub value_is : value ≡ outline verdict
  pub forks : after ≡ before ++ forks_of (notes_of verdict)

-- The first theories, in load order, closed with these values, and bound these lemmas and haves.
pub record HaveClosed (texts : List (List ℕ)) (theories : List Loaded) (values : List Outline) (forks : List Fork) : Type 0 where
  pub verdicts : List Verdict
  pub are : AreVerdicts texts theories verdicts
  pub values_are : values ≡ map outline verdicts
  pub forks_are : forks ≡ forks_of (flat_map notes_of verdicts)

-- All theories closed with these values, and bound these lemmas and haves.
pub record AreSaid (texts : List (List ℕ)) (theories : List Loaded) (values : List Outline) (forks : List Fork) : Type 0 where
  pub closed : HaveClosed texts theories values forks
  pub all : length closed.verdicts ≡ length theories
