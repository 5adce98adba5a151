-- What the theories of a session may fork, what may close them, and which outcomes their lemmas may have.
use Rattle.std.specs.Prelude.{◌≡◌, ℕ, List, length, map, Bool, true, false}
use Rattle.pure_graph.specs.Order.{Loaded}
use Rattle.pure_table.specs.Declare.Notes.{Fork, Note}
use Rattle.pure_table.specs.Method.declared.outcome.Outcome.{Outcome}
use Rattle.pure_table.specs.Method.declared.outcome.Outcome.TheVariants.{Proved, Fault}
use Rattle.pure_table.specs.SessionMeaning.Verdicts.{Verdict, Closes}
use Rattle.pure_table.specs.SessionMeaning.Statements.{notes_of, forks_of, IsFork}
use Rattle.pure_table.specs.TheoryRun.Outline.{Outline, outline}
use Rattle.pure_table.specs.TheoryRun.Runs.{IsRunOf}
use Rattle.pure_table.specs.TheoryRun.declared.run.Run.{Run}

-- the parents of each theory, by their indexes
abbrev pub shape_of : List Loaded → List (List ℕ)
shape_of = map (λ (l : Loaded). l.parents)

-- The theory with this index may fork this lemma or have after so many others, under this command: it is the one that it binds after so many, and the command is that of its label.
pub record ForksAfter (texts : List (List ℕ)) (theories : List Loaded) (index others command : ℕ) (fork : Fork) : Type 0 where
  pub lemma : IsFork texts theories index others fork
  pub command_is : command ≡ fork.label.command

-- The value may close the theory with this index after so many lemmas: it is what is left of what becomes of the theory, which binds so many.
abbrev pub ClosesAfter : (texts : List (List ℕ)) → (theories : List Loaded) → (index count : ℕ) → Outline → Type 0
ClosesAfter texts theories index count value = (v : Verdict) × Closes texts theories index v × (value ≡ outline v) × (length (forks_of (notes_of v)) ≡ count)

-- The program runs the theory with this index, which has bound so many lemmas.
abbrev pub RunsAfter : (texts : List (List ℕ)) → (theories : List Loaded) → (index count : ℕ) → Run → Type 0
RunsAfter texts theories index count run = (notes : List Note) × IsRunOf texts theories index notes run × (length (forks_of notes) ≡ count)

-- whether the outcome is a fault
abbrev pub is_fault : Outcome → Bool
is_fault (Proved result) = false
is_fault (Fault step fault) = true
