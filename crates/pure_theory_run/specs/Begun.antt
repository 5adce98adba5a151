-- Theories that begin over contents.
use Rattle.std.specs.Prelude.{◌≡◌, ℕ, List, [], length}
use Rattle.pure_typ.specs.NameTexts.{HasText}
use Rattle.pure_logic.specs.Content.{Content}
use Rattle.pure_logic.specs.Beginning.{IsBeginning}
use Rattle.pure_session_meaning.specs.Theory.Begin.{MayBegin}
use Rattle.pure_graph.specs.Order.{Loaded}
use Rattle.pure_graph.specs.Outcome.{part_count}
use Rattle.pure_theory_run.specs.Parents.{IsConflictRow}
use Rattle.pure_theory_run.specs.declared.run.Going.{Going}
use Rattle.pure_theory_run.specs.declared.run.Standing.{Standing}
use Rattle.pure_theory_run.specs.declared.run.Standing.TheVariants as code

-- No command was run yet: there is no row, no note waits, and so many commands are left, with so many parts.
pub record IsFirst (left parts : ℕ) (first : Content) (going : Going) : Type 0 where
  pub rows : going.rows.items ≡ []
  pub now : going.now.value ≡ first
  pub left_is : going.left ≡ left
  pub parts_are : going.parts ≡ parts
  pub waiting : going.waiting.items ≡ []

-- The theory has begun over these contents, and none of its commands was run yet.
pub record IsFirstOver (texts : List (List ℕ)) (index : ℕ) (theory : Loaded) (contents : List Content) (going : Going) : Type 0 where
  pub first : Content
  pub going_is : IsFirst (length theory.text.commands) (part_count theory.text.commands) first going
  pub name : ℕ
  pub text : HasText texts name theory.name
  pub may : MayBegin (record { name = name; index = index }) contents
  pub begins : IsBeginning (record { name = name; index = index }) contents first

-- The theory has begun over these contents, or it is refused since they aren't coregular.
abbrev pub IsBegunOver : (texts : List (List ℕ)) → (index : ℕ) → Loaded → List Content → Standing → Type 0
IsBegunOver texts index theory contents (code.Barred row) = IsConflictRow texts theory.name contents row
IsBegunOver texts index theory contents (code.Going going) = IsFirstOver texts index theory contents going
