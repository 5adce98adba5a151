-- What the program has of a draft: its term and its type, and the constraints so far with those of the draft behind them.
use Rattle.std.specs.Prelude.{◌≡◌, ℕ, List, map, ◌++◌}
use Rattle.pure_definitions.specs.Types.Typ.{Typ}
use Rattle.pure_definitions.specs.Terms.Term.{Term}
use Rattle.pure_elab.specs.declared.draft.Constraints.{Constraints}
use Rattle.pure_elab.specs.Drafts.{Constraint, Draft, pair_of}

-- the place of a constraint
abbrev pub constraint_place : Constraint → ℕ
constraint_place c = c.at

-- These constraints were added, and this is the first number that no unknown has now.
pub record AreAdded (cs : List Constraint) (next : ℕ) (old new : Constraints) : Type 0 where
  pub number : new.next ≡ next
  pub pairs : new.pairs.items ≡ old.pairs.items ++ map pair_of cs
  pub places : new.places.items ≡ old.places.items ++ map constraint_place cs

-- The term, the type and the constraints are those of the draft.
pub record IsDrafted (d : Draft) (old new : Constraints) (t : Term) (T : Typ) : Type 0 where
  pub term : t ≡ d.term
  pub typ : T ≡ d.typ
  pub added : AreAdded d.constraints d.next old new
