-- Answers of the search for a unifier, as examples: over Pure's own content.
use Rattle.std.specs.Prelude.{List, [], ◌∷◌}
use Rattle.pure_definitions.specs.Types.Typ.{prop}
use Rattle.pure_definitions.specs.Terms.Term.{Term, Free, Var}
use Rattle.pure_definitions.specs.Declarations.Decl.{algebra_of}
use Rattle.pure_logic.specs.PureContent.{pure_declarations, pure_content}
use Rattle.pure_logic.specs.Derivable.{Pair}
use Rattle.pure_unify_definitions.specs.Fronts.{pair}
use Rattle.pure_unify_definitions.specs.Node.{bind}
use Rattle.pure_unify_definitions.specs.Search.{Answer, Unified, NoUnifier, IsUnifyAnswer}
use Rattle.pure_unify_laws.specs.Condition.{AreUnifiable}
use Rattle.pure_unify_answers.specs.Maps.{Solves}

-- the schematic variable `?A :: prop`, and the fixed ones `A :: prop` and `B :: prop`
abbrev pub any_proposition : Term
any_proposition = Var 0 0 prop

abbrev pub fixed_proposition : Term
fixed_proposition = Free 0 prop

abbrev pub other_proposition : Term
other_proposition = Free 1 prop

abbrev pub IsAnswered : List Pair → Answer → Type 0
IsAnswered ps answer = IsUnifyAnswer (algebra_of pure_declarations) 0 ps answer

-- `?A` and A have the unifier that sets `?A` to A, and leaves no pair.
abbrev pub SetExample : Type 0
SetExample = IsAnswered (pair any_proposition fixed_proposition ∷ []) (Unified (record { typs = []; terms = bind 0 0 prop fixed_proposition ∷ []; flexflex = [] }))

-- They are within the condition of a search, and the unifier solves them.
abbrev pub SolvesExample : Type 0
SolvesExample = AreUnifiable pure_content 0 (pair any_proposition fixed_proposition ∷ [])
    × Solves pure_content (pair any_proposition fixed_proposition ∷ []) (record { typs = []; terms = bind 0 0 prop fixed_proposition ∷ []; flexflex = [] })

-- A and B have none.
abbrev pub ClashExample : Type 0
ClashExample = IsAnswered (pair fixed_proposition other_proposition ∷ []) NoUnifier
