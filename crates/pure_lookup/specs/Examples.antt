-- Examples of look-ups.
use Rattle.std.specs.Prelude.{ℕ, List, [], ◌∷◌, ◌++◌, codes, None}
use Rattle.pure_definitions.specs.Names.{fun_name}
use Rattle.pure_definitions.specs.Types.Typ.{prop}
use Rattle.pure_definitions.specs.Declarations.Decl.{ConstDecl}
use Rattle.pure_logic.specs.Content.{Content}
use Rattle.pure_logic.specs.PureContent.{pure_content, pure_declarations}
use Rattle.pure_lookup.specs.Meaning.{constructors, constants, facts, Meaning, Declared, Built, IsMeant}
use Rattle.pure_lookup.specs.Laws.{IsInSession}

-- the texts of the names 6 to 9
unfoldable pub example_texts : List (List ℕ)
example_texts = codes "A" ∷ codes "A.x" ∷ codes "B" ∷ codes "B.x" ∷ []

-- The theories A and B, with these indexes in load order, each declare a constant x, and are the ancestors.
abbrev pub over_two : (first second : ℕ) → Content
over_two first second = record {
  declarations = pure_declarations ++ ConstDecl 7 prop ∷ ConstDecl 9 prop ∷ [];
  own = None;
  ancestors = record { name = 6; index = first } ∷ record { name = 8; index = second } ∷ [];
}

-- `x` means that of the theory that is last in load order, and `A.x` that of A.
abbrev pub LastExample : Type 0
LastExample = IsMeant example_texts (over_two 1 2) constants (codes "x") (Declared 9) × IsMeant example_texts (over_two 2 1) constants (codes "x") (Declared 7)

abbrev pub FullExample : Type 0
FullExample = IsMeant example_texts (over_two 1 2) constants (codes "A.x") (Declared 7)

-- Over Pure's content `fun` means Pure's, and `refl` and `Pure.refl` mean the built fact; neither `protect` nor `Pure.protect` means a fact.
abbrev pub PureExample : Type 0
PureExample = IsMeant [] pure_content constructors (codes "fun") (Declared fun_name) × IsMeant [] pure_content facts (codes "refl") (Built 0) × IsMeant [] pure_content facts (codes "Pure.refl") (Built 0)

abbrev pub ProtectExample : Type 0
ProtectExample = (m : Meaning) → (¬ IsMeant [] pure_content facts (codes "protect") m) × (¬ IsMeant [] pure_content facts (codes "Pure.protect") m)

-- This is a content that a session may give, so that the premise of the laws can be met.
abbrev pub SessionExample : Type 0
SessionExample = IsInSession example_texts (over_two 1 2)
