-- Contents without the theories' axioms that aren't listed. Pure's own axiom stays.
use Rattle.std.specs.Prelude.{ℕ, List, [], ◌∷◌, Bool, false, ◌||◌, nat_eq, if◌then◌else◌}
use Rattle.pure_text.specs.Lists.{IsIn}
use Rattle.pure_definitions.specs.Names.{protect_name}
use Rattle.pure_definitions.specs.Declarations.Decl.{Decl, AxiomDecl}
use Rattle.pure_logic.specs.Content.{Content}

-- whether the name is one of these
abbrev pub is_one_of : (names : List ℕ) → ℕ → Bool
is_one_of [] name = false
is_one_of (n ∷ names) name = nat_eq name n || is_one_of names name

-- the declarations without the axioms that have none of these names, and aren't Pure's own
abbrev pub kept : (names : List ℕ) → List Decl → List Decl
kept names [] = []
kept names (AxiomDecl n A ∷ ds) = if is_one_of (protect_name ∷ names) n then AxiomDecl n A ∷ kept names ds else kept names ds
kept names (d ∷ ds) = d ∷ kept names ds

-- the content with no axioms of theories but those of these names
abbrev pub with_axioms : (names : List ℕ) → Content → Content
with_axioms names Q = record { declarations = kept names Q.declarations; own = Q.own; ancestors = Q.ancestors }

-- The declaration stays: it is no axiom, or Pure's own, or has one of the names.
abbrev pub Stays : (names : List ℕ) → Decl → Type 0
Stays names (AxiomDecl n A) = IsIn n (protect_name ∷ names)
Stays names _ = Unit {0}
