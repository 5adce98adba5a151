-- Maps of variables, and which pairs they solve. Types stay as they are: a map of this kind is for pairs without schematic type variables.
use Rattle.std.specs.Prelude.{◌≡◌, ◌⊎◌, ℕ, List}
use Rattle.pure_text.specs.Lists.{Each}
use Rattle.pure_definitions.specs.Types.Typ.{Typ}
use Rattle.pure_definitions.specs.Terms.Term.{Term, Var}
use Rattle.pure_definitions.specs.Terms.Subst.{inst_term, IsTypeRespecting, KeepsFixedTerms}
use Rattle.pure_definitions.specs.Reduction.Eta.{IsLongForm}
use Rattle.pure_logic.specs.Derivable.{Pair}
use Rattle.pure_reduction.specs.LongForms.{HaveOneLongForm}

-- Each image has its variable's type, under no binders, and the fixed variables stay.
pub record IsTermSubstitution (terms : Term → Term) : Type 0 where
  pub respecting : IsTypeRespecting (λ v. v) terms
  pub fixed : KeepsFixedTerms (λ v. v) terms

-- A long map is such a map that leaves each schematic variable as it is, or gives it an image in long form.
pub record IsLongMap (terms : Term → Term) : Type 0 where
  pub substitution : IsTermSubstitution terms
  pub images : (x i : ℕ) (T : Typ) → (terms (Var x i T) ≡ Var x i T) ⊎ IsLongForm (terms (Var x i T)) (terms (Var x i T))

-- The map solves the pair: under it both sides have one and the same long form.
abbrev pub SolvesPair : (Term → Term) → Pair → Type 0
SolvesPair terms p = HaveOneLongForm (inst_term terms p.left) (inst_term terms p.right)

-- It solves each pair of the list.
abbrev pub SolvesPairs : (Term → Term) → List Pair → Type 0
SolvesPairs terms ps = Each (SolvesPair terms) ps
