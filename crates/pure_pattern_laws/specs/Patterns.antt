-- Patterns: terms in which each schematic variable stands applied to distinct bound variables (D. Miller, A logic programming language with lambda-abstraction, function variables, and simple unification, 1991).
use Rattle.std.specs.Prelude.{◌≡◌, ◌⊎◌, ℕ, List, true, false}
use Rattle.pure_text.specs.Lists.{EachTwo, AreDistinct}
use Rattle.pure_definitions.specs.Types.Typ.{TVar}
use Rattle.pure_definitions.specs.Terms.Term.{Term, Bound, Abs, App}
use Rattle.pure_definitions.specs.Reduction.Eta.{EtaReduces}
use Rattle.pure_term_laws.specs.LawsOccurs.{TypOccurs}
use Rattle.pure_logic.specs.Derivable.{Pair}
use Rattle.pure_unify_definitions.specs.Fronts.{front, arguments, is_schematic}

-- The eta-normal form of the term is this bound variable. (No eta step leads from a bound variable.)
abbrev pub IsPlace : Term → ℕ → Type 0
IsPlace t z = EtaReduces t (Bound z)

-- The arguments of what stands at the term's front are in eta-normal form these bound variables, left to right, and no two of them are the same.
pub record HasPlaces (t : Term) (zs : List ℕ) : Type 0 where
  pub are : EachTwo IsPlace (arguments t) zs
  pub distinct : AreDistinct zs

-- Each schematic variable in the term stands applied to distinct bound variables, and to nothing else.
abbrev pub IsPattern : Term → Type 0
IsPattern (Abs T b) = IsPattern b
IsPattern (App f a) = (is_schematic (front f) ≡ true → (zs : List ℕ) × HasPlaces (App f a) zs) × (is_schematic (front f) ≡ false → IsPattern f × IsPattern a)
IsPattern _ = Unit {0}

-- So it is in both sides of the pair.
abbrev pub IsPatternPair : Pair → Type 0
IsPatternPair p = IsPattern p.left × IsPattern p.right

-- A schematic type variable occurs in a side of the pair.
abbrev pub HasSchematicTyp : Pair → Type 0
HasSchematicTyp p = (x i : ℕ) × (s : List ℕ) × (TypOccurs (TVar x i s) p.left ⊎ TypOccurs (TVar x i s) p.right)
