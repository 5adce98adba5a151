-- What a beta step keeps of a term, and so its normal form; what a normal form is.
use Rattle.std.specs.Prelude.{◌≡◌, ◌↔◌, ℕ, List, Some}
use Rattle.pure_definitions.specs.Types.Typ.{Typ}
use Rattle.pure_definitions.specs.Terms.Term.{Term, IsWithin}
use Rattle.pure_definitions.specs.Terms.Typing.{HasType}
use Rattle.pure_definitions.specs.Terms.Bounds.{IsClosedUnder, lift_term}
use Rattle.pure_definitions.specs.Declarations.Decl.{Decl}
use Rattle.pure_definitions.specs.Declarations.Certified.{IsCertified}
use Rattle.pure_definitions.specs.Reduction.Beta.{IsBetaNormal, beta_step, IsBetaSequence, IsBetaAnswer, NormalForm}

-- A normal form has no redex.
abbrev pub NormalFormIsNormal : Type 0
NormalFormIsNormal = (t u : Term) → IsBetaAnswer t (NormalForm u) → IsBetaNormal u

-- It is within the limits.
abbrev pub NormalFormIsWithin : Type 0
NormalFormIsWithin = (t u : Term) → IsBetaAnswer t (NormalForm u) → IsWithin u

-- It is the one normal term that the sequence of the term reaches.
abbrev pub OneNormalForm : Type 0
OneNormalForm = (t u v : Term) (vs : List Term) → IsBetaAnswer t (NormalForm u) → IsBetaSequence t vs v → IsBetaNormal v → v ≡ u

-- A normal term within the limits is its own normal form.
abbrev pub NormalFormOfNormal : Type 0
NormalFormOfNormal = (t : Term) → IsWithin t → IsBetaNormal t → IsBetaAnswer t (NormalForm t)

-- A step keeps a term's type under given binders, that it is certified, and that it has no loose bound variables beyond given binders.
abbrev pub StepKeepsType : Type 0
StepKeepsType = (bs : List Typ) (t u : Term) (T : Typ) → beta_step t ≡ Some u → HasType bs t T → HasType bs u T

abbrev pub StepKeepsCertified : Type 0
StepKeepsCertified = (ds : List Decl) (t u : Term) → beta_step t ≡ Some u → IsCertified ds t → IsCertified ds u

abbrev pub StepKeepsClosed : Type 0
StepKeepsClosed = (n : ℕ) (t u : Term) → beta_step t ≡ Some u → IsClosedUnder n t → IsClosedUnder n u

-- So does the normal form.
abbrev pub NormalFormKeepsType : Type 0
NormalFormKeepsType = (bs : List Typ) (t u : Term) (T : Typ) → IsBetaAnswer t (NormalForm u) → HasType bs t T → HasType bs u T

abbrev pub NormalFormKeepsCertified : Type 0
NormalFormKeepsCertified = (ds : List Decl) (t u : Term) → IsBetaAnswer t (NormalForm u) → IsCertified ds t → IsCertified ds u

abbrev pub NormalFormKeepsClosed : Type 0
NormalFormKeepsClosed = (n : ℕ) (t u : Term) → IsBetaAnswer t (NormalForm u) → IsClosedUnder n t → IsClosedUnder n u

-- A term is normal exactly where it is when lifted.
abbrev pub NormalUnderLift : Type 0
NormalUnderLift = (by from : ℕ) (t : Term) → IsBetaNormal t ↔ IsBetaNormal (lift_term by from t)
