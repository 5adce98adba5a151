-- Laws of certification, on plain trees: what keeps a term's parts certified. By them and the laws of typing, what is made of certified terms is certified.
use Rattle.std.specs.Prelude.{ℕ, List}
use Rattle.pure_definitions.specs.Terms.Term.{Term}
use Rattle.pure_definitions.specs.Terms.Bounds.{lift_term, subst_under, bind_under}
use Rattle.pure_definitions.specs.Declarations.Decl.{Decl}
use Rattle.pure_definitions.specs.Declarations.Certified.{HasCertifiedParts}

-- Certified parts are kept by lifting, by instantiation with such a term, and by abstraction.
abbrev pub PartsOfLift : Type 0
PartsOfLift = (ds : List Decl) (by from : ℕ) (t : Term) → HasCertifiedParts ds t → HasCertifiedParts ds (lift_term by from t)

abbrev pub PartsOfSubst : Type 0
PartsOfSubst = (ds : List Decl) (n : ℕ) (arg b : Term) → HasCertifiedParts ds arg → HasCertifiedParts ds b → HasCertifiedParts ds (subst_under n arg b)

abbrev pub PartsOfBind : Type 0
PartsOfBind = (ds : List Decl) (n : ℕ) (v t : Term) → HasCertifiedParts ds t → HasCertifiedParts ds (bind_under n v t)
