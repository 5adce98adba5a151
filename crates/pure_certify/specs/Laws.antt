-- Laws of certified types and terms.
use Rattle.std.specs.Prelude.{◌≡◌, ◌≢◌, List, [], ◌↔◌}
use Rattle.std.specs.List.Sorted.{IsStrictlyIncreasing}
use Rattle.pure_text.specs.Lists.{Each}
use Rattle.pure_definitions.specs.Types.Typ.{Typ, TFree, TVar, Con, Typs, none, also}
use Rattle.pure_definitions.specs.Terms.Term.{Term, Const, Free, Var, Bound, Abs, App}
use Rattle.pure_definitions.specs.Terms.Typing.{HasType}
use Rattle.pure_definitions.specs.Declarations.Decl.{Decl}
use Rattle.pure_definitions.specs.Declarations.Certified.{IsCertifiedTyp, IsCertified}
use Rattle.pure_certify.specs.declared.fault.CertFault.{CertFault}
use Rattle.pure_certify.specs.declared.fault.CertFault.TheVariants.{Memory}
use Rattle.pure_certify.specs.Parts.{Part, typ_parts, term_parts, IsSound, IsFirstFault}
use Rattle.pure_certify.specs.Answer.{IsTermFault}

-- There is one first fault at most.
abbrev pub OneFault : Type 0
OneFault = (ds : List Decl) (parts : List Part) (f g : CertFault) → IsFirstFault ds parts f → IsFirstFault ds parts g → f ≡ g

-- Where there is a fault not all parts are sound.
abbrev pub FaultyIsNotSound : Type 0
FaultyIsNotSound = (ds : List Decl) (parts : List Part) (f : CertFault) → IsFirstFault ds parts f → ¬ Each (IsSound ds) parts

-- The names of each sort in the type ascend.
abbrev mutual
  pub DoSortsAscend : Typ → Type 0
  DoSortsAscend (TFree x s) = IsStrictlyIncreasing s
  DoSortsAscend (TVar x i s) = IsStrictlyIncreasing s
  DoSortsAscend (Con k ts) = DoAllSortsAscend ts

  pub DoAllSortsAscend : Typs → Type 0
  DoAllSortsAscend none = Unit {0}
  DoAllSortsAscend (also t ts) = DoSortsAscend t × DoAllSortsAscend ts

-- The same of the types in a term.
abbrev pub DoTermSortsAscend : Term → Type 0
DoTermSortsAscend (Const c T) = DoSortsAscend T
DoTermSortsAscend (Free x T) = DoSortsAscend T
DoTermSortsAscend (Var x i T) = DoSortsAscend T
DoTermSortsAscend (Bound n) = Unit {0}
DoTermSortsAscend (Abs T b) = DoSortsAscend T × DoTermSortsAscend b
DoTermSortsAscend (App f a) = DoTermSortsAscend f × DoTermSortsAscend a

-- A type is certified exactly where its sorts ascend and its parts are sound.
abbrev pub CertifiedTypExactly : Type 0
CertifiedTypExactly = (ds : List Decl) (T : Typ) → IsCertifiedTyp ds T ↔ (DoSortsAscend T × Each (IsSound ds) (typ_parts T))

-- A term is certified exactly where its sorts ascend, its parts are sound and it has a type.
abbrev pub CertifiedExactly : Type 0
CertifiedExactly = (ds : List Decl) (t : Term) → IsCertified ds t ↔ (DoTermSortsAscend t × Each (IsSound ds) (term_parts t) × ((T : Typ) × HasType [] t T))

-- A term with a fault other than want of memory isn't certified, and has one such fault at most.
abbrev pub FaultyIsNotCertified : Type 0
FaultyIsNotCertified = (ds : List Decl) (t : Term) (f : CertFault) → IsTermFault ds t f → f ≢ Memory → ¬ IsCertified ds t

abbrev pub OneTermFault : Type 0
OneTermFault = (ds : List Decl) (t : Term) (f g : CertFault) → IsTermFault ds t f → IsTermFault ds t g → f ≢ Memory → g ≢ Memory → f ≡ g
