-- Instances of terms that are their own long forms, walked through beside the term that isn't replaced yet.
use Rattle.std.specs.Prelude.{◌≡◌, ℕ, List, [], Bool, true, false}
use Rattle.pure_definitions.specs.Types.Typ.{Typ}
use Rattle.pure_definitions.specs.Terms.Term.{Term, Const, Free, Var, Bound, Abs, App}
use Rattle.pure_definitions.specs.Terms.Subst.{TermBind, term_image, inst_term}
use Rattle.pure_definitions.specs.Reduction.Beta.{IsAbs, IsBetaNormal, IsBetaAnswer, NormalForm}
use Rattle.pure_eta.specs.LongTerm.{front_typ, long_term}
use Rattle.pure_norm.specs.declared.contract.Walk.{Walk}
use Rattle.pure_norm.specs.Walk.{Abstraction, Normal, Walked}

-- The term is normal, and as a function that is applied or not it is long in its scope.
pub record IsOwn (applied : Bool) (bs : List Typ) (t : Term) : Type 0 where
  pub normal : IsBetaNormal t
  pub long : long_term applied bs t ≡ t

-- The function at the front of the term stays under the entries, and is no abstraction.
abbrev pub HasFixedFront : List TermBind → Term → Type 0
HasFixedFront ds (Const c T) = Unit {0}
HasFixedFront ds (Free x T) = Unit {0}
HasFixedFront ds (Var x i T) = term_image ds (Var x i T) ≡ Var x i T
HasFixedFront ds (Bound p) = Unit {0}
HasFixedFront ds (Abs T b) = ⊥
HasFixedFront ds (App f a) = HasFixedFront ds f

-- The walk has gone through the instance of t to its normal form, whose long form in the scope is l.
pub record IsFound (ds : List TermBind) (bs : List Typ) (deep : ℕ) (before now : Walk) (t l : Term) : Type 0 where
  pub normal : Term
  pub walked : Walked Normal deep before now (inst_term (term_image ds) t) normal
  pub over : IsBetaNormal normal
  pub long : l ≡ long_term false bs normal

-- The same of a function with a fixed front that is applied: the type at its front stays.
pub record IsFoundFront (ds : List TermBind) (bs : List Typ) (deep : ℕ) (before now : Walk) (t l : Term) : Type 0 where
  pub normal : Term
  pub walked : Walked Abstraction deep before now (inst_term (term_image ds) t) normal
  pub other : ¬ IsAbs normal
  pub over : IsBetaNormal normal
  pub typ : front_typ bs normal ≡ front_typ bs t
  pub long : l ≡ long_term true bs normal

-- The term l is the long form of the normal form of the instance of t.
pub record IsInstanceLong (ds : List TermBind) (t l : Term) : Type 0 where
  pub normal : Term
  pub answer : IsBetaAnswer (inst_term (term_image ds) t) (NormalForm normal)
  pub long : l ≡ long_term false [] normal
