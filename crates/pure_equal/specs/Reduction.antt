-- Beta and eta as equations: what their inferences give, and when they are refused.
use Rattle.std.specs.Prelude.{◌≡◌, ◌≢◌, []}
use Rattle.pure_definitions.specs.Types.Typ.{Typ}
use Rattle.pure_definitions.specs.Terms.Term.{Term, Bound, Abs, App}
use Rattle.pure_definitions.specs.Terms.Bounds.{subst_bound, lift_term}
use Rattle.pure_definitions.specs.Terms.Typing.{HasType}
use Rattle.pure_logic.specs.Connectives.{eq}
use Rattle.pure_logic.specs.Derivable.{Theorem}
use Rattle.pure_theorem.specs.declared.fault.RuleFault.{RuleFault}
use Rattle.pure_theorem.specs.declared.fault.RuleFault.TheVariants.{NotBeta, NotEta}

-- -----------------------
--  |- (%x. b[x]) a == b[a]
pub record GivesBeta (t : Term) (th : Theorem) : Type 0 where
  pub typ : Typ
  pub binder : Typ
  pub body : Term
  pub argument : Term
  pub redex : t ≡ App (Abs binder body) argument
  pub typed : HasType [] t typ
  pub is : th ≡ record { hyps = []; pairs = []; prop = eq typ t (subst_bound body argument); rests = [] }

-- The term isn't an abstraction applied to an argument.
abbrev pub IsNoRedex : Term → Type 0
IsNoRedex t = (T : Typ) (b a : Term) → t ≢ App (Abs T b) a

abbrev pub RefusesBeta : Term → RuleFault → Type 0
RefusesBeta t NotBeta = IsNoRedex t
RefusesBeta t _ = ⊥

-- -------------------- x not in f, so that f under the binder is f lifted over it
--  |- (%x. f x) == f
pub record GivesEta (t : Term) (th : Theorem) : Type 0 where
  pub typ : Typ
  pub binder : Typ
  pub function : Term
  pub redex : t ≡ Abs binder (App (lift_term 1 0 function) (Bound 0))
  pub typed : HasType [] t typ
  pub is : th ≡ record { hyps = []; pairs = []; prop = eq typ t function; rests = [] }

-- The term isn't a function's expansion: the abstraction of the function, lifted, applied to the bound variable.
abbrev pub IsNoExpansion : Term → Type 0
IsNoExpansion t = (T : Typ) (f : Term) → t ≢ Abs T (App (lift_term 1 0 f) (Bound 0))

abbrev pub RefusesEta : Term → RuleFault → Type 0
RefusesEta t NotEta = IsNoExpansion t
RefusesEta t _ = ⊥

-- The term is an abstraction of this body applied to this argument.
abbrev pub IsRedex : (t body argument : Term) → Type 0
IsRedex t b a = (T : Typ) × (t ≡ App (Abs T b) a)

-- The term isn't an abstraction.
abbrev pub IsNoAbstraction : Term → Type 0
IsNoAbstraction t = (T : Typ) (b : Term) → t ≢ Abs T b

-- The term is the abstraction of this function, under the binder, applied to the bound variable; or of no function.
abbrev pub IsApplied : (t function : Term) → Type 0
IsApplied t g = (T : Typ) × (t ≡ Abs T (App g (Bound 0)))

abbrev pub IsNotApplied : Term → Type 0
IsNotApplied t = (T : Typ) (g : Term) → t ≢ Abs T (App g (Bound 0))
