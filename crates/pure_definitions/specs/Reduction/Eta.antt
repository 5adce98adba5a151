-- Eta reduction and long forms (Isabelle/Isar Implementation manual, section 2.2).
use Rattle.std.specs.Prelude.{◌≡◌, ℕ, zero, ◌+◌, List, [], ◌∷◌}
use Rattle.pure_definitions.specs.Types.Typ.{Typ, Con, none, also}
use Rattle.pure_definitions.specs.Terms.Term.{Term, Bound, Abs, App}
use Rattle.pure_definitions.specs.Terms.Bounds.{lift_term}
use Rattle.pure_definitions.specs.Terms.Typing.{HasType}
use Rattle.pure_definitions.specs.Reduction.Beta.{IsBetaNormal}

-- One step replaces a subterm `%x. f x` by f where x doesn't occur in f: where f under the binder is f lifted over it.
pub data EtaStep : Term → Term → Type 0 where
  contract : {T : Typ} {f g : Term} → g ≡ lift_term 1 0 f → EtaStep (Abs T (App g (Bound 0))) f
  body : {T : Typ} {b c : Term} → EtaStep b c → EtaStep (Abs T b) (Abs T c)
  function : {f g a : Term} → EtaStep f g → EtaStep (App f a) (App g a)
  argument : {f a b : Term} → EtaStep a b → EtaStep (App f a) (App f b)

-- Any number of steps lead from the first term to the second.
pub data EtaReduces : Term → Term → Type 0 where
  done : {t : Term} → EtaReduces t t
  next : {t u v : Term} → EtaStep t u → EtaReduces u v → EtaReduces t v

-- No step leads from the term.
abbrev pub IsEtaNormal : Term → Type 0
IsEtaNormal t = (u : Term) → ¬ EtaStep t u

-- u is the eta-normal form of t.
pub record IsEtaNormalForm (t u : Term) : Type 0 where
  pub reduces : EtaReduces t u
  pub normal : IsEtaNormal u

-- the count of the term's outermost abstractions
abbrev pub abstraction_count : Term → ℕ
abstraction_count (Abs T b) = 1 + abstraction_count b
abstraction_count _ = 0

-- the count of the type's arrows: `A => B => C` has two where C is no type of functions (`Con zero` is the constructor `fun`)
abbrev pub arrow_count : Typ → ℕ
arrow_count (Con zero (also T (also U none))) = 1 + arrow_count U
arrow_count _ = 0

-- The term has a type under these binders, and as many abstractions as its type has arrows.
abbrev pub IsSaturated : List Typ → Term → Type 0
IsSaturated bs t = (T : Typ) × HasType bs t T × (abstraction_count t ≡ arrow_count T)

-- So has each proper subterm that isn't applied.
abbrev pub HasSaturatedParts : List Typ → Term → Type 0
HasSaturatedParts bs (Abs T b) = IsSaturated (T ∷ bs) b × HasSaturatedParts (T ∷ bs) b
HasSaturatedParts bs (App f a) = HasSaturatedParts bs f × IsSaturated bs a × HasSaturatedParts bs a
HasSaturatedParts bs _ = Unit {0}

-- u is the long form of t: the beta-normal term, of t's type, that reduces to t by eta steps, and in which every subterm that isn't applied has as many abstractions as its type has arrows.
pub record IsLongForm (t u : Term) : Type 0 where
  pub typ : Typ
  pub typed : HasType [] t typ
  pub long_typed : HasType [] u typ
  pub reduces : EtaReduces u t
  pub normal : IsBetaNormal u
  pub saturated : IsSaturated [] u
  pub parts : HasSaturatedParts [] u
