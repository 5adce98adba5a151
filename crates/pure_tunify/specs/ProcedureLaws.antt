-- What the outcomes of unification mean.
use Rattle.std.specs.Prelude.{◌≡◌, ◌⊎◌, ◌↔◌, ℕ, ◌+◌, ◌<◌, ◌≤◌, ◌^◌, List, [], ◌∷◌, ◌++◌, take, length}
use Rattle.pure_text.specs.Lists.{Each, AnyOf}
use Rattle.pure_definitions.specs.Types.Typ.{Typ, TVar}
use Rattle.pure_definitions.specs.Types.Order.{Algebra, IsCoregular}
use Rattle.pure_definitions.specs.Terms.Subst.{TypBind}
use Rattle.pure_order.specs.OrderTables.Classes.{IsAntisymmetric}
use Rattle.pure_tunify.specs.declared.pair.TypPair.{TypPair}
use Rattle.pure_definitions.specs.Terms.Limits.{IsWithinTyp}
use Rattle.pure_tunify.specs.Unifiers.{IsFresh, IsOldPair, IsUnifier, IsMostGeneral}
use Rattle.pure_tunify.specs.Steps.{instance_pair}
use Rattle.pure_tunify.specs.Settings.{composed, AreWithinLimits}
use Rattle.pure_tunify.specs.Procedure.{Equalises, Outcome, Unified, NotTyped, TooBig, Unifies}

-- A fresh variable of this name is the image of one of the settings: the name is used.
abbrev pub IsNameUsed : (index : ℕ) → List TypBind → (name : ℕ) → Type 0
IsNameUsed index sets k = AnyOf (λ b. (s : List ℕ) × (b.image ≡ TVar k index s)) sets

-- Of the names from the first on, the settings use those below the next.
pub record AreNamesUsed (index from next : ℕ) (sets : List TypBind) : Type 0 where
  pub later : from ≤ next
  pub used : (k : ℕ) → from ≤ k → k < next ↔ IsNameUsed index sets k

-- These settings, with the names below the next, are a most general unifier of the pairs.
pub record IsReached (A : Algebra) (index from : ℕ) (pairs : List TypPair) (sets : List TypBind) (next : ℕ) : Type 0 where
  pub general : IsMostGeneral A index from pairs (composed sets)
  pub names : AreNamesUsed index from next sets

-- The procedure makes the pairs equal one after the other, with no look at the limits: these settings come of those so far, and this next name of the first that isn't used.
pub data Makes (A : Algebra) (index : ℕ) : (n : ℕ) → List TypBind → List TypPair → List TypBind → ℕ → Type 0 where
  made : {n : ℕ} {sets : List TypBind} → Makes A index n sets [] sets n
  make : {n k m : ℕ} {sets more all : List TypBind} {p : TypPair} {ps : List TypPair} → Equalises A index n (instance_pair (composed sets) p) more k → Makes A index k (sets ++ more) ps all m → Makes A index n sets (p ∷ ps) all m

-- The image of each variable that isn't fresh is within the limits.
abbrev pub HasOldImagesWithin : (index from : ℕ) → (Typ → Typ) → Type 0
HasOldImagesWithin index from typs = (x i : ℕ) (s : List ℕ) → ¬ IsFresh index from (TVar x i s) → IsWithinTyp (typs (TVar x i s))

-- Under each most general unifier of the pairs an image of a variable that isn't fresh is beyond the limits. These unifiers differ in the names of variables alone, so it is one of them or all.
abbrev pub HaveLargeImage : Algebra → (index from : ℕ) → List TypPair → Type 0
HaveLargeImage A index from pairs = (typs : Typ → Typ) → IsMostGeneral A index from pairs typs → ¬ HasOldImagesWithin index from typs

-- The pairs before this number, if there are any, have a most general unifier within the limits, the procedure's: so do all fewer ones, since images and names only grow.
pub record IsWithinBefore (A : Algebra) (index from : ℕ) (pairs : List TypPair) (at : ℕ) : Type 0 where
  pub sets : List TypBind
  pub next : ℕ
  pub makes : Makes A index from [] (take at pairs) sets next
  pub reached : IsReached A index from (take at pairs) sets next
  pub within : (at ≡ 0) ⊎ AreWithinLimits sets next

-- The pair of this number is the first such that it and those before have no unifier; those before have one within the limits.
pub record IsFirstWithout (A : Algebra) (index from : ℕ) (pairs : List TypPair) (at : ℕ) : Type 0 where
  pub inside : at < length pairs
  pub before : IsWithinBefore A index from pairs at
  pub none : (typs : Typ → Typ) → ¬ IsUnifier A (take (at + 1) pairs) typs

-- The pair of this number is the first such that the most general unifier of it and those before is beyond the limits: an image of a variable that isn't fresh is, or the names of the fresh variables that the procedure makes pass 2^31.
pub record IsBeyond (A : Algebra) (index from : ℕ) (pairs : List TypPair) (at : ℕ) : Type 0 where
  pub inside : at < length pairs
  pub before : IsWithinBefore A index from pairs at
  pub sets : List TypBind
  pub next : ℕ
  pub makes : Makes A index from [] (take (at + 1) pairs) sets next
  pub reached : IsReached A index from (take (at + 1) pairs) sets next
  pub beyond : HaveLargeImage A index from (take (at + 1) pairs) ⊎ (2 ^ 31 < next)

abbrev pub IsMeant : Algebra → (index from : ℕ) → List TypPair → Outcome → Type 0
IsMeant A index from pairs (Unified sets m) = IsReached A index from pairs sets m
IsMeant A index from pairs (NotTyped k) = IsFirstWithout A index from pairs k
IsMeant A index from pairs (TooBig k) = IsBeyond A index from pairs k

-- What the procedure comes to, from pairs without fresh variables, means what it says.
abbrev pub ProcedureIsMeant : Type 0
ProcedureIsMeant = (A : Algebra) (index from : ℕ) (pairs : List TypPair) (outcome : Outcome) → Each (IsOldPair index from) pairs → Unifies A index 0 from [] pairs outcome → IsMeant A index from pairs outcome

-- Over an order in which no two classes are below each other, the procedure comes to one outcome at most.
abbrev pub ProcedureHasOneOutcome : Type 0
ProcedureHasOneOutcome = (A : Algebra) → IsAntisymmetric A → (index from : ℕ) (pairs : List TypPair) (first second : Outcome) → Unifies A index 0 from [] pairs first → Unifies A index 0 from [] pairs second → first ≡ second

-- Over a coregular algebra the procedure comes to an outcome, from pairs without fresh variables.
abbrev pub ProcedureHasAnOutcome : Type 0
ProcedureHasAnOutcome = (A : Algebra) → IsCoregular A → (index from : ℕ) (pairs : List TypPair) → Each (IsOldPair index from) pairs → (outcome : Outcome) × Unifies A index 0 from [] pairs outcome
