-- The turn of one variable of a type that is narrowed.
use Rattle.std.specs.Prelude.{◌≡◌, ◌⊎◌, ℕ, ◌+◌, List, [], ◌∷◌, ◌++◌, map}
use Rattle.pure_text.specs.Lists.{IsIn}
use Rattle.pure_definitions.specs.Types.Typ.{Typ, TVar}
use Rattle.pure_definitions.specs.Types.Order.{Algebra}
use Rattle.pure_definitions.specs.Terms.Subst.{TypBind, typ_variable}
use Rattle.pure_tunify.specs.declared.asks.Asked.{Asked}
use Rattle.pure_tunify.specs.Asking.{asked_variable, AsksNoMore, IsUnionAsked}
use Rattle.pure_tunify.specs.Settings.{bind, Progress}
use Rattle.pure_tunify.specs.Procedure.{IsFirstToNarrow, IsNeededSort}

-- The variable is the first one to narrow, and the sort is what it is narrowed to.
abbrev pub IsToNarrow : Algebra → Typ → (sort : List ℕ) → Asked → Type 0
IsToNarrow A t s found = IsFirstToNarrow A t s (asked_variable found) × IsNeededSort A t s (asked_variable found) found.asked

-- the entry that sets the variable to a fresh one of a sort
abbrev pub fresh_bind : Asked → (sort : List ℕ) → Progress → TypBind
fresh_bind a s p = bind a.name a.index a.sort (TVar p.next p.index s)

-- The variable has been set to a fresh one of the sort, in the settings and in the map.
pub record IsFreshlySet (a : Asked) (s : List ℕ) (old new : Progress) (before after : List TypBind) : Type 0 where
  pub settings : new ≡ record { sets = old.sets ++ fresh_bind a s old ∷ []; index = old.index; next = old.next + 1 }
  pub renamed : after ≡ before ++ fresh_bind a s old ∷ []

-- More than its own sort is asked of a variable that the map doesn't set: it has been set to a fresh one of the reduced union.
pub record IsReplaced (A : Algebra) (asked : List Asked) (a : Asked) (old new : Progress) (before after : List TypBind) : Type 0 where
  pub union : List ℕ
  pub unset : ¬ IsIn (asked_variable a) (map typ_variable before)
  pub more : ¬ AsksNoMore A asked a
  pub is : IsUnionAsked A asked a union
  pub set : IsFreshlySet a union old new before after

-- The turn of a variable: it has been replaced, or nothing has changed, since no more is asked of it or the map sets it.
abbrev pub IsTurn : Algebra → (asked : List Asked) → Asked → (old new : Progress) → (before after : List TypBind) → Type 0
IsTurn A asked a old new before after = IsReplaced A asked a old new before after ⊎ ((new ≡ old) × (after ≡ before) × (AsksNoMore A asked a ⊎ IsIn (asked_variable a) (map typ_variable before)))
