-- What the call that unifies answers.
use Rattle.std.specs.Prelude.{ℕ, List, [], Result, Ok, Err, Option, Some, None}
use Rattle.pure_definitions.specs.Types.Typ.{Typ}
use Rattle.pure_definitions.specs.Types.Order.{Algebra}
use Rattle.pure_definitions.specs.Terms.Typing.{HasType}
use Rattle.pure_definitions.specs.Reduction.Eta.{IsLongForm}
use Rattle.pure_logic.specs.Derivable.{Pair}
use Rattle.pure_unify_definitions.specs.LongSides as sides
use Rattle.pure_unify_definitions.specs.Children.{IsFlexFlex}
use Rattle.pure_unify_definitions.specs.Search as search
use Rattle.pure_unify_definitions.specs.Search.{IsUnifyAnswer}
use Rattle.pure_unify.specs.declared.unifier.Unifier.{Unifier}
use Rattle.pure_unify.specs.declared.fault.UnifyFault.{UnifyFault}
use Rattle.pure_unify.specs.declared.fault.UnifyFault.TheVariants.{NoUnifier, SearchBound, Steps, Big, Memory}

-- the unifier as the search speaks of it
abbrev pub seen : Unifier → search.Unifier
seen u = record { typs = u.typs; terms = u.terms; flexflex = u.flexflex.items }

-- The call's answer is one that has this property, where answers are told as the search tells them; or `Memory`.
abbrev pub IsToldAs : (search.Answer → Type 0) → Result Unifier UnifyFault → Type 0
IsToldAs P (Ok u) = P (search.Unified (seen u))
IsToldAs P (Err NoUnifier) = P search.NoUnifier
IsToldAs P (Err SearchBound) = P search.SearchBound
IsToldAs P (Err Steps) = P (search.Stopped sides.Steps)
IsToldAs P (Err Big) = P (search.Stopped sides.Big)
IsToldAs P (Err Memory) = Unit {0}

-- The call's answer is that of the search; or `Memory`.
abbrev pub IsUnified : Algebra → (maxidx : ℕ) → List Pair → Result Unifier UnifyFault → Type 0
IsUnified A maxidx ps result = IsToldAs (IsUnifyAnswer A maxidx ps) result

-- The answer of a search that may be broken off has this property, or it was broken off.
abbrev pub UnlessStopped : (Result Unifier UnifyFault → Type 0) → Result (Option Unifier) UnifyFault → Type 0
UnlessStopped P (Ok (Some u)) = P (Ok u)
UnlessStopped P (Ok None) = Unit {0}
UnlessStopped P (Err fault) = P (Err fault)

-- The search was broken off only where this is so.
abbrev pub StopsWhere : Type 0 → Result (Option Unifier) UnifyFault → Type 0
StopsWhere May (Ok (Some u)) = Unit {0}
StopsWhere May (Ok None) = May
StopsWhere May (Err fault) = Unit {0}

-- The pair is one that a unifier may leave: its sides are flexible, in long form, and of one type.
pub record IsLeftOver (p : Pair) : Type 0 where
  pub flexible : IsFlexFlex p
  pub left_long : IsLongForm p.left p.left
  pub right_long : IsLongForm p.right p.right
  pub typ : Typ
  pub left_typed : HasType [] p.left typ
  pub right_typed : HasType [] p.right typ
