-- Premises before a mark, in another order.
use Rattle.std.specs.Prelude.{◌≡◌, List, ◌∷◌}
use Rattle.pure_definitions.specs.Names.{imp_name}
use Rattle.pure_definitions.specs.Terms.Term.{Term, Const, App}
use Rattle.pure_logic.specs.Connectives.{imp_typ, chain, protect}
use Rattle.pure_resolve.specs.declared.shared.Taken.{Taken}

-- `(==>) A`: what makes `A ==> C` of C
abbrev pub implied_by : (premise : Term) → Term
implied_by A = App (Const imp_name imp_typ) A

-- The premises before the mark of a goal's statement C have a first one; this is what applies the connective to it, and this is what is behind it.
pub record IsFirstPremise (As : List Term) (C : Term) (first rest : Term) : Type 0 where
  pub premise : Term
  pub others : List Term
  pub stand : As ≡ premise ∷ others
  pub applied : first ≡ implied_by premise
  pub behind : rest ≡ chain others (protect C)

-- The premise is taken out of those before the mark, and these others are left.
pub record IsTaken (A : Term) (others : List Term) (C : Term) (taken : Taken) : Type 0 where
  pub first : taken.first.value ≡ implied_by A
  pub rest : taken.rest.value ≡ chain others (protect C)
