-- How two heads stand to each other.
use Rattle.std.specs.Prelude.{◌≡◌, ◌≢◌, ℕ, Bool, false, nat_eq}
use Rattle.pure_definitions.specs.Types.Typ.{Typ}
use Rattle.pure_definitions.specs.Terms.Term.{Term, Const}
use Rattle.pure_unify_definitions.specs.Treatment.{AreApart}
use Rattle.pure_unify_sides.specs.declared.heads.Heads.{Heads}
use Rattle.pure_unify_sides.specs.declared.heads.Heads.TheVariants.{Same, Constants, Apart}

-- whether the terms are constants of one name
abbrev pub is_same_name : Term → Term → Bool
is_same_name (Const c T) (Const d U) = nat_eq c d
is_same_name _ _ = false

-- The heads are equal; or constants of one name with different types; or neither.
abbrev pub AreHeads : (h k : Term) → Heads → Type 0
AreHeads h k Same = h ≡ k
AreHeads h k Constants = (c : ℕ) × (T : Typ) × (U : Typ) × (h ≡ Const c T) × (k ≡ Const c U) × (T ≢ U)
AreHeads h k Apart = AreApart h k
