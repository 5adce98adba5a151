-- Terms of one type.
use Rattle.std.specs.Prelude.{◌≡◌, List}
use Rattle.pure_definitions.specs.Types.Typ.{Typ}
use Rattle.pure_definitions.specs.Terms.Term.{Term}
use Rattle.pure_definitions.specs.Terms.Typing.{HasType}

-- The term has no other type than this one.
abbrev pub HasNoOther : List Typ → Term → Typ → Type 0
HasNoOther bs t T = (U : Typ) → HasType bs t U → T ≡ U

-- The terms have no two types.
abbrev pub HaveOneTyp : List Typ → (l r : Term) → Type 0
HaveOneTyp bs l r = (T U : Typ) → HasType bs l T → HasType bs r U → T ≡ U
