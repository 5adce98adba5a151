-- What isn't derivable, by example.
use Rattle.std.specs.Prelude.{[], ◌∷◌}
use Rattle.pure_definitions.specs.Names.{prop_name}
use Rattle.pure_definitions.specs.Types.Typ.{prop}
use Rattle.pure_definitions.specs.Terms.Term.{Term, Const}
use Rattle.pure_definitions.specs.Declarations.Decl.{ConDecl, ConstDecl, PromiseDecl}
use Rattle.pure_logic.specs.Connectives.{imp}
use Rattle.pure_logic.specs.Content.{Content, IsContent, IsProposition}
use Rattle.pure_logic.specs.Derivable.{IsDerivable, IsDerivableAlone}
use Rattle.pure_logic.specs.Examples.Theory.{promised}
use Rattle.pure_logic.specs.Examples.Contents.{content_of}

-- the type prop, a constant of this type, and its promise
abbrev pub stated : Term
stated = Const 30 prop

abbrev pub bare : Content
bare = content_of (ConDecl prop_name 0 ∷ ConstDecl 30 prop ∷ PromiseDecl 51 promised stated ∷ [])

-- In this content the constant P is a proposition. It is derivable from itself, and where it rests on its promise; `P ==> P` is derivable alone; and P is not.
abbrev pub UnderivableExample : Type 0
UnderivableExample = IsContent bare × IsProposition bare stated
    × IsDerivable bare (record { hyps = stated ∷ []; pairs = []; prop = stated; rests = [] }) × IsDerivable bare (record { hyps = []; pairs = []; prop = stated; rests = promised ∷ [] })
    × IsDerivableAlone bare (imp stated stated) × (¬ IsDerivableAlone bare stated)
