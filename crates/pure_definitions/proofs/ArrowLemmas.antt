-- Types of functions, as constructors applied to a list of two types.
use Rattle.std.proofs.Common.{◌≡◌, ◌≢◌, ℕ, List, [], ◌∷◌, ◌++◌, length, get_or, refl, sym, ap, ◌∙◌, ◌↔◌, ◌<◌, lit<, arith}
use Rattle.std.specs.Prelude.{Option, Some, None, MatchOption, IsSome}
use Rattle.std.specs.Option.{option_to_list}
use Rattle.pure_definitions.specs.Types.Typ.{Typ, Con, none, also, typs_of, typ_list, arrow}
use Rattle.pure_definitions.specs.Terms.Typing.{Takes}
use Rattle.pure_definitions.specs.Models.Equality.{typ_list-typs_of}

-- the arguments of a type of functions
pub arrow-args : (k : ℕ) (items : List Typ) (U V : Typ) → Con k (typs_of items) ≡ arrow U V → items ≡ U ∷ V ∷ []
arrow-args k items U V e =
    let args : typs_of items ≡ also U (also V none) = cc in
    sym (typ_list-typs_of items) ∙ ap typ_list args

pub arrow-count : (k : ℕ) (items : List Typ) (U V : Typ) → Con k (typs_of items) ≡ arrow U V → length items ≡ 2
arrow-count k items U V e = ap length (arrow-args k items U V e)

pub takes-count : (k : ℕ) (items : List Typ) (U : Typ) → (length items ≢ 2) → ¬ Takes (Con k (typs_of items)) U
takes-count k items U other (V, e) = other (ap length (arrow-args k items U V e))

pub takes-domain : (items : List Typ) (U d : Typ) → length items ≡ 2 → d ≡ get_or items 0 d → (d ≡ U) ↔ Takes (Con 0 (typs_of items)) U
takes-domain [] U d n e = absurd (cc)
takes-domain (x ∷ []) U d n e = absurd (cc)
takes-domain (x ∷ y ∷ []) U d n e = (λ same. (y, rw (← same, e) refl), λ (V, h). (cc))
takes-domain (x ∷ y ∷ z ∷ zs) U d n e = absurd (omega arith)

-- The last argument of a type of functions is the type of the results.
pub arrow-last : (k : ℕ) (items rest : List Typ) (U V last : Typ) → Con k (typs_of items) ≡ arrow U V → items ≡ rest ++ last ∷ [] → Con k (typs_of items) ≡ arrow U last
arrow-last k items rest U V last e split = e ∙ ap (λ v. arrow U v) (ends rest (sym (arrow-args k items U V e) ∙ split))
  where
    ends : (rest : List Typ) → U ∷ V ∷ [] ≡ rest ++ last ∷ [] → V ≡ last
    ends [] h = absurd (cc)
    ends (x ∷ []) h = cc
    ends (x ∷ y ∷ []) h = absurd (cc)
    ends (x ∷ y ∷ z ∷ zs) h = absurd (cc)

-- What comes off the end of the arguments of a type of functions is the type of the results.
pub arrow-popped : (k : ℕ) (items rest : List Typ) (r : Option Typ) (U : Typ) → Takes (Con k (typs_of items)) U → items ≡ rest ++ option_to_list r → (0 < length items → IsSome r)
    → MatchOption r (¬ Takes (Con k (typs_of items)) U) (λ range. Con k (typs_of items) ≡ arrow U range)
arrow-popped k items rest None U (V, e) split some = let no = some (rw (arrow-args k items U V e) (lit< tt)) in absurd (cc)
arrow-popped k items rest (Some last) U (V, e) split some = arrow-last k items rest U V last e split

-- The second argument of a type of functions is the type of the results.
pub takes-range : (k : ℕ) (items : List Typ) (U r : Typ) → Takes (Con k (typs_of items)) U → r ≡ get_or items 1 r → Con k (typs_of items) ≡ arrow U r
takes-range k items U r (V, e) h =
    let same : get_or items 1 r ≡ V = ap (λ xs. get_or xs 1 r) (arrow-args k items U V e) in
    e ∙ ap (λ v. arrow U v) (sym (h ∙ same))
