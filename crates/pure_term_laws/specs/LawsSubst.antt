-- Laws and examples of substitution by maps.
use Rattle.std.specs.Prelude.{◌≡◌, ◌↔◌, List, [], ◌∷◌}
use Rattle.pure_definitions.specs.Types.Typ.{Typ, TFree, TVar, arrow}
use Rattle.pure_definitions.specs.Terms.Term.{Term, Free, Var, App}
use Rattle.pure_definitions.specs.Types.Order.{Algebra}
use Rattle.pure_definitions.specs.Terms.Subst.{typ_instance, term_instance, inst_typ, inst_term, IsSortRespecting, IsTypeRespecting, KeepsFixedTyps, KeepsFixedTerms, TypBind, TermBind, IsTypMap, IsTermMap, typ_image, term_image, AreSortRespecting, AreTypeRespecting}
use Rattle.pure_term_laws.specs.LawsExamples.{i, j, a, f, x, any_x, any_y, pair, c, d, sort_of, ladder}

-- The identity maps are sort-respecting and type-respecting, and change nothing.
abbrev pub IdentityIsSortRespecting : Type 0
IdentityIsSortRespecting = (A : Algebra) → IsSortRespecting A (λ v. v)

abbrev pub IdentityIsTypeRespecting : Type 0
IdentityIsTypeRespecting = IsTypeRespecting (λ v. v) (λ v. v)

abbrev pub IdentityChangesNoType : Type 0
IdentityChangesNoType = (T : Typ) → typ_instance (λ v. v) T ≡ T

abbrev pub IdentityChangesNoTerm : Type 0
IdentityChangesNoTerm = (t : Term) → term_instance (λ v. v) (λ v. v) t ≡ t

-- A term map alone is a term map beside the identity.
abbrev pub TermMapAlone : Type 0
TermMapAlone = (terms : Term → Term) (t : Term) → inst_term terms t ≡ term_instance (λ v. v) terms t

-- A finite map respects sorts, or types, exactly where each of its entries does, and it leaves fixed variables as they are.
abbrev pub EntriesRespectSorts : Type 0
EntriesRespectSorts = (A : Algebra) (binds : List TypBind) → IsTypMap binds → AreSortRespecting A binds ↔ IsSortRespecting A (typ_image binds)

abbrev pub EntriesRespectTypes : Type 0
EntriesRespectTypes = (binds : List TermBind) → IsTermMap binds → AreTypeRespecting binds ↔ IsTypeRespecting (λ v. v) (term_image binds)

abbrev pub EntriesKeepFixedTyps : Type 0
EntriesKeepFixedTyps = (binds : List TypBind) → KeepsFixedTyps (typ_image binds)

abbrev pub EntriesKeepFixed : Type 0
EntriesKeepFixed = (binds : List TermBind) → KeepsFixedTerms (λ v. v) (term_image binds)

-- an entry that replaces `?x :: i`, one that replaces `?y :: i`, and one that replaces `?'a :: c`
abbrev pub for_x : Term → TermBind
for_x image = record { name = 40; index = 0; typ = i; image = image }

abbrev pub for_y : Term → TermBind
for_y image = record { name = 41; index = 0; typ = i; image = image }

abbrev pub for_a : Typ → TypBind
for_a image = record { name = 1; index = 0; sort = sort_of c; image = image }

-- `f ?x` with `?x` replaced by a is `f a`; `?x` of another index or type stays.
abbrev pub InstanceExample : Type 0
InstanceExample = (inst_term (term_image (for_x a ∷ [])) (App f any_x) ≡ App f a) × (inst_term (term_image (for_x a ∷ [])) (Var 40 1 i) ≡ Var 40 1 i)
    × (inst_term (term_image (for_x a ∷ [])) (Var 40 0 j) ≡ Var 40 0 j)

-- A type map reaches the types of variables, and not a variable of another sort.
abbrev pub TypInstanceExample : Type 0
TypInstanceExample = (inst_typ (typ_image (for_a i ∷ [])) (App (Free 1 (TVar 1 0 (sort_of c))) (Var 2 0 (TVar 1 0 (sort_of c)))) ≡ App (Free 1 i) (Var 2 0 i))
    × (inst_typ (typ_image (for_a i ∷ [])) (Free 1 (TVar 1 0 [])) ≡ Free 1 (TVar 1 0 []))

-- A map that also moves a fixed type variable is read at it, also inside a type.
abbrev pub FixedTypExample : Type 0
FixedTypExample = typ_instance (λ v. i) (arrow (TFree 1 []) j) ≡ arrow i j

-- The map that exchanges `?x` and `?y` turns `p ?x ?y` into `p ?y ?x`; one entry after the other would give `p ?x ?x`.
abbrev pub AllAtOnceExample : Type 0
AllAtOnceExample = (inst_term (term_image (for_x any_y ∷ for_y any_x ∷ [])) (pair any_x any_y) ≡ pair any_y any_x)
    × (inst_term (term_image (for_y any_x ∷ [])) (inst_term (term_image (for_x any_y ∷ [])) (pair any_x any_y)) ≡ pair any_x any_x)

-- With types and terms at once, two variables that a type map alone would merge have images of their own: `?x :: ?'a` becomes a and `?x :: ?'b` becomes x, where `?'b` becomes `?'a`.
abbrev pub KeyedOnOwnTypeExample : Type 0
KeyedOnOwnTypeExample = term_instance (typ_image (record { name = 2; index = 0; sort = []; image = TVar 1 0 [] } ∷ []))
    (term_image (record { name = 9; index = 0; typ = TVar 1 0 []; image = a } ∷ record { name = 9; index = 0; typ = TVar 2 0 []; image = x } ∷ []))
    (pair (Var 9 0 (TVar 1 0 [])) (Var 9 0 (TVar 2 0 []))) ≡ pair a x

-- The map that sends `?'a :: c` to a variable of sort {d}, unrelated to c, isn't sort-respecting; one that sends it to a variable of a sort with c is.
abbrev pub SortRespectExample : Type 0
SortRespectExample = (¬ IsSortRespecting ladder (typ_image (for_a (TVar 2 0 (sort_of d)) ∷ []))) × AreSortRespecting ladder (for_a (TVar 2 0 (c ∷ d ∷ [])) ∷ [])

-- The map that sends `?x :: i` to a variable of type j isn't type-respecting; one that sends it to a is.
abbrev pub TypeRespectExample : Type 0
TypeRespectExample = (¬ IsTypeRespecting (λ v. v) (term_image (for_x (Free 1 j) ∷ []))) × AreTypeRespecting (for_x a ∷ [])
