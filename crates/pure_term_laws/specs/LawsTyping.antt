-- Laws and examples of equality, size, typing and bound variables.
use Rattle.std.specs.Prelude.{◌≡◌, ◌↔◌, ◌⊎◌, ℕ, true, List, [], ◌∷◌}
use Rattle.pure_definitions.specs.Types.Typ.{Typ, TFree, TVar, Typs, typs_of, typ_list, arrow, typ_eq}
use Rattle.pure_definitions.specs.Terms.Term.{Term, Free, Var, Bound, Abs, App, term_eq, term_size, term_depth, IsWithin}
use Rattle.pure_definitions.specs.Terms.Typing.{HasType, IsUntypedAt}
use Rattle.pure_definitions.specs.Terms.Bounds.{IsClosed, lift_term, subst_bound, abstract_over, Occurs}
use Rattle.pure_term_laws.specs.LawsExamples.{tower, filled, i, j, a, f, p, x, y, any_x}

-- A list of types is the same as its mutual form, either way round.
abbrev pub TypsAreLists : Type 0
TypsAreLists = (ts : List Typ) → typ_list (typs_of ts) ≡ ts

abbrev pub ListsAreTyps : Type 0
ListsAreTyps = (ts : Typs) → typs_of (typ_list ts) ≡ ts

-- The test of two types, or of two terms, says whether they are the same tree.
abbrev pub TypTestIsEquality : Type 0
TypTestIsEquality = (T U : Typ) → (typ_eq T U ≡ true) ↔ (T ≡ U)

abbrev pub TermTestIsEquality : Type 0
TermTestIsEquality = (t u : Term) → (term_eq t u ≡ true) ↔ (t ≡ u)

-- `f x` has 7 nodes, four of them in types, and depth 4. The deeper part counts, on either side, and a binder's type too.
abbrev pub SizeExample : Type 0
SizeExample = (term_size (App f x) ≡ 7) × (term_depth (App f x) ≡ 4) × (term_depth (App x f) ≡ 4) × (term_size (Abs (arrow i i) (Bound 0)) ≡ 5)
    × (term_depth (Abs (arrow i i) (Bound 0)) ≡ 3) × (term_depth (Abs i f) ≡ 4) × (term_depth (Abs (arrow i (arrow i i)) (Bound 0)) ≡ 4)
    × (term_size (Var 1 0 (TVar 2 0 [])) ≡ 2) × (term_depth (Free 1 (TFree 2 [])) ≡ 2)

-- The limits: depth 2,000 and size 200,000 are within them, depth 2,001 and size 200,001 aren't.
abbrev pub LimitsExample : Type 0
LimitsExample = IsWithin (tower 1997) × (¬ IsWithin (tower 1998)) × IsWithin (filled (App (Bound 0) x)) × (¬ IsWithin (filled (App x x)))

-- A term has at most one type under given binders.
abbrev pub TypedTermHasOneType : Type 0
TypedTermHasOneType = (bs : List Typ) (t : Term) (T U : Typ) → HasType bs t T → HasType bs t U → T ≡ U

-- A term that has a type under no binders has no loose bound variable.
abbrev pub TypedTermIsClosed : Type 0
TypedTermIsClosed = (t : Term) (T : Typ) → HasType [] t T → IsClosed t

-- A term has a type under given binders, or a place of its first node at fault, and not both; and it has one such place at most.
abbrev pub TypedOrAtFault : Type 0
TypedOrAtFault = (bs : List Typ) (t : Term) → ((T : Typ) × HasType bs t T) ⊎ ((place : ℕ) × IsUntypedAt bs t place)

abbrev pub TypedIsNotAtFault : Type 0
TypedIsNotAtFault = (bs : List Typ) (t : Term) (T : Typ) (place : ℕ) → HasType bs t T → ¬ IsUntypedAt bs t place

abbrev pub OnePlaceOfFault : Type 0
OnePlaceOfFault = (bs : List Typ) (t : Term) (place other : ℕ) → IsUntypedAt bs t place → IsUntypedAt bs t other → place ≡ other

-- `x y` is at fault at its root, place 0; in `f (x y)` that is place 2, and in `(x y) (Bound 0)` the first fault is at place 1.
abbrev pub FaultExample : Type 0
FaultExample = IsUntypedAt [] (App x y) 0 × IsUntypedAt [] (App f (App x y)) 2 × IsUntypedAt [] (App (App x y) (Bound 0)) 1

-- `f x` has the type i, and `%x. p x` the type `i => i => i`.
abbrev pub TypingExample : Type 0
TypingExample = HasType [] (App f x) i × HasType [] (Abs i (App p (Bound 0))) (arrow i (arrow i i))

-- `x y` has no type, nor has f applied to a term of another type; a loose bound variable has none, though it has one under a binder.
abbrev pub NoTypeExample : Type 0
NoTypeExample = ((T : Typ) → ¬ HasType [] (App x y) T) × ((T : Typ) → ¬ HasType [] (App f (Free 40 j)) T) × ((T : Typ) → ¬ HasType [] (Bound 0) T)
    × HasType (i ∷ []) (Bound 0) i

-- Bound variable 0 lifted by 2 from 0 is bound variable 2; lifted from 1 it stays. Under an abstraction the term's own bound variable stays, and the loose one is lifted.
abbrev pub LiftExample : Type 0
LiftExample = (lift_term 2 0 (Bound 0) ≡ Bound 2) × (lift_term 2 1 (Bound 0) ≡ Bound 0)
    × (lift_term 2 0 (Abs i (App (Bound 0) (Bound 1))) ≡ Abs i (App (Bound 0) (Bound 3)))

-- A closed term is changed by no lifting.
abbrev pub LiftOfClosedTerm : Type 0
LiftOfClosedTerm = (by from : ℕ) (t : Term) → IsClosed t → lift_term by from t ≡ t

-- The argument takes the place of bound variable 0, and the next is lowered. Under a binder an argument with a loose bound variable is lifted, so that the binder doesn't capture it.
abbrev pub SubstBoundExample : Type 0
SubstBoundExample = (subst_bound (App f (Bound 0)) a ≡ App f a) × (subst_bound (Bound 1) a ≡ Bound 0)
    × (subst_bound (Abs i (App (Bound 0) (Bound 1))) (Bound 0) ≡ Abs i (App (Bound 0) (Bound 1)))

-- `f x` abstracted over x is `%_0. f _0`. A variable of the same name with another type stays, loose bound variables make room, and under a binder the index rises.
abbrev pub AbstractionExample : Type 0
AbstractionExample = (abstract_over (App f x) x ≡ Abs i (App f (Bound 0))) × (abstract_over (Free 40 j) x ≡ Abs i (Free 40 j))
    × (abstract_over (App (Bound 0) any_x) any_x ≡ Abs i (App (Bound 1) (Bound 0))) × (abstract_over (Abs j (App (Bound 0) x)) x ≡ Abs i (Abs j (App (Bound 0) (Bound 1))))

-- A term occurs in itself.
abbrev pub OccursInItself : Type 0
OccursInItself = (t : Term) → Occurs t t

-- x occurs in `f x`, and a bound variable under its binder; x occurs neither in `f y` nor in f applied to a variable of its name with another type.
abbrev pub OccursExample : Type 0
OccursExample = Occurs x (App f x) × Occurs (Bound 0) (Abs i (Bound 0)) × (¬ Occurs x (App f y)) × (¬ Occurs x (App f (Free 40 j)))
