-- What calls for images and for the choice of a node answer.
use Rattle.std.specs.Prelude.{◌≡◌, ℕ, zero, suc, ◌+◌, ◌-◌, ◌<◌, ◌^◌, List, [], ◌∷◌, length, drop, true, ◌||◌, Option, Some, None}
use Rattle.pure_definitions.specs.Types.Typ.{Typ, typ_depth}
use Rattle.pure_definitions.specs.Terms.Term.{Term, Const, Free, Var, Bound}
use Rattle.pure_logic.specs.Derivable.{Pair}
use Rattle.pure_unify_definitions.specs.Fronts.{is_flexible, domains, range}
use Rattle.pure_unify_definitions.specs.Children.{images, projections, image_of}
use Rattle.pure_unify.specs.declared.images.Taken.{Taken}

-- the images from a number on: number 0 is the imitation's, each other one that of the projection to the argument at the place before it
abbrev pub images_from : (index : ℕ) → (T : Typ) → (h : Term) → (number : ℕ) → List Term
images_from index T h zero = images index T h
images_from index T h (suc from) = projections index (domains T) (range T) from (drop from (domains T))

-- Of these images the first is taken, and those behind it are the ones from its number on; or there is none.
abbrev pub IsFirstOf : (index : ℕ) → (T : Typ) → (h : Term) → List Term → Option Taken → Type 0
IsFirstOf index T h us None = us ≡ []
IsFirstOf index T h us (Some taken) = us ≡ taken.image ∷ images_from index T h taken.next

-- No argument of the types Us ends in the type R: there are no projections to them.
abbrev pub HasNoFit : (R : Typ) → (Us : List Typ) → Type 0
HasNoFit R Us = (index : ℕ) (Ts : List Typ) (from : ℕ) → projections index Ts R from Us ≡ []

-- The first of the arguments from one place on, of the types Us, that ends in the type R stands at this place, and is of type U: the projection to it comes first.
abbrev pub IsFirstFit : (R : Typ) → (from : ℕ) → (Us : List Typ) → (place : ℕ) → (U : Typ) → Type 0
IsFirstFit R from Us place U = (index : ℕ) (Ts : List Typ) → Us ≡ drop from Ts
    → projections index Ts R from Us ≡ image_of index Ts (Bound (length Ts - (place + 1))) (domains U) ∷ projections index Ts R (place + 1) (drop (place + 1) Ts)

-- Where the head is a constant or a fixed variable, its type is so deep that its arrows can be counted.
abbrev pub HasCountable : Term → Type 0
HasCountable (Const c U) = typ_depth U < 2 ^ 32
HasCountable (Free x U) = typ_depth U < 2 ^ 32
HasCountable _ = Unit {0}

-- A side of the pair is flexible.
abbrev pub HasFlexibleSide : Pair → Type 0
HasFlexibleSide p = (is_flexible p.left || is_flexible p.right) ≡ true

-- The term is a schematic variable, and its type is so deep that its arrows can be counted.
abbrev pub IsCountableVariable : Term → Type 0
IsCountableVariable (Var x i T) = typ_depth T < 2 ^ 32
IsCountableVariable _ = ⊥
