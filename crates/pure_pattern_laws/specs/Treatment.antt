-- The rules by which a pair of patterns is treated (T. Nipkow, Functional unification of higher-order patterns, 1993). Sides are in long form, so that a schematic variable has all the arguments that its type takes.
use Rattle.std.specs.Prelude.{◌≡◌, ◌≢◌, ℕ, List, [], ◌∷◌, length, Some, true, false}
use Rattle.pure_text.specs.Lists.{IsIn}
use Rattle.pure_definitions.specs.Types.Typ.{Typ}
use Rattle.pure_definitions.specs.Terms.Term.{Term, Const, Free, Var, Bound}
use Rattle.pure_definitions.specs.Terms.Bounds.{Occurs}
use Rattle.pure_definitions.specs.Terms.Subst.{TermBind}
use Rattle.pure_definitions.specs.Reduction.Eta.{IsLongForm}
use Rattle.pure_logic.specs.Derivable.{Pair}
use Rattle.pure_unify_definitions.specs.Fronts.{term_body, head, is_flexible, below, domains, range, function_typ, applied, bounds, argument_pairs}
use Rattle.pure_unify_definitions.specs.Node.{bind}
use Rattle.pure_unify_definitions.specs.Children.{image_of}
use Rattle.pure_pattern_laws.specs.Patterns.{HasPlaces}
use Rattle.pure_pattern_laws.specs.Places.{agreeing, shared_left, shared_right, at_place}

-- `%xs. ?H us`: the xs have the types that T takes, us are some of them, which have the types Us, and `?H` is the new variable of name 0 and the given index
abbrev pub selection : (index : ℕ) → (T : Typ) → (Us : List Typ) → (us : List Term) → Term
selection index T Us us = below (domains T) (applied (Var 0 index (function_typ Us (range T))) us)

-- the variables of the abstractions of such a function
abbrev pub own_bounds : Typ → List Term
own_bounds T = bounds (length (domains T))

-- the image of `?F` of type T, which stands applied to zs and to ws: the xs of the places where these agree are kept
abbrev pub agreeing_image : (index : ℕ) → (T : Typ) → (zs ws : List ℕ) → Term
agreeing_image index T zs ws = selection index T (agreeing zs ws (domains T)) (agreeing zs ws (own_bounds T))

-- the images of `?F` of type T, applied to zs, and of another variable `?G` of type U, applied to ws: the variables that stand in both are kept, in the order of zs
abbrev pub left_image : (index : ℕ) → (T : Typ) → (zs ws : List ℕ) → Term
left_image index T zs ws = selection index T (shared_left zs ws (domains T)) (shared_left zs ws (own_bounds T))

abbrev pub right_image : (index : ℕ) → (U : Typ) → (zs ws : List ℕ) → Term
right_image index U zs ws = selection index U (shared_right zs ws (domains U)) (shared_right zs ws (own_bounds U))

-- Below its abstractions the side is the schematic variable `?x.i` of type T, applied to these distinct bound variables.
pub record IsFlexibleSide (t : Term) (x i : ℕ) (T : Typ) (zs : List ℕ) : Type 0 where
  pub variable : head t ≡ Var x i T
  pub places : HasPlaces (term_body t) zs

-- One of the sides, this one, is flexible, and the other is rigid.
pub data AreMixed (l r : Term) : (flexible rigid : Term) → Type 0 where
  on_left : {f k : Term} → is_flexible l ≡ true → is_flexible r ≡ false → f ≡ l → k ≡ r → AreMixed l r f k
  on_right : {f k : Term} → is_flexible l ≡ false → is_flexible r ≡ true → f ≡ r → k ≡ l → AreMixed l r f k

-- The head of a rigid side, as it is written in the image of a variable of type T that stands applied to zs, and its type: a bound variable is written as the variable of its place in zs.
pub data IsWritten (T : Typ) (zs : List ℕ) : (head written : Term) → Typ → Type 0 where
  constant : {c : ℕ} {U : Typ} → IsWritten T zs (Const c U) (Const c U) U
  fixed : {y : ℕ} {U : Typ} → IsWritten T zs (Free y U) (Free y U) U
  bound : {p : ℕ} {h : Term} {U : Typ} → at_place p zs (own_bounds T) ≡ Some h → at_place p zs (domains T) ≡ Some U → IsWritten T zs (Bound p) h U

-- what is done with a pair: others take its place, variables are set, or there is no unifier
pub data Treatment : Type 0 where
  Becomes : List Pair → Treatment
  Sets : List TermBind → Treatment
  Never : Treatment

-- The treatment of the pair of these sides by the first rule that applies; new variables have the given index. Images are in long form.
pub data IsTreated (index : ℕ) (l r : Term) : Treatment → Type 0 where
  -- the sides are equal, and the pair is dropped
  equal : l ≡ r → IsTreated index l r (Becomes [])
  -- both are rigid: where the heads are the same, with their types, the pairs of the arguments take the pair's place, each below the abstractions; else there is no unifier
  same_heads : l ≢ r → is_flexible l ≡ false → is_flexible r ≡ false → head l ≡ head r → IsTreated index l r (Becomes (argument_pairs l r))
  clash : is_flexible l ≡ false → is_flexible r ≡ false → head l ≢ head r → IsTreated index l r Never
  -- `?F zs` and `?F ws`
  one_variable : {x i : ℕ} {T : Typ} {zs ws : List ℕ} {u : Term} → l ≢ r → IsFlexibleSide l x i T zs → IsFlexibleSide r x i T ws → IsLongForm (agreeing_image index T zs ws) u → IsTreated index l r (Sets (bind x i T u ∷ []))
  -- `?F zs` and `?G ws`
  two_variables : {x i y j : ℕ} {T U : Typ} {zs ws : List ℕ} {u w : Term} → IsFlexibleSide l x i T zs → IsFlexibleSide r y j U ws → Var x i T ≢ Var y j U
      → IsLongForm (left_image index T zs ws) u → IsLongForm (right_image index U zs ws) w → IsTreated index l r (Sets (bind x i T u ∷ bind y j U w ∷ []))
  -- `?F zs` and a rigid side: where `?F` occurs there, or the head is a bound variable that isn't in zs, there is no unifier
  occurs : {f k : Term} {x i : ℕ} {T : Typ} {zs : List ℕ} → AreMixed l r f k → IsFlexibleSide f x i T zs → Occurs (Var x i T) k → IsTreated index l r Never
  escapes : {f k : Term} {x i p : ℕ} {T : Typ} {zs : List ℕ} → AreMixed l r f k → IsFlexibleSide f x i T zs → head k ≡ Bound p → ¬ IsIn p zs → IsTreated index l r Never
  -- else the image has the side's head, each of whose arguments is a new variable applied to all xs
  imitates : {f k h u : Term} {x i : ℕ} {T U : Typ} {zs : List ℕ} → AreMixed l r f k → IsFlexibleSide f x i T zs → ¬ Occurs (Var x i T) k → IsWritten T zs (head k) h U
      → IsLongForm (image_of index (domains T) h (domains U)) u → IsTreated index l r (Sets (bind x i T u ∷ []))
