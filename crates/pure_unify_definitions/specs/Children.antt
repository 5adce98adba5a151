-- The children of a node: what the head of a flexible side becomes.
use Rattle.std.specs.Prelude.{◌≡◌, ℕ, zero, suc, ◌+◌, ◌-◌, List, [], ◌∷◌, ◌++◌, map, length, Bool, true, false, if◌then◌else◌}
use Rattle.pure_text.specs.Lists.{Each}
use Rattle.pure_definitions.specs.Types.Typ.{Typ, typ_eq}
use Rattle.pure_definitions.specs.Terms.Term.{Term, Const, Free, Var, Bound, Abs, App}
use Rattle.pure_logic.specs.Derivable.{Pair}
use Rattle.pure_unify_definitions.specs.Fronts.{head, is_flexible, below, domains, range, function_typ, applied, bounds}
use Rattle.pure_unify_definitions.specs.Node.{Path, Node, Single, bind, with_setting_put, further}

-- Below abstractions of the types Ts: new variables of the given index, the first with the name `name`, one for each type of a list; each is a function of the variables that are bound by those abstractions, and is applied to them.
abbrev pub new_arguments : (index : ℕ) → (Ts : List Typ) → (name : ℕ) → List Typ → List Term
new_arguments index Ts name [] = []
new_arguments index Ts name (U ∷ Us) = applied (Var name index (function_typ Ts U)) (bounds (length Ts)) ∷ new_arguments index Ts (name + 1) Us

-- `%x1 .. xn. h (?H1 x1 .. xn) .. (?Hm x1 .. xn)`: the xi have the types Ts, and h takes arguments of the types Us
abbrev pub image_of : (index : ℕ) → (Ts : List Typ) → (h : Term) → (Us : List Typ) → Term
image_of index Ts h Us = below Ts (applied h (new_arguments index Ts 0 Us))

-- the imitation of a head, where it is a constant or a fixed variable
abbrev pub imitations : (index : ℕ) → (Ts : List Typ) → (h : Term) → List Term
imitations index Ts (Const c U) = image_of index Ts (Const c U) (domains U) ∷ []
imitations index Ts (Free x U) = image_of index Ts (Free x U) (domains U) ∷ []
imitations index Ts _ = []

-- the projections to the bound variables whose types are listed, in order, for each that ends in the type R; the first of them is the one at place `from` of the n abstractions
abbrev pub projections : (index : ℕ) → (Ts : List Typ) → (R : Typ) → (from : ℕ) → List Typ → List Term
projections index Ts R from [] = []
projections index Ts R from (U ∷ Us) =
    if typ_eq (range U) R then (image_of index Ts (Bound (length Ts - (from + 1))) (domains U) ∷ projections index Ts R (from + 1) Us) else projections index Ts R (from + 1) Us

-- the images of a variable of type T against the head h: the imitation, then the projections
abbrev pub images : (index : ℕ) → (T : Typ) → (h : Term) → List Term
images index T h = imitations index (domains T) h ++ projections index (domains T) (range T) 0 (domains T)

-- the child that sets the variable to an image
abbrev pub child : (n : Node) → (name index : ℕ) → Typ → (image : Term) → Node
child n x i T u = record { pairs = with_setting_put (Single (bind x i T u)) n.pairs; path = record (further n.path (Single (bind x i T u))) { choices = n.path.choices + 1 } }

-- the children of a node, whose first pair with one flexible side has this head there, and that head on its rigid side
abbrev pub children : (maxidx : ℕ) → (n : Node) → (flexible rigid : Term) → List Node
children maxidx n (Var x i T) h = map (child n x i T) (images (maxidx + (n.path.choices + 1)) T h)
children maxidx n _ h = []

-- Both sides are flexible.
pub record IsFlexFlex (p : Pair) : Type 0 where
  pub left : is_flexible p.left ≡ true
  pub right : is_flexible p.right ≡ true

-- One side of the pair is flexible, and the other is rigid: these are their heads.
pub data HasFlexible (p : Pair) : (flexible rigid : Term) → Type 0 where
  on_left : {f h : Term} → is_flexible p.left ≡ true → is_flexible p.right ≡ false → f ≡ head p.left → h ≡ head p.right → HasFlexible p f h
  on_right : {f h : Term} → is_flexible p.left ≡ false → is_flexible p.right ≡ true → f ≡ head p.right → h ≡ head p.left → HasFlexible p f h

-- The first of the pairs with one flexible and one rigid side has these heads.
pub record IsChoice (ps : List Pair) (flexible rigid : Term) : Type 0 where
  pub front : List Pair
  pub pair : Pair
  pub rest : List Pair
  pub stands : ps ≡ front ++ pair ∷ rest
  pub before : Each IsFlexFlex front
  pub heads : HasFlexible pair flexible rigid
