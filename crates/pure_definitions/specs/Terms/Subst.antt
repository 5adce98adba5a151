-- Substitution for type variables and for term variables (Isabelle/Isar Implementation manual, section 2.3).
-- A map is a function that is read at variables alone, fixed or schematic, and gives each its image. The finite maps of calls leave fixed variables as they are (KeepsFixedTyps, KeepsFixedTerms).
use Rattle.std.specs.Prelude.{◌≡◌, ℕ, List, [], ◌∷◌, map, if◌then◌else◌}
use Rattle.pure_text.specs.Lists.{Each, AreDistinct}
use Rattle.pure_definitions.specs.Types.Typ.{Typ, TFree, TVar, Con, Typs, none, also, typ_eq}
use Rattle.pure_definitions.specs.Terms.Term.{Term, Const, Free, Var, Bound, Abs, App, term_eq}
use Rattle.pure_definitions.specs.Types.Order.{Algebra, IsOfSort}
use Rattle.pure_definitions.specs.Terms.Typing.{HasType}

-- the type with the image of each variable in its place, all at once
abbrev mutual
  pub typ_instance : (Typ → Typ) → Typ → Typ
  typ_instance image (TFree x s) = image (TFree x s)
  typ_instance image (TVar x i s) = image (TVar x i s)
  typ_instance image (Con k ts) = Con k (typs_instance image ts)

  pub typs_instance : (Typ → Typ) → Typs → Typs
  typs_instance image none = none
  typs_instance image (also t ts) = also (typ_instance image t) (typs_instance image ts)

-- the term with the type of each constant and each binder replaced by what a function on whole types gives, and each variable, as it stands with its own type, by what a function on variables gives
abbrev pub replacement : (on_typ : Typ → Typ) → (on_variable : Term → Term) → Term → Term
replacement on_typ on_variable (Const c T) = Const c (on_typ T)
replacement on_typ on_variable (Free x T) = on_variable (Free x T)
replacement on_typ on_variable (Var x i T) = on_variable (Var x i T)
replacement on_typ on_variable (Bound n) = Bound n
replacement on_typ on_variable (Abs T b) = Abs (on_typ T) (replacement on_typ on_variable b)
replacement on_typ on_variable (App f a) = App (replacement on_typ on_variable f) (replacement on_typ on_variable a)

-- The instance of a term by a type map and a term map, all at once: the image of a variable is that of the variable with its own type, before the type map.
-- It is asked of images without loose bound variables alone: they aren't lifted.
abbrev pub term_instance : (typs : Typ → Typ) → (terms : Term → Term) → Term → Term
term_instance typs terms t = replacement (typ_instance typs) terms t

-- a variable with its type under a type map: what a type map alone makes of it
abbrev pub retyped_variable : (typs : Typ → Typ) → Term → Term
retyped_variable typs (Free x T) = Free x (typ_instance typs T)
retyped_variable typs (Var x i T) = Var x i (typ_instance typs T)
retyped_variable typs t = t

-- a type map alone: the types in the term are replaced, those of its variables too
abbrev pub inst_typ : (typs : Typ → Typ) → Term → Term
inst_typ typs t = term_instance typs (retyped_variable typs) t

-- a term map alone: types stay as they are
abbrev pub inst_term : (terms : Term → Term) → Term → Term
inst_term terms t = replacement (λ T. T) terms t

-- A type map is sort-respecting where each image is of its variable's sort.
pub record IsSortRespecting (A : Algebra) (typs : Typ → Typ) : Type 0 where
  pub fixed : (x : ℕ) (s : List ℕ) → IsOfSort A (typs (TFree x s)) s
  pub schematic : (x i : ℕ) (s : List ℕ) → IsOfSort A (typs (TVar x i s)) s

-- A term map is type-respecting beside a type map where each image has, under no binders, its variable's type under the type map.
pub record IsTypeRespecting (typs : Typ → Typ) (terms : Term → Term) : Type 0 where
  pub fixed : (x : ℕ) (T : Typ) → HasType [] (terms (Free x T)) (typ_instance typs T)
  pub schematic : (x i : ℕ) (T : Typ) → HasType [] (terms (Var x i T)) (typ_instance typs T)

-- The type map leaves the fixed type variables as they are.
abbrev pub KeepsFixedTyps : (Typ → Typ) → Type 0
KeepsFixedTyps typs = (x : ℕ) (s : List ℕ) → typs (TFree x s) ≡ TFree x s

-- The term map leaves the fixed variables as they are, but for their types under the type map.
abbrev pub KeepsFixedTerms : (typs : Typ → Typ) → (terms : Term → Term) → Type 0
KeepsFixedTerms typs terms = (x : ℕ) (T : Typ) → terms (Free x T) ≡ Free x (typ_instance typs T)

-- an entry of a finite type map, which replaces a schematic type variable
pub record TypBind : Type 0 where
  pub name : ℕ
  pub index : ℕ
  pub sort : List ℕ
  pub image : Typ

-- an entry of a finite term map, which replaces a schematic variable
pub record TermBind : Type 0 where
  pub name : ℕ
  pub index : ℕ
  pub typ : Typ
  pub image : Term

-- the variable that an entry replaces
abbrev pub typ_variable : TypBind → Typ
typ_variable b = TVar b.name b.index b.sort

abbrev pub term_variable : TermBind → Term
term_variable b = Var b.name b.index b.typ

-- A finite map is a list of entries for distinct variables.
abbrev pub IsTypMap : List TypBind → Type 0
IsTypMap binds = AreDistinct (map typ_variable binds)

abbrev pub IsTermMap : List TermBind → Type 0
IsTermMap binds = AreDistinct (map term_variable binds)

-- the map that a list of entries stands for: of entries for one variable the first counts, and all other variables stay
abbrev pub typ_image : List TypBind → Typ → Typ
typ_image [] v = v
typ_image (b ∷ bs) v = if typ_eq (typ_variable b) v then b.image else typ_image bs v

abbrev pub term_image : List TermBind → Term → Term
term_image [] v = v
term_image (b ∷ bs) v = if term_eq (term_variable b) v then b.image else term_image bs v

-- Each entry's image is of its variable's sort.
abbrev pub AreSortRespecting : Algebra → List TypBind → Type 0
AreSortRespecting A binds = Each (λ b. IsOfSort A b.image b.sort) binds

-- Each entry's image has its variable's type.
abbrev pub AreTypeRespecting : List TermBind → Type 0
AreTypeRespecting binds = Each (λ b. HasType [] b.image b.typ) binds
