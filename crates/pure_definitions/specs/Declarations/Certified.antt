-- Certified sorts, types and terms (Isabelle/Isar Implementation manual, sections 2.1 and 2.2): what may stand in a statement over given declarations.
use Rattle.std.specs.Prelude.{◌≡◌, ℕ, List, []}
use Rattle.std.specs.List.Sorted.{IsStrictlyIncreasing}
use Rattle.pure_text.specs.Lists.{IsIn, Each}
use Rattle.pure_definitions.specs.Types.Typ.{Typ, TFree, TVar, Con, Typs, none, also, typs_count}
use Rattle.pure_definitions.specs.Terms.Term.{Term, Const, Free, Var, Bound, Abs, App}
use Rattle.pure_definitions.specs.Terms.Typing.{HasType}
use Rattle.pure_definitions.specs.Terms.Subst.{typ_instance, IsSortRespecting, KeepsFixedTyps}
use Rattle.pure_definitions.specs.Declarations.Decl.{Decl, ConDecl, ConstDecl, algebra_of, IsDeclaredClass}

-- The names of the sort ascend, and each class of it is declared.
abbrev pub IsCertifiedSort : List Decl → List ℕ → Type 0
IsCertifiedSort ds s = IsStrictlyIncreasing s × Each (IsDeclaredClass ds) s

-- Each class in the type is declared, and each constructor, with the count of its arguments.
abbrev mutual
  pub IsCertifiedTyp : List Decl → Typ → Type 0
  IsCertifiedTyp ds (TFree x s) = IsCertifiedSort ds s
  IsCertifiedTyp ds (TVar x i s) = IsCertifiedSort ds s
  IsCertifiedTyp ds (Con k ts) = IsIn (ConDecl k (typs_count ts)) ds × AreCertifiedTyps ds ts

  pub AreCertifiedTyps : List Decl → Typs → Type 0
  AreCertifiedTyps ds none = Unit {0}
  AreCertifiedTyps ds (also t ts) = IsCertifiedTyp ds t × AreCertifiedTyps ds ts

-- The type map makes the second type of the first, by its schematic type variables alone.
pub record IsMatch (typs : Typ → Typ) (declared typ : Typ) : Type 0 where
  pub fixed : KeepsFixedTyps typs
  pub is : typ_instance typs declared ≡ typ

-- The second type is an instance of the first: a sort-respecting type map makes it.
pub record IsInstance (ds : List Decl) (declared typ : Typ) : Type 0 where
  pub typs : Typ → Typ
  pub matches : IsMatch typs declared typ
  pub respecting : IsSortRespecting (algebra_of ds) typs

-- The constant is declared, and this type is an instance of its declared type.
abbrev pub IsCertifiedConst : List Decl → ℕ → Typ → Type 0
IsCertifiedConst ds c typ = (declared : Typ) × IsIn (ConstDecl c declared) ds × IsInstance ds declared typ

-- Each type in the term is certified, and each constant.
abbrev pub HasCertifiedParts : List Decl → Term → Type 0
HasCertifiedParts ds (Const c T) = IsCertifiedTyp ds T × IsCertifiedConst ds c T
HasCertifiedParts ds (Free x T) = IsCertifiedTyp ds T
HasCertifiedParts ds (Var x i T) = IsCertifiedTyp ds T
HasCertifiedParts ds (Bound n) = Unit {0}
HasCertifiedParts ds (Abs T b) = IsCertifiedTyp ds T × HasCertifiedParts ds b
HasCertifiedParts ds (App f a) = HasCertifiedParts ds f × HasCertifiedParts ds a

-- The term is certified: its parts are, and it has a type under no binders.
pub record IsCertified (ds : List Decl) (t : Term) : Type 0 where
  pub parts : HasCertifiedParts ds t
  pub typ : Typ
  pub typed : HasType [] t typ

-- Wherever a variable's own sort or type is certified, the image of a type variable is certified, and so are the parts of the image of a variable. Beside type-respecting maps, whose images are typed, the images of variables are then certified too.
pub record AreImagesCertified (ds : List Decl) (typs : Typ → Typ) (terms : Term → Term) : Type 0 where
  pub fixed_typ : (x : ℕ) (s : List ℕ) → IsCertifiedSort ds s → IsCertifiedTyp ds (typs (TFree x s))
  pub schematic_typ : (x i : ℕ) (s : List ℕ) → IsCertifiedSort ds s → IsCertifiedTyp ds (typs (TVar x i s))
  pub fixed : (x : ℕ) (T : Typ) → IsCertifiedTyp ds T → HasCertifiedParts ds (terms (Free x T))
  pub schematic : (x i : ℕ) (T : Typ) → IsCertifiedTyp ds T → HasCertifiedParts ds (terms (Var x i T))
