-- What is looked at in a type or a term when it is certified, part after part, and the first fault of its parts.
use Rattle.std.specs.Prelude.{◌≡◌, ℕ, List, [], ◌∷◌, ◌++◌, map}
use Rattle.pure_text.specs.Lists.{IsIn, Each}
use Rattle.pure_definitions.specs.Types.Typ.{Typ, TFree, TVar, Con, Typs, none, also, typs_count}
use Rattle.pure_definitions.specs.Terms.Term.{Term, Const, Free, Var, Bound, Abs, App}
use Rattle.pure_definitions.specs.Declarations.Decl.{Decl, ConDecl, ConstDecl, algebra_of, IsDeclaredClass}
use Rattle.pure_definitions.specs.Declarations.Certified.{IsCertifiedConst}
use Rattle.pure_certify.specs.declared.fault.CertFault.{CertFault}
use Rattle.pure_certify.specs.declared.fault.CertFault.TheVariants.{UnknownType, WrongCount, UnknownClass, UnknownConst, NotInstance, SortFails}
use Rattle.pure_certify.specs.Tables.{IsUnknownConst}
use Rattle.pure_certify.specs.Matching.{HasNoMatch, IsSortFault}

-- A part: a class of a type variable's sort, a type constructor with the count of its arguments, or a constant with its type.
pub data Part : Type 0 where
  ClassPart : (class : ℕ) → Part
  ConPart : (name count : ℕ) → Part
  ConstPart : (name : ℕ) → (typ : Typ) → Part

-- the parts of the type in preorder: of a variable the classes of its sort, in their order; and a constructor before its arguments
abbrev mutual
  pub typ_parts : Typ → List Part
  typ_parts (TFree x s) = map ClassPart s
  typ_parts (TVar x i s) = map ClassPart s
  typ_parts (Con k ts) = ConPart k (typs_count ts) ∷ typs_parts ts

  pub typs_parts : Typs → List Part
  typs_parts none = []
  typs_parts (also t ts) = typ_parts t ++ typs_parts ts

-- the parts of the term in preorder, at each node those of its type first
abbrev pub term_parts : Term → List Part
term_parts (Const c T) = typ_parts T ++ ConstPart c T ∷ []
term_parts (Free x T) = typ_parts T
term_parts (Var x i T) = typ_parts T
term_parts (Bound n) = []
term_parts (Abs T b) = typ_parts T ++ term_parts b
term_parts (App f a) = term_parts f ++ term_parts a

-- What the part names is declared, and so used.
abbrev pub IsSound : List Decl → Part → Type 0
IsSound ds (ClassPart c) = IsDeclaredClass ds c
IsSound ds (ConPart k count) = IsIn (ConDecl k count) ds
IsSound ds (ConstPart c T) = IsCertifiedConst ds c T

-- The class isn't declared.
abbrev pub HasClassFault : List Decl → ℕ → CertFault → Type 0
HasClassFault ds c (UnknownClass d) = (d ≡ c) × (¬ IsDeclaredClass ds c)
HasClassFault ds c _ = ⊥

-- The constructor isn't declared, or is with other counts alone.
abbrev pub HasConFault : List Decl → (name count : ℕ) → CertFault → Type 0
HasConFault ds k count (UnknownType l) = (l ≡ k) × ((n : ℕ) → ¬ IsIn (ConDecl k n) ds)
HasConFault ds k count (WrongCount l) = (l ≡ k) × ((n : ℕ) × IsIn (ConDecl k n) ds) × (¬ IsIn (ConDecl k count) ds)
HasConFault ds k count _ = ⊥

-- The constant is declared, and each type that it is declared with has the property. Where constants are declared once, that is one type.
pub record IsDeclaredAs (ds : List Decl) (name : ℕ) (property : Typ → Type 0) : Type 0 where
  pub some : Typ
  pub declared : IsIn (ConstDecl name some) ds
  pub each : (typ : Typ) → IsIn (ConstDecl name typ) ds → property typ

-- The constant isn't declared; or its declared type isn't matched by the type; or it is matched, and some variable's image isn't of its sort.
abbrev pub HasConstFault : List Decl → (name : ℕ) → (typ : Typ) → CertFault → Type 0
HasConstFault ds c T (UnknownConst d) = (d ≡ c) × IsUnknownConst ds c
HasConstFault ds c T (NotInstance d) = (d ≡ c) × IsDeclaredAs ds c (λ declared. HasNoMatch declared T)
HasConstFault ds c T (SortFails x) = IsDeclaredAs ds c (λ declared. IsSortFault (algebra_of ds) declared T x)
HasConstFault ds c T _ = ⊥

-- The part has this fault.
abbrev pub HasFault : List Decl → Part → CertFault → Type 0
HasFault ds (ClassPart c) fault = HasClassFault ds c fault
HasFault ds (ConPart k count) fault = HasConFault ds k count fault
HasFault ds (ConstPart c T) fault = HasConstFault ds c T fault

-- The fault is that of the first part that isn't sound.
pub record IsFirstFault (ds : List Decl) (parts : List Part) (fault : CertFault) : Type 0 where
  pub front : List Part
  pub part : Part
  pub rest : List Part
  pub is : parts ≡ front ++ part ∷ rest
  pub sound : Each (IsSound ds) front
  pub faulty : HasFault ds part fault
