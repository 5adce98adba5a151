-- Laws and examples of the class order, of coregular algebras and of certified terms.
use Rattle.std.specs.Prelude.{◌↔◌, List, [], ◌∷◌}
use Rattle.pure_definitions.specs.Types.Typ.{TVar, Con, none, also}
use Rattle.pure_definitions.specs.Terms.Term.{Const, Var, Bound, Abs, App}
use Rattle.pure_text.specs.Lists.{IsIn}
use Rattle.pure_definitions.specs.Types.Order.{Class, Arity, IsClassBelow, IsSortBelow, IsOfSort, IsCoregular}
use Rattle.pure_definitions.specs.Declarations.Decl.{Decl, ClassDecl, ConDecl, ArityDecl, ConstDecl, algebra_of}
use Rattle.pure_definitions.specs.Declarations.Certified.{HasCertifiedParts, IsCertified, AreImagesCertified}
use Rattle.pure_definitions.specs.Terms.Subst.{typ_image}
use Rattle.pure_term_laws.specs.LawsSubst.{for_a}
use Rattle.pure_term_laws.specs.LawsExamples.{i, k, c, d, e, g, sort_of, class_above, ladder, crossing, uneven, joined_fork, open_fork, falling}

-- With c below e and e below g, c is below g by a path; g isn't below c, nor is d below e.
abbrev pub BelowExample : Type 0
BelowExample = IsClassBelow ladder c g × (¬ IsClassBelow ladder g c) × (¬ IsClassBelow ladder d e)

-- The sort {c, d} is below {g} and below the empty sort, but {d} isn't below {g}, nor the empty sort.
abbrev pub SortBelowExample : Type 0
SortBelowExample = IsSortBelow ladder (c ∷ d ∷ []) (sort_of g) × IsSortBelow ladder (sort_of d) [] × (¬ IsSortBelow ladder (sort_of d) (sort_of g)) × (¬ IsSortBelow ladder [] (sort_of g))

-- With `k :: (c) e` and `'a :: c` the type `'a k` is of sort {g}; it isn't of sort {c}, and `'b k` with `'b :: d` isn't of sort {g}.
abbrev pub OfSortExample : Type 0
OfSortExample = IsOfSort ladder (Con k (also (TVar 1 0 (sort_of c)) none)) (sort_of g) × (¬ IsOfSort ladder (Con k (also (TVar 1 0 (sort_of c)) none)) (sort_of c))
    × (¬ IsOfSort ladder (Con k (also (TVar 1 0 (sort_of d)) none)) (sort_of g))

-- A constructor applied to too few arguments is of no sort but the empty one.
abbrev pub WrongCountExample : Type 0
WrongCountExample = (¬ IsOfSort ladder (Con k none) (sort_of e)) × IsOfSort ladder (Con k none) []

-- Two arities for one class with different counts of domains aren't coregular.
abbrev pub UnevenIsNotCoregular : Type 0
UnevenIsNotCoregular = ¬ IsCoregular uneven

-- With unrelated c and d, the arities `k :: (c) e` and `k :: (d) e` aren't coregular.
abbrev pub CrossingIsNotCoregular : Type 0
CrossingIsNotCoregular = ¬ IsCoregular crossing

-- With c and d below e, the arities `k :: (c) c` and `k :: (d) d` are coregular beside `k :: (e) e`, and not without it.
abbrev pub JoinedForkIsCoregular : Type 0
JoinedForkIsCoregular = IsCoregular joined_fork

abbrev pub OpenForkIsNotCoregular : Type 0
OpenForkIsNotCoregular = ¬ IsCoregular open_fork

-- With g below e and unrelated c and d, the arities `k :: (c) e` and `k :: (d) g` aren't coregular.
abbrev pub FallingIsNotCoregular : Type 0
FallingIsNotCoregular = ¬ IsCoregular falling

-- The algebra of declarations has exactly their classes and arities.
abbrev pub DeclaredClasses : Type 0
DeclaredClasses = (ds : List Decl) (class : Class) → IsIn class (algebra_of ds).classes ↔ IsIn (ClassDecl class) ds

abbrev pub DeclaredArities : Type 0
DeclaredArities = (ds : List Decl) (a : Arity) → IsIn a (algebra_of ds).arities ↔ IsIn (ArityDecl a) ds

-- the declarations of class c and of d, of i, k and `i :: c`, and of a constant `40 :: ?'a k` with `?'a :: c`
abbrev pub declarations : List Decl
declarations = ClassDecl (class_above c []) ∷ ClassDecl (class_above d []) ∷ ConDecl 10 0 ∷ ConDecl k 1 ∷ ArityDecl (record { con = 10; domains = []; class = c })
    ∷ ConstDecl 40 (Con k (also (TVar 1 0 (sort_of c)) none)) ∷ []

-- The constant is certified at the type `i k`, since i is of class c.
abbrev pub CertifiedExample : Type 0
CertifiedExample = IsCertified declarations (Const 40 (Con k (also i none)))

-- The parts of an abstraction and of an application are certified where its binder's type, its body, its function and its argument are.
abbrev pub CertifiedPartsExample : Type 0
CertifiedPartsExample = HasCertifiedParts declarations (Abs i (App (Bound 0) (Var 0 0 i))) × (¬ HasCertifiedParts declarations (Abs (Con 13 none) (Bound 0)))
    × (¬ HasCertifiedParts declarations (Abs i (Const 41 i))) × (¬ HasCertifiedParts declarations (App (Bound 0) (Const 41 i))) × (¬ HasCertifiedParts declarations (App (Const 41 i) (Bound 0)))

-- It isn't at `?'b k` with `?'b :: d`, whose sort fails, nor at i, which is no instance. An undeclared constant isn't, nor a variable whose type has an undeclared constructor, a wrong count of arguments, an undeclared class, or a sort whose names don't ascend.
abbrev pub NotCertifiedExample : Type 0
NotCertifiedExample = (¬ IsCertified declarations (Const 40 (Con k (also (TVar 1 0 (sort_of d)) none)))) × (¬ IsCertified declarations (Const 40 i))
    × (¬ IsCertified declarations (Const 41 i)) × (¬ IsCertified declarations (Var 0 0 (Con 13 none))) × (¬ IsCertified declarations (Var 0 0 (Con k none)))
    × (¬ IsCertified declarations (Var 0 0 (TVar 0 0 (sort_of e)))) × (¬ IsCertified declarations (Var 0 0 (TVar 0 0 (d ∷ c ∷ []))))

-- The images of the identity maps are certified where their variables are; those of a map to an undeclared constructor aren't.
abbrev pub CertifiedImagesExample : Type 0
CertifiedImagesExample = AreImagesCertified declarations (λ v. v) (λ v. v) × (¬ AreImagesCertified declarations (typ_image (for_a (Con 13 none) ∷ [])) (λ v. v))
