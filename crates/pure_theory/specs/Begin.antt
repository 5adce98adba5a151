-- When a theory can't begin.
use Rattle.std.specs.Prelude.{◌≡◌, ◌≢◌, ◌<◌, List, [], ◌∷◌, ◌++◌, map, ℕ}
use Rattle.std.specs.declared.alloc.Global.{Global}
use Rattle.std.specs.declared.sync.Arc.{Arc}
use Rattle.pure_definitions.specs.Types.Order.{Algebra}
use Rattle.pure_definitions.specs.Declarations.Decl.{Decl, algebra_of}
use Rattle.pure_order.specs.OrderTables.Arities.{IsUnion}
use Rattle.pure_order.specs.OrderTables.Checks.{IsLeastConflict}
use Rattle.pure_logic.specs.Content.{TheoryId, Content}
use Rattle.pure_logic.specs.Beginning.{IsMerge, AreToldApart, IsNewOver, ancestors_of}
use Rattle.pure_logic.specs.Laws.Contents.{AreAgreed}
use Rattle.pure_theory.specs.declared.fault.DeclFault.{DeclFault}
use Rattle.pure_theory.specs.declared.fault.DeclFault.TheVariants.{NotCoregular, Memory}

-- the contents behind pointers
abbrev pub contents : List (Arc Content Global) → List Content
contents = map (λ p. p.value)

-- The theories are the same, or have neither one name nor one index.
pub record AreTold (t u : TheoryId) : Type 0 where
  pub by_name : t.name ≡ u.name → t ≡ u
  pub by_index : t.index ≡ u.index → t ≡ u

-- The theory comes after the other in load order, and has another name.
abbrev pub IsNewBeside : (theory other : TheoryId) → Type 0
IsNewBeside theory other = (other.index < theory.index) × (other.name ≢ theory.name)

-- The theory may begin with these parents: there is one at least, they declare the same under one name or label, the theories that they know are told apart, and it is new over these.
pub record MayBegin (theory : TheoryId) (parents : List Content) : Type 0 where
  pub some : ¬ (parents ≡ [])
  pub agreed : AreAgreed parents
  pub apart : AreToldApart (ancestors_of parents)
  pub new : IsNewOver theory (ancestors_of parents)

-- Of the merge of two lists: together they aren't coregular, by the least constructor, the least first class and the least second class in conflict.
abbrev pub IsMergeRefusal : List Decl → List Decl → DeclFault → Type 0
IsMergeRefusal ds es (NotCoregular k c d) = (U : Algebra) × IsUnion (algebra_of ds) (algebra_of es) U × IsLeastConflict U k c d
IsMergeRefusal ds es Memory = Unit {0}
IsMergeRefusal ds es _ = ⊥

-- One of the parents can't be merged with those before it: together they aren't coregular, by these least of all in conflict.
pub record IsFirstConflict (parents : List Content) (con c1 c2 : ℕ) : Type 0 where
  pub front : List Content
  pub parent : Content
  pub rest : List Content
  pub are : parents ≡ front ++ parent ∷ rest
  pub merged : List Decl
  pub merge : IsMerge front merged
  pub union : Algebra
  pub is_union : IsUnion (algebra_of merged) (algebra_of parent.declarations) union
  pub least : IsLeastConflict union con c1 c2

-- Of a theory that begins: the first merge that isn't coregular.
abbrev pub IsBeginRefusal : List Content → DeclFault → Type 0
IsBeginRefusal parents (NotCoregular k c d) = IsFirstConflict parents k c d
IsBeginRefusal parents Memory = Unit {0}
IsBeginRefusal parents _ = ⊥
