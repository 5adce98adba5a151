-- When each declaration is refused, and what the refusal says.
use Rattle.std.specs.Prelude.{◌≡◌, ◌≢◌, ◌⊎◌, ◌<◌, ℕ, List, length}
use Rattle.pure_text.specs.Lists.{IsIn}
use Rattle.pure_definitions.specs.Names.{Label}
use Rattle.pure_definitions.specs.Types.Order.{Class, Arity, Algebra}
use Rattle.pure_definitions.specs.Declarations.Decl.{Decl, ClassDecl, ConDecl, PromiseDecl, classes_of, algebra_of}
use Rattle.pure_definitions.specs.Terms.Term.{Term}
use Rattle.pure_order.specs.OrderTables.Classes.{IsDeclared}
use Rattle.pure_order.specs.OrderTables.Arities.{IsKnown, with_arity}
use Rattle.pure_order.specs.OrderTables.Checks.{IsLeastInConflict}
use Rattle.pure_order.specs.OrderTables.Unknown.{IsFirstUnknown, HasArityFor, names_of}
use Rattle.pure_order.specs.declared.fault.OrderFault.{OrderFault}
use Rattle.pure_order.specs.declared.fault.OrderFault.TheVariants as order
use Rattle.pure_logic.specs.Content.{AreNamedAlike}
use Rattle.pure_theory.specs.declared.fault.DeclFault.{DeclFault}
use Rattle.pure_theory.specs.declared.fault.DeclFault.TheVariants.{Duplicate, UnknownClass, UnknownType, WrongCount, NotCoregular, Memory}

-- Something of the declaration's kind is declared under its name.
abbrev pub HasNamesake : List Decl → Decl → Type 0
HasNamesake ds d = (e : Decl) × IsIn e ds × AreNamedAlike d e

-- Of a type constructor, a constant, an axiom or a promise: something of its kind has its name.
abbrev pub IsNameRefusal : List Decl → Decl → DeclFault → Type 0
IsNameRefusal ds d Duplicate = HasNamesake ds d
IsNameRefusal ds d Memory = Unit {0}
IsNameRefusal ds d _ = ⊥

-- Of a class: it is declared already; or else a class to be above it isn't, the first.
abbrev pub IsClassRefusal : List Decl → Class → DeclFault → Type 0
IsClassRefusal ds k Duplicate = HasNamesake ds (ClassDecl k)
IsClassRefusal ds k (UnknownClass c) = (¬ HasNamesake ds (ClassDecl k)) × IsFirstUnknown (classes_of ds) k.above c
IsClassRefusal ds k Memory = Unit {0}
IsClassRefusal ds k _ = ⊥

-- What an order refuses of a class: one to be above it isn't declared, the first; or else it is declared already.
abbrev pub IsGivenClassRefusal : List Class → ℕ → List ℕ → DeclFault → Type 0
IsGivenClassRefusal cs class above (UnknownClass c) = IsFirstUnknown cs above c
IsGivenClassRefusal cs class above Duplicate = IsDeclared cs class
IsGivenClassRefusal cs class above Memory = Unit {0}
IsGivenClassRefusal cs class above _ = ⊥

-- Of a constructor with a count of arguments: it isn't declared; or else is with another count.
abbrev pub IsCountRefusal : List Decl → (con count : ℕ) → DeclFault → Type 0
IsCountRefusal ds con count (UnknownType k) = (k ≡ con) × ((n : ℕ) → ¬ IsIn (ConDecl con n) ds)
IsCountRefusal ds con count (WrongCount k) = (k ≡ con) × ((n : ℕ) × IsIn (ConDecl con n) ds × (n ≢ count))
IsCountRefusal ds con count _ = ⊥

-- What an order refuses of an arity: a class isn't declared, the first; or else the constructor has an arity for the class; or else the arities wouldn't be coregular, by the least class in conflict.
abbrev pub IsGivenArityRefusal : Algebra → Arity → DeclFault → Type 0
IsGivenArityRefusal A a (UnknownClass c) = IsFirstUnknown A.classes (names_of a) c
IsGivenArityRefusal A a Duplicate = IsKnown A.classes a × HasArityFor A a.con a.class
IsGivenArityRefusal A a (NotCoregular k c d) = IsKnown A.classes a × (¬ HasArityFor A a.con a.class) × (k ≡ a.con) × (c ≡ a.class) × IsLeastInConflict (with_arity A a) a d
IsGivenArityRefusal A a Memory = Unit {0}
IsGivenArityRefusal A a _ = ⊥

-- The constructor of the arity is declared with as many arguments as there are domains.
abbrev pub HasCon : List Decl → Arity → Type 0
HasCon ds a = IsIn (ConDecl a.con (length a.domains)) ds

-- Of an arity: its constructor isn't declared, or else is with another count of arguments; or else its order refuses it.
abbrev pub IsArityRefusal : List Decl → Arity → DeclFault → Type 0
IsArityRefusal ds a fault = IsCountRefusal ds a.con (length a.domains) fault ⊎ (HasCon ds a × IsGivenArityRefusal (algebra_of ds) a fault)

-- The arity could stand beside the others, if it is compatible with them: its constructor and its classes are declared, and the constructor has no arity for the class.
pub record IsNewArity (ds : List Decl) (a : Arity) : Type 0 where
  pub con : HasCon ds a
  pub known : IsKnown (classes_of ds) a
  pub new : ¬ HasArityFor (algebra_of ds) a.con a.class

-- the refusal of an order as one of a theory
abbrev pub refusal_of : OrderFault → DeclFault
refusal_of (order.UnknownClass c) = UnknownClass c
refusal_of order.Duplicate = Duplicate
refusal_of (order.NotCoregular k c d) = NotCoregular k c d
refusal_of order.Memory = Memory

-- The first label comes before the second: by the theory, then by the command, then by the part.
abbrev pub IsBefore : Label → Label → Type 0
IsBefore l m = (l.theory < m.theory) ⊎ ((l.theory ≡ m.theory) × ((l.command < m.command) ⊎ ((l.command ≡ m.command) × (l.part < m.part))))

-- The label comes after that of each promise.
abbrev pub IsLabelAbove : List Decl → Label → Type 0
IsLabelAbove ds label = (x : ℕ) (l : Label) (A : Term) → IsIn (PromiseDecl x l A) ds → IsBefore l label
