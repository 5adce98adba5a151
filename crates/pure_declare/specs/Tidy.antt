-- Facts as commands store them: in normal form, closed, and with indexes 0.
use Rattle.std.specs.Prelude.{◌≡◌, ℕ, List}
use Rattle.pure_definitions.specs.Types.Typ.{Typ, TFree, TVar, Con, Typs, none, also}
use Rattle.pure_text.specs.Lists.{Each}
use Rattle.pure_definitions.specs.Names.{Label}
use Rattle.pure_definitions.specs.Terms.Term.{Term, Const, Free, Var, Bound, Abs, App}
use Rattle.pure_definitions.specs.Terms.Bounds.{IsClosed}
use Rattle.pure_definitions.specs.Reduction.Beta.{IsBetaNormal}
use Rattle.pure_definitions.specs.Declarations.Decl.{Decl, AxiomDecl, PromiseDecl}
use Rattle.pure_grammar.specs.Theories.TheoryText.{Command}
use Rattle.pure_logic.specs.Content.{Content}
use Rattle.pure_logic.specs.PureContent.{pure_content}
use Rattle.pure_statements.specs.Schematic.{generalised}
use Rattle.pure_declare.specs.Notes.{Note, Fork, Forked}
use Rattle.pure_declare.specs.First.{Declares}
use Rattle.pure_declare.specs.Parts.{Part, DeclaresPart}

-- Each schematic type variable in the type has an index with the property.
abbrev mutual
  pub HasTypIndexes : (ℕ → Type 0) → Typ → Type 0
  HasTypIndexes I (TFree x s) = Unit {0}
  HasTypIndexes I (TVar x i s) = I i
  HasTypIndexes I (Con k ts) = HaveTypIndexes I ts

  pub HaveTypIndexes : (ℕ → Type 0) → Typs → Type 0
  HaveTypIndexes I none = Unit {0}
  HaveTypIndexes I (also t ts) = HasTypIndexes I t × HaveTypIndexes I ts

-- Each schematic variable and type variable in the term has an index with the property.
abbrev pub HasIndexes : (ℕ → Type 0) → Term → Type 0
HasIndexes I (Const c T) = HasTypIndexes I T
HasIndexes I (Free x T) = HasTypIndexes I T
HasIndexes I (Var x i T) = I i × HasTypIndexes I T
HasIndexes I (Bound n) = Unit {0}
HasIndexes I (Abs T b) = HasTypIndexes I T × HasIndexes I b
HasIndexes I (App f a) = HasIndexes I f × HasIndexes I a

-- No schematic variable and no schematic type variable is in the term.
abbrev pub IsUnschematic : Term → Type 0
IsUnschematic t = HasIndexes (λ i. ⊥) t

-- A fact as commands store it: in beta normal form, closed, and with the index 0 alone.
pub record IsTidyFact (A : Term) : Type 0 where
  pub normal : IsBetaNormal A
  pub closed : IsClosed A
  pub zeros : HasIndexes (λ i. i ≡ 0) A

-- What an axiom or a promise states is such a fact.
abbrev pub IsTidyDecl : Decl → Type 0
IsTidyDecl (AxiomDecl x A) = IsTidyFact A
IsTidyDecl (PromiseDecl x l A) = IsTidyFact A
IsTidyDecl _ = Unit {0}

-- Each fact of the content is one as commands store them.
abbrev pub IsTidy : Content → Type 0
IsTidy Q = Each IsTidyDecl Q.declarations

-- The statement of a lemma that is bound: in beta normal form, closed, without schematic variables, and generalised.
pub record IsTidyFork (f : Fork) : Type 0 where
  pub normal : IsBetaNormal f.fixed
  pub closed : IsClosed f.fixed
  pub fixed : IsUnschematic f.fixed
  pub prop : f.prop ≡ generalised f.fixed

-- Pure's facts are such ones, and each command keeps a content's so.
abbrev pub PureIsTidy : Type 0
PureIsTidy = IsTidy pure_content

abbrev pub DeclaresTidy : Type 0
DeclaresTidy = (texts : List (List ℕ)) (source : List ℕ) (label : Label) (Q : Content) (command : Command) (note : Note) (next : Content) → IsTidy Q → Declares texts source label Q command note next → IsTidy next

-- So are the statements of the lemmas that commands bind.
abbrev pub ForksTidy : Type 0
ForksTidy = (texts : List (List ℕ)) (source : List ℕ) (label : Label) (Q : Content) (command : Command) (fork : Fork) (next : Content) → Declares texts source label Q command (Forked fork) next → IsTidyFork fork

-- Each part keeps a content's facts so, and what it binds is so, too.
abbrev pub PartsTidy : Type 0
PartsTidy = (texts : List (List ℕ)) (source : List ℕ) (label : Label) (Q : Content) (part : Part) (note : Note) (next : Content) → IsTidy Q → DeclaresPart texts source label Q part note next → IsTidy next

abbrev pub PartForksTidy : Type 0
PartForksTidy = (texts : List (List ℕ)) (source : List ℕ) (label : Label) (Q : Content) (part : Part) (fork : Fork) (next : Content) → DeclaresPart texts source label Q part (Forked fork) next → IsTidyFork fork
