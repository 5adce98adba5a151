-- What the parts of the call say: what commands other than lemmas declare, with the names that they are found under, and faults of declarations as those of commands.
use Rattle.std.specs.Prelude.{ℕ, List, map, Result}
use Rattle.pure_grammar.specs.Theories.TheoryText.{Span, Have, Command, Class, TypeDecl, Arity, Const, Axiom, Definition, Lemma}
use Rattle.pure_theory.specs.declared.fault.DeclFault.{DeclFault}
use Rattle.pure_theory.specs.declared.fault.DeclFault.TheVariants as fault
use Rattle.pure_statements.specs.declared.reason.Reason.{Reason}
use Rattle.pure_statements.specs.declared.reason.Reason.TheVariants.{Duplicate, UnknownClass, UnknownType, WrongCount, NotCoregular, NotClosed, ExtraTypeVariable}
use Rattle.pure_statements.specs.declared.reason.Failed.{Failed}
use Rattle.pure_statements.specs.declared.reason.Failed.TheVariants.{Refused, Memory}
use Rattle.pure_logic.specs.Content.{Content}
use Rattle.pure_lookup.specs.Meaning.{facts}
use Rattle.pure_statements.specs.declared.stated.Stated.{Stated}
use Rattle.pure_statements.specs.Chain.{Unless}
use Rattle.pure_statements.specs.Statement.{IsStated}
use Rattle.pure_declare.specs.Notes.{Note, Change}
use Rattle.pure_declare.specs.Parts.{Within}
use Rattle.pure_declare.specs.Fold.{AreParts}
use Rattle.pure_declare.specs.Commands.{Place, IsNameOf, IsTaken, vocabulary, fact_base, IsClassChange, IsTypeChange, IsArityChange, IsConstChange, IsAxiomChange, IsDefinitionChange}

-- A command that isn't a lemma declares so under its names, or is refused.
abbrev pub IsCommandChange : Place → Command → Result Change Reason → Type 0
IsCommandChange P (Class x above) answer = (n : ℕ) × IsNameOf P x n × IsClassChange P n above answer
IsCommandChange P (TypeDecl x params) answer = (n : ℕ) × IsNameOf P x n × IsTypeChange P n params answer
IsCommandChange P (Arity con domains class) answer = IsArityChange P con domains class answer
IsCommandChange P (Const x span) answer = (n : ℕ) × IsNameOf P x n × IsConstChange P n span answer
IsCommandChange P (Axiom x span) answer = (n : ℕ) × IsNameOf P x n × IsAxiomChange P n span answer
IsCommandChange P (Definition x typ text) answer = (n : ℕ) × (f : ℕ) × IsNameOf P x n × IsNameOf P (fact_base x) f × IsDefinitionChange P x n f typ text answer
IsCommandChange P (Lemma x span haves script) answer = ⊥

-- The command isn't a lemma.
abbrev pub IsNoLemma : Command → Type 0
IsNoLemma (Lemma x span haves script) = ⊥
IsNoLemma _ = Unit {0}

-- the fault of a declaration as one of a command
abbrev pub failed_declaration : DeclFault → Failed
failed_declaration fault.Duplicate = Refused Duplicate
failed_declaration (fault.UnknownClass c) = Refused UnknownClass
failed_declaration (fault.UnknownType k) = Refused UnknownType
failed_declaration (fault.WrongCount k) = Refused WrongCount
failed_declaration (fault.NotCoregular k c d) = Refused (NotCoregular k c d)
failed_declaration fault.NotClosed = Refused NotClosed
failed_declaration fault.ExtraType = Refused ExtraTypeVariable
failed_declaration fault.Memory = Memory

-- No fact has the name, and it is stated so.
unfoldable pub IsNewStatement : Place → (number : ℕ) → Span → Result Stated Reason → Type 0
IsNewStatement P n span = Unless (IsTaken P facts n) Duplicate (IsStated (vocabulary P) P.source span)

-- These haves of the lemma with this base left these notes and this content.
abbrev pub AreHaves : Place → (lemma : List ℕ) → List Have → List Note → (last : Content) → Type 0
AreHaves P lemma haves notes last = AreParts P.texts P.source P.label 0 P.content (map (Within lemma) haves) notes last

-- Some haves of the lemma of this name did.
pub record IsBehindHaves (P : Place) (number : ℕ) (notes : List Note) (last : Content) : Type 0 where
  pub lemma : List ℕ
  pub named : IsNameOf P lemma number
  pub haves : List Have
  pub are : AreHaves P lemma haves notes last
