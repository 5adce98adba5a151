-- The grammar of theories: a data type for each rule, with a constructor for each of its alternatives. `X {X}` is
-- written as a first and more of them; the text of each stands in PhraseText.
use Rattle.std.specs.Prelude.{ℕ, List}
use Rattle.pure_grammar.specs.Theories.TheoryText.{Span}

-- Ident
pub record Ident : Type 0 where
  pub text : List ℕ
  pub at : Span

-- Ident' = Ident | Qualified
pub data Name : Type 0 where
  Simple : (text : List ℕ) → (at : Span) → Name
  Full : (text : List ℕ) → (at : Span) → Name

-- TypeVar
pub record TypeVariable : Type 0 where
  pub text : List ℕ
  pub at : Span

-- type = Quote | Ident' | TypeVar
pub data TypePhrase : Type 0 where
  QuotedType : (at : Span) → TypePhrase
  NamedType : (name : Name) → TypePhrase
  VariableType : (variable : TypeVariable) → TypePhrase

-- sort = Ident' | "{" [Ident' {"," Ident'}] "}"
pub data SortPhrase : Type 0 where
  OneClass : (class : Name) → SortPhrase
  NoClass : SortPhrase
  Classes : (class : Name) → (more : List Name) → SortPhrase

-- basic = "assumption" | ("rule" | "erule" | "drule") Ident' | "unfold" Ident' {Ident'}
pub data BasicPhrase : Type 0 where
  ByAssumption : (at : Span) → BasicPhrase
  ByRule : (at : Span) → (fact : Name) → BasicPhrase
  ByErule : (at : Span) → (fact : Name) → BasicPhrase
  ByDrule : (at : Span) → (fact : Name) → BasicPhrase
  ByUnfold : (at : Span) → (fact : Name) → (more : List Name) → BasicPhrase

-- method = "assumption" | "(" basic {"," basic} ")"
pub data MethodPhrase : Type 0 where
  Alone : (at : Span) → MethodPhrase
  Together : (basic : BasicPhrase) → (more : List BasicPhrase) → MethodPhrase

-- "apply" method | "prefer" Number | "defer"
pub data StepPhrase : Type 0 where
  ApplyStep : (method : MethodPhrase) → StepPhrase
  PreferStep : (number : ℕ) → StepPhrase
  DeferStep : StepPhrase

-- "done" | "by" method
pub data EndPhrase : Type 0 where
  DoneEnd : EndPhrase
  ByEnd : (method : MethodPhrase) → EndPhrase

-- proof = {"apply" method | "prefer" Number | "defer"} ("done" | "by" method)
pub record ProofPhrase : Type 0 where
  pub steps : List StepPhrase
  pub ending : EndPhrase

-- ["<" Ident' {Ident'}]
pub data AbovePhrase : Type 0 where
  NoneAbove : AbovePhrase
  Above : (class : Name) → (more : List Name) → AbovePhrase

-- [TypeVar | "(" TypeVar {"," TypeVar} ")"]
pub data ParamsPhrase : Type 0 where
  NoParam : ParamsPhrase
  OneParam : (param : TypeVariable) → ParamsPhrase
  Params : (param : TypeVariable) → (more : List TypeVariable) → ParamsPhrase

-- ["(" sort {"," sort} ")"]
pub data DomainsPhrase : Type 0 where
  NoDomain : DomainsPhrase
  Domains : (sort : SortPhrase) → (more : List SortPhrase) → DomainsPhrase

-- item = Ident "::" type
pub record ItemPhrase : Type 0 where
  pub name : Ident
  pub typ : TypePhrase

-- Ident ":" Quote
pub record AxiomPhrase : Type 0 where
  pub name : Ident
  pub prop : Span

-- "lemma" | "theorem"
pub data LemmaWord : Type 0 where
  LemmaWritten : LemmaWord
  TheoremWritten : LemmaWord

-- have = "have" Ident ":" Quote proof
pub record HavePhrase : Type 0 where
  pub statement : AxiomPhrase
  pub proof : ProofPhrase

-- command = "class" Ident ["<" Ident' {Ident'}]
--         | "typedecl" [TypeVar | "(" TypeVar {"," TypeVar} ")"] Ident
--         | "arities" Ident' "::" ["(" sort {"," sort} ")"] Ident'
--         | "consts" item {item}
--         | "axiomatization" "where" Ident ":" Quote {"and" Ident ":" Quote}
--         | "definition" Ident "::" type "where" Quote
--         | ("lemma" | "theorem") Ident ":" Quote {have} proof
pub data CommandPhrase : Type 0 where
  ClassCommand : (name : Ident) → (above : AbovePhrase) → CommandPhrase
  TypedeclCommand : (params : ParamsPhrase) → (name : Ident) → CommandPhrase
  AritiesCommand : (con : Name) → (domains : DomainsPhrase) → (class : Name) → CommandPhrase
  ConstsCommand : (item : ItemPhrase) → (more : List ItemPhrase) → CommandPhrase
  AxiomsCommand : (part : AxiomPhrase) → (more : List AxiomPhrase) → CommandPhrase
  DefinitionCommand : (item : ItemPhrase) → (prop : Span) → CommandPhrase
  LemmaCommand : (word : LemmaWord) → (statement : AxiomPhrase) → (haves : List HavePhrase) → (proof : ProofPhrase) → CommandPhrase

-- ["imports" Ident {Ident}]
pub data ImportsPhrase : Type 0 where
  NoImport : ImportsPhrase
  Imports : (theory : Ident) → (more : List Ident) → ImportsPhrase

-- ["version" Number]
pub data VersionPhrase : Type 0 where
  NoVersion : VersionPhrase
  WrittenVersion : (number : ℕ) → VersionPhrase

-- file = ["version" Number] "theory" Ident ["imports" Ident {Ident}] "begin" {command} "end" End
pub record FilePhrase : Type 0 where
  pub version : VersionPhrase
  pub name : Ident
  pub imports : ImportsPhrase
  pub commands : List CommandPhrase
