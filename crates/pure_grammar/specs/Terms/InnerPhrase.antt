-- The grammar of terms and types: a data type for each rule, with a constructor for each of its alternatives. `X {X}` is
-- written as a first and more of them; the text of each stands in InnerText. The places are those of the tokens with
-- which a node of a tree can begin.
use Rattle.std.specs.Prelude.{ℕ, List}

-- Ident' = Ident | Qualified
pub data InnerName : Type 0 where
  Simple : (text : List ℕ) → (at : ℕ) → InnerName
  Full : (text : List ℕ) → (at : ℕ) → InnerName

-- ["::" sort], with sort = Ident' | "{" [Ident' {"," Ident'}] "}"
pub data InnerSort : Type 0 where
  NoSort : InnerSort
  OneClass : (class : InnerName) → InnerSort
  NoClass : InnerSort
  Classes : (class : InnerName) → (more : List InnerName) → InnerSort

-- type = "[" type {"," type} "]" "=>" type | post ["=>" type]
-- post = base {Ident'}
-- base = TypeVar ["::" sort] | Schem ["::" sort] | Ident' | "(" type ")" | "(" type "," type {"," type} ")" Ident'
mutual
  pub data TypePhrase : Type 0 where
    DomainsType : (at : ℕ) → (domain : TypePhrase) → (more : TypePhrases) → (range : TypePhrase) → TypePhrase
    PlainType : (post : PostPhrase) → TypePhrase
    ArrowType : (post : PostPhrase) → (range : TypePhrase) → TypePhrase

  -- {"," type}
  pub data TypePhrases : Type 0 where
    NoType : TypePhrases
    AndType : (typ : TypePhrase) → (more : TypePhrases) → TypePhrases

  pub data PostPhrase : Type 0 where
    Post : (base : BasePhrase) → (constructors : List InnerName) → PostPhrase

  pub data BasePhrase : Type 0 where
    VariableBase : (text : List ℕ) → (at : ℕ) → (sort : InnerSort) → BasePhrase
    SchematicBase : (text : List ℕ) → (at : ℕ) → (sort : InnerSort) → BasePhrase
    NamedBase : (name : InnerName) → BasePhrase
    ClosedBase : (at : ℕ) → (typ : TypePhrase) → BasePhrase
    ArgumentsBase : (at : ℕ) → (first second : TypePhrase) → (more : TypePhrases) → (constructor : InnerName) → BasePhrase

-- var = Ident | BoundName
pub data VarPhrase : Type 0 where
  NamedVar : (text : List ℕ) → (at : ℕ) → VarPhrase
  BoundVar : (text : List ℕ) → (at : ℕ) → VarPhrase

-- binder = var | "(" var "::" type ")"
pub data BinderPhrase : Type 0 where
  PlainBinder : (var : VarPhrase) → BinderPhrase
  TypedBinder : (at : ℕ) → (var : VarPhrase) → (typ : TypePhrase) → BinderPhrase

-- binders = var "::" type | binder {binder}
pub data BindersPhrase : Type 0 where
  OneTyped : (var : VarPhrase) → (typ : TypePhrase) → BindersPhrase
  Binders : (binder : BinderPhrase) → (more : List BinderPhrase) → BindersPhrase

-- term = "!!" binders "." term | imp
-- imp  = "[|" term {";" term} "|]" "==>" term | eq ["==>" term]
-- eq   = con ["==" con]
-- con  = "%" binders "." con | app ["::" type]
-- app  = atom {atom}
-- atom = Ident | Qualified | Schem | BoundName | "(" term ")"
mutual
  pub data TermPhrase : Type 0 where
    AllTerm : (at : ℕ) → (binders : BindersPhrase) → (body : TermPhrase) → TermPhrase
    ImpTerm : (imp : ImpPhrase) → TermPhrase

  pub data ImpPhrase : Type 0 where
    PremisesImp : (at : ℕ) → (premise : TermPhrase) → (more : TermPhrases) → (conclusion : TermPhrase) → ImpPhrase
    PlainImp : (eq : EqPhrase) → ImpPhrase
    ArrowImp : (eq : EqPhrase) → (conclusion : TermPhrase) → ImpPhrase

  -- {";" term}
  pub data TermPhrases : Type 0 where
    NoTerm : TermPhrases
    AndTerm : (term : TermPhrase) → (more : TermPhrases) → TermPhrases

  pub data EqPhrase : Type 0 where
    PlainEq : (con : ConPhrase) → EqPhrase
    BothEq : (left right : ConPhrase) → EqPhrase

  pub data ConPhrase : Type 0 where
    LambdaCon : (at : ℕ) → (binders : BindersPhrase) → (body : ConPhrase) → ConPhrase
    PlainCon : (app : AppPhrase) → ConPhrase
    TypedCon : (app : AppPhrase) → (typ : TypePhrase) → ConPhrase

  pub data AppPhrase : Type 0 where
    Application : (function : AtomPhrase) → (arguments : AtomPhrases) → AppPhrase

  -- {atom}
  pub data AtomPhrases : Type 0 where
    NoAtom : AtomPhrases
    AndAtom : (atom : AtomPhrase) → (more : AtomPhrases) → AtomPhrases

  pub data AtomPhrase : Type 0 where
    NamedAtom : (name : InnerName) → AtomPhrase
    SchematicAtom : (text : List ℕ) → (at : ℕ) → AtomPhrase
    BoundAtom : (text : List ℕ) → (at : ℕ) → AtomPhrase
    ClosedAtom : (at : ℕ) → (term : TermPhrase) → AtomPhrase
