-- The axioms and promises of a content, and the contents that theories have.
use Rattle.std.specs.Prelude.{ℕ}
use Rattle.pure_text.specs.Lists.{IsIn}
use Rattle.pure_definitions.specs.Names.{Label}
use Rattle.pure_definitions.specs.Terms.Term.{Term}
use Rattle.pure_definitions.specs.Declarations.Decl.{AxiomDecl, PromiseDecl}
use Rattle.pure_logic.specs.Content.{Content, IsContent, IsBelow}
use Rattle.pure_logic.specs.PureContent.{pure_content}

-- The axiom of this name is declared with this proposition.
abbrev pub IsAxiom : Content → ℕ → Term → Type 0
IsAxiom Q name A = IsIn (AxiomDecl name A) Q.declarations

abbrev pub HasNoAxiom : Content → ℕ → Type 0
HasNoAxiom Q name = (A : Term) → ¬ IsAxiom Q name A

-- The promise of this label is declared with this statement.
abbrev pub IsPromise : Content → Label → Term → Type 0
IsPromise Q label A = (name : ℕ) × IsIn (PromiseDecl name label A) Q.declarations

abbrev pub HasNoPromise : Content → Label → Type 0
HasNoPromise Q label = (A : Term) → ¬ IsPromise Q label A

-- The content is one that theories have: its declarations make a content, and Pure's are among them.
pub record IsTheoryContent (Q : Content) : Type 0 where
  pub content : IsContent Q
  pub above_pure : IsBelow pure_content Q
