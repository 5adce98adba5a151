-- What a theory has at some point: its content, and what holds of each.
use Rattle.std.specs.Prelude.{◌≡◌, List, [], ◌∷◌, ◌++◌, length}
use Rattle.pure_text.specs.Lists.{IsIn, Each, AreDistinct}
use Rattle.pure_definitions.specs.Types.Order.{Arity, Algebra}
use Rattle.pure_definitions.specs.Declarations.Decl.{Decl, ClassDecl, ConDecl, ArityDecl, ConstDecl, algebra_of, IsDeclaredClass}
use Rattle.pure_definitions.specs.Declarations.Certified.{IsCertifiedSort, IsCertifiedTyp}
use Rattle.pure_logic.specs.Content.{Content, IsContent, IsBelow}
use Rattle.pure_logic.specs.PureContent.{pure_content}
use Rattle.pure_logic.specs.Beginning.{HasTheoriesApart}

-- The arity's constructor is declared with as many arguments, its domains are certified, and its class is declared.
pub record IsCertifiedArity (ds : List Decl) (a : Arity) : Type 0 where
  pub con : IsIn (ConDecl a.con (length a.domains)) ds
  pub domains : Each (IsCertifiedSort ds) a.domains
  pub class : IsDeclaredClass ds a.class

-- What is declared is certified over the declarations: the classes that a class is declared to be below are declared, an arity, and the type of a constant.
abbrev pub IsCertifiedDecl : List Decl → Decl → Type 0
IsCertifiedDecl ds (ClassDecl k) = Each (IsDeclaredClass ds) k.above
IsCertifiedDecl ds (ArityDecl a) = IsCertifiedArity ds a
IsCertifiedDecl ds (ConstDecl c T) = IsCertifiedTyp ds T
IsCertifiedDecl ds _ = Unit {0}

-- What holds of each content of a theory: it is one, Pure's is below it, its theories are told apart, what is declared is certified, and nothing is declared twice.
pub record IsSound (Q : Content) : Type 0 where
  pub content : IsContent Q
  pub above_pure : IsBelow pure_content Q
  pub apart : HasTheoriesApart Q
  pub certified : Each (IsCertifiedDecl Q.declarations) Q.declarations
  pub distinct : AreDistinct Q.declarations

-- The content is sound, and the algebra is that of its declarations.
pub record IsStage (Q : Content) (A : Algebra) : Type 0 where
  pub sound : IsSound Q
  pub order : A ≡ algebra_of Q.declarations

-- the content with these declarations
abbrev pub with_declarations : Content → List Decl → Content
with_declarations Q ds = record { declarations = ds; own = Q.own; ancestors = Q.ancestors }

-- the content with this declaration more, at the end
abbrev pub with_decl : Content → Decl → Content
with_decl Q d = with_declarations Q (Q.declarations ++ d ∷ [])
