-- Whose each declaration of a content is.
use Rattle.std.specs.Prelude.{◌≡◌, ◌⊎◌, ℕ, List, Some}
use Rattle.pure_text.specs.Lists.{IsIn}
use Rattle.pure_definitions.specs.Declarations.Decl.{Decl, ClassDecl, ConDecl, ArityDecl, ConstDecl, AxiomDecl, PromiseDecl}
use Rattle.pure_typ.specs.NameTexts.{HasText}
use Rattle.pure_logic.specs.Content.{TheoryId, Content}
use Rattle.pure_logic.specs.PureContent.{pure_declarations}
use Rattle.pure_lookup.specs.Meaning.{full_text}

-- The name n is one of the theory of this name: its text is the theory's, a dot, and a base.
pub record IsNameIn (texts : List (List ℕ)) (theory n : ℕ) : Type 0 where
  pub text : List ℕ
  pub base : List ℕ
  pub of_theory : HasText texts theory text
  pub full : HasText texts n (full_text text base)

-- The declaration is one of the theory: its name is, and a promise's label has the theory's index. Arities have no name.
abbrev pub IsOf : (texts : List (List ℕ)) → TheoryId → Decl → Type 0
IsOf texts t (ClassDecl k) = IsNameIn texts t.name k.name
IsOf texts t (ConDecl k n) = IsNameIn texts t.name k
IsOf texts t (ArityDecl a) = Unit {0}
IsOf texts t (ConstDecl c T) = IsNameIn texts t.name c
IsOf texts t (AxiomDecl x A) = IsNameIn texts t.name x
IsOf texts t (PromiseDecl x l A) = IsNameIn texts t.name x × (l.theory ≡ t.index)

-- Of the last contents of theories that have ended, this is that of the theory.
pub record IsLast (ended : List Content) (t : TheoryId) (P : Content) : Type 0 where
  pub among : IsIn P ended
  pub own : P.own ≡ Some t

-- The declaration is one of a theory that has ended, whose last content has it.
pub record IsOfEnded (texts : List (List ℕ)) (ended : List Content) (d : Decl) : Type 0 where
  pub theory : TheoryId
  pub last : Content
  pub is_last : IsLast ended theory last
  pub of_theory : IsOf texts theory d
  pub there : IsIn d last.declarations

-- The declaration is one of the content's own theory.
pub record IsOfOwn (texts : List (List ℕ)) (Q : Content) (d : Decl) : Type 0 where
  pub theory : TheoryId
  pub own : Q.own ≡ Some theory
  pub of_theory : IsOf texts theory d

-- Each declaration of the content is Pure's, or one of a theory that has ended, or one of the content's own theory.
abbrev pub IsOwned : (texts : List (List ℕ)) → (ended : List Content) → Content → Type 0
IsOwned texts ended Q = (d : Decl) → IsIn d Q.declarations → IsIn d pure_declarations ⊎ (IsOfEnded texts ended d ⊎ IsOfOwn texts Q d)
