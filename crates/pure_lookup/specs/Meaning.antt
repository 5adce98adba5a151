-- What a written name means over a content: the declaration, or the built fact, that it finds.
use Rattle.std.specs.Prelude.{◌≡◌, ◌≢◌, ◌⊎◌, ◌≤◌, ℕ, ◌+◌, List, [], ◌∷◌, ◌++◌, codes, Some, slice_get}
use Rattle.pure_text.specs.Lists.{IsIn}
use Rattle.pure_definitions.specs.Names.{Label, protect_name}
use Rattle.pure_definitions.specs.Types.Typ.{Typ}
use Rattle.pure_definitions.specs.Terms.Term.{Term}
use Rattle.pure_definitions.specs.Declarations.Decl.{Decl, ConDecl, ConstDecl, AxiomDecl, PromiseDecl, IsDeclaredClass}
use Rattle.pure_typ.specs.NameTexts.{builtin_texts, HasText}
use Rattle.pure_logic.specs.Content.{TheoryId, Content}
use Rattle.pure_logic.specs.Beginning.{theories_of}

-- The four name spaces.
pub data Space : Type 0 where
  classes : Space
  constructors : Space
  constants : Space
  facts : Space

-- The name is declared in the name space. Axioms and promises are facts.
abbrev pub IsDeclaredIn : Space → List Decl → ℕ → Type 0
IsDeclaredIn classes ds n = IsDeclaredClass ds n
IsDeclaredIn constructors ds n = (count : ℕ) × IsIn (ConDecl n count) ds
IsDeclaredIn constants ds n = (typ : Typ) × IsIn (ConstDecl n typ) ds
IsDeclaredIn facts ds n = ((A : Term) × IsIn (AxiomDecl n A) ds) ⊎ ((l : Label) × (A : Term) × IsIn (PromiseDecl n l A) ds)

-- the text of Pure as a theory
unfoldable pub pure_text : List ℕ
pure_text = codes "Pure"

-- the full names of the six built facts, in the order in which they are offered
unfoldable pub built_texts : List (List ℕ)
built_texts = codes "Pure.refl" ∷ codes "Pure.subst" ∷ codes "Pure.ext" ∷ codes "Pure.iff" ∷ codes "Pure.mp" ∷ codes "Pure.spec" ∷ []

-- the full name of what has this base in the theory: a dot (46) stands between them
abbrev pub full_text : (theory base : List ℕ) → List ℕ
full_text theory base = theory ++ 46 ∷ base

-- What may be found: what is declared under a name, or the built fact at a place of their list.
pub data Meaning : Type 0 where
  Declared : (name : ℕ) → Meaning
  Built : (place : ℕ) → Meaning

-- The name is declared in the name space, and may be written: the mark of a goal and its axiom may not.
pub record IsWritable (Q : Content) (space : Space) (n : ℕ) : Type 0 where
  pub declared : IsDeclaredIn space Q.declarations n
  pub other : n ≢ protect_name

-- Pure has this under the full name: one of its own names, or, among the facts, a built one.
abbrev pub IsOfPure : Content → Space → (full : List ℕ) → Meaning → Type 0
IsOfPure Q space full (Declared n) = IsWritable Q space n × (slice_get builtin_texts n ≡ Some full)
IsOfPure Q space full (Built place) = (space ≡ facts) × (slice_get built_texts place ≡ Some full)

-- A theory that isn't Pure has this under the full name: what is declared under the name with that text.
abbrev pub IsOfTheory : (texts : List (List ℕ)) → Content → Space → (full : List ℕ) → Meaning → Type 0
IsOfTheory texts Q space full (Declared n) = IsWritable Q space n × HasText texts n full
IsOfTheory texts Q space full (Built place) = ⊥

-- The theory with the text has this with the base, and is visible: it is Pure, the content's own theory, or an ancestor. It has this place in load order: Pure comes first, at 0, and a theory of index i has the place 1 + i.
abbrev pub IsVisible : (texts : List (List ℕ)) → Content → Space → (place : ℕ) → (theory base : List ℕ) → Meaning → Type 0
IsVisible texts Q space place theory base m = ((place ≡ 0) × (theory ≡ pure_text) × IsOfPure Q space (full_text theory base) m)
    ⊎ ((t : TheoryId) × IsIn t (theories_of Q) × (place ≡ 1 + t.index) × HasText texts t.name theory × IsOfTheory texts Q space (full_text theory base) m)

-- A written name with a dot means what is visible under just that full name; a base has no dot.
pub record IsMeantInFull (texts : List (List ℕ)) (Q : Content) (space : Space) (written : List ℕ) (m : Meaning) : Type 0 where
  pub place : ℕ
  pub theory : List ℕ
  pub base : List ℕ
  pub full : written ≡ full_text theory base
  pub clean : ¬ IsIn 46 base
  pub visible : IsVisible texts Q space place theory base m

-- A written name without a dot means, of what is visible with that base, what has its theory last in load order.
pub record IsMeantByBase (texts : List (List ℕ)) (Q : Content) (space : Space) (written : List ℕ) (m : Meaning) : Type 0 where
  pub place : ℕ
  pub theory : List ℕ
  pub visible : IsVisible texts Q space place theory written m
  pub last : (other : ℕ) (theory : List ℕ) (n : Meaning) → IsVisible texts Q space other theory written n → other ≤ place

-- The written name means this.
abbrev pub IsMeant : (texts : List (List ℕ)) → Content → Space → (written : List ℕ) → Meaning → Type 0
IsMeant texts Q space written m = (IsIn 46 written × IsMeantInFull texts Q space written m) ⊎ ((¬ IsIn 46 written) × IsMeantByBase texts Q space written m)
