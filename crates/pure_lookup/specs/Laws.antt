-- Laws of the look-ups: one answer, what is found, and what one declaration more changes.
use Rattle.std.specs.Prelude.{◌≡◌, ◌≢◌, ◌⊎◌, ◌≤◌, ◌↔◌, ℕ, List, [], ◌∷◌, ◌++◌, Option, Some}
use Rattle.pure_text.specs.Lists.{IsIn}
use Rattle.pure_definitions.specs.Names.{Label, builtin_count, protect_name}
use Rattle.pure_definitions.specs.Terms.Term.{Term}
use Rattle.pure_definitions.specs.Declarations.Decl.{Decl, PromiseDecl}
use Rattle.pure_typ.specs.NameTexts.{AreSessionTexts, HasText}
use Rattle.pure_logic.specs.Content.{TheoryId, Content, IsContent}
use Rattle.pure_logic.specs.Beginning.{theories_of, HasTheoriesApart}
use Rattle.pure_lookup.specs.Meaning.{Space, IsDeclaredIn, pure_text, full_text, Meaning, Declared, IsMeant}
use Rattle.pure_lookup.specs.LookUps.{Fact, IsFoundName, IsFoundFact, IsFoundLocal}

-- What a session gives with each of its contents: its names have their texts, the content's theories are told apart, and their texts have no dot (46) and aren't Pure's.
pub record IsInSession (texts : List (List ℕ)) (Q : Content) : Type 0 where
  pub names : AreSessionTexts texts
  pub apart : HasTheoriesApart Q
  pub theories : (t : TheoryId) (text : List ℕ) → IsIn t (theories_of Q) → HasText texts t.name text → (¬ IsIn 46 text) × (text ≢ pure_text)

-- A written name means one thing at most, so each look-up has one answer at most.
abbrev pub OneMeaning : Type 0
OneMeaning = (texts : List (List ℕ)) (Q : Content) → IsInSession texts Q → (space : Space) (written : List ℕ) (m n : Meaning) → IsMeant texts Q space written m → IsMeant texts Q space written n → m ≡ n

abbrev pub OneName : Type 0
OneName = (texts : List (List ℕ)) (Q : Content) → IsInSession texts Q → (space : Space) (written : List ℕ) (a b : Option ℕ) → IsFoundName texts Q space written a → IsFoundName texts Q space written b → a ≡ b

abbrev pub OneFact : Type 0
OneFact = (texts : List (List ℕ)) (Q : Content) → IsInSession texts Q → IsContent Q → (written : List ℕ) (a b : Option Fact) → IsFoundFact texts Q written a → IsFoundFact texts Q written b → a ≡ b

-- A name that is found is declared in the name space, and isn't that of the mark of a goal or its axiom.
abbrev pub FoundIsDeclared : Type 0
FoundIsDeclared = (texts : List (List ℕ)) (Q : Content) (space : Space) (written : List ℕ) (n : ℕ) → IsFoundName texts Q space written (Some n) → IsDeclaredIn space Q.declarations n

abbrev pub ProtectIsNeverFound : Type 0
ProtectIsNeverFound = (texts : List (List ℕ)) (Q : Content) (space : Space) (written : List ℕ) → ¬ IsMeant texts Q space written (Declared protect_name)

-- In a proof, too.
abbrev pub OneLocalFact : Type 0
OneLocalFact = (texts : List (List ℕ)) (Q : Content) → IsInSession texts Q → IsContent Q → (lemma : ℕ) (written : List ℕ) (a b : Option Fact)
    → IsFoundLocal texts Q lemma written a → IsFoundLocal texts Q lemma written b → a ≡ b

-- What stands under the full name of a lemma with one part more isn't found by any written name.
abbrev pub LocalIsNeverMeant : Type 0
LocalIsNeverMeant = (texts : List (List ℕ)) (Q : Content) → IsInSession texts Q → (theory lemma base : List ℕ) → (¬ IsIn 46 theory) → (n : ℕ) → builtin_count ≤ n
    → HasText texts n (full_text theory (full_text lemma base)) → (space : Space) (written : List ℕ) → ¬ IsMeant texts Q space written (Declared n)

-- the content with one declaration more
abbrev pub with_decl : Content → Decl → Content
with_decl Q d = record { declarations = Q.declarations ++ d ∷ []; own = Q.own; ancestors = Q.ancestors }

-- The declaration gives the name a meaning in the name space.
abbrev pub Declares : Decl → Space → ℕ → Type 0
Declares d space n = IsDeclaredIn space (d ∷ []) n

-- It is the text of Pure, or of one of the content's theories.
abbrev pub IsTheoryText : (texts : List (List ℕ)) → Content → (theory : List ℕ) → Type 0
IsTheoryText texts Q theory = (theory ≡ pure_text) ⊎ ((t : TheoryId) × IsIn t (theories_of Q) × HasText texts t.name theory)

-- What is declared beside it changes no meaning of a written name, unless a name that is new in its name space, and is the full name of something with a base in a theory of the content, has the written text, or one with that base.
abbrev pub MeaningIsKept : Type 0
MeaningIsKept = (texts : List (List ℕ)) (Q : Content) (d : Decl) (space : Space) (written : List ℕ)
    → ((n : ℕ) (theory base : List ℕ) → Declares d space n → IsTheoryText texts Q theory → (¬ IsIn 46 base) → HasText texts n (full_text theory base) → (written ≢ full_text theory base) × (written ≢ base))
    → (m : Meaning) → IsMeant texts Q space written m ↔ IsMeant texts (with_decl Q d) space written m

-- A promise under the full name of a lemma with one part more changes none.
abbrev pub LocalChangesNone : Type 0
LocalChangesNone = (texts : List (List ℕ)) (Q : Content) → IsInSession texts Q → (theory lemma base : List ℕ) → (¬ IsIn 46 theory) → (n : ℕ) (l : Label) (A : Term)
    → HasText texts n (full_text theory (full_text lemma base)) → (space : Space) (written : List ℕ) (m : Meaning) → IsMeant texts Q space written m ↔ IsMeant texts (with_decl Q (PromiseDecl n l A)) space written m

-- A name that is declared in the content's own theory is found by its full name and by its base, whatever stood there before.
abbrev pub NewIsMeant : Type 0
NewIsMeant = (texts : List (List ℕ)) (Q : Content) → IsInSession texts Q → (t : TheoryId) → Q.own ≡ Some t → (theory base : List ℕ) → HasText texts t.name theory → (¬ IsIn 46 base)
    → (d : Decl) (space : Space) (n : ℕ) → n ≢ protect_name → HasText texts n (full_text theory base) → Declares d space n
    → IsMeant texts (with_decl Q d) space base (Declared n) × IsMeant texts (with_decl Q d) space (full_text theory base) (Declared n)
