-- What a call that declares is given: names for what the command declares, ranges that lie in the source, and a stage that such calls made.
use Rattle.std.specs.Prelude.{◌≡◌, ◌<◌, ◌≤◌, ℕ, List, [], ◌∷◌, length}
use Rattle.pure_text.specs.Lists.{IsIn, Each}
use Rattle.pure_definitions.specs.Names.{Label}
use Rattle.pure_definitions.specs.Types.Order.{Class}
use Rattle.pure_definitions.specs.Declarations.Decl.{ClassDecl, IsDeclaredClass}
use Rattle.pure_grammar.specs.Theories.TheoryText.{Span, Have, Command, Class as ClassOf, TypeDecl, Arity, Const, Axiom, Definition, Lemma}
use Rattle.pure_grammar.specs.Theories.Spans.{cited_span, command_spans}
use Rattle.pure_typ.specs.NameTexts.{HasText}
use Rattle.pure_logic.specs.Content.{Content}
use Rattle.pure_lookup.specs.Meaning.{full_text}
use Rattle.pure_lookup.specs.Laws.{IsInSession}
use Rattle.pure_theory.specs.Refusals.{IsBefore, IsLabelAbove}
use Rattle.pure_theory_tables.specs.declared.decl.Decl as outlined
use Rattle.pure_theory_tables.specs.declared.decl.Decl.TheVariants as outlines
use Rattle.pure_declare.specs.Commands.{IsOwnText, fact_base}

-- the bases of what a command declares; a have has none
abbrev pub bases_of : Command → List (List ℕ)
bases_of (ClassOf x above) = x ∷ []
bases_of (TypeDecl x params) = x ∷ []
bases_of (Arity con domains class) = []
bases_of (Const x typ) = x ∷ []
bases_of (Axiom x prop) = x ∷ []
bases_of (Definition x typ prop) = x ∷ fact_base x ∷ []
bases_of (Lemma x prop haves script) = x ∷ []

-- Some name has this text.
abbrev pub IsNamed : (texts : List (List ℕ)) → List ℕ → Type 0
IsNamed texts text = (n : ℕ) × HasText texts n text

-- Of a lemma with this full name the full name of each have is a name's: the lemma's, a dot and the name that the have is given.
abbrev pub AreHavesNamed : (texts : List (List ℕ)) → (lemma : List ℕ) → List Have → Type 0
AreHavesNamed texts lemma haves = Each (λ (h : Have). IsNamed texts (full_text lemma h.name)) haves

-- In a theory with this text each full name that the command declares is a name's, those of a lemma's haves among them.
abbrev pub HasFullNames : (texts : List (List ℕ)) → (theory : List ℕ) → Command → Type 0
HasFullNames texts theory (Lemma x prop haves script) = IsNamed texts (full_text theory x) × AreHavesNamed texts (full_text theory x) haves
HasFullNames texts theory command = Each (λ base. IsNamed texts (full_text theory base)) (bases_of command)

-- The content's own theory has a text, and the full names that the command declares are names'.
pub record HasNames (texts : List (List ℕ)) (Q : Content) (command : Command) : Type 0 where
  pub theory : List ℕ
  pub own : IsOwnText texts Q theory
  pub full : HasFullNames texts theory command

-- The range lies in the source.
pub record LiesIn (source : List ℕ) (span : Span) : Type 0 where
  pub order : span.from ≤ span.to
  pub within : span.to ≤ length source

-- The ranges of the command lie in the source.
abbrev pub HasRanges : (source : List ℕ) → Command → Type 0
HasRanges source command = Each (λ c. LiesIn source (cited_span c)) (command_spans command)

-- the haves of a command
abbrev pub haves_of : Command → List Have
haves_of (Lemma x prop haves script) = haves
haves_of _ = []

-- The label is that of the command's part 0, and its parts, the haves and then the command's own, have numbers below 2^32.
pub record HasPartLabels (label : Label) (command : Command) : Type 0 where
  pub first : label.part ≡ 0
  pub few : length (haves_of command) < 4294967296

-- The classes that a class is declared to be below are declared.
abbrev pub HasClassesAbove : Content → Type 0
HasClassesAbove Q = (k : Class) → IsIn (ClassDecl k) Q.declarations → Each (IsDeclaredClass Q.declarations) k.above

-- What stands around a command: texts and a content as a session has them, a source that isn't too long, and a label above those of the content.
pub record IsGiven (texts : List (List ℕ)) (source : List ℕ) (Q : Content) (label : Label) : Type 0 where
  pub in_session : IsInSession texts Q
  pub small : length source < 4294967295
  pub label_above : IsLabelAbove Q.declarations label

-- The label comes after that of the declaration, if this is a promise.
abbrev pub IsPassed : Label → outlined.Decl → Type 0
IsPassed label (outlines.Promise x earlier) = IsBefore earlier label
IsPassed label _ = Unit {0}

-- A call may declare the command over the content: what it asks of its caller is so.
pub record MayDeclare (texts : List (List ℕ)) (source : List ℕ) (Q : Content) (command : Command) (label : Label) : Type 0 where
  pub names : HasNames texts Q command
  pub ranges : HasRanges source command
  pub given : IsGiven texts source Q label
  pub labels : HasPartLabels label command
