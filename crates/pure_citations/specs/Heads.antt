-- Which rows of a table declare given axioms and definitions.
use Rattle.std.specs.Prelude.{◌≡◌, ◌⊎◌, ℕ, List, [], ◌∷◌, ◌++◌, codes}
use Rattle.std.specs.List.{flat_map}
use Rattle.pure_typ.specs.NameTexts.{HasText}
use Rattle.pure_order_tables.specs.Rows.{Holds}
use Rattle.pure_print.specs.declared.row.Row.{Row}
use Rattle.pure_print.specs.declared.row.RowStatus.TheVariants.{Declared}
use Rattle.pure_statements.specs.Rows.{axiom_word, definition_word}

-- what stands behind the name of a constant in the name of the fact that defines it
unfoldable pub definition_end : List ℕ
definition_end = codes "_def"

-- The head of a row says that it declares the axiom with this full name, or the definition whose fact has it.
abbrev pub Heads : (head full : List ℕ) → Type 0
Heads head full = (head ≡ axiom_word ++ full) ⊎ ((constant : List ℕ) × (full ≡ constant ++ definition_end) × (head ≡ definition_word ++ constant))

-- The set holds the name with this text.
abbrev pub HoldsText : (texts : List (List ℕ)) → (row text : List ℕ) → Type 0
HoldsText texts row text = (n : ℕ) × HasText texts n text × Holds row n

-- The head is that of an axiom or a definition whose name the set holds.
abbrev pub HoldsHead : (texts : List (List ℕ)) → (row head : List ℕ) → Type 0
HoldsHead texts row head = (full : List ℕ) × Heads head full × HoldsText texts row full

-- The row declares an axiom or a definition whose name the set holds.
abbrev pub IsCitedRow : (texts : List (List ℕ)) → (row : List ℕ) → Row → Type 0
IsCitedRow texts row r = (r.status ≡ Declared) × HoldsHead texts row r.head

-- These are the elements of the list that have the property, in their order.
pub data Picks {A : Type 0} (P : A → Type 0) : List A → List A → Type 0 where
  none : Picks P [] []
  takes : {x : A} {xs picked : List A} → P x → Picks P xs picked → Picks P (x ∷ xs) (x ∷ picked)
  leaves : {x : A} {xs picked : List A} → (P x → ⊥) → Picks P xs picked → Picks P (x ∷ xs) picked

-- The text has the lines of the elements with the property, in their order.
pub record IsTextOf {A : Type 0} (line : A → List ℕ) (P : A → Type 0) (xs : List A) (text : List ℕ) : Type 0 where
  pub picked : List A
  pub picks : Picks P xs picked
  pub text_is : text ≡ flat_map line picked

-- The lines of the elements with the property, in their order, are put behind the text.
abbrev pub IsPutOf : {A : Type 0} → (line : A → List ℕ) → (P : A → Type 0) → (xs : List A) → (old new : List ℕ) → Type 0
IsPutOf line P xs old new = (lines : List ℕ) × IsTextOf line P xs lines × (new ≡ old ++ lines)

-- The line is put behind the text where this holds, and else nothing is.
abbrev pub IsPut : (Holds : Type 0) → (old line new : List ℕ) → Type 0
IsPut Holds old line new = (Holds × (new ≡ old ++ line)) ⊎ ((Holds → ⊥) × (new ≡ old))
