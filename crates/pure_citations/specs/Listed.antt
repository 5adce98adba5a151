-- What is said of the lemma with some name: the rows of the axioms and definitions that it cites and of the failed lemmas that it reaches, and its own row.
use Rattle.std.specs.Prelude.{◌≡◌, ◌≢◌, ◌⊎◌, ◌++◌, ◌∷◌, ℕ, Bool, true, false, ◌&&◌, List, [], Option, Some, None, find, codes}
use Rattle.pure_text.specs.Lists.{IsIn}
use Rattle.pure_grammar.specs.Theories.Lexeme.{same}
use Rattle.pure_typ.specs.NameTexts.{HasText}
use Rattle.pure_print.specs.declared.row.Row.{Row}
use Rattle.pure_print.specs.declared.row.RowStatus.{RowStatus}
use Rattle.pure_print.specs.declared.row.RowStatus.TheVariants.{Declared, Refused, Proved, Failed, Tainted, Cancelled, Unsettled}
use Rattle.pure_print.specs.RowText.{row_text}
use Rattle.pure_table.specs.Declare.Notes.{Fork}
use Rattle.pure_table.specs.Promise.Entries.{LemmaEntry}
use Rattle.pure_citations.specs.Cites.{IsReachedFrom, Cites}
use Rattle.pure_citations.specs.Faults.{IsFaulty}
use Rattle.pure_citations.specs.Heads.{Heads, IsTextOf}

-- whether a row with this status is that of a lemma whose statement stands
abbrev pub is_lemma : RowStatus → Bool
is_lemma Declared = false
is_lemma Refused = false
is_lemma Proved = true
is_lemma Failed = true
is_lemma Tainted = true
is_lemma Cancelled = true
is_lemma Unsettled = true

-- whether a row with this status is that of a proved lemma
abbrev pub is_proved : RowStatus → Bool
is_proved Declared = false
is_proved Refused = false
is_proved Proved = true
is_proved Failed = false
is_proved Tainted = false
is_proved Cancelled = false
is_proved Unsettled = false

-- whether the row is that of the lemma with this full name
abbrev pub is_own : (name : List ℕ) → Row → Bool
is_own name r = is_lemma r.status && same r.head name

-- the row of the lemma with this full name
abbrev pub own_row : (name : List ℕ) → List Row → Option Row
own_row name rows = find (is_own name) rows

-- The lemma with this full name cites the axiom.
abbrev pub IsCitedFor : (texts : List (List ℕ)) → List Fork → List LemmaEntry → (name : List ℕ) → (number : ℕ) → Type 0
IsCitedFor texts fs es name number = (e : LemmaEntry) × IsIn e es × HasText texts e.name name × Cites texts fs es e.label number

-- The lemma with this full name is a failed lemma of the other name, or reaches one.
abbrev pub IsFaultFor : (texts : List (List ℕ)) → List LemmaEntry → (name : List ℕ) → (fault : ℕ) → Type 0
IsFaultFor texts es name fault = (e : LemmaEntry) × (g : LemmaEntry) × IsIn e es × HasText texts e.name name × IsIn g es × IsFaulty g × IsReachedFrom es e.label g.label × (g.name ≡ fault)

-- The name with this text has the property.
abbrev pub HasNumber : (texts : List (List ℕ)) → (ℕ → Type 0) → (text : List ℕ) → Type 0
HasNumber texts P text = (n : ℕ) × HasText texts n text × P n

-- The row declares an axiom or a definition whose name has the property.
abbrev pub IsDeclaredRow : (texts : List (List ℕ)) → (Cited : ℕ → Type 0) → Row → Type 0
IsDeclaredRow texts Cited r = (r.status ≡ Declared) × (full : List ℕ) × Heads r.head full × HasNumber texts Cited full

-- The row is that of a failed lemma of another name, which has the property.
abbrev pub IsFailedRow : (texts : List (List ℕ)) → (Faulty : ℕ → Type 0) → (name : List ℕ) → Row → Type 0
IsFailedRow texts Faulty name r = (r.status ≡ Failed) × (r.head ≢ name) × HasNumber texts Faulty r.head

-- The row is listed before that of the lemma with this full name.
abbrev pub IsListed : (texts : List (List ℕ)) → (Cited Faulty : ℕ → Type 0) → (name : List ℕ) → Row → Type 0
IsListed texts Cited Faulty name r = IsDeclaredRow texts Cited r ⊎ IsFailedRow texts Faulty name r

-- The text has the rows of the axioms and definitions that the lemma with this full name cites, and of the failed lemmas that it reaches, in the order of the table; last comes its own row.
pub record IsListing (texts : List (List ℕ)) (fs : List Fork) (es : List LemmaEntry) (rows : List Row) (name : List ℕ) (own : Row) (text : List ℕ) : Type 0 where
  pub before : List ℕ
  pub listed : IsTextOf row_text (IsListed texts (IsCitedFor texts fs es name) (IsFaultFor texts es name) name) rows before
  pub text_is : text ≡ before ++ row_text own

-- the line where no lemma whose statement stands has the name
unfoldable pub no_lemma : List ℕ
no_lemma = codes "no lemma" ++ 10 ∷ []

-- The text is what is said where this is the lemma's row, or there is none; it is clean where the lemma is proved.
abbrev pub IsSaidWith : (texts : List (List ℕ)) → List Fork → List LemmaEntry → List Row → (name : List ℕ) → Option Row → (text : List ℕ) → (clean : Bool) → Type 0
IsSaidWith texts fs es rows name None text clean = (text ≡ no_lemma) × (clean ≡ false)
IsSaidWith texts fs es rows name (Some own) text clean = IsListing texts fs es rows name own text × (clean ≡ is_proved own.status)

-- It is said of the lemma with this full name, among these lemmas and their entries, by these rows of the table.
abbrev pub IsSaidOf : (texts : List (List ℕ)) → List Fork → List LemmaEntry → List Row → (name : List ℕ) → (text : List ℕ) → (clean : Bool) → Type 0
IsSaidOf texts fs es rows name text clean = IsSaidWith texts fs es rows name (own_row name rows) text clean
