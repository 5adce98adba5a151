-- What becomes of each theory of a session: it is refused when it begins, or its commands leave their notes.
use Rattle.std.specs.Prelude.{◌≡◌, ℕ, suc, List, [], ◌∷◌, ◌++◌, codes, Some, slice_get}
use Rattle.pure_text.specs.Lists.{EachTwo}
use Rattle.pure_typ.specs.NameTexts.{HasText}
use Rattle.pure_logic.specs.Content.{Content}
use Rattle.pure_logic.specs.PureContent.{pure_content}
use Rattle.pure_logic.specs.Beginning.{IsBeginning}
use Rattle.pure_session_laws.specs.Theory.Begin.{MayBegin, IsFirstConflict}
use Rattle.pure_graph.specs.Order.{Loaded}
use Rattle.pure_graph.specs.Session.{parent_refused_text}
use Rattle.pure_print.specs.declared.row.Row.{Row}
use Rattle.pure_print.specs.declared.row.RowStatus.TheVariants.{Refused}
use Rattle.pure_statements.specs.Rows.{colon}
use Rattle.pure_statements.specs.ReasonText.{reason_text}
use Rattle.pure_statements.specs.declared.reason.Reason.TheVariants.{NotCoregular}
use Rattle.pure_session_laws.specs.Declare.Notes.{Note}
use Rattle.pure_session_laws.specs.Declare.Fold.{AreDeclared}

-- what becomes of a theory: the row by which it is refused when it begins, or what its commands leave and its last content
pub data Verdict : Type 0 where
  Barred : (row : Row) → Verdict
  Ran : (notes : List Note) → (last : Content) → Verdict

-- This theory of the session has the index; the first has the index 1.
abbrev pub IsTheoryAt : (theories : List Loaded) → (index : ℕ) → Loaded → Type 0
IsTheoryAt theories index theory = (place : ℕ) × (index ≡ suc place) × (slice_get theories place ≡ Some theory)

-- the word before the name of a theory in a row
unfoldable pub theory_word : List ℕ
theory_word = codes "theory "

-- the row of a theory that is refused
abbrev pub refused_theory : (theory reason : List ℕ) → Row
refused_theory theory reason = record { status = Refused; head = theory_word ++ theory; tail = colon ++ reason }

-- Of the parents with these indexes, of which this became, the first that was refused when it began has this name.
abbrev pub IsFirstBarred : (theories : List Loaded) → (parents : List ℕ) → List Verdict → (name : List ℕ) → Type 0
IsFirstBarred theories (index ∷ indexes) (Barred row ∷ verdicts) name = (parent : Loaded) × IsTheoryAt theories index parent × (name ≡ parent.name)
IsFirstBarred theories (index ∷ indexes) (Ran notes last ∷ verdicts) name = IsFirstBarred theories indexes verdicts name
IsFirstBarred theories _ _ name = ⊥

-- The theories ran, and these are their last contents.
abbrev pub AreLast : List Verdict → List Content → Type 0
AreLast verdicts contents = EachTwo (λ v Q. (notes : List Note) × (v ≡ Ran notes Q)) verdicts contents

-- the contents over which a theory begins: its parents' last ones, or Pure's alone where it has no parents
abbrev pub beginning_over : List Content → List Content
beginning_over [] = pure_content ∷ []
beginning_over (Q ∷ Qs) = Q ∷ Qs

-- The theory of the session with this index begins with this content, where this became of its parents: all of them ran; over their last contents, or Pure's where it has no parents, it may begin under the name that has its text; and this is the content with which it then begins.
pub record Begins (texts : List (List ℕ)) (index : ℕ) (theory : Loaded) (parents : List Verdict) (first : Content) : Type 0 where
  pub contents : List Content
  pub last : AreLast parents contents
  pub name : ℕ
  pub text : HasText texts name theory.name
  pub may : MayBegin (record { name = name; index = index }) (beginning_over contents)
  pub begins : IsBeginning (record { name = name; index = index }) (beginning_over contents) first

-- By this row the theory is refused when it begins: a parent was refused so, or the parents, merged one after the other, aren't coregular.
pub data IsBarred (texts : List (List ℕ)) (theories : List Loaded) (theory : Loaded) (parents : List Verdict) (row : Row) : Type 0 where
  by_parent : (name : List ℕ) → IsFirstBarred theories theory.parents parents name → row ≡ refused_theory theory.name (parent_refused_text ++ name) → IsBarred texts theories theory parents row
  not_coregular : (contents : List Content) → AreLast parents contents → (con c1 c2 : ℕ) → IsFirstConflict (beginning_over contents) con c1 c2
      → row ≡ refused_theory theory.name (reason_text texts [] (NotCoregular con c1 c2)) → IsBarred texts theories theory parents row

-- What becomes of the session's theory with this index, whose parents have closed: it is refused when it begins, or its commands run, one after the other, each over the content that those before it leave.
mutual
  pub data Closes (texts : List (List ℕ)) (theories : List Loaded) : (index : ℕ) → Verdict → Type 0 where
    barred : {index : ℕ} {theory : Loaded} {parents : List Verdict} {row : Row} → IsTheoryAt theories index theory → AllClose texts theories theory.parents parents
        → IsBarred texts theories theory parents row → Closes texts theories index (Barred row)
    ran : {index : ℕ} {theory : Loaded} {parents : List Verdict} {first last : Content} {notes : List Note} → IsTheoryAt theories index theory → AllClose texts theories theory.parents parents
        → Begins texts index theory parents first → AreDeclared texts theory.source index 0 first theory.text.commands notes last → Closes texts theories index (Ran notes last)

  pub data AllClose (texts : List (List ℕ)) (theories : List Loaded) : (indexes : List ℕ) → List Verdict → Type 0 where
    nothing : AllClose texts theories [] []
    also : {index : ℕ} {indexes : List ℕ} {verdict : Verdict} {verdicts : List Verdict} → Closes texts theories index verdict → AllClose texts theories indexes verdicts
        → AllClose texts theories (index ∷ indexes) (verdict ∷ verdicts)
