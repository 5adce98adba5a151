-- What is found so far, and which terms are compared.
use Rattle.std.specs.Prelude.{◌≡◌, ℕ, List, [], Option, Some, None}
use Rattle.pure_text.specs.Lists.{IsIn}
use Rattle.pure_definitions.specs.Types.Typ.{prop}
use Rattle.pure_definitions.specs.Terms.Term.{Term}
use Rattle.pure_definitions.specs.Terms.Typing.{HasType}
use Rattle.pure_definitions.specs.Reduction.Beta.{IsBetaNormal}
use Rattle.pure_definitions.specs.Reduction.Eta.{IsLongForm}
use Rattle.pure_logic.specs.Content.{Content}
use Rattle.pure_theory_tables.specs.Facts.{Stated, fact_decl}
use Rattle.pure_theory_tables.specs.View.{outline}
use Rattle.pure_theory_tables.specs.declared.decl.Decl as outlined
use Rattle.pure_definitions.specs.Declarations.Decl.{Decl}
use Rattle.pure_logic.specs.Derivable.{Pair}
use Rattle.pure_unify_final.specs.Laws.{HasVariablesUpTo}
use Rattle.pure_pattern_laws.specs.Answers.{Answer, IsPatternAnswer}
use Rattle.pure_find.specs.declared.finding.Finding.{Finding}
use Rattle.pure_find.specs.Facts.{Fact}
use Rattle.pure_find.specs.Standings.{IsLongWithin, LacksLongForm, standing_by}
use Rattle.pure_find.specs.declared.standing.Standing.{Standing}
use Rattle.pure_find.specs.Lines.{lines_of}
use Rattle.pure_find.specs.Answers.{AreStandings}

-- A proposition as facts and statements are stored: beta-normal, with variables of index 0 alone.
pub record IsTidyProposition (t : Term) : Type 0 where
  pub typed : HasType [] t prop
  pub normal : IsBetaNormal t
  pub variables : HasVariablesUpTo 0 t

-- A proposition that is its own long form, with variables of index 0 alone.
pub record IsLongProposition (t : Term) : Type 0 where
  pub typed : HasType [] t prop
  pub long : IsLongForm t t
  pub variables : HasVariablesUpTo 0 t

-- The term has this long form within the limits, or has none there.
abbrev pub IsLongFound : Term → Option Term → Type 0
IsLongFound t (Some u) = IsLongWithin t u
IsLongFound t None = LacksLongForm t

-- Some answer about the pairs says so.
abbrev pub IsAnsweredBy : List Pair → Standing → Type 0
IsAnsweredBy ps standing = (answer : Answer) × IsPatternAnswer 0 ps answer × (standing ≡ standing_by answer)

-- Each axiom and each promise of the content states such a proposition.
abbrev pub StatesTidy : Content → Type 0
StatesTidy Q = (name : ℕ) (s : Stated) → IsIn (fact_decl name s) Q.declarations → IsTidyProposition s.prop

-- The facts fs were compared with the statement C: these are their standings, and this is their text.
pub record IsFinding (C : Term) (fs : List Fact) (finding : Finding) : Type 0 where
  pub are : AreStandings C fs finding.standings.items
  pub text_is : finding.text.items ≡ lines_of fs finding.standings.items

-- Whichever statement has the long form: where some facts were compared with it, now these are.
abbrev pub GoesOn : (long : Option Term) → (fs more : List Fact) → (old new : Finding) → Type 0
GoesOn long fs more old new = (C : Term) → IsLongFound C long → IsFinding C fs old → IsFinding C more new

-- It is the kind and the name of a declaration of the content.
abbrev pub IsOutlineIn : Content → outlined.Decl → Type 0
IsOutlineIn Q decl = (d : Decl) × IsIn d Q.declarations × (outline d ≡ decl)
