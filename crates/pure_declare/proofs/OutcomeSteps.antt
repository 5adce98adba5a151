-- What comes of a command, from what it declares.
use Rattle.std.proofs.Common.{◌≡◌, ℕ, List, refl, sym, ap, subst}
use Rattle.std.specs.Prelude.{Option, Some, None, Result, Ok, Err, IsErrAnd, IfErr, IfOk, option_map, slice_get}
use Rattle.pure_definitions.specs.Names.{Label}
use Rattle.pure_grammar.specs.Theories.TheoryText.{Span, Step, Command, Class, TypeDecl, Arity, Const, Axiom, Definition, Lemma}
use Rattle.pure_typ.specs.NameTexts.{HasText, IsFound, name_texts}
use Rattle.pure_logic.specs.Content.{Content, TheoryId}
use Rattle.pure_statements.specs.declared.reason.Reason.{Reason}
use Rattle.pure_statements.specs.declared.reason.Failed.{Failed}
use Rattle.pure_statements.specs.declared.reason.Failed.TheVariants.{Refused, Memory}
use Rattle.pure_statements.specs.Chain.{Answers, FailsAs, refuses, goes_on}
use Rattle.pure_declare.specs.declared.notes.PartOutcome.{PartOutcome}
use Rattle.pure_declare.specs.Notes.{Note, Change, Outcome}
use Rattle.pure_declare.specs.Seen.{seen_outcome}
use Rattle.pure_declare.specs.Changes.{IsCommandChange, IsNoLemma}
use Rattle.pure_declare.specs.Commands.{Place, IsNameOf, IsOwnText, IsSaid, IsOutcome, IsClassChange, IsTypeChange, IsConstChange, IsAxiomChange, IsDefinitionChange, fact_base, saying}
use Rattle.pure_declare.specs.First.{IsDeclaredAs, outcome_of}
use Rattle.pure_declare.specs.Fold.{Declares}
use Rattle.pure_declare.specs.Premises.{IsNamed, HasFullNames, HasNames, HasRanges, HasPartLabels}
use Rattle.pure_declare.proofs.LookupSteps.{passed-on, passed-on_memory}

-- A name that is found, where some name has the text.
pub named-some : (texts : List (List ℕ)) (text : List ℕ) (o : Option ℕ) (n : ℕ) → o ≡ Some n → IsFound (name_texts texts) text o → HasText texts n text
named-some texts text o n e h = subst (λ (p : Option ℕ). IsFound (name_texts texts) text p) e h

pub named-none : (texts : List (List ℕ)) (text : List ℕ) (o : Option ℕ) → o ≡ None → IsFound (name_texts texts) text o → IsNamed texts text → ⊥
named-none texts text o e h named = let none : IsFound (name_texts texts) text None = subst (λ (p : Option ℕ). IsFound (name_texts texts) text p) e h in none named.0 named.1

-- What is answered so may be answered in other words.
pub answers-so : {A : Type 0} (F G : Result A Reason → Type 0) (r : Result A Failed) → ((a : Result A Reason) → F a → G a) → Answers F r → Answers G r
answers-so F G (Ok a) f h = f (Ok a) h
answers-so F G (Err (Refused reason)) f h = f (Err reason) h
answers-so F G (Err Memory) f h = tt

module _ (P : Place) (command : Command) where
  pub said-made : (c : Change) (d : PartOutcome) → IsCommandChange P command (Ok c) → seen_outcome d ≡ saying P command c → IsSaid P command (IsCommandChange P command) (Ok (seen_outcome d))
  unfolding IsSaid
  said-made c d h e = goes_on c h (ap (λ (o : Outcome). Ok o) e)

  said-fails : (e : Failed) → Answers {A = Change} (IsCommandChange P command) (Err e) → FailsAs (IsSaid P command (IsCommandChange P command)) e
  unfolding IsSaid
  said-fails (Refused reason) h = refuses reason h refl
  said-fails Memory h = tt

  pub said-failed : (e : Failed) (r : Result PartOutcome Failed) → Answers {A = Change} (IsCommandChange P command) (Err e) → IsErrAnd r (λ x. x ≡ e) → IfErr r (FailsAs (IsSaid P command (IsCommandChange P command)))
  said-failed e r h is = passed-on (IsSaid P command (IsCommandChange P command)) e r is (said-fails e h)

  pub said-memory : (r : Result PartOutcome Failed) → IsErrAnd r (λ x. x ≡ Memory) → IfErr r (FailsAs (IsSaid P command (IsCommandChange P command)))
  said-memory r is = passed-on_memory (IsSaid P command (IsCommandChange P command)) r is

module _ (P : Place) where
  by-name : (command : Command) (x : List ℕ) (C : ℕ → Result Change Reason → Type 0) (answer : Result Outcome Reason) → IsSaid P command (λ a. (n : ℕ) × IsNameOf P x n × C n a) answer → (n : ℕ) × IsNameOf P x n × IsSaid P command (C n) answer
  unfolding IsSaid
  by-name command x C answer (refuses reason (n, is, h) e) = (n, is, refuses reason h e)
  by-name command x C answer (goes_on c (n, is, h) e) = (n, is, goes_on c h e)

  by-names : (command : Command) (x : List ℕ) (C : ℕ → ℕ → Result Change Reason → Type 0) (answer : Result Outcome Reason) → IsSaid P command (λ a. (n : ℕ) × (f : ℕ) × IsNameOf P x n × IsNameOf P (fact_base x) f × C n f a) answer
      → (n : ℕ) × (f : ℕ) × IsNameOf P x n × IsNameOf P (fact_base x) f × IsSaid P command (C n f) answer
  unfolding IsSaid
  by-names command x C answer (refuses reason (n, f, is, also, h) e) = (n, f, is, also, refuses reason h e)
  by-names command x C answer (goes_on c (n, f, is, also, h) e) = (n, f, is, also, goes_on c h e)

  -- What a command says is its outcome.
  said-outcome : (command : Command) (answer : Result Outcome Reason) → IsNoLemma command → IsSaid P command (IsCommandChange P command) answer → IsOutcome P command answer
  said-outcome (Class x above) answer kind h = by-name (Class x above) x (λ n a. IsClassChange P n above a) answer h
  said-outcome (TypeDecl x params) answer kind h = by-name (TypeDecl x params) x (λ n a. IsTypeChange P n params a) answer h
  said-outcome (Arity con domains class) answer kind h = h
  said-outcome (Const x span) answer kind h = by-name (Const x span) x (λ n a. IsConstChange P n span a) answer h
  said-outcome (Axiom x span) answer kind h = by-name (Axiom x span) x (λ n a. IsAxiomChange P n span a) answer h
  said-outcome (Definition x typ text) answer kind h = by-names (Definition x typ text) x (λ n f a. IsDefinitionChange P x n f typ text a) answer h
  said-outcome (Lemma x span haves script) answer kind h = absurd kind

  pub outcome-said : (command : Command) (r : Result PartOutcome Failed) → IsNoLemma command → IfOk r (λ d. IsSaid P command (IsCommandChange P command) (Ok (seen_outcome d))) → IfOk r (λ d. IsOutcome P command (Ok (seen_outcome d)))
  outcome-said command (Ok d) kind h = said-outcome command (Ok (seen_outcome d)) kind h
  outcome-said command (Err e) kind h = tt

  pub outcome-fails : (command : Command) (r : Result PartOutcome Failed) → IsNoLemma command → IfErr r (FailsAs (IsSaid P command (IsCommandChange P command))) → IfErr r (FailsAs (IsOutcome P command))
  outcome-fails command (Ok d) kind h = tt
  outcome-fails command (Err (Refused reason)) kind h = said-outcome command (Err reason) kind h
  outcome-fails command (Err Memory) kind h = tt

  -- What comes of a command that does something, and of one that is refused.
  pub does : (command : Command) (d : PartOutcome) → IsOutcome P command (Ok (seen_outcome d)) → IsDeclaredAs P command (seen_outcome d)
  does command d h = record { answer = Ok (seen_outcome d); is = h; comes = refl }

  pub is-refused : (command : Command) (reason : Reason) (d : PartOutcome) → IsOutcome P command (Err reason) → seen_outcome d ≡ outcome_of P command (Err reason) → IsDeclaredAs P command (seen_outcome d)
  is-refused command reason d h e = record { answer = Err reason; is = h; comes = e }

-- The text of the theory is that of the premise.
pub same-text : (texts : List (List ℕ)) (Q : Content) (a b : List ℕ) → IsOwnText texts Q a → IsOwnText texts Q b → a ≡ b
same-text texts Q a b h k = same (slice_get (name_texts texts) h.own.name) a b h.text (subst (λ (t : TheoryId). HasText texts t.name b) (one k.own h.own k.is_own h.is_own) k.text)
  where
    same : (o : Option (List ℕ)) (c d : List ℕ) → o ≡ Some c → o ≡ Some d → c ≡ d
    same o c d e f = cc

    one : (t u : TheoryId) → Q.own ≡ Some t → Q.own ≡ Some u → t ≡ u
    one t u e f = cc

pub full-names : (texts : List (List ℕ)) (Q : Content) (command : Command) (text : List ℕ) → HasNames texts Q command → IsOwnText texts Q text → HasFullNames texts text command
full-names texts Q command text h own = subst (λ (t : List ℕ). HasFullNames texts t command) (same-text texts Q h.theory text h.own own) h.full

pub own-some : (texts : List (List ℕ)) (Q : Content) (theory : List ℕ) (n : ℕ) (text : List ℕ) → IsOwnText texts Q theory → option_map (λ (t : TheoryId). t.name) Q.own ≡ Some n → HasText texts n text → IsOwnText texts Q text
own-some texts Q theory n text h e has =
    record { own = h.own; is_own = h.is_own; text = subst (λ (m : ℕ). HasText texts m text) (same h.own h.is_own) has }
  where
    same : (t : TheoryId) → Q.own ≡ Some t → n ≡ t.name
    same t is = let mapped : option_map (λ (u : TheoryId). u.name) Q.own ≡ Some t.name = rw is refl in cc

module _ (texts : List (List ℕ)) (source : List ℕ) (label : Label) (theory : List ℕ) (Q : Content) (P : Place) (same : P ≡ record { texts = texts; source = source; label = label; theory = theory; content = Q }) where
  pub declares-at : (command : Command) (notes : List Note) (next : Content) → Declares P.texts P.source P.label P.content command notes next → Declares texts source label Q command notes next
  declares-at command notes next h = subst (λ (R : Place). Declares R.texts R.source R.label R.content command notes next) same h

  pub own-at : IsOwnText texts Q theory → IsOwnText P.texts P.content P.theory
  own-at own = subst (λ (R : Place). IsOwnText R.texts R.content R.theory) (sym same) own

  pub names-at : (command : Command) → HasNames texts Q command → IsOwnText texts Q theory → HasFullNames P.texts P.theory command
  names-at command h own = subst (λ (R : Place). HasFullNames R.texts R.theory command) (sym same) (full-names texts Q command theory h own)

  pub ranges-at : (command : Command) → HasRanges source command → HasRanges P.source command
  ranges-at command h = subst (λ (R : Place). HasRanges R.source command) (sym same) h

  pub labels-at : (command : Command) → HasPartLabels label command → HasPartLabels P.label command
  labels-at command h = subst (λ (R : Place). HasPartLabels R.label command) (sym same) h
