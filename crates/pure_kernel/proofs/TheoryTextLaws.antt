-- Texts over a theory.
use Rattle.std.proofs.Common.{◌≡◌, ◌<◌, ℕ, List, length, sym, subst, inl, inr}
use Rattle.std.specs.Prelude.{Result, Ok, Err, IsErrAnd}
use Rattle.std.proofs.lemmas.Bool.{cases_lt}
use Rattle.pure_definitions.specs.Types.Typ.{Typ, prop}
use Rattle.pure_definitions.specs.Declarations.Certified.{IsCertifiedTyp}
use Rattle.pure_grammar.specs.Theories.TheoryText.{Span}
use Rattle.pure_logic.specs.Content.{Content}
use Rattle.pure_logic.proofs.ConnectiveLaws.{prop-certified}
use Rattle.pure_lookup.specs.Laws.{IsInSession}
use Rattle.pure_elab.specs.Vocabulary.{Vocabulary}
use Rattle.pure_elab.specs.Sound.{IsSoundVocabulary}
use Rattle.pure_elab.specs.Found.{vocabulary_of}
use Rattle.pure_statements.specs.declared.reason.Reason.{Reason}
use Rattle.pure_statements.specs.declared.reason.Failed.{Failed}
use Rattle.pure_statements.specs.declared.reason.Failed.TheVariants as failed
use Rattle.pure_statements.specs.Chain.{Answers}
use Rattle.pure_declare.specs.Theory.Stage.{IsSound}
use Rattle.pure_declare.specs.Named.{Named}
use Rattle.pure_declare.proofs.QuotedLaws.{sound-vocabulary}
use Rattle.pure_kernel.specs.declared.theory_text.TextFault.{TextFault}
use Rattle.pure_kernel.specs.TheoryText.{whole, text_fault, IsTooLong, IsTextAnswer}

pub short : (text : List ℕ) → ¬ IsTooLong text → length text < 4294967296
short text h = elim (cases_lt (length text) 4294967296) [ inl less ↦ less | inr past ↦ absurd (h past) ]

-- A refusal by a step of a command is one of the text.
pub refused : {A : Type 0} (MayLookUp : Type 0) (text : List ℕ) (Says : Result A Reason → Type 0) (why : Failed) (r : Result A TextFault) → Answers Says (Err why) → IsErrAnd r (λ fault. fault ≡ text_fault why) → IsTextAnswer MayLookUp text Says r
refused MayLookUp text Says why (Ok a) h is = absurd is
refused MayLookUp text Says (failed.Refused reason) (Err fault) h is = subst (λ (f : TextFault). IsTextAnswer MayLookUp text Says (Err f)) (sym is) (inr h)
refused MayLookUp text Says failed.Memory (Err fault) h is = subst (λ (f : TextFault). IsTextAnswer MayLookUp text Says (Err f)) (sym is) tt

-- A fault that is handed on as it is.
pub handed : {A : Type 0} (MayLookUp : Type 0) (text : List ℕ) (Says : Result A Reason → Type 0) (why : TextFault) (r : Result A TextFault) → IsTextAnswer MayLookUp text Says (Err why) → IsErrAnd r (λ fault. fault ≡ why) → IsTextAnswer MayLookUp text Says r
handed MayLookUp text Says why (Ok a) h is = absurd is
handed MayLookUp text Says why (Err fault) h is = subst (λ (f : TextFault). IsTextAnswer MayLookUp text Says (Err f)) (sym is) h

pub certified-prop : (Q : Content) → IsSound Q → (T : Typ) → T ≡ prop → IsCertifiedTyp Q.declarations T
certified-prop Q s T is = subst (IsCertifiedTyp Q.declarations) (sym is) (prop-certified Q s.above_pure)

-- A theory with names, and the range of a whole text.
module _ (texts : List (List ℕ)) (Q : Content) (n : Named) (here : n ≡ record { texts = texts; content = Q }) where
  pub said : {A : Type 0} (text : List ℕ) (range : Span) → range ≡ whole text → (Says : Vocabulary → Span → Result A Reason → Type 0) (r : Result A Failed) → Answers (Says (vocabulary_of n.texts n.content) range) r → Answers (Says (vocabulary_of texts Q) (whole text)) r
  said text range is Says r h =
      subst (λ (m : Named). Answers (Says (vocabulary_of m.texts m.content) (whole text)) r) here
      (subst (λ (s : Span). Answers (Says (vocabulary_of n.texts n.content) s) r) is h)

  pub sound-here : IsInSession texts Q → IsSound Q → IsSoundVocabulary Q.declarations (vocabulary_of n.texts n.content)
  sound-here session s = subst (λ (m : Named). IsSoundVocabulary Q.declarations (vocabulary_of m.texts m.content)) (sym here) (sound-vocabulary texts Q session s)
