-- Lemmas, step by step.
use Rattle.std.proofs.Common.{◌≡◌, ◌<◌, ℕ, ◌+◌, List, [], ◌∷◌, ◌++◌, take, get_or, length, refl, sym, ap, ◌∙◌}
use Rattle.std.specs.Prelude.{Result, Ok, Err, IsErrAnd, IfErr, IfOk, OnOk}
use Rattle.pure_grammar.specs.Theories.TheoryText.{Span, Step}
use Rattle.pure_lookup.specs.Meaning.{facts}
use Rattle.pure_script.specs.declared.theory.Step as code
use Rattle.pure_script.specs.Seen.{seen_step, seen_steps}
use Rattle.pure_text.proofs.LoopLaws.{longer_by}
use Rattle.pure_statements.specs.declared.reason.Reason.{Reason}
use Rattle.pure_statements.specs.declared.reason.Reason.TheVariants.{Duplicate}
use Rattle.pure_statements.specs.declared.reason.Failed.{Failed}
use Rattle.pure_statements.specs.declared.reason.Failed.TheVariants.{Refused, Memory}
use Rattle.pure_statements.specs.declared.stated.Stated.{Stated}
use Rattle.pure_statements.specs.Chain.{Answers, FailsAs, refuses, goes_on, holds, passes}
use Rattle.pure_statements.specs.Statement.{IsStated}
use Rattle.pure_declare.specs.declared.notes.PartOutcome.{PartOutcome}
use Rattle.pure_declare.specs.Notes.{Outcome}
use Rattle.pure_declare.specs.Seen.{seen_outcome}
use Rattle.pure_declare.specs.Fixing.{fixed_again}
use Rattle.pure_declare.specs.Commands.{Place, vocabulary, IsTaken}
use Rattle.pure_declare.specs.Parts.{binding, IsBoundOutcome}
use Rattle.pure_declare.specs.Changes.{IsNewStatement}
use Rattle.pure_declare.proofs.LookupSteps.{passed-on, passed-on_memory}
use Rattle.pure_declare.proofs.TidyDeclared.{stated-again}

-- One copy more.
pub copied-next : (steps copies more : List code.Step) (i : ℕ) (step copy : code.Step) → seen_steps copies ≡ seen_steps (take i steps) → i < length steps → step ≡ get_or steps i step → seen_step copy ≡ seen_step step
    → more ≡ copies ++ copy ∷ [] → seen_steps more ≡ seen_steps (take (i + 1) steps)
copied-next steps copies more i step copy h within is same next =
    rw (next, longer_by steps i step within is)
    (seen-append copies (copy ∷ []) ∙ ap (λ (l : List Step). l ++ seen_step copy ∷ []) h ∙ ap (λ (s : Step). seen_steps (take i steps) ++ s ∷ []) same ∙ sym (seen-append (take i steps) (step ∷ [])))
  where
    seen-append : (xs ys : List code.Step) → seen_steps (xs ++ ys) ≡ seen_steps xs ++ seen_steps ys
    seen-append [] ys = refl
    seen-append (x ∷ xs) ys = ap (λ (l : List Step). seen_step x ∷ l) (seen-append xs ys)

-- What is known where there is an answer.
pub on-known : {A E : Type 0} (r : Result A E) (P : Type 0) → P → OnOk r P
on-known (Ok a) P p = p
on-known (Err e) P p = tt

module _ (P : Place) (n : ℕ) (span : Span) where
  pub statement-taken : IsTaken P facts n → Answers {A = Stated} (IsNewStatement P n span) (Err (Refused Duplicate))
  unfolding IsNewStatement
  statement-taken taken = holds taken refl

  pub statement-passes : (r : Result Stated Failed) → (IsTaken P facts n → ⊥) → Answers (IsStated (vocabulary P) P.source span) r → Answers (IsNewStatement P n span) r
  unfolding IsNewStatement
  statement-passes (Ok s) new h = passes new h
  statement-passes (Err (Refused reason)) new h = passes new h
  statement-passes (Err Memory) new h = tt

  -- Its generalised form tells the statement.
  pub statement-fixed : (r : Result Stated Failed) → Answers (IsStated (vocabulary P) P.source span) r → IfOk r (λ s. fixed_again s.prop ≡ s.fixed)
  statement-fixed (Ok s) h = stated-again (vocabulary P) P.source span s h
  statement-fixed (Err e) h = tt

same-reason : (p q : Reason) → ◌≡◌ {A = Result Stated Reason} (Err p) (Err q) → p ≡ q
same-reason p q e = cc

module _ (P : Place) (n m : ℕ) (span : Span) (script : List Step) where
  pub bound-made : (s : Stated) (d : PartOutcome) → IsNewStatement P n span (Ok s) → seen_outcome d ≡ binding P n m script s → IsBoundOutcome P n m span script (Ok (seen_outcome d))
  unfolding IsNewStatement IsBoundOutcome
  bound-made s d (holds taken e) is = absurd (cc)
  bound-made s d (passes new h) is = passes new (goes_on s h (ap (λ (o : Outcome). Ok o) is))

  new-refused : (reason : Reason) → IsNewStatement P n span (Err reason) → IsBoundOutcome P n m span script (Err reason)
  unfolding IsNewStatement IsBoundOutcome
  new-refused reason (holds taken e) = holds taken (ap (λ (r : Reason). Err r) (same-reason reason Duplicate e))
  new-refused reason (passes new h) = passes new (refuses reason h refl)

  new-fails : (e : Failed) → Answers {A = Stated} (IsNewStatement P n span) (Err e) → FailsAs (IsBoundOutcome P n m span script) e
  new-fails (Refused reason) h = new-refused reason h
  new-fails Memory h = tt

  pub bound-failed : (e : Failed) (r : Result PartOutcome Failed) → Answers {A = Stated} (IsNewStatement P n span) (Err e) → IsErrAnd r (λ x. x ≡ e) → IfErr r (FailsAs (IsBoundOutcome P n m span script))
  bound-failed e r h is = passed-on (IsBoundOutcome P n m span script) e r is (new-fails e h)

  pub bound-memory : (r : Result PartOutcome Failed) → IsErrAnd r (λ x. x ≡ Memory) → IfErr r (FailsAs (IsBoundOutcome P n m span script))
  bound-memory r is = passed-on_memory (IsBoundOutcome P n m span script) r is
