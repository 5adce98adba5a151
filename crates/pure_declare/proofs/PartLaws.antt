-- What a part of a command did, and what it keeps.
use Rattle.std.proofs.Common.{◌≡◌, ◌⊎◌, ℕ, List, [], ◌∷◌, ◌++◌, refl, sym, ◌∙◌, ap, subst, inl, inr}
use Rattle.std.specs.Prelude.{Result, Ok, Err}
use Rattle.pure_text.specs.Lists.{IsIn, Each}
use Rattle.pure_text.proofs.ListLaws.{each-append, in_split}
use Rattle.pure_definitions.specs.Names.{Label}
use Rattle.pure_definitions.specs.Terms.Term.{Term}
use Rattle.pure_definitions.specs.Declarations.Decl.{Decl, PromiseDecl}
use Rattle.pure_grammar.specs.Theories.TheoryText.{Span, Step, Have, Command}
use Rattle.pure_typ.specs.NameTexts.{HasText}
use Rattle.pure_logic.specs.Content.{Content}
use Rattle.pure_lookup.specs.Meaning.{facts, full_text}
use Rattle.pure_lookup.specs.Laws.{IsInSession}
use Rattle.pure_theory.specs.Stage.{with_declarations, with_decl}
use Rattle.pure_print.specs.declared.row.Row.{Row}
use Rattle.pure_statements.specs.declared.reason.Reason.{Reason}
use Rattle.pure_statements.specs.declared.stated.Stated.{Stated}
use Rattle.pure_statements.specs.Chain.{Gives, refuses, goes_on, holds, passes}
use Rattle.pure_statements.specs.Statement.{IsStated}
use Rattle.pure_statements.specs.Rows.{have_text, refused_have}
use Rattle.pure_declare.specs.Notes.{Note, Said, Forked, Fork, Outcome}
use Rattle.pure_declare.specs.Commands.{Place, IsOwnText, IsNameOf, IsTaken, vocabulary}
use Rattle.pure_declare.specs.First as first
use Rattle.pure_declare.specs.Parts.{Part, Whole, Within, End, binding, IsBoundOutcome, IsNameOfHave, IsHaveOutcome, have_outcome, IsPartDeclaredAs, DeclaresPart}
use Rattle.pure_declare.specs.Bound.{IsProvedBy, IsNamedBy, IsBoundIn, PartForksBound}
use Rattle.pure_declare.specs.Grown.{IsGrown, PartsGrow}
use Rattle.pure_declare.specs.Good.{IsGood, PartsGood}
use Rattle.pure_declare.specs.Promised.{PartsPromise, PartForksPromised}
use Rattle.pure_declare.specs.Sessions.{PartsInSession}
use Rattle.pure_declare.specs.Tidy.{IsTidyDecl, IsTidy, IsTidyFork, PartsTidy, PartForksTidy}
use Rattle.pure_declare.proofs.BoundLaws.{stated-of}
use Rattle.pure_declare.proofs.GrownLaws.{same-grown, one-may, grown-by, declares_grown}
use Rattle.pure_declare.proofs.GoodLaws.{promise-good, declares_good}
use Rattle.pure_declare.proofs.PromisedLaws.{session-kept, declares_promises, declares_in_session}
use Rattle.pure_declare.proofs.TidyDeclared.{stated-tidy, tidy-fact, declares_tidy}

-- A statement of a new name is bound as it is stated.
pub record IsBinding (P : Place) (o : Outcome) : Type 0 where
  pub number : ℕ
  pub lemma : ℕ
  pub span : Span
  pub script : List Step
  pub stated : Stated
  pub new : IsTaken P facts number → ⊥
  pub states : IsStated (vocabulary P) P.source span (Ok stated)
  pub is : o ≡ binding P number lemma script stated

given-outcome : (o O : Outcome) → Gives O (Ok o) → o ≡ O
given-outcome o O e = cc

module _ (P : Place) where
  pub bound-binding : (n m : ℕ) (span : Span) (script : List Step) (o : Outcome) → IsBoundOutcome P n m span script (Ok o) → IsBinding P o
  unfolding IsBoundOutcome
  bound-binding n m span script o (holds h e) = absurd (cc)
  bound-binding n m span script o (passes new (refuses reason h e)) = absurd (cc)
  bound-binding n m span script o (passes new (goes_on s h e)) =
      record { number = n; lemma = m; span = span; script = script; stated = s; new = new; states = h; is = given-outcome o (binding P n m script s) e }

  pub bound-script : (n m : ℕ) (span : Span) (script : List Step) (o : Outcome) (h : IsBoundOutcome P n m span script (Ok o)) → (bound-binding n m span script o h).script ≡ script
  unfolding IsBoundOutcome bound-binding
  bound-script n m span script o (holds h e) = absurd (cc)
  bound-script n m span script o (passes new (refuses reason h e)) = absurd (cc)
  bound-script n m span script o (passes new (goes_on s h e)) = refl

  pub bound-number : (n m : ℕ) (span : Span) (script : List Step) (o : Outcome) (h : IsBoundOutcome P n m span script (Ok o)) → (bound-binding n m span script o h).number ≡ n
  unfolding IsBoundOutcome bound-binding
  bound-number n m span script o (holds h e) = absurd (cc)
  bound-number n m span script o (passes new (refuses reason h e)) = absurd (cc)
  bound-number n m span script o (passes new (goes_on s h e)) = refl

  pub bound-span : (n m : ℕ) (span : Span) (script : List Step) (o : Outcome) (h : IsBoundOutcome P n m span script (Ok o)) → (bound-binding n m span script o h).span ≡ span
  unfolding IsBoundOutcome bound-binding
  bound-span n m span script o (holds h e) = absurd (cc)
  bound-span n m span script o (passes new (refuses reason h e)) = absurd (cc)
  bound-span n m span script o (passes new (goes_on s h e)) = refl

  pub bound-lemma_name : (n m : ℕ) (span : Span) (script : List Step) (o : Outcome) (h : IsBoundOutcome P n m span script (Ok o)) → (bound-binding n m span script o h).lemma ≡ m
  unfolding IsBoundOutcome bound-binding
  bound-lemma_name n m span script o (holds h e) = absurd (cc)
  bound-lemma_name n m span script o (passes new (refuses reason h e)) = absurd (cc)
  bound-lemma_name n m span script o (passes new (goes_on s h e)) = refl

  -- What is told of the names is told of those of the binding.
  pub bound-names : (Is : ℕ → ℕ → Type 0) (n m : ℕ) (span : Span) (script : List Step) (o : Outcome) (h : IsBoundOutcome P n m span script (Ok o)) → Is n m → Is (bound-binding n m span script o h).number (bound-binding n m span script o h).lemma
  unfolding IsBoundOutcome bound-binding
  bound-names Is n m span script o (holds h e) is = absurd (cc)
  bound-names Is n m span script o (passes new (refuses reason h e)) is = absurd (cc)
  bound-names Is n m span script o (passes new (goes_on s h e)) is = is

-- The numbers are those of the names that the part binds: its own and its lemma's.
abbrev pub AreNames : (texts : List (List ℕ)) → (theory : List ℕ) → Part → (number lemma : ℕ) → Type 0
AreNames texts theory (Whole command) n m = ⊥
AreNames texts theory (Within lemma have) n m = HasText texts n (have_text theory lemma have.name) × HasText texts m (full_text theory lemma)
AreNames texts theory (End lemma prop script) n m = HasText texts n (full_text theory lemma) × (m ≡ n)

-- A part leaves what its command does, or binds, or is refused.
pub data IsPartDone (texts : List (List ℕ)) (source : List ℕ) (label : Label) (Q : Content) (part : Part) (note : Note) (next : Content) : Type 0 where
  by_command : (command : Command) → first.Declares texts source label Q command note next → (row : Row) → note ≡ Said row → IsPartDone texts source label Q part note next
  by_binding : (theory : List ℕ) → IsOwnText texts Q theory → (b : IsBinding (record { texts = texts; source = source; label = label; theory = theory; content = Q }) (record { note = note; next = next })) → IsProvedBy part b.script
      → AreNames texts theory part b.number b.lemma → IsPartDone texts source label Q part note next
  by_refusal : (row : Row) → note ≡ Said row → next ≡ Q → IsPartDone texts source label Q part note next

module _ (texts : List (List ℕ)) (source : List ℕ) (label : Label) (Q : Content) (note : Note) (next : Content) where
  abbrev place : List ℕ → Place
  place theory = record { texts = texts; source = source; label = label; theory = theory; content = Q }

  abbrev outcome : Outcome
  outcome = record { note = note; next = next }

  have-done : (theory lemma : List ℕ) → IsOwnText texts Q theory → (have : Have) (answer : Result Outcome Reason) → IsHaveOutcome (place theory) lemma have answer → outcome ≡ have_outcome (place theory) lemma have answer
      → IsPartDone texts source label Q (Within lemma have) note next
  have-done theory lemma own have (Ok p) (n, m, is, its, h) e =
      let here : IsBoundOutcome (place theory) n m have.prop have.script (Ok outcome) = subst (λ (q : Outcome). IsBoundOutcome (place theory) n m have.prop have.script (Ok q)) (sym e) h in
      by_binding theory own (bound-binding (place theory) n m have.prop have.script outcome here) (bound-script (place theory) n m have.prop have.script outcome here)
      (bound-names (place theory) (AreNames texts theory (Within lemma have)) n m have.prop have.script outcome here (is, its))
  have-done theory lemma own have (Err reason) h e =
      by_refusal (refused_have texts source theory lemma have.name reason) (ap (λ (q : Outcome). q.note) e) (ap (λ (q : Outcome). q.next) e)

  pub part-done : (part : Part) → DeclaresPart texts source label Q part note next → IsPartDone texts source label Q part note next
  part-done (Whole command) h = by_command command (record { theory = h.theory; own = h.own; declares = h.declares.0 }) h.declares.1.0 h.declares.1.1
  part-done (Within lemma have) h = have-done h.theory lemma h.own have h.declares.answer h.declares.is h.declares.comes
  part-done (End lemma prop script) h =
      let n = h.declares.0 in
      let bound = h.declares.2 in
      by_binding h.theory h.own (bound-binding (place h.theory) n n prop script outcome bound) (bound-script (place h.theory) n n prop script outcome bound)
      (bound-names (place h.theory) (AreNames texts h.theory (End lemma prop script)) n n prop script outcome bound (h.declares.1, refl))

  -- the fork of what is bound
  abbrev pub fork_of : (theory : List ℕ) → IsBinding (place theory) outcome → Fork
  fork_of theory b = record { label = label; name = b.number; lemma = b.lemma; content = Q; fixed = b.stated.fixed; prop = b.stated.prop; script = b.script }

  pub fork-same : (theory : List ℕ) (b : IsBinding (place theory) outcome) (f : Fork) → note ≡ Forked f → fork_of theory b ≡ f
  fork-same theory b f is = let both : Forked (fork_of theory b) ≡ Forked f = sym (ap (λ (q : Outcome). q.note) b.is) ∙ is in cc

  pub no-fork : (row : Row) (f : Fork) → note ≡ Said row → note ≡ Forked f → ⊥
  no-fork row f said is = let none : Said row ≡ Forked f = sym said ∙ is in absurd (cc)

  pub next-bound : (theory : List ℕ) (b : IsBinding (place theory) outcome) → next ≡ with_decl Q (PromiseDecl b.number label b.stated.prop)
  next-bound theory b = ap (λ (q : Outcome). q.next) b.is

pub parts_grow : PartsGrow
parts_grow texts source label Q part note next s content above labels h = grows (part-done texts source label Q note next part h)
  where
    grows : IsPartDone texts source label Q part note next → IsGrown label Q next
    grows (by_command command d row e) = declares_grown texts source label Q command note next s content above labels d
    grows (by_binding theory own b p names) =
        let d : Decl = PromiseDecl b.number label b.stated.prop in
        grown-by label Q above labels (d ∷ []) (one-may Q.declarations label d refl) next (next-bound texts source label Q note next theory b)
    grows (by_refusal row e same) = subst (λ (R : Content). IsGrown label Q R) (sym same) (same-grown label Q above labels)

pub parts_in_session : PartsInSession
parts_in_session texts source label Q part note next s h = stays (part-done texts source label Q note next part h)
  where
    stays : IsPartDone texts source label Q part note next → IsInSession texts next
    stays (by_command command d row e) = declares_in_session texts source label Q command note next s d
    stays (by_binding theory own b p names) = subst (IsInSession texts) (sym (next-bound texts source label Q note next theory b)) (session-kept texts Q (Q.declarations ++ PromiseDecl b.number label b.stated.prop ∷ []) s)
    stays (by_refusal row e same) = subst (IsInSession texts) (sym same) s

pub parts_good : PartsGood
parts_good texts source label Q part note next s g labels h = stays (part-done texts source label Q note next part h)
  where
    stays : IsPartDone texts source label Q part note next → IsGood next
    stays (by_command command d row e) = declares_good texts source label Q command note next s g labels d
    stays (by_binding theory own b p names) = subst IsGood (sym (next-bound texts source label Q note next theory b)) (promise-good (place texts source label Q note next theory) s g labels b.number b.span b.stated b.new b.states)
    stays (by_refusal row e same) = subst IsGood (sym same) g

pub parts_tidy : PartsTidy
parts_tidy texts source label Q part note next tidy h = stays (part-done texts source label Q note next part h)
  where
    stays : IsPartDone texts source label Q part note next → IsTidy next
    stays (by_command command d row e) = declares_tidy texts source label Q command note next tidy d
    stays (by_binding theory own b p names) =
        let fact = tidy-fact b.stated (stated-tidy (vocabulary (place texts source label Q note next theory)) source b.span b.stated b.states) in
        subst IsTidy (sym (next-bound texts source label Q note next theory b)) (each-append IsTidyDecl Q.declarations (PromiseDecl b.number label b.stated.prop ∷ []) tidy (fact, tt))
    stays (by_refusal row e same) = subst IsTidy (sym same) tidy

pub part_forks_tidy : PartForksTidy
part_forks_tidy texts source label Q part f next h = tidy (part-done texts source label Q (Forked f) next part h)
  where
    tidy : IsPartDone texts source label Q part (Forked f) next → IsTidyFork f
    tidy (by_command command d row e) = absurd (no-fork texts source label Q (Forked f) next row f e refl)
    tidy (by_binding theory own b p names) =
        let s = stated-tidy (vocabulary (place texts source label Q (Forked f) next theory)) source b.span b.stated b.states in
        subst IsTidyFork (fork-same texts source label Q (Forked f) next theory b f refl) (record { normal = s.term.normal; closed = s.term.closed; fixed = s.term.fixed; prop = s.prop })
    tidy (by_refusal row e same) = absurd (no-fork texts source label Q (Forked f) next row f e refl)

pub part_forks_promised : PartForksPromised
part_forks_promised texts source label Q part f next h = promised (part-done texts source label Q (Forked f) next part h)
  where
    promised : IsPartDone texts source label Q part (Forked f) next → next ≡ with_decl Q (PromiseDecl f.name f.label f.prop)
    promised (by_command command d row e) = absurd (no-fork texts source label Q (Forked f) next row f e refl)
    promised (by_binding theory own b p names) =
        next-bound texts source label Q (Forked f) next theory b
        ∙ ap (λ (g : Fork). with_decl Q (PromiseDecl g.name g.label g.prop)) (fork-same texts source label Q (Forked f) next theory b f refl)
    promised (by_refusal row e same) = absurd (no-fork texts source label Q (Forked f) next row f e refl)

pub part_forks_bound : PartForksBound
part_forks_bound texts source label Q part f next session sound h = bound (part-done texts source label Q (Forked f) next part h)
  where
    named : (theory : List ℕ) (p : Part) (g : Fork) → AreNames texts theory p g.name g.lemma → IsNamedBy texts theory p g
    named theory (Whole command) g is = is
    named theory (Within lemma have) g is = is
    named theory (End lemma prop script) g is = is

    bound : IsPartDone texts source label Q part (Forked f) next → IsBoundIn texts label Q part f
    bound (by_command command d row e) = absurd (no-fork texts source label Q (Forked f) next row f e refl)
    bound (by_binding theory own b p names) = subst (IsBoundIn texts label Q part) (fork-same texts source label Q (Forked f) next theory b f refl) (record {
      theory = theory;
      own = own;
      named = named theory part (fork_of texts source label Q (Forked f) next theory b) names;
      label_is = refl;
      content_is = refl;
      proposition = (stated-of (place texts source label Q (Forked f) next theory) session sound source b.span b.stated b.states).proposition;
      proof = p;
    })
    bound (by_refusal row e same) = absurd (no-fork texts source label Q (Forked f) next row f e refl)

module _ (texts : List (List ℕ)) (source : List ℕ) (label : Label) (Q : Content) (note : Note) (next : Content) (x : ℕ) (l : Label) (A : Term) where
  -- The promise stood before, or is the fork's.
  abbrev ComesFrom : Type 0
  ComesFrom = IsIn (PromiseDecl x l A) Q.declarations ⊎ ((f : Fork) × (note ≡ Forked f) × (f.name ≡ x) × (f.label ≡ l) × (f.prop ≡ A))

  same-name : (y : ℕ) (k : Label) (B : Term) → PromiseDecl x l A ≡ PromiseDecl y k B → y ≡ x
  same-name y k B e = cc

  same-label : (y : ℕ) (k : Label) (B : Term) → PromiseDecl x l A ≡ PromiseDecl y k B → k ≡ l
  same-label y k B e = cc

  same-prop : (y : ℕ) (k : Label) (B : Term) → PromiseDecl x l A ≡ PromiseDecl y k B → B ≡ A
  same-prop y k B e = cc

  new-one : (theory : List ℕ) (b : IsBinding (place texts source label Q note next theory) (outcome texts source label Q note next)) → IsIn (PromiseDecl x l A) (PromiseDecl b.number label b.stated.prop ∷ []) → ComesFrom
  new-one theory b (inl same) = inr (
    fork_of texts source label Q note next theory b,
    ap (λ (q : Outcome). q.note) b.is,
    same-name b.number label b.stated.prop same,
    same-label b.number label b.stated.prop same,
    same-prop b.number label b.stated.prop same,
  )
  new-one theory b (inr none) = absurd none

  forked-none : (row : Row) → note ≡ Said row → IsIn (PromiseDecl x l A) Q.declarations ⊎ ((f : Fork) × (note ≡ Forked f) × (f.label ≡ l) × (f.prop ≡ A)) → ComesFrom
  forked-none row e (inl old) = inl old
  forked-none row e (inr (f, is, at, prop)) = absurd (no-fork texts source label Q note next row f e is)

  promise-comes : (part : Part) → IsPartDone texts source label Q part note next → IsIn (PromiseDecl x l A) next.declarations → ComesFrom
  promise-comes part (by_command command d row e) m = forked-none row e (declares_promises texts source label Q command note next d x l A m)
  promise-comes part (by_binding theory own b p names) m =
      let here : IsIn (PromiseDecl x l A) (Q.declarations ++ PromiseDecl b.number label b.stated.prop ∷ []) =
      subst (λ (R : Content). IsIn (PromiseDecl x l A) R.declarations) (next-bound texts source label Q note next theory b) m in
      elim (in_split (PromiseDecl x l A) Q.declarations (PromiseDecl b.number label b.stated.prop ∷ []) here) [ inl old ↦ inl old | inr new ↦ new-one theory b new ]
  promise-comes part (by_refusal row e same) m = inl (subst (λ (R : Content). IsIn (PromiseDecl x l A) R.declarations) same m)

pub parts_promise : PartsPromise
parts_promise texts source label Q part note next h x l A m = promise-comes texts source label Q note next x l A part (part-done texts source label Q note next part h) m
