-- Where no command has haves each promise has the name of a theory's lemma, and so none is local to a lemma.
use Rattle.std.proofs.Common.{◌≡◌, ℕ, List, [], ◌∷◌, ◌++◌, map, length, append_assoc, length-append, refl, sym, ◌∙◌, ap, subst, inl, inr, arith}
use Rattle.pure_text.specs.Lists.{IsIn, Each}
use Rattle.pure_text.proofs.ListLaws.{each_at, any_some, in-append_right}
use Rattle.pure_definitions.specs.Names.{Label}
use Rattle.pure_definitions.specs.Terms.Term.{Term}
use Rattle.pure_definitions.specs.Declarations.Decl.{PromiseDecl}
use Rattle.pure_typ.specs.NameTexts.{HasText}
use Rattle.pure_logic.specs.Content.{Content}
use Rattle.pure_logic.proofs.AncestorLaws.{theories-in}
use Rattle.pure_logic.proofs.MergeLaws.{merge_has_declarations}
use Rattle.pure_lookup.specs.Meaning.{full_text}
use Rattle.pure_lookup.specs.LookUps.{IsLocal}
use Rattle.pure_lookup.proofs.TextLemmas.{one_cut}
use Rattle.pure_grammar.specs.Theories.TheoryText.{Have, Command, Class, TypeDecl, Arity, Const, Axiom, Definition, Lemma}
use Rattle.pure_graph.specs.Order.{Loaded}
use Rattle.pure_loading_laws.specs.Plain.{HasNoDot, HasPlainNames}
use Rattle.pure_table.specs.Declare.Notes.{Note, Fork, Forked}
use Rattle.pure_table.specs.Declare.Commands.{Place}
use Rattle.pure_table.specs.Declare.Parts.{Part, Whole, Within, End}
use Rattle.pure_table.specs.Declare.Fold.{HasParts, AreParts, Declares}
use Rattle.pure_table.specs.Declare.Plain.{IsPlain}
use Rattle.pure_table.specs.Declare.Bound.{IsNamedBy}
use Rattle.pure_table.proofs.Declare.ChainLaws.{commands_keep}
use Rattle.pure_table.specs.SessionLaws.Loaded.{IsLoadedSession}
use Rattle.pure_table.proofs.SessionLaws.FollowingLaws.{at-in}
use Rattle.pure_table.specs.SessionMeaning.Verdicts.{Verdict, Begins, beginning_over}
use Rattle.pure_table.specs.SessionMeaning.Statements.{IsRun}
use Rattle.pure_table.specs.SessionMeaning.Steps.{command_label}
use Rattle.pure_table.specs.SessionMeaning.Kept.{IsKept}
use Rattle.pure_table.specs.SessionMeaning.Laws.{IsSomeFork}
use Rattle.pure_table.proofs.SessionMeaning.TextLaws.{one_text}
use Rattle.pure_table.proofs.SessionMeaning.StepLaws.{run_goes_on}
use Rattle.pure_table.proofs.SessionMeaning.KeptLaws.{run-has}
use Rattle.pure_table.proofs.SessionMeaning.OrderlyLaws.{no_promise-in_pure, classes-above, run-ordered}
use Rattle.pure_table.proofs.SessionMeaning.NoteLaws.{run-fork}
use Rattle.pure_table.proofs.SessionMeaning.ForkLaws.{IsLeft, fork-left, left-ordered, left-bound}
use Rattle.pure_table_laws.specs.WithoutHaves.{IsFirstTheory, HasTwoParts, HasPlainPromises, PromisesHaveTwoParts}

-- A name of three parts isn't one of two.
three_parts : (theory lemma base other part : List ℕ) → HasNoDot theory → HasNoDot other → HasNoDot part → full_text (full_text theory lemma) base ≡ full_text other part → ⊥
three_parts theory lemma base other part clean apart plain e =
    let cut = one_cut theory other (full_text lemma base) part clean apart (sym (append_assoc theory (46 ∷ lemma) (46 ∷ base)) ∙ e) in
    plain (subst (λ (t : List ℕ). IsIn 46 t) cut.1 (in-append_right 46 lemma (46 ∷ base) (inl refl)))

-- ---- a command without haves has one part

-- The part is a command as a whole, or the own end of a lemma whose name has no dot.
abbrev IsPlainPart : Part → Type 0
IsPlainPart (Whole command) = Unit {0}
IsPlainPart (Within lemma have) = ⊥
IsPlainPart (End lemma prop script) = HasNoDot lemma

-- There is one part, which is such a one.
record IsOne (parts : List Part) : Type 0 where
  part : Part
  alone : parts ≡ part ∷ []
  plain : IsPlainPart part

whole-one : (command : Command) (parts : List Part) → parts ≡ Whole command ∷ [] → IsOne parts
whole-one command parts e = record { part = Whole command; alone = e; plain = tt }

command-one : (P : Place) (command : Command) (parts : List Part) → IsPlain command → HasPlainNames command → HasParts P command parts → IsOne parts
command-one P (Class x above) parts plain names h = whole-one (Class x above) parts h
command-one P (TypeDecl x params) parts plain names h = whole-one (TypeDecl x params) parts h
command-one P (Arity con domains class) parts plain names h = whole-one (Arity con domains class) parts h
command-one P (Const x typ) parts plain names h = whole-one (Const x typ) parts h
command-one P (Axiom x prop) parts plain names h = whole-one (Axiom x prop) parts h
command-one P (Definition x typ prop) parts plain names h = whole-one (Definition x typ prop) parts h
command-one P (Lemma x span haves script) parts plain names (inl h) =
    record { part = End x span script; alone = h.1 ∙ ap (λ (hs : List Have). map (Within x) hs ++ End x span script ∷ []) plain; plain = names.0 }
command-one P (Lemma x span haves script) parts plain names (inr h) = whole-one (Lemma x span haves script) parts h

cut-alone : (passed ahead : List Part) (part only : Part) → passed ++ part ∷ ahead ≡ only ∷ [] → (passed ≡ []) × (part ≡ only)
cut-alone [] ahead part only e = (refl, cc)
cut-alone (p ∷ ps) ahead part only e = absurd (omega (arith, ap length e, length-append ps (part ∷ ahead)))

none-passed : (texts : List (List ℕ)) (source : List ℕ) (label : Label) (Q R : Content) (passed : List Part) (notes : List Note) → passed ≡ [] → AreParts texts source label 0 Q passed notes R → R ≡ Q
none-passed texts source label Q R [] notes e h = h.1
none-passed texts source label Q R (p ∷ ps) notes e h = absurd (cc)

module _ (texts : List (List ℕ)) (theories : List Loaded) (session : IsLoadedSession texts theories) (all : Each IsFirstTheory theories) where
  run-first : (index : ℕ) (notes : List Note) (now : Content) (left : List Command) (run : IsRun texts theories index notes now left) → IsFirstTheory run.theory
  run-first index notes now left run = each_at IsFirstTheory theories all run.theory (at-in theories run.is_at.0 run.theory run.is_at.2)

  next-one : (index : ℕ) (notes : List Note) (now : Content) (command : Command) (left : List Command) → IsRun texts theories index notes now (command ∷ left)
      → (P : Place) (parts : List Part) → HasParts P command parts → IsOne parts
  next-one index notes now command left run P parts h =
      let theory = run-first index notes now (command ∷ left) run in
      let commands : List Command = run.theory.text.commands in
      let among : IsIn command commands = subst (λ (cs : List Command). IsIn command cs) (sym run.commands) (in-append_right command run.done (command ∷ left) (inl refl)) in
      command-one P command parts (each_at IsPlain commands theory.without command among) (each_at HasPlainNames commands theory.plain.commands command among) h

  -- ---- the names of lemmas

  -- The fork is a lemma, whose name has two parts.
  record IsOfLemma (f : Fork) : Type 0 where
    pub parts : HasTwoParts texts f.name
    pub lemma : f.lemma ≡ f.name

  named-so : (theory : List ℕ) (f : Fork) (part : Part) → IsPlainPart part → HasNoDot theory → IsNamedBy texts theory part f → IsOfLemma f
  named-so theory f (Whole command) plain clean is = absurd is
  named-so theory f (Within lemma have) plain clean is = absurd plain
  named-so theory f (End lemma prop script) plain clean is =
      record { parts = record { theory = theory; base = lemma; plain_theory = clean; plain_base = plain; full = is.0 }; lemma = is.1 }

  module _ (index : ℕ) (notes : List Note) (f : Fork) (left : IsLeft texts theories index notes f) where
    left-one : IsOne (left.amid.passed ++ left.part ∷ left.amid.ahead)
    left-one = next-one index left.whole left.before left.command left.left left.run _ (left.amid.passed ++ left.part ∷ left.amid.ahead) left.amid.has

    left-cut : (left.amid.passed ≡ []) × (left.part ≡ left-one.part)
    left-cut = cut-alone left.amid.passed left.amid.ahead left.part left-one.part left-one.alone

    left-of_lemma : IsOfLemma f
    left-of_lemma =
        let bound = left-bound texts theories session index notes f left in
        let order = left-ordered texts theories session index notes f left in
        let among = theories-in bound.own.own left.now (inl bound.own.is_own) in
        let clean : HasNoDot bound.theory = (order.orderly.in_session.theories bound.own.own bound.theory among bound.own.text).0 in
        named-so bound.theory f left-one.part left-one.plain clean (subst (λ (p : Part). IsNamedBy texts bound.theory p f) left-cut.1 bound.named)

    left-content : f.content ≡ left.before
    left-content =
        (left-bound texts theories session index notes f left).content_is
        ∙ none-passed texts left.run.theory.source (command_label index (length left.run.done)) left.before left.now left.amid.passed left.inner left-cut.0 left.amid.are

  fork-of_lemma : (f : Fork) → IsSomeFork texts theories f → IsOfLemma f
  fork-of_lemma f (index, others, is) = left-of_lemma index is.notes f (fork-left texts theories index others f is)

  -- ---- the names of promises

  begun-plain : (index : ℕ) (theory : Loaded) (parents : List Verdict) (first : Content) (b : Begins texts index theory parents first) → Each (HasPlainPromises texts) (beginning_over b.contents) → HasPlainPromises texts first
  begun-plain index theory parents first b h x l A m =
      let over = beginning_over b.contents in
      let P = any_some (λ (P : Content). IsIn (PromiseDecl x l A) P.declarations) over ((merge_has_declarations over first.declarations b.begins.merge (PromiseDecl x l A)).0 m) in
      each_at (HasPlainPromises texts) over h P.0 P.1 x l A P.2

  declared-plain : (index : ℕ) (notes : List Note) (now : Content) (command : Command) (left : List Command) (run : IsRun texts theories index notes now (command ∷ left)) (more : List Note) (next : Content)
      → Declares texts run.theory.source (command_label index (length run.done)) now command more next → HasPlainPromises texts now → HasPlainPromises texts next
  declared-plain index notes now command left run more next d h x l A m =
      let order = run-ordered texts theories session index notes now (command ∷ left) run in
      let goes = run_goes_on texts theories index run.theory run.is_at notes now command left run more next d in
      let label : Label = command_label index (length run.done) in
      let kept = commands_keep texts run.theory.source label now command more next order.orderly.in_session order.orderly.good (classes-above now order.orderly.good.sound) order.labels d in
      elim (kept.promises x l A m) [
        | inl old ↦ h x l A old
        | inr new ↦ (let some = run-fork texts theories index (notes ++ more) next left goes new.0 (in-append_right (Forked new.0) notes more new.1) in
            subst (λ (n : ℕ). HasTwoParts texts n) new.2 (fork-of_lemma new.0 some).parts)
      ]

  promises-kept : IsKept texts theories (λ label Q. HasPlainPromises texts Q)
  promises-kept = record {
    pure = λ label x l A m. absurd (no_promise-in_pure x l A m);
    later = λ label other Q before h. h;
    begins = λ index theory is_at parents closed first b h. begun-plain index theory parents first b h;
    declares = λ index notes now command left run more next d h. declared-plain index notes now command left run more next d h;
  }

  fork-plain : (f : Fork) → IsSomeFork texts theories f → HasPlainPromises texts f.content
  fork-plain f (index, others, is) =
      let left = fork-left texts theories index others f is in
      subst (λ (Q : Content). HasPlainPromises texts Q) (sym (left-content index is.notes f left))
      (run-has texts theories session (λ label Q. HasPlainPromises texts Q) promises-kept index left.whole left.before (left.command ∷ left.left) left.run)

  -- A promise that is local to a lemma would have a name of three parts.
  pub none-local : (f : Fork) → IsSomeFork texts theories f → (written : List ℕ) (n : ℕ) (l : Label) (A : Term) → ¬ IsLocal texts f.content f.lemma written n l A
  none-local f some written n l A is =
      let of = fork-of_lemma f some in
      let lemma : HasText texts f.name is.text = subst (λ (m : ℕ). HasText texts m is.text) of.lemma is.lemma_text in
      let text : is.text ≡ full_text of.parts.theory of.parts.base = one_text texts f.name is.text (full_text of.parts.theory of.parts.base) lemma of.parts.full in
      let two = fork-plain f some n l A is.promised in
      let same : full_text is.text written ≡ full_text two.theory two.base = one_text texts n (full_text is.text written) (full_text two.theory two.base) is.full two.full in
      three_parts of.parts.theory of.parts.base written two.theory two.base of.parts.plain_theory two.plain_theory two.plain_base
      (ap (λ (t : List ℕ). full_text t written) (sym text) ∙ same)

pub promises_have_two_parts : PromisesHaveTwoParts
promises_have_two_parts texts theories session all f some = fork-plain texts theories session all f some
