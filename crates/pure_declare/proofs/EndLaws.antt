-- A lemma's own end, and the lemmas of forks.
use Rattle.std.proofs.Common.{◌≡◌, ◌⊎◌, ℕ, ◌+◌, suc, List, [], ◌∷◌, ◌++◌, map, length, append-nil, append_assoc, refl, sym, ◌∙◌, ap, subst, inl, inr, arith}
use Rattle.std.specs.Prelude.{Result, Ok, Err}
use Rattle.pure_text.specs.Lists.{IsIn}
use Rattle.pure_text.proofs.ListLaws.{in_split, in-append_left, in-append_right}
use Rattle.pure_definitions.specs.Names.{Label}
use Rattle.pure_definitions.specs.Terms.Term.{Term}
use Rattle.pure_definitions.specs.Declarations.Decl.{Decl, AxiomDecl, PromiseDecl, algebra_of}
use Rattle.pure_order.specs.OrderTables.Classes.{IsAntisymmetric}
use Rattle.pure_grammar.specs.Theories.TheoryText.{Span, Step, Have, Command, Class as ClassOf, TypeDecl, Arity as ArityOf, Const, Axiom, Definition, Lemma}
use Rattle.pure_typ.specs.NameTexts.{HasText, AreSessionTexts}
use Rattle.pure_logic.specs.Content.{Content, IsBelow}
use Rattle.pure_lookup.specs.Meaning.{facts, IsDeclaredIn, full_text}
use Rattle.pure_lookup.specs.Laws.{IsInSession}
use Rattle.pure_lookup.proofs.TextLemmas.{one_name}
use Rattle.pure_theory.specs.Stage.{with_declarations, with_decl}
use Rattle.pure_print.specs.declared.row.Row.{Row}
use Rattle.pure_elab.specs.Vocabulary.{Vocabulary}
use Rattle.pure_statements.specs.declared.reason.Reason.{Reason}
use Rattle.pure_statements.specs.declared.stated.Stated.{Stated}
use Rattle.pure_statements.specs.Statement.{IsStated}
use Rattle.pure_statements.specs.Rows.{refused_row}
use Rattle.pure_declare.specs.Notes.{Note, Said, Forked, Fork, Outcome}
use Rattle.pure_declare.specs.Commands.{Place, IsOwnText, IsTaken, vocabulary, IsOutcome, IsLemmaOutcome}
use Rattle.pure_declare.specs.First as first
use Rattle.pure_declare.specs.First.{outcome_of}
use Rattle.pure_declare.specs.Parts.{Part, Whole, Within, End, binding, IsBoundOutcome, IsHaveOutcome, have_outcome, DeclaresPart}
use Rattle.pure_declare.specs.Fold.{Stands, HasParts, part_label, AreParts, Declares, AreDeclared}
use Rattle.pure_declare.specs.Good.{IsGood}
use Rattle.pure_declare.specs.Ends.{promises_of, IsOwnEnd, LemmasEnd, LemmasRefused, OneCommandOfLemma}
use Rattle.pure_declare.proofs.DoneLaws.{outcome_with, IsChanged, a_class, a_typ, an_arity, a_const, an_axiom, a_definition, IsDone, changes, binds, is_refused, declared-done}
use Rattle.pure_declare.proofs.OnceSteps.{stated-once}
use Rattle.pure_declare.proofs.OnceLaws.{own-once, outcome-once, declares_once}
use Rattle.pure_declare.proofs.PlainLaws.{lemma-bound, one-part, whole-first}
use Rattle.pure_declare.proofs.PartLaws.{IsBinding, bound-binding, bound-number, bound-lemma_name, bound-span, bound-script, IsPartDone, by_command, by_binding, by_refusal, part-done, fork_of, fork-same, no-fork, next-bound}
use Rattle.pure_declare.proofs.PartOnceLaws.{no-whole}
use Rattle.pure_declare.proofs.HaveLaws.{IsBehind, behind-none, behind-next}

ok-stated : (s t : Stated) → ◌≡◌ {A = Result Stated Reason} (Ok s) (Ok t) → s ≡ t
ok-stated s t e = cc

-- A have adds its promise, or nothing.
module _ (texts : List (List ℕ)) (source : List ℕ) (label : Label) (R : Content) (x : List ℕ) (have : Have) (note : Note) (next : Content) where
  answer-adds : (theory : List ℕ) (answer : Result Outcome Reason) → IsHaveOutcome (record { texts = texts; source = source; label = label; theory = theory; content = R }) x have answer
      → outcome_with note next ≡ have_outcome (record { texts = texts; source = source; label = label; theory = theory; content = R }) x have answer → next ≡ with_declarations R (R.declarations ++ promises_of (note ∷ []))
  answer-adds theory (Ok p) (n, m, is, its, h) e =
      let P : Place = record { texts = texts; source = source; label = label; theory = theory; content = R } in
      let b = bound-binding P n m have.prop have.script p h in
      let is_bound = e ∙ b.is in
      ap (λ (q : Outcome). q.next) is_bound ∙ sym (ap (λ (q : Note). with_declarations R (R.declarations ++ promises_of (q ∷ []))) (ap (λ (q : Outcome). q.note) is_bound))
  answer-adds theory (Err reason) h e =
      ap (λ (q : Outcome). q.next) e ∙ ap (λ (ds : List Decl). with_declarations R ds) (sym (append-nil R.declarations))
      ∙ sym (ap (λ (q : Note). with_declarations R (R.declarations ++ promises_of (q ∷ []))) (ap (λ (q : Outcome). q.note) e))

  have-adds : DeclaresPart texts source label R (Within x have) note next → next ≡ with_declarations R (R.declarations ++ promises_of (note ∷ []))
  have-adds d = answer-adds d.theory d.declares.answer d.declares.is d.declares.comes

-- The fork that the lemma has where its haves are passed over: it is of this name, states this and has this proof.
record IsForkOf (n : ℕ) (s : Stated) (script : List Step) (f : Fork) : Type 0 where
  name : f.name ≡ n
  lemma : f.lemma ≡ n
  fixed : f.fixed ≡ s.fixed
  prop : f.prop ≡ s.prop
  proof : f.script ≡ script

module _ (texts : List (List ℕ)) (names : AreSessionTexts texts) (source : List ℕ) (theory : List ℕ) (label : Label) (Q : Content) (anti : IsAntisymmetric (algebra_of Q.declarations))
    (x : List ℕ) (number : ℕ) (named : HasText texts number (full_text theory x)) (span : Span) (script : List Step) (s : Stated) where
  abbrev at : ℕ → Content → List ℕ → Place
  at place R t = record { texts = texts; source = source; label = part_label label place; theory = t; content = R }

  abbrev left_of : List Have → List Part
  left_of haves = map (Within x) haves ++ End x span script ∷ []

  -- What a lemma's own end leaves over the content R.
  record IsLast (place : ℕ) (R : Content) (note : Note) (next : Content) : Type 0 where
    own : Fork
    note_is : note ≡ Forked own
    label_is : own.label ≡ part_label label place
    content_is : own.content ≡ R
    next_is : next ≡ with_decl R (PromiseDecl own.name own.label own.prop)
    fork : IsForkOf number s script own

  module _ (states : IsStated (vocabulary (at 0 Q theory)) source span (Ok s)) where
    end-last : (place : ℕ) (R : Content) → IsBehind texts theory number label Q place R → (note : Note) (next : Content) → DeclaresPart texts source (part_label label place) R (End x span script) note next → IsLast place R note next
    end-last place R b note next d =
        let same_text : d.theory ≡ theory = own-once texts R d.theory theory d.own b.own in
        let h = subst (λ (t : List ℕ). (n : ℕ) × HasText texts n (full_text t x) × IsBoundOutcome (at place R t) n n span script (Ok (record { note = note; next = next }))) same_text d.declares in
        let P : Place = at place R theory in
        let o : Outcome = record { note = note; next = next } in
        let c = bound-binding P h.0 h.0 span script o h.2 in
        let name_is : c.number ≡ number = bound-number P h.0 h.0 span script o h.2 ∙ one_name texts names (full_text theory x) h.0 number h.1 named in
        let lemma_is : c.lemma ≡ number = bound-lemma_name P h.0 h.0 span script o h.2 ∙ one_name texts names (full_text theory x) h.0 number h.1 named in
        let there : IsStated (vocabulary P) source span (Ok c.stated) = subst (λ (a : Span). IsStated (vocabulary P) source a (Ok c.stated)) (bound-span P h.0 h.0 span script o h.2) c.states in
        let before : IsStated (vocabulary (at 0 Q theory)) source span (Ok c.stated) = subst (λ (V : Vocabulary). IsStated V source span (Ok c.stated)) b.words there in
        let stated_is : c.stated ≡ s = ok-stated c.stated s (stated-once (vocabulary (at 0 Q theory)) anti source span (Ok c.stated) (Ok s) before states) in
        record {
          own = fork_of texts source (part_label label place) R note next theory c;
          note_is = ap (λ (q : Outcome). q.note) c.is;
          label_is = refl;
          content_is = refl;
          next_is = next-bound texts source (part_label label place) R note next theory c;
          fork = record {
            name = name_is;
            lemma = lemma_is;
            fixed = ap (λ (t : Stated). t.fixed) stated_is;
            prop = ap (λ (t : Stated). t.prop) stated_is;
            proof = bound-script P h.0 h.0 span script o h.2;
          };
        }

    -- A chain of haves and an own end: the last note is that of the end, over the content with the promises of those before it, and there is one for each have.
    record IsEnded (haves : List Have) (place : ℕ) (R : Content) (notes : List Note) (next : Content) : Type 0 where
      front : List Note
      last : Note
      notes_are : notes ≡ front ++ last ∷ []
      count : length front ≡ length haves
      is_last : IsLast (place + length haves) (with_declarations R (R.declarations ++ promises_of front)) last next

    -- the content with the promises of one note, and then of more
    promised-on : (R then : Content) (note : Note) (front : List Note) → then ≡ with_declarations R (R.declarations ++ promises_of (note ∷ []))
        → with_declarations then (then.declarations ++ promises_of front) ≡ with_declarations R (R.declarations ++ promises_of (note ∷ front))
    promised-on R then (Said row) front e =
        ap (λ (S : Content). with_declarations S (S.declarations ++ promises_of front)) e ∙ ap (λ (ds : List Decl). with_declarations R (ds ++ promises_of front)) (append-nil R.declarations)
    promised-on R then (Forked f) front e =
        ap (λ (S : Content). with_declarations S (S.declarations ++ promises_of front)) e
        ∙ ap (λ (ds : List Decl). with_declarations R ds) (append_assoc R.declarations (PromiseDecl f.name f.label f.prop ∷ []) (promises_of front))

    chain-ends : (haves : List Have) (place : ℕ) (R : Content) → IsBehind texts theory number label Q place R → (notes : List Note) (next : Content) → AreParts texts source label place R (left_of haves) notes next → IsEnded haves place R notes next
    chain-ends [] place R b notes next (note, then, rest, d, (none, last), all) =
        let same : place ≡ place + 0 = omega arith in
        let same_content : R ≡ with_declarations R (R.declarations ++ []) = ap (λ (ds : List Decl). with_declarations R ds) (sym (append-nil R.declarations)) in
        let ends : IsLast place R note next = subst (λ (S : Content). IsLast place R note S) (sym last) (end-last place R b note then d) in
        record {
          front = [];
          last = note;
          notes_are = all ∙ ap (λ (l : List Note). note ∷ l) none;
          count = refl;
          is_last = subst (λ (p : ℕ). IsLast p (with_declarations R (R.declarations ++ [])) note next) same (subst (λ (S : Content). IsLast place S note next) same_content ends);
        }
    chain-ends (have ∷ haves) place R b notes next (note, then, rest, d, h, all) =
        let on = chain-ends haves (place + 1) then (behind-next texts theory label Q x number named source place R have note then b d) rest next h in
        let same : place + 1 + length haves ≡ place + suc (length haves) = omega arith in
        let content_is = promised-on R then note on.front (have-adds texts source (part_label label place) R x have note then d) in
        record {
          front = note ∷ on.front;
          last = on.last;
          notes_are = all ∙ ap (λ (l : List Note). note ∷ l) on.notes_are;
          count = ap suc on.count;
          is_last = subst (λ (p : ℕ). IsLast p (with_declarations R (R.declarations ++ promises_of (note ∷ on.front))) on.last next) same (subst (λ (S : Content). IsLast (place + 1 + length haves) S on.last next) content_is on.is_last);
        }

    own-end : (haves : List Have) (notes : List Note) (next : Content) (f : Fork) → IsForkOf number s script f → ((g : Fork) → IsIn (Forked g) notes → g.lemma ≡ number) → IsEnded haves 0 Q notes next → IsOwnEnd label Q haves f notes next
    own-end haves notes next f is each e =
        let l = e.is_last in
        let count : 0 + length haves ≡ length haves = omega arith in
        record {
          front = e.front;
          own = l.own;
          notes_are = e.notes_are ∙ ap (λ (n : Note). e.front ++ n ∷ []) l.note_is;
          count = e.count;
          label_is = l.label_is ∙ ap (λ (n : ℕ). part_label label n) count;
          name = l.fork.name ∙ sym is.name;
          fixed = l.fork.fixed ∙ sym is.fixed;
          prop = l.fork.prop ∙ sym is.prop;
          script = l.fork.proof ∙ sym is.proof;
          content = l.content_is;
          next_is = l.next_is ∙ ap (λ (S : Content). with_decl S (PromiseDecl l.own.name l.own.label l.own.prop)) (sym l.content_is);
          lemma = λ g m. each g m ∙ sym l.fork.name;
        }

forked-said : (f : Fork) (row : Row) → Forked f ≡ Said row → ⊥
forked-said f row e = absurd (cc)

-- What is bound where haves are passed over.
record IsFirstBound (P : Place) (x : List ℕ) (span : Span) (haves : List Have) (script : List Step) (f : Fork) : Type 0 where
  number : ℕ
  named : HasText P.texts number (full_text P.theory x)
  stated : Stated
  states : IsStated (vocabulary P) P.source span (Ok stated)
  fork : IsForkOf number stated script f
  stands : Stands P (Lemma x span haves script)

module _ (P : Place) (x : List ℕ) (span : Span) (haves : List Have) (script : List Step) (f : Fork) (next : Content) where
  first-bound : (answer : Result Outcome Reason) → IsOutcome P (Lemma x span haves script) answer → outcome_with (Forked f) next ≡ outcome_of P (Lemma x span haves script) answer → IsFirstBound P x span haves script f
  first-bound (Ok p) (n, is, h) e =
      let bound = lemma-bound P n span script (Ok p) h in
      let b = bound-binding P n n span script p bound in
      let forked : Forked f ≡ (binding P b.number b.lemma b.script b.stated).note = ap (λ (q : Outcome). q.note) e ∙ ap (λ (q : Outcome). q.note) b.is in
      let same : f ≡ record { label = P.label; name = b.number; lemma = b.lemma; content = P.content; fixed = b.stated.fixed; prop = b.stated.prop; script = b.script } = that-fork f _ forked in
      record {
        number = n;
        named = is;
        stated = b.stated;
        states = subst (λ (a : Span). IsStated (vocabulary P) P.source a (Ok b.stated)) (bound-span P n n span script p bound) b.states;
        fork = record {
          name = ap (λ (g : Fork). g.name) same ∙ bound-number P n n span script p bound;
          lemma = ap (λ (g : Fork). g.lemma) same ∙ bound-lemma_name P n n span script p bound;
          fixed = ap (λ (g : Fork). g.fixed) same;
          prop = ap (λ (g : Fork). g.prop) same;
          proof = ap (λ (g : Fork). g.script) same ∙ bound-script P n n span script p bound;
        };
        stands = (p, (n, is, h));
      }
    where
      that-fork : (f g : Fork) → Forked f ≡ Forked g → f ≡ g
      that-fork f g e = cc
  first-bound (Err reason) h e = absurd (forked-said f (refused_row P.texts P.source P.theory (Lemma x span haves script) reason) (ap (λ (q : Outcome). q.note) e))

-- What is declared stays so in a content with more.
declared-kept : (Q R : Content) → IsBelow Q R → (n : ℕ) → IsDeclaredIn facts Q.declarations n → IsDeclaredIn facts R.declarations n
declared-kept Q R below n (inl (A, m)) = inl (A, below (AxiomDecl n A) m)
declared-kept Q R below n (inr (l, A, m)) = inr (l, A, below (PromiseDecl n l A) m)

more-below : (Q R : Content) (added : List Decl) → R ≡ with_declarations Q (Q.declarations ++ added) → IsBelow Q R
more-below Q R added e d m = subst (λ (S : Content). IsIn d S.declarations) (sym e) (in-append_left d Q.declarations added m)

changed-below : (P : Place) (R : Content) → IsChanged P R → IsBelow P.content R
changed-below P R (a_class k names new found e) = more-below P.content R _ e
changed-below P R (a_typ n params new e) = more-below P.content R _ e
changed-below P R (an_arity a is e) = more-below P.content R _ e
changed-below P R (a_const n span T new is e) = more-below P.content R _ e
changed-below P R (an_axiom n span s new is e) = more-below P.content R _ e
changed-below P R (a_definition c f T body is e) = more-below P.content R _ e

done-below : (P : Place) (command : Command) (o : Outcome) → IsDone P command o → IsBelow P.content o.next
done-below P command o (changes row is h) = changed-below P o.next h
done-below P command o (binds b) = more-below P.content o.next (PromiseDecl b.number P.label b.stated.prop ∷ []) (ap (λ (p : Outcome). p.next) b.is)
done-below P command o (is_refused row e) = subst (λ (p : Outcome). IsBelow P.content p.next) (sym e) (λ d m. m)

module _ (texts : List (List ℕ)) (source : List ℕ) where
  part-below : (label : Label) (Q : Content) (part : Part) (note : Note) (next : Content) → DeclaresPart texts source label Q part note next → IsBelow Q next
  part-below label Q part note next h = by (part-done texts source label Q note next part h)
    where
      by : IsPartDone texts source label Q part note next → IsBelow Q next
      by (by_command command d row e) =
          done-below (record { texts = texts; source = source; label = label; theory = d.theory; content = Q }) command (record { note = note; next = next })
          (declared-done (record { texts = texts; source = source; label = label; theory = d.theory; content = Q }) command (record { note = note; next = next }) d.declares)
      by (by_binding theory own b p named) = more-below Q next (PromiseDecl b.number label b.stated.prop ∷ []) (next-bound texts source label Q note next theory b)
      by (by_refusal row e same) = subst (λ (R : Content). IsBelow Q R) (sym same) (λ d m. m)

  parts-below : (label : Label) (parts : List Part) (place : ℕ) (Q : Content) (notes : List Note) (last : Content) → AreParts texts source label place Q parts notes last → IsBelow Q last
  parts-below label [] place Q notes last h d m = subst (λ (R : Content). IsIn d R.declarations) (sym h.1) m
  parts-below label (part ∷ parts) place Q notes last h d m = parts-below label parts (place + 1) h.1 h.2 last h.4 d (part-below (part_label label place) Q part h.0 h.1 h.3 d m)

  -- A fork that is among a command's notes: its label is the command's, and its lemma is no fact before the command and is one behind it.
  record IsOfCommand (label : Label) (Q next : Content) (f : Fork) : Type 0 where
    theory : f.label.theory ≡ label.theory
    command : f.label.command ≡ label.command
    new : IsDeclaredIn facts Q.declarations f.lemma → ⊥
    there : IsDeclaredIn facts next.declarations f.lemma

  no-forks : (label : Label) (Q : Content) (command : Command) (notes : List Note) (next : Content) → AreParts texts source label 0 Q (Whole command ∷ []) notes next → (f : Fork) → IsIn (Forked f) notes → ⊥
  no-forks label Q command notes next h f m =
      let one = one-part texts source label Q (Whole command) notes next h in
      by one.0 one.1.declares.1 (subst (λ (ns : List Note). IsIn (Forked f) ns) one.2 m)
    where
      by : (note : Note) → (row : _) × (note ≡ Said row) → IsIn (Forked f) (note ∷ []) → ⊥
      by note row (inl e) = let none : Forked f ≡ Said row.0 = e ∙ row.1 in absurd (cc)
      by note row (inr none) = none

  module _ (names : AreSessionTexts texts) (theory : List ℕ) (label : Label) (Q : Content) (x : List ℕ) (number : ℕ) (named : HasText texts number (full_text theory x)) (span : Span) (script : List Step) where
    abbrev chain_of : List Have → List Part
    chain_of haves = map (Within x) haves ++ End x span script ∷ []

    abbrev over : ℕ → Content → List ℕ → Place
    over place R t = record { texts = texts; source = source; label = part_label label place; theory = t; content = R }

    -- The fork is of this lemma and of this command.
    abbrev IsHere : Fork → Type 0
    IsHere f = (f.lemma ≡ number) × (f.label.theory ≡ label.theory) × (f.label.command ≡ label.command)

    bound-here : (place : ℕ) (R : Content) (n m : ℕ) (prop : Span) (proof : List Step) (o : Outcome) (f : Fork) → HasText texts m (full_text theory x) → IsBoundOutcome (over place R theory) n m prop proof (Ok o) → o.note ≡ Forked f → IsHere f
    bound-here place R n m prop proof o f is h e =
        let P = over place R theory in
        let b = bound-binding P n m prop proof o h in
        let same = fork-same texts source (part_label label place) R o.note o.next theory b f e in (
          ap (λ (g : Fork). g.lemma) (sym same) ∙ bound-lemma_name P n m prop proof o h ∙ one_name texts names (full_text theory x) m number is named,
          ap (λ (g : Fork). g.label.theory) (sym same),
          ap (λ (g : Fork). g.label.command) (sym same),
        )

    have-here : (place : ℕ) (R : Content) (have : Have) (o : Outcome) (f : Fork) (answer : Result Outcome Reason) → IsHaveOutcome (over place R theory) x have answer → o ≡ have_outcome (over place R theory) x have answer → o.note ≡ Forked f → IsHere f
    have-here place R have o f (Ok p) (n, m, is, its, h) e same = bound-here place R n m have.prop have.script p f its h (ap (λ (q : Outcome). q.note) (sym e) ∙ same)
    have-here place R have o f (Err reason) h e same = let none : Said _ ≡ Forked f = ap (λ (q : Outcome). q.note) (sym e) ∙ same in absurd (cc)

    first-here : (place : ℕ) (R : Content) → IsOwnText texts R theory → (have : Have) (note : Note) (next : Content) (f : Fork) → DeclaresPart texts source (part_label label place) R (Within x have) note next → note ≡ Forked f → IsHere f
    first-here place R own have note next f d e =
        let o : Outcome = record { note = note; next = next } in
        let w = subst (λ (t : List ℕ). (answer : Result Outcome Reason) × IsHaveOutcome (over place R t) x have answer × (o ≡ have_outcome (over place R t) x have answer)) (own-once texts R d.theory theory d.own own) (d.declares.answer, d.declares.is, d.declares.comes) in
        have-here place R have o f w.0 w.1 w.2 e

    last-here : (place : ℕ) (R : Content) → IsOwnText texts R theory → (note : Note) (next : Content) → DeclaresPart texts source (part_label label place) R (End x span script) note next
        → ((f : Fork) → note ≡ Forked f → IsHere f) × IsDeclaredIn facts next.declarations number
    last-here place R own note next d =
        let o : Outcome = record { note = note; next = next } in
        let h = subst (λ (t : List ℕ). (n : ℕ) × HasText texts n (full_text t x) × IsBoundOutcome (over place R t) n n span script (Ok o)) (own-once texts R d.theory theory d.own own) d.declares in
        let b = bound-binding (over place R theory) h.0 h.0 span script o h.2 in
        let name_is : b.number ≡ number = bound-number (over place R theory) h.0 h.0 span script o h.2 ∙ one_name texts names (full_text theory x) h.0 number h.1 named in
        let ends : IsIn (PromiseDecl b.number (part_label label place) b.stated.prop) next.declarations =
        subst (λ (S : Content). IsIn (PromiseDecl b.number (part_label label place) b.stated.prop) S.declarations) (sym (next-bound texts source (part_label label place) R note next theory b))
        (in-append_right (PromiseDecl b.number (part_label label place) b.stated.prop) R.declarations (PromiseDecl b.number (part_label label place) b.stated.prop ∷ []) (inl refl)) in (
          λ f e. bound-here place R h.0 h.0 span script o f h.1 h.2 e,
          inr (part_label label place, b.stated.prop, subst (λ (k : ℕ). IsIn (PromiseDecl k (part_label label place) b.stated.prop) next.declarations) name_is ends),
        )

    chain-here : (haves : List Have) (place : ℕ) (R : Content) → IsBehind texts theory number label Q place R → (notes : List Note) (next : Content) → AreParts texts source label place R (chain_of haves) notes next
        → ((f : Fork) → IsIn (Forked f) notes → IsHere f) × IsDeclaredIn facts next.declarations number
    chain-here [] place R b notes next (note, then, rest, d, (none, last), all) =
        let w = last-here place R b.own note then d in (
          λ f m. one-here f note (w.0 f) (subst (λ (ns : List Note). IsIn (Forked f) ns) (all ∙ ap (λ (l : List Note). note ∷ l) none) m),
          subst (λ (S : Content). IsDeclaredIn facts S.declarations number) (sym last) w.1,
        )
      where
        one-here : (f : Fork) (note : Note) → (note ≡ Forked f → IsHere f) → IsIn (Forked f) (note ∷ []) → IsHere f
        one-here f note is (inl e) = is (sym e)
        one-here f note is (inr none) = absurd none
    chain-here (have ∷ haves) place R b notes next (note, then, rest, d, h, all) =
        let on = chain-here haves (place + 1) then (behind-next texts theory label Q x number named source place R have note then b d) rest next h in
        (λ f m. first-or-later f (λ e. first-here place R b.own have note then f d e) (on.0 f) (subst (λ (ns : List Note). IsIn (Forked f) ns) all m), on.1)
      where
        first-or-later : (f : Fork) → (note ≡ Forked f → IsHere f) → (IsIn (Forked f) rest → IsHere f) → IsIn (Forked f) (note ∷ rest) → IsHere f
        first-or-later f is later (inl e) = is (sym e)
        first-or-later f is later (inr m) = later m

  module _ (names : AreSessionTexts texts) (label : Label) (Q : Content) (theory : List ℕ) (own : IsOwnText texts Q theory) where
    abbrev here : Place
    here = record { texts = texts; source = source; label = part_label label 0; theory = theory; content = Q }

    by-whole : (command : Command) (ps : List Part) → ps ≡ Whole command ∷ [] → (notes : List Note) (next : Content) → AreParts texts source label 0 Q ps notes next → (f : Fork) → IsIn (Forked f) notes → IsOfCommand label Q next f
    by-whole command ps e notes next h f m = absurd (no-forks label Q command notes next (subst (λ (rs : List Part). AreParts texts source label 0 Q rs notes next) e h) f m)

    command-forks : (command : Command) (ps : List Part) → HasParts here command ps → (notes : List Note) (next : Content) → AreParts texts source label 0 Q ps notes next → (f : Fork) → IsIn (Forked f) notes → IsOfCommand label Q next f
    command-forks (Lemma x span haves script) ps (inl (stands, e)) notes next h f m =
        let n = stands.1.0 in
        let bound = lemma-bound here n span script (Ok stands.0) stands.1.2 in
        let b = bound-binding here n n span script stands.0 bound in
        let new : IsDeclaredIn facts Q.declarations n → ⊥ = subst (λ (k : ℕ). IsDeclaredIn facts Q.declarations k → ⊥) (bound-number here n n span script stands.0 bound) b.new in
        let w = chain-here names theory label Q x n stands.1.1 span script haves 0 Q (behind-none texts theory label Q x n stands.1.1 own) notes next (subst (λ (rs : List Part). AreParts texts source label 0 Q rs notes next) e h) in
        let is = w.0 f m in
        record {
          theory = is.1;
          command = is.2;
          new = subst (λ (k : ℕ). IsDeclaredIn facts Q.declarations k → ⊥) (sym is.0) new;
          there = subst (λ (k : ℕ). IsDeclaredIn facts next.declarations k) (sym is.0) w.1;
        }
    command-forks (Lemma x span haves script) ps (inr e) notes next h f m = by-whole (Lemma x span haves script) ps e notes next h f m
    command-forks (ClassOf x above) ps e notes next h f m = by-whole (ClassOf x above) ps e notes next h f m
    command-forks (TypeDecl x params) ps e notes next h f m = by-whole (TypeDecl x params) ps e notes next h f m
    command-forks (ArityOf con domains class) ps e notes next h f m = by-whole (ArityOf con domains class) ps e notes next h f m
    command-forks (Const x span) ps e notes next h f m = by-whole (Const x span) ps e notes next h f m
    command-forks (Axiom x span) ps e notes next h f m = by-whole (Axiom x span) ps e notes next h f m
    command-forks (Definition x typ text) ps e notes next h f m = by-whole (Definition x typ text) ps e notes next h f m

  module _ (names : AreSessionTexts texts) (index : ℕ) where
    of-command : (place : ℕ) (Q : Content) (c : Command) (notes : List Note) (next : Content) → Declares texts source (record { theory = index; command = place; part = 0 }) Q c notes next
        → (f : Fork) → IsIn (Forked f) notes → IsOfCommand (record { theory = index; command = place; part = 0 }) Q next f
    of-command place Q c notes next d f m = command-forks names (record { theory = index; command = place; part = 0 }) Q d.theory d.own c d.parts d.has notes next d.are f m

    fold-new : (place : ℕ) (Q : Content) (cs : List Command) (notes : List Note) (last : Content) → AreDeclared texts source index place Q cs notes last → (f : Fork) → IsIn (Forked f) notes → IsDeclaredIn facts Q.declarations f.lemma → ⊥
    fold-new place Q [] notes last h f m t = subst (λ (ns : List Note). IsIn (Forked f) ns) h.0 m
    fold-new place Q (c ∷ cs) notes last (ns, next, more, d, h, e) f m t = elim (in_split (Forked f) ns more (subst (λ (l : List Note). IsIn (Forked f) l) e m)) [
      | inl here ↦ (of-command place Q c ns next d f here).new t
      | inr later ↦ fold-new (place + 1) next cs more last h f later (declared-kept Q next (parts-below (record { theory = index; command = place; part = 0 }) d.parts 0 Q ns next d.are) f.lemma t)
    ]

    fold-one : (place : ℕ) (Q : Content) (cs : List Command) (notes : List Note) (last : Content) → AreDeclared texts source index place Q cs notes last
        → (f g : Fork) → IsIn (Forked f) notes → IsIn (Forked g) notes → f.lemma ≡ g.lemma → (f.label.theory ≡ g.label.theory) × (f.label.command ≡ g.label.command)
    fold-one place Q [] notes last h f g m n same = absurd (subst (λ (ns : List Note). IsIn (Forked f) ns) h.0 m)
    fold-one place Q (c ∷ cs) notes last (ns, next, more, d, h, e) f g m n same =
        elim (in_split (Forked f) ns more (subst (λ (l : List Note). IsIn (Forked f) l) e m)) [
          | inl here ↦ elim (in_split (Forked g) ns more (subst (λ (l : List Note). IsIn (Forked g) l) e n)) [
            | inl also ↦ (let a = of-command place Q c ns next d f here in let b = of-command place Q c ns next d g also in (a.theory ∙ sym b.theory, a.command ∙ sym b.command))
            | inr later ↦ absurd (fold-new (place + 1) next cs more last h g later (subst (λ (k : ℕ). IsDeclaredIn facts next.declarations k) same (of-command place Q c ns next d f here).there))
          ]
          | inr second ↦ elim (in_split (Forked g) ns more (subst (λ (l : List Note). IsIn (Forked g) l) e n)) [
            | inl also ↦ absurd (fold-new (place + 1) next cs more last h f second (subst (λ (k : ℕ). IsDeclaredIn facts next.declarations k) (sym same) (of-command place Q c ns next d g also).there))
            | inr later ↦ fold-one (place + 1) next cs more last h f g second later same
          ]
        ]

module _ (texts : List (List ℕ)) (source : List ℕ) (label : Label) (Q : Content) (session : IsInSession texts Q) (g : IsGood Q) (theory : List ℕ) (own : IsOwnText texts Q theory)
    (x : List ℕ) (span : Span) (haves : List Have) (script : List Step) (f : Fork)
    (w : IsFirstBound (record { texts = texts; source = source; label = part_label label 0; theory = theory; content = Q }) x span haves script f) where
  parted-end : (parts : List Part) → HasParts (record { texts = texts; source = source; label = part_label label 0; theory = theory; content = Q }) (Lemma x span haves script) parts
      → (notes : List Note) (next : Content) → AreParts texts source label 0 Q parts notes next → IsOwnEnd label Q haves f notes next
  parted-end parts (inl (stands, e)) notes next are =
      let chain = subst (λ (ps : List Part). AreParts texts source label 0 Q ps notes next) e are in
      let behind = behind-none texts theory label Q x w.number w.named own in
      let each = (chain-here texts source session.names theory label Q x w.number w.named span script haves 0 Q behind notes next chain).0 in
      own-end texts session.names source theory label Q g.antisymmetric x w.number w.named span script w.stated w.states haves notes next f w.fork (λ h m. (each h m).0)
      (chain-ends texts session.names source theory label Q g.antisymmetric x w.number w.named span script w.stated w.states haves 0 Q behind notes next chain)
  parted-end parts (inr e) notes next are =
      absurd (no-whole texts source label Q session g theory own x span haves script w.stands notes next (subst (λ (ps : List Part). AreParts texts source label 0 Q ps notes next) e are))

pub lemmas_end : LemmasEnd
lemmas_end texts source label Q x span haves script f bound session g h notes next d =
    let P : Place = record { texts = texts; source = source; label = part_label label 0; theory = h.theory; content = Q } in
    let w = first-bound P x span haves script f bound h.declares.answer h.declares.is h.declares.comes in
    let same : d.theory ≡ h.theory = own-once texts Q d.theory h.theory d.own h.own in
    parted-end texts source label Q session g h.theory h.own x span haves script f w d.parts
    (subst (λ (t : List ℕ). HasParts (record { texts = texts; source = source; label = part_label label 0; theory = t; content = Q }) (Lemma x span haves script) d.parts) same d.has) notes next d.are

-- A lemma that is refused where its haves are passed over.
module _ (texts : List (List ℕ)) (source : List ℕ) (label : Label) (Q : Content) (session : IsInSession texts Q) (g : IsGood Q) (theory : List ℕ) (own : IsOwnText texts Q theory)
    (x : List ℕ) (span : Span) (haves : List Have) (script : List Step) (row : Row) (after : Content) where
  abbrev start : Place
  start = record { texts = texts; source = source; label = part_label label 0; theory = theory; content = Q }

  abbrev lemma : Command
  lemma = Lemma x span haves script

  first-refused : (answer : Result Outcome Reason) → IsOutcome start lemma answer → outcome_with (Said row) after ≡ outcome_of start lemma answer → (reason : Reason) × IsOutcome start lemma (Err reason) × (outcome_with (Said row) after ≡ outcome_of start lemma (Err reason))
  first-refused (Ok p) (n, is, h) e =
      let bound = lemma-bound start n span script (Ok p) h in
      let b = bound-binding start n n span script p bound in
      let none : Said row ≡ (binding start b.number b.lemma b.script b.stated).note = ap (λ (q : Outcome). q.note) (e ∙ b.is) in
      absurd (cc)
  first-refused (Err reason) h e = (reason, h, e)

  parted-refused : (first.Declares texts source (part_label label 0) Q lemma (Said row) after) → (reason : Reason) → IsOutcome start lemma (Err reason) → outcome_with (Said row) after ≡ outcome_of start lemma (Err reason)
      → (parts : List Part) → HasParts start lemma parts → (notes : List Note) (next : Content) → AreParts texts source label 0 Q parts notes next → (notes ≡ Said row ∷ []) × (next ≡ Q)
  parted-refused d reason h e parts (inl ((p, k), same)) notes next are = absurd (ok-refused p reason (outcome-once start g.antisymmetric session lemma (Ok p) (Err reason) k h))
    where
      ok-refused : (p : Outcome) (r : Reason) → ◌≡◌ {A = Result Outcome Reason} (Ok p) (Err r) → ⊥
      ok-refused p r same = absurd (cc)
  parted-refused d reason h e parts (inr same) notes next are =
      let one = one-part texts source label Q (Whole lemma) notes next (subst (λ (ps : List Part). AreParts texts source label 0 Q ps notes next) same are) in
      let both = declares_once texts source (part_label label 0) Q lemma one.0 (Said row) next after session g (whole-first texts source (part_label label 0) Q lemma one.0 next one.1) d in
      (one.2 ∙ ap (λ (n : Note). n ∷ []) both.0, both.1 ∙ ap (λ (q : Outcome). q.next) e)

pub lemmas_refused : LemmasRefused
lemmas_refused texts source label Q x span haves script row after session g h notes next d =
    let w = first-refused texts source label Q session g h.theory h.own x span haves script row after h.declares.answer h.declares.is h.declares.comes in
    let same : d.theory ≡ h.theory = own-once texts Q d.theory h.theory d.own h.own in
    parted-refused texts source label Q session g h.theory h.own x span haves script row after h w.0 w.1 w.2 d.parts
    (subst (λ (t : List ℕ). HasParts (record { texts = texts; source = source; label = part_label label 0; theory = t; content = Q }) (Lemma x span haves script) d.parts) same d.has) notes next d.are

pub one_command_of_lemma : OneCommandOfLemma
one_command_of_lemma texts source index place Q commands notes last names h f g m n same = fold-one texts source names index place Q commands notes last h f g m n same
