-- Each content of a session is good, in the session, and with tidy facts alone.
use Rattle.std.proofs.Common.{◌≡◌, ◌≢◌, ℕ, ◌+◌, List, [], ◌∷◌, length, refl, sym, ap, ◌∙◌, subst, inl, inr, arith}
use Rattle.std.specs.Prelude.{Some}
use Rattle.pure_text.specs.Lists.{IsIn, Each}
use Rattle.pure_text.proofs.ListLaws.{each_at, each_of, each_imply, any_some}
use Rattle.pure_definitions.specs.Names.{Label}
use Rattle.pure_definitions.specs.Terms.Term.{Term}
use Rattle.pure_definitions.specs.Declarations.Decl.{Decl, ClassDecl, PromiseDecl, classes_of, algebra_of}
use Rattle.pure_order_tables.proofs.BelowLaws.{antisymmetric, antisymmetric_at}
use Rattle.pure_grammar.specs.Theories.TheoryText.{Command}
use Rattle.pure_typ.specs.NameTexts.{HasText}
use Rattle.pure_logic.specs.Content.{TheoryId, Content}
use Rattle.pure_logic.specs.PureContent.{pure_content}
use Rattle.pure_logic.specs.Beginning.{theories_of}
use Rattle.pure_logic.proofs.MergeLaws.{merge_has_declarations}
use Rattle.pure_logic.proofs.AncestorLaws.{in-theories, theories-in, ancestors_are_the_parents, pure_has_theories_apart, Names}
use Rattle.pure_lookup.specs.Meaning.{pure_text}
use Rattle.pure_session_laws.specs.Theory.Stage.{IsSound, IsCertifiedDecl}
use Rattle.pure_session_laws.specs.Theory.Refusals.{IsBefore, IsLabelAbove}
use Rattle.pure_session_laws.proofs.Theory.MergeLaws.{sound_beginning}
use Rattle.pure_graph.specs.Order.{Loaded}
use Rattle.pure_session_laws.specs.Declare.Notes.{Note}
use Rattle.pure_session_laws.specs.Declare.Parts.{Part, DeclaresPart}
use Rattle.pure_session_laws.specs.Declare.Fold.{part_label, AreParts, Declares}
use Rattle.pure_session_laws.specs.Declare.Premises.{HasClassesAbove}
use Rattle.pure_session_laws.specs.Declare.Grown.{IsGrown}
use Rattle.pure_session_laws.specs.Declare.Tidy.{IsTidyDecl}
use Rattle.pure_session_laws.specs.Declare.Good.{IsGood}
use Rattle.pure_session_laws.proofs.Declare.TidyDeclared.{pure_is_tidy}
use Rattle.pure_session_laws.proofs.Declare.GoodLaws.{pure_is_good}
use Rattle.pure_session_laws.proofs.Declare.PartLaws.{parts_grow, parts_good, parts_tidy, parts_in_session}
use Rattle.pure_session_laws.specs.Loaded.{IsLoadedSession}
use Rattle.pure_session_meaning.specs.Verdicts.{Verdict, IsTheoryAt, Begins, AllClose, beginning_over}
use Rattle.pure_session_meaning.specs.Statements.{IsRun}
use Rattle.pure_session_meaning.specs.Steps.{command_label}
use Rattle.pure_session_meaning.specs.Kept.{IsKept}
use Rattle.pure_session_meaning.specs.Laws.{IsOrderly, RunsOrderly}
use Rattle.pure_session_meaning.proofs.KeptLaws.{begun-has, run-has}
use Rattle.pure_session_meaning.proofs.OrderedLaws.{IsOrdered, merge_is_ordered}
use Rattle.pure_session_meaning.proofs.TextLaws.{one_text, theory-well}

pub before-through : (l m n : Label) → IsBefore l m → IsBefore m n → IsBefore l n
before-through l m n (inl a) (inl b) = inl (omega arith)
before-through l m n (inl a) (inr b) = let same = b.0 in inl (omega arith)
before-through l m n (inr a) (inl b) = let same = a.0 in inl (omega arith)
before-through l m n (inr (a, inl c)) (inr (b, inl d)) = inr (a ∙ b, inl (omega arith))
before-through l m n (inr (a, inl c)) (inr (b, inr d)) = let same = d.0 in inr (a ∙ b, inl (omega arith))
before-through l m n (inr (a, inr c)) (inr (b, inl d)) = let same = c.0 in inr (a ∙ b, inl (omega arith))
before-through l m n (inr (a, inr c)) (inr (b, inr d)) = let first = c.1 in let second = d.1 in inr (a ∙ b, inr (c.0 ∙ d.0, omega arith))

-- Each part of a command comes before the next part, and before the next command.
pub part-before : (label : Label) (n : ℕ) → IsBefore (part_label label n) (part_label label (n + 1))
part-before label n = inr (refl, inr (refl, omega arith))

pub command-before : (index n part : ℕ) → IsBefore (part_label (command_label index n) part) (command_label index (n + 1))
command-before index n part = inr (refl, inl (omega arith))

-- What a content of a session is before the command or the part with the label.
pub record HasOrder (texts : List (List ℕ)) (label : Label) (Q : Content) : Type 0 where
  pub orderly : IsOrderly texts Q
  pub labels : IsLabelAbove Q.declarations label

pub no_promise-in_pure : (x : ℕ) (l : Label) (A : Term) → ¬ IsIn (PromiseDecl x l A) pure_content.declarations
no_promise-in_pure x l A (inl e) = absurd (cc)
no_promise-in_pure x l A (inr (inl e)) = absurd (cc)
no_promise-in_pure x l A (inr (inr (inl e))) = absurd (cc)
no_promise-in_pure x l A (inr (inr (inr (inl e)))) = absurd (cc)
no_promise-in_pure x l A (inr (inr (inr (inr (inl e))))) = absurd (cc)
no_promise-in_pure x l A (inr (inr (inr (inr (inr (inl e)))))) = absurd (cc)
no_promise-in_pure x l A (inr (inr (inr (inr (inr (inr (inl e))))))) = absurd (cc)
no_promise-in_pure x l A (inr (inr (inr (inr (inr (inr (inr none))))))) = absurd none

pub classes-above : (Q : Content) → IsSound Q → HasClassesAbove Q
classes-above Q sound k m = each_at (IsCertifiedDecl Q.declarations) Q.declarations sound.certified (ClassDecl k) m

module _ (texts : List (List ℕ)) (theories : List Loaded) (session : IsLoadedSession texts theories) where
  pure-orderly : (label : Label) → HasOrder texts label pure_content
  pure-orderly label = record {
    orderly = record {
      good = pure_is_good;
      in_session = record { names = session.names; apart = pure_has_theories_apart; theories = λ t text m. absurd m };
      tidy = pure_is_tidy;
    };
    labels = λ x l A m. absurd (no_promise-in_pure x l A m);
  }

  later-orderly : (label other : Label) (Q : Content) → IsBefore label other → HasOrder texts label Q → HasOrder texts other Q
  later-orderly label other Q before h = record { orderly = h.orderly; labels = λ x l A m. before-through l label other (h.labels x l A m) before }

  -- a theory that begins
  module _ (index : ℕ) (theory : Loaded) (is_at : IsTheoryAt theories index theory) (parents : List Verdict) (first : Content) (b : Begins texts index theory parents first)
      (h : Each (HasOrder texts (command_label index 0)) (beginning_over b.contents)) where
    abbrev id : TheoryId
    id = record { name = b.name; index = index }

    abbrev over : List Content
    over = beginning_over b.contents

    from-parent : (P : Decl → Type 0) → ((Q : Content) → HasOrder texts (command_label index 0) Q → (d : Decl) → IsIn d Q.declarations → P d) → (d : Decl) → IsIn d first.declarations → P d
    from-parent P each d m =
        let Q = any_some (λ (Q : Content). IsIn d Q.declarations) over ((merge_has_declarations over first.declarations b.begins.merge d).0 m) in
        each Q.0 (each_at (HasOrder texts (command_label index 0)) over h Q.0 Q.1) d Q.2

    sound : IsSound first
    sound = sound_beginning id over (each_imply (HasOrder texts (command_label index 0)) IsSound over (λ Q k. k.orderly.good.sound) h) b.may.agreed b.may.apart b.may.new first b.begins

    good : IsGood first
    good =
        let ordered : IsOrdered first = merge_is_ordered over first.declarations b.may.agreed b.begins.merge (each_imply (HasOrder texts (command_label index 0)) IsOrdered over (λ Q k. k.orderly.good.ordered) h) in
        record {
          sound = sound;
          ordered = ordered;
          antisymmetric = antisymmetric_at (algebra_of first.declarations) (algebra_of first.declarations) refl (antisymmetric (classes_of first.declarations) ordered);
        }

    plain-own : (t : TheoryId) (text : List ℕ) → HasText texts t.name text → first.own ≡ Some t → (¬ IsIn 46 text) × (text ≢ pure_text)
    plain-own t text has own =
        let is = b.begins.own in
        let same : t ≡ id = cc in
        let named : text ≡ theory.name = one_text texts b.name text theory.name (subst (λ (u : TheoryId). HasText texts u.name text) same has) b.text in
        subst (λ (x : List ℕ). (¬ IsIn 46 x) × (x ≢ pure_text)) (sym named) (theory-well texts theories session index theory is_at).plain

    plain-above : (t : TheoryId) (text : List ℕ) → HasText texts t.name text → IsIn t first.ancestors → (¬ IsIn 46 text) × (text ≢ pure_text)
    plain-above t text has m =
        let P = any_some (Names t) over ((ancestors_are_the_parents over t).0 (subst (λ (ts : List TheoryId). IsIn t ts) b.begins.ancestors m)) in
        (each_at (HasOrder texts (command_label index 0)) over h P.0 P.1).orderly.in_session.theories t text (theories-in t P.0 P.2) has

    plain : (t : TheoryId) (text : List ℕ) → IsIn t (theories_of first) → HasText texts t.name text → (¬ IsIn 46 text) × (text ≢ pure_text)
    plain t text m has = elim (in-theories t first m) [ inl own ↦ plain-own t text has own | inr above ↦ plain-above t text has above ]

    first-orderly : HasOrder texts (command_label index 0) first
    first-orderly = record {
      orderly = record {
        good = good;
        in_session = record { names = session.names; apart = sound.apart; theories = plain };
        tidy = each_of IsTidyDecl first.declarations (from-parent IsTidyDecl (λ Q k d m. each_at IsTidyDecl Q.declarations k.orderly.tidy d m));
      };
      labels = λ x l A m. from-parent (λ (d : Decl). (y : ℕ) (o : Label) (B : Term) → d ≡ PromiseDecl y o B → IsBefore o (command_label index 0))
          (λ Q k d n y o B e. k.labels y o B (subst (λ (c : Decl). IsIn c Q.declarations) e n)) (PromiseDecl x l A) m x l A refl;
    }

  -- Behind a part the content is so before the next one, and behind some parts, too.
  pub part-orderly : (source : List ℕ) (label : Label) (place : ℕ) (Q : Content) (part : Part) (note : Note) (next : Content) → HasOrder texts (part_label label place) Q → DeclaresPart texts source (part_label label place) Q part note next
      → HasOrder texts (part_label label (place + 1)) next
  part-orderly source label place Q part note next h d =
      let grown : IsGrown (part_label label place) Q next =
      parts_grow texts source (part_label label place) Q part note next h.orderly.in_session h.orderly.good.sound.content (classes-above Q h.orderly.good.sound) h.labels d in
      record {
        orderly = record {
          good = parts_good texts source (part_label label place) Q part note next h.orderly.in_session h.orderly.good h.labels d;
          in_session = parts_in_session texts source (part_label label place) Q part note next h.orderly.in_session d;
          tidy = parts_tidy texts source (part_label label place) Q part note next h.orderly.tidy d;
        };
        labels = grown.labels (part_label label (place + 1)) (part-before label place);
      }

  pub parts-orderly : (source : List ℕ) (label : Label) (parts : List Part) (place : ℕ) (Q : Content) (notes : List Note) (last : Content) → HasOrder texts (part_label label place) Q → AreParts texts source label place Q parts notes last
      → HasOrder texts (part_label label (place + length notes)) last
  parts-orderly source label [] place Q notes last h d =
      let none : length notes ≡ 0 = ap length d.0 in
      let here : place ≡ place + length notes = omega (arith, none) in
      subst (λ (n : ℕ). HasOrder texts (part_label label n) last) here (subst (λ (R : Content). HasOrder texts (part_label label place) R) (sym d.1) h)
  parts-orderly source label (part ∷ parts) place Q notes last h d =
      let next = part-orderly source label place Q part d.0 d.1 h d.3 in
      let longer : length notes ≡ length (d.0 ∷ d.2) = ap length d.5 in
      let count : place + 1 + length d.2 ≡ place + length notes = omega (arith, longer) in
      subst (λ (n : ℕ). HasOrder texts (part_label label n) last) count (parts-orderly source label parts (place + 1) d.1 d.2 last next d.4)

  pub next-orderly : (source : List ℕ) (index n : ℕ) (Q : Content) (command : Command) (notes : List Note) (next : Content) → HasOrder texts (command_label index n) Q → Declares texts source (command_label index n) Q command notes next
      → HasOrder texts (command_label index (n + 1)) next
  next-orderly source index n Q command notes next h d =
      later-orderly (part_label (command_label index n) (0 + length notes)) (command_label index (n + 1)) next (command-before index n (0 + length notes)) (parts-orderly source (command_label index n) d.parts 0 Q notes next h d.are)

  order-kept : IsKept texts theories (HasOrder texts)
  order-kept = record {
    pure = pure-orderly;
    later = later-orderly;
    begins = λ index theory is_at parents closed first b h. first-orderly index theory is_at parents first b h;
    declares = λ index notes now command left run more next d h. next-orderly run.theory.source index (length run.done) now command more next h d;
  }

  -- The content with which a theory begins is so,
  pub begun-ordered : (index : ℕ) (theory : Loaded) → IsTheoryAt theories index theory → (parents : List Verdict) → AllClose texts theories theory.parents parents → (first : Content) → Begins texts index theory parents first
      → HasOrder texts (command_label index 0) first
  begun-ordered index theory is_at parents closed first begins = begun-has texts theories session (HasOrder texts) order-kept index theory is_at parents closed first begins

  -- and so is each content of a run.
  pub run-ordered : (index : ℕ) (notes : List Note) (now : Content) (left : List Command) (run : IsRun texts theories index notes now left) → HasOrder texts (command_label index (length run.done)) now
  run-ordered index notes now left run = run-has texts theories session (HasOrder texts) order-kept index notes now left run

pub runs_orderly : RunsOrderly
runs_orderly texts theories session index notes now left run = (run-ordered texts theories session index notes now left run).orderly
