-- Each part has an outcome, and so has a command with its parts.
use Rattle.std.proofs.Common.{◌≡◌, ◌⊎◌, ℕ, ◌+◌, List, [], ◌∷◌, ◌++◌, map, refl, sym, subst, inl, inr}
use Rattle.std.specs.Prelude.{Result, Ok, Err}
use Rattle.pure_text.specs.Lists.{Each}
use Rattle.pure_definitions.specs.Names.{Label}
use Rattle.pure_definitions.specs.Types.Order.{IsCoregular}
use Rattle.pure_definitions.specs.Declarations.Decl.{algebra_of}
use Rattle.pure_order.specs.OrderTables.Classes.{IsAntisymmetric}
use Rattle.pure_grammar.specs.Theories.TheoryText.{Span, Step, Have, Command, Class as ClassOf, TypeDecl, Arity as ArityOf, Const, Axiom, Definition, Lemma}
use Rattle.pure_grammar.specs.Theories.Spans.{OfProp, cited_span}
use Rattle.pure_typ.specs.NameTexts.{HasText}
use Rattle.pure_logic.specs.Content.{Content}
use Rattle.pure_lookup.specs.Meaning.{facts, full_text}
use Rattle.pure_elab.specs.Vocabulary.{Vocabulary}
use Rattle.pure_statements.specs.declared.reason.Reason.{Reason}
use Rattle.pure_statements.specs.declared.reason.Reason.TheVariants.{Duplicate}
use Rattle.pure_statements.specs.declared.stated.Stated.{Stated}
use Rattle.pure_statements.specs.Chain.{Then, Unless, Gives, goes_on, passes}
use Rattle.pure_statements.specs.Statement.{IsStated}
use Rattle.pure_declare.specs.Notes.{Note, Outcome}
use Rattle.pure_declare.specs.Commands.{Place, IsOwnText, IsTaken, vocabulary, IsOutcome}
use Rattle.pure_declare.specs.First.{IsDeclaredAs, outcome_of}
use Rattle.pure_declare.specs.Parts.{Part, Whole, Within, End, binding, IsBoundOutcome, IsHaveOutcome, have_outcome, DeclaresPart}
use Rattle.pure_declare.specs.Changes.{IsNoLemma}
use Rattle.pure_declare.specs.Fold.{HasParts, part_label, AreParts, Declares}
use Rattle.pure_declare.specs.Premises.{AreHavesNamed, LiesIn}
use Rattle.pure_declare.specs.Good.{IsGood}
use Rattle.pure_declare.specs.Somehow.{CommandsSomehow}
use Rattle.pure_declare.proofs.SomeSteps.{Answered, gives-some, then-some, unless-some, stated-some}
use Rattle.pure_declare.proofs.SomeTests.{declared_or_not}
use Rattle.pure_declare.proofs.SomeLaws.{outcome-some}
use Rattle.pure_declare.proofs.PlainLaws.{command-row, refused-row, lemma-bound, part-alone}
use Rattle.pure_declare.proofs.PartLaws.{bound-binding, bound-number, bound-span}
use Rattle.pure_declare.proofs.HaveLaws.{IsBehind, behind-none, behind-next}

module _ (P : Place) (anti : IsAntisymmetric (vocabulary P).algebra) (coregular : IsCoregular (vocabulary P).algebra) where
  bound-some : (n m : ℕ) (span : Span) (script : List Step) → LiesIn P.source span → Answered (IsBoundOutcome P n m span script)
  unfolding IsBoundOutcome
  bound-some n m span script lies =
      unless-some (IsTaken P facts n) Duplicate (Then (IsStated (vocabulary P) P.source span) (λ s. Gives (binding P n m script s))) (declared_or_not P.content.declarations n facts)
      (λ new. then-some (IsStated (vocabulary P) P.source span) (λ s. Gives (binding P n m script s)) (stated-some (vocabulary P) anti coregular P.source span lies) (λ s h. gives-some (binding P n m script s)))

-- A statement that stands is bound.
bound-so : (P : Place) (n m : ℕ) (span : Span) (script : List Step) (s : Stated) → (IsTaken P facts n → ⊥) → IsStated (vocabulary P) P.source span (Ok s) → IsBoundOutcome P n m span script (Ok (binding P n m script s))
unfolding IsBoundOutcome
bound-so P n m span script s new h = passes new (goes_on s h refl)

module _ (texts : List (List ℕ)) (source : List ℕ) (theory : List ℕ) (label : Label) (Q : Content) (anti : IsAntisymmetric (algebra_of Q.declarations)) (coregular : IsCoregular (algebra_of Q.declarations))
    (x : List ℕ) (number : ℕ) (named : HasText texts number (full_text theory x)) (span : Span) (script : List Step) where
  abbrev at : ℕ → Content → Place
  at place R = record { texts = texts; source = source; label = part_label label place; theory = theory; content = R }

  abbrev left_of : List Have → List Part
  left_of haves = map (Within x) haves ++ End x span script ∷ []

  have-some : (place : ℕ) (R : Content) → IsBehind texts theory number label Q place R → (have : Have) → (n : ℕ) × HasText texts n (full_text (full_text theory x) have.name) → LiesIn source have.prop
      → (note : Note) × (next : Content) × DeclaresPart texts source (part_label label place) R (Within x have) note next
  have-some place R b have n lies =
      let a = bound-some (at place R) (subst (λ (V : Vocabulary). IsAntisymmetric V.algebra) (sym b.words) anti) (subst (λ (V : Vocabulary). IsCoregular V.algebra) (sym b.words) coregular) n.0 number have.prop have.script lies in
      let o = have_outcome (at place R) x have a.0 in
      (o.note, o.next, record { theory = theory; own = b.own; declares = record { answer = a.0; is = (n.0, number, n.1, named, a.1); comes = refl } })

  module _ (s : Stated) (new : IsTaken (at 0 Q) facts number → ⊥) (states : IsStated (vocabulary (at 0 Q)) source span (Ok s)) where
    parts-some : (haves : List Have) (place : ℕ) (R : Content) → IsBehind texts theory number label Q place R → AreHavesNamed texts (full_text theory x) haves → Each (λ c. LiesIn source (cited_span c)) (map (λ (h : Have). OfProp h.prop) haves)
        → (notes : List Note) × (next : Content) × AreParts texts source label place R (left_of haves) notes next
    parts-some [] place R b named_all ranges =
        let states_here = subst (λ (V : Vocabulary). IsStated V source span (Ok s)) (sym b.words) states in
        let o : Outcome = binding (at place R) number number script s in
        let d : DeclaresPart texts source (part_label label place) R (End x span script) o.note o.next = record { theory = theory; own = b.own; declares = (number, named, bound-so (at place R) number number span script s (b.free new) states_here) } in
        (o.note ∷ [], o.next, (o.note, o.next, [], d, (refl, refl), refl))
    parts-some (have ∷ haves) place R b named_all ranges =
        let one = have-some place R b have named_all.0 ranges.0 in
        let more = parts-some haves (place + 1) one.1 (behind-next texts theory label Q x number named source place R have one.0 one.1 b one.2) named_all.1 ranges.1 in
        (one.0 ∷ more.0, more.1, (one.0, one.1, more.0, one.2, more.2, refl))

module _ (texts : List (List ℕ)) (source : List ℕ) (label : Label) (Q : Content) (theory : List ℕ) (own : IsOwnText texts Q theory) where
  abbrev here : Place
  here = record { texts = texts; source = source; label = part_label label 0; theory = theory; content = Q }

  -- A command that is one part.
  whole-some : (command : Command) → IsNoLemma command → Answered (IsOutcome here command) → HasParts here command (Whole command ∷ []) → (notes : List Note) × (next : Content) × Declares texts source label Q command notes next
  whole-some command kind a has =
      let o = outcome_of here command a.0 in
      let is : IsDeclaredAs here command o = record { answer = a.0; is = a.1; comes = refl } in
      let d : DeclaresPart texts source (part_label label 0) Q (Whole command) o.note o.next = record { theory = theory; own = own; declares = (is, command-row here command kind o is) } in
      (o.note ∷ [], o.next, record { theory = theory; own = own; parts = Whole command ∷ []; has = has; are = part-alone texts source label Q (Whole command) o.note o.next d })

  module _ (g : IsGood Q) (x : List ℕ) (span : Span) (haves : List Have) (script : List Step) (named : AreHavesNamed texts (full_text theory x) haves)
      (ranges : Each (λ c. LiesIn source (cited_span c)) (map (λ (h : Have). OfProp h.prop) haves)) where
    lemma-some : (answer : Result Outcome Reason) → IsOutcome here (Lemma x span haves script) answer → (notes : List Note) × (next : Content) × Declares texts source label Q (Lemma x span haves script) notes next
    lemma-some (Err reason) h =
        let o = outcome_of here (Lemma x span haves script) (Err reason) in
        let d : DeclaresPart texts source (part_label label 0) Q (Whole (Lemma x span haves script)) o.note o.next = record {
          theory = theory;
          own = own;
          declares = (record { answer = Err reason; is = h; comes = refl }, refused-row here (Lemma x span haves script) reason o refl);
        } in
        (o.note ∷ [], o.next, record { theory = theory; own = own; parts = Whole (Lemma x span haves script) ∷ []; has = inr refl; are = part-alone texts source label Q (Whole (Lemma x span haves script)) o.note o.next d })
    lemma-some (Ok p) (n, is, h) =
        let bound = lemma-bound here n span script (Ok p) h in
        let b = bound-binding here n n span script p bound in
        let number_is : b.number ≡ n = bound-number here n n span script p bound in
        let new = subst (λ (k : ℕ). IsTaken here facts k → ⊥) number_is b.new in
        let span_is : b.span ≡ span = bound-span here n n span script p bound in
        let states = subst (λ (at : Span). IsStated (vocabulary here) source at (Ok b.stated)) span_is b.states in
        let some = parts-some texts source theory label Q g.antisymmetric g.sound.content.coregular x n is span script b.stated new states haves 0 Q (behind-none texts theory label Q x n is own) named ranges in
        (some.0, some.1, record { theory = theory; own = own; parts = map (Within x) haves ++ End x span script ∷ []; has = inl ((p, (n, is, h)), refl); are = some.2 })

pub commands_somehow : CommandsSomehow
commands_somehow texts source label Q (Lemma x span haves script) names ranges given g =
    let a = outcome-some (here texts source label Q names.theory names.own) g (Lemma x span haves script) names.full ranges in
    lemma-some texts source label Q names.theory names.own g x span haves script names.full.1 ranges.1 a.0 a.1
commands_somehow texts source label Q (ClassOf x above) names ranges given g = whole-some texts source label Q names.theory names.own (ClassOf x above) tt (outcome-some (here texts source label Q names.theory names.own) g (ClassOf x above) names.full ranges) refl
commands_somehow texts source label Q (TypeDecl x params) names ranges given g = whole-some texts source label Q names.theory names.own (TypeDecl x params) tt (outcome-some (here texts source label Q names.theory names.own) g (TypeDecl x params) names.full ranges) refl
commands_somehow texts source label Q (ArityOf con domains class) names ranges given g = whole-some texts source label Q names.theory names.own (ArityOf con domains class) tt (outcome-some (here texts source label Q names.theory names.own) g (ArityOf con domains class) names.full ranges) refl
commands_somehow texts source label Q (Const x span) names ranges given g = whole-some texts source label Q names.theory names.own (Const x span) tt (outcome-some (here texts source label Q names.theory names.own) g (Const x span) names.full ranges) refl
commands_somehow texts source label Q (Axiom x span) names ranges given g = whole-some texts source label Q names.theory names.own (Axiom x span) tt (outcome-some (here texts source label Q names.theory names.own) g (Axiom x span) names.full ranges) refl
commands_somehow texts source label Q (Definition x typ text) names ranges given g = whole-some texts source label Q names.theory names.own (Definition x typ text) tt (outcome-some (here texts source label Q names.theory names.own) g (Definition x typ text) names.full ranges) refl
