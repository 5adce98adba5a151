-- What a command declares, from its parts.
use Rattle.std.proofs.Common.{◌≡◌, ℕ, List, [], ◌∷◌, ◌++◌, map, refl, sym, ap, subst, inl, inr}
use Rattle.std.specs.Prelude.{Result, Ok, Err, IfOk}
use Rattle.std.specs.declared.alloc.AllocError.{AllocError}
use Rattle.pure_definitions.specs.Names.{Label}
use Rattle.pure_grammar.specs.Theories.TheoryText.{Span, Step, Have, Command, Class as ClassOf, TypeDecl, Arity as ArityOf, Const, Axiom, Definition, Lemma}
use Rattle.pure_logic.specs.Content.{Content}
use Rattle.pure_lookup.specs.Meaning.{facts}
use Rattle.pure_statements.specs.declared.reason.Reason.{Reason}
use Rattle.pure_statements.specs.declared.reason.Reason.TheVariants.{Duplicate}
use Rattle.pure_statements.specs.declared.stated.Stated.{Stated}
use Rattle.pure_statements.specs.Chain.{refuses, goes_on, holds, passes}
use Rattle.pure_statements.specs.Statement.{IsStated}
use Rattle.pure_declare.specs.declared.notes.Declared.{Declared}
use Rattle.pure_declare.specs.Seen.{seen_notes}
use Rattle.pure_declare.specs.Notes.{Note, Outcome}
use Rattle.pure_declare.specs.Commands.{Place, IsOwnText, IsNameOf, IsTaken, vocabulary, IsLemmaOutcome, IsOutcome, forking}
use Rattle.pure_declare.specs.Changes.{IsNoLemma, IsNewStatement}
use Rattle.pure_declare.specs.First.{IsDeclaredAs, outcome_of}
use Rattle.pure_declare.specs.Parts.{Part, Whole, Within, End, DeclaresPart}
use Rattle.pure_declare.specs.Fold.{HasParts, part_label, AreParts, Declares}
use Rattle.pure_declare.proofs.PlainLaws.{command-row, refused-row, part-alone}
use Rattle.pure_declare.proofs.HaveSteps.{first-label}

-- A command that isn't a lemma is one part.
has-one : (P : Place) (command : Command) → IsNoLemma command → HasParts P command (Whole command ∷ [])
has-one P (ClassOf x above) kind = refl
has-one P (TypeDecl x params) kind = refl
has-one P (ArityOf con domains class) kind = refl
has-one P (Const x span) kind = refl
has-one P (Axiom x span) kind = refl
has-one P (Definition x typ text) kind = refl
has-one P (Lemma x span haves script) kind = absurd kind

-- A statement that stands does so under each label.
stands : (P : Place) (label : Label) (n : ℕ) (span : Span) (script : List Step) (s : Stated) → IsNewStatement P n span (Ok s)
    → IsLemmaOutcome (record { texts = P.texts; source = P.source; label = label; theory = P.theory; content = P.content }) n span script (Ok (forking (record { texts = P.texts; source = P.source; label = label; theory = P.theory; content = P.content }) n script s))
unfolding IsNewStatement IsLemmaOutcome
stands P label n span script s (holds taken e) = absurd (cc)
stands P label n span script s (passes new k) = passes new (goes_on s k refl)

module _ (P : Place) (own : IsOwnText P.texts P.content P.theory) (first : P.label.part ≡ 0) where
  abbrev start : Place
  start = record { texts = P.texts; source = P.source; label = part_label P.label 0; theory = P.theory; content = P.content }

  alone : (command : Command) (o : Outcome) → HasParts start command (Whole command ∷ []) → DeclaresPart P.texts P.source P.label P.content (Whole command) o.note o.next → (notes : List Note) (next : Content) → notes ≡ o.note ∷ [] → next ≡ o.next
      → Declares P.texts P.source P.label P.content command notes next
  alone command o has d notes next e last =
      let there = subst (λ (l : Label). DeclaresPart P.texts P.source l P.content (Whole command) o.note o.next) (first-label P.label first) d in
      let chain = part-alone P.texts P.source P.label P.content (Whole command) o.note o.next there in
      record {
        theory = P.theory;
        own = own;
        parts = Whole command ∷ [];
        has = has;
        are = subst (λ (R : Content). AreParts P.texts P.source P.label 0 P.content (Whole command ∷ []) notes R) (sym last)
            (subst (λ (ns : List Note). AreParts P.texts P.source P.label 0 P.content (Whole command ∷ []) ns o.next) (sym e) chain);
      }

  -- of one part
  pub whole-declares : (command : Command) → IsNoLemma command → (o : Outcome) → IsDeclaredAs P command o → (notes : List Note) (next : Content) → notes ≡ o.note ∷ [] → next ≡ o.next → Declares P.texts P.source P.label P.content command notes next
  whole-declares command kind o h notes next e last = alone command o (has-one start command kind) (record { theory = P.theory; own = own; declares = (h, command-row P command kind o h) }) notes next e last

  -- of a lemma that is refused
  refused-here : (x : List ℕ) (span : Span) (haves : List Have) (script : List Step) (reason : Reason) → IsOutcome P (Lemma x span haves script) (Err reason) → (o : Outcome) → o ≡ outcome_of P (Lemma x span haves script) (Err reason)
      → (notes : List Note) (next : Content) → notes ≡ o.note ∷ [] → next ≡ o.next → Declares P.texts P.source P.label P.content (Lemma x span haves script) notes next
  refused-here x span haves script reason h o is notes next e last =
      alone (Lemma x span haves script) o (inr refl) (record { theory = P.theory; own = own; declares = (record { answer = Err reason; is = h; comes = is }, refused-row P (Lemma x span haves script) reason o is) }) notes next e last

  pub refused-declares : (command : Command) → (base : List ℕ) × (at : Span) × (haves : List Have) × (script : List Step) × (command ≡ Lemma base at haves script) → (reason : Reason) → IsOutcome P command (Err reason)
      → (o : Outcome) → o ≡ outcome_of P command (Err reason) → (notes : List Note) (next : Content) → notes ≡ o.note ∷ [] → next ≡ o.next → Declares P.texts P.source P.label P.content command notes next
  refused-declares command (base, at, haves, script, same) reason h o is notes next e last =
      subst (λ (c : Command). Declares P.texts P.source P.label P.content c notes next) (sym same)
      (refused-here base at haves script reason (subst (λ (c : Command). IsOutcome P c (Err reason)) same h) o (subst (λ (c : Command). o ≡ outcome_of P c (Err reason)) same is) notes next e last)

  -- of a lemma that stands
  pub parts-declare : (command : Command) (x : List ℕ) (span : Span) (haves : List Have) (script : List Step) → command ≡ Lemma x span haves script → (n : ℕ) → IsNameOf P x n → (s : Stated) → IsNewStatement P n span (Ok s)
      → (notes : List Note) (next : Content) → AreParts P.texts P.source P.label 0 P.content (map (Within x) haves ++ End x span script ∷ []) notes next → Declares P.texts P.source P.label P.content command notes next
  parts-declare command x span haves script same n is s h notes next are = subst (λ (c : Command). Declares P.texts P.source P.label P.content c notes next) (sym same) (record {
    theory = P.theory;
    own = own;
    parts = map (Within x) haves ++ End x span script ∷ [];
    has = inl ((forking start n script s, (n, is, stands P (part_label P.label 0) n span script s h)), refl);
    are = are;
  })

module _ (P : Place) (n : ℕ) (span : Span) (s : Stated) where
  -- A new statement is stated, and its name is new.
  pub new-states : IsNewStatement P n span (Ok s) → IsStated (vocabulary P) P.source span (Ok s)
  unfolding IsNewStatement
  new-states (holds taken e) = absurd (cc)
  new-states (passes new h) = h

same-reason : (p q : Reason) → ◌≡◌ {A = Result Stated Reason} (Err p) (Err q) → p ≡ q
same-reason p q e = cc

refused : (P : Place) (n : ℕ) (span : Span) (script : List Step) (reason : Reason) → IsNewStatement P n span (Err reason) → IsLemmaOutcome P n span script (Err reason)
unfolding IsNewStatement IsLemmaOutcome
refused P n span script reason (holds taken e) = holds taken (ap (λ (r : Reason). Err r) (same-reason reason Duplicate e))
refused P n span script reason (passes new k) = passes new (refuses reason k refl)

-- A refusal of the statement is one of the lemma.
pub refusal-outcome : (P : Place) (command : Command) (x : List ℕ) (span : Span) (haves : List Have) (script : List Step) → command ≡ Lemma x span haves script → (n : ℕ) → IsNameOf P x n → (reason : Reason) → IsNewStatement P n span (Err reason) → IsOutcome P command (Err reason)
refusal-outcome P command x span haves script same n is reason h = subst (λ (c : Command). IsOutcome P c (Err reason)) (sym same) (n, is, refused P n span script reason h)

-- What the call answers of the parts of a lemma that stands.
pub parts-made : (P : Place) → IsOwnText P.texts P.content P.theory → P.label.part ≡ 0 → (command : Command) (x : List ℕ) (span : Span) (haves : List Have) (script : List Step) → command ≡ Lemma x span haves script
    → (n : ℕ) → IsNameOf P x n → (s : Stated) → IsNewStatement P n span (Ok s) → (r : Result Declared AllocError)
    → IfOk r (λ d. (at : Span) → IsStated (vocabulary P) P.source at (Ok s) → AreParts P.texts P.source P.label 0 P.content (map (Within x) haves ++ End x at script ∷ []) (seen_notes d.notes.items) d.stage.value)
    → IfOk r (λ d. Declares P.texts P.source P.label P.content command (seen_notes d.notes.items) d.stage.value)
parts-made P own first command x span haves script same n is s h (Ok d) are =
    parts-declare P own first command x span haves script same n is s h (seen_notes d.notes.items) d.stage.value (are span (new-states P n span s h))
parts-made P own first command x span haves script same n is s h (Err e) are = tt
