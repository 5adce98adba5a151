-- What a chain of haves keeps of the content before it.
use Rattle.std.proofs.Common.{◌≡◌, ◌≢◌, ◌⊎◌, ◌<◌, ℕ, zero, suc, ◌+◌, List, [], ◌∷◌, ◌++◌, length, map, refl, sym, ◌∙◌, ap, subst, inl, inr, arith}
use Rattle.std.specs.Prelude.{Some, Result, Ok, Err}
use Rattle.std.proofs.lemmas.Option.{same_Some}
use Rattle.pure_text.specs.Lists.{IsIn}
use Rattle.pure_text.proofs.ListLaws.{in_split, in-append_left}
use Rattle.pure_definitions.specs.Names.{Label}
use Rattle.pure_definitions.specs.Terms.Term.{Term}
use Rattle.pure_definitions.specs.Declarations.Decl.{Decl, AxiomDecl, PromiseDecl}
use Rattle.pure_grammar.specs.Theories.TheoryText.{Have}
use Rattle.pure_typ.specs.NameTexts.{HasText}
use Rattle.pure_logic.specs.Content.{Content, IsBelow}
use Rattle.pure_lookup.specs.Meaning.{facts, IsDeclaredIn, full_text}
use Rattle.pure_lookup.specs.Laws.{IsInSession}
use Rattle.pure_theory.specs.Refusals.{IsBefore, IsLabelAbove}
use Rattle.pure_theory.specs.Stage.{with_decl}
use Rattle.pure_elab.specs.Found.{vocabulary_of}
use Rattle.pure_statements.specs.declared.reason.Reason.{Reason}
use Rattle.pure_statements.specs.Rows.{have_text}
use Rattle.pure_declare.specs.Notes.{Note, Outcome}
use Rattle.pure_declare.specs.Commands.{Place, IsOwnText}
use Rattle.pure_declare.specs.Parts.{Within, IsHaveOutcome, have_outcome, DeclaresPart}
use Rattle.pure_declare.specs.Fold.{part_label, AreParts}
use Rattle.pure_declare.proofs.DoneLaws.{outcome_with}
use Rattle.pure_declare.proofs.GrownLaws.{before-through}
use Rattle.pure_declare.proofs.OnceLaws.{own-once}
use Rattle.pure_declare.proofs.PartLaws.{bound-binding, bound-number}
use Rattle.pure_declare.proofs.PromisedLaws.{session-kept}
use Rattle.pure_declare.proofs.VocabularyLaws.{promise-keeps}

-- A text doesn't go on behind itself.
longer-other : (t more : List ℕ) (c : ℕ) → t ≡ t ++ c ∷ more → ⊥
longer-other [] more c e = absurd (cc)
longer-other (b ∷ t) more c e = let rest : t ≡ t ++ c ∷ more = cc in longer-other t more c rest

-- The content stands behind some haves of the lemma of this name: it has the same theory and vocabulary, no new fact of that name, the declarations of the content before, and labels below that of the next part.
pub record IsBehind (texts : List (List ℕ)) (theory : List ℕ) (number : ℕ) (label : Label) (Q : Content) (place : ℕ) (R : Content) : Type 0 where
  pub own : IsOwnText texts R theory
  pub words : vocabulary_of texts R ≡ vocabulary_of texts Q
  pub free : (IsDeclaredIn facts Q.declarations number → ⊥) → IsDeclaredIn facts R.declarations number → ⊥
  pub below : IsBelow Q R
  pub session : IsInSession texts Q → IsInSession texts R
  pub labels : IsLabelAbove Q.declarations (part_label label 0) → IsLabelAbove R.declarations (part_label label place)

module _ (texts : List (List ℕ)) (theory : List ℕ) (label : Label) (Q : Content) (x : List ℕ) (number : ℕ) (named : HasText texts number (full_text theory x)) where
  abbrev Behind : ℕ → Content → Type 0
  Behind place R = IsBehind texts theory number label Q place R

  pub behind-none : IsOwnText texts Q theory → Behind 0 Q
  behind-none own = record { own = own; words = refl; free = λ new. new; below = λ d m. m; session = λ s. s; labels = λ l. l }

  part-before : (place : ℕ) → IsBefore (part_label label place) (part_label label (place + 1))
  part-before place = inr (refl, inr (refl, omega arith))

  -- the name of a have isn't its lemma's
  other-name : (n : ℕ) (name : List ℕ) → HasText texts n (have_text theory x name) → n ≡ number → ⊥
  other-name n name is same =
      let both : full_text theory x ≡ have_text theory x name = same_Some (full_text theory x) (have_text theory x name) (sym named ∙ subst (λ (k : ℕ). HasText texts k (have_text theory x name)) same is) in
      longer-other (full_text theory x) name 46 both

  still-free : (n : ℕ) (l : Label) (A : Term) (R : Content) → (n ≡ number → ⊥) → (IsDeclaredIn facts R.declarations number → ⊥) → IsDeclaredIn facts (R.declarations ++ PromiseDecl n l A ∷ []) number → ⊥
  still-free n l A R other new (inl (B, m)) = elim (in_split (AxiomDecl number B) R.declarations (PromiseDecl n l A ∷ []) m) [
    | inl old ↦ new (inl (B, old))
    | inr one ↦ elim one [ inl same ↦ no-axiom B same | inr none ↦ none ]
  ]
    where
      no-axiom : (B : Term) → AxiomDecl number B ≡ PromiseDecl n l A → ⊥
      no-axiom B e = absurd (cc)
  still-free n l A R other new (inr (k, B, m)) = elim (in_split (PromiseDecl number k B) R.declarations (PromiseDecl n l A ∷ []) m) [
    | inl old ↦ new (inr (k, B, old))
    | inr one ↦ elim one [ inl same ↦ other (that-name k B same) | inr none ↦ none ]
  ]
    where
      that-name : (k : Label) (B : Term) → PromiseDecl number k B ≡ PromiseDecl n l A → n ≡ number
      that-name k B e = cc

  later-labels : (place n : ℕ) (A : Term) (R : Content) → IsLabelAbove R.declarations (part_label label place) → IsLabelAbove (R.declarations ++ PromiseDecl n (part_label label place) A ∷ []) (part_label label (place + 1))
  later-labels place n A R old y k B m = elim (in_split (PromiseDecl y k B) R.declarations (PromiseDecl n (part_label label place) A ∷ []) m) [
    | inl o ↦ before-through k (part_label label place) (part_label label (place + 1)) (old y k B o) (part-before place)
    | inr one ↦ elim one [ inl same ↦ subst (λ (j : Label). IsBefore j (part_label label (place + 1))) (that-label y k B same) (part-before place) | inr none ↦ absurd none ]
  ]
    where
      that-label : (y : ℕ) (k : Label) (B : Term) → PromiseDecl y k B ≡ PromiseDecl n (part_label label place) A → part_label label place ≡ k
      that-label y k B e = cc

  -- with the promise of a have that stands
  behind-one : (place : ℕ) (R : Content) → Behind place R → (n : ℕ) (name : List ℕ) (A : Term) → HasText texts n (have_text theory x name) → Behind (place + 1) (with_decl R (PromiseDecl n (part_label label place) A))
  behind-one place R b n name A is = record {
    own = record { own = b.own.own; is_own = b.own.is_own; text = b.own.text };
    words = promise-keeps n (part_label label place) A texts R ∙ b.words;
    free = λ new. still-free n (part_label label place) A R (other-name n name is) (b.free new);
    below = λ d m. in-append_left d R.declarations (PromiseDecl n (part_label label place) A ∷ []) (b.below d m);
    session = λ s. session-kept texts R (R.declarations ++ PromiseDecl n (part_label label place) A ∷ []) (b.session s);
    labels = λ l. later-labels place n A R (b.labels l);
  }

  -- with a have that is refused
  behind-same : (place : ℕ) (R : Content) → Behind place R → Behind (place + 1) R
  behind-same place R b = record {
    own = b.own;
    words = b.words;
    free = b.free;
    below = b.below;
    session = b.session;
    labels = λ l y k B m. before-through k (part_label label place) (part_label label (place + 1)) (b.labels l y k B m) (part-before place);
  }

  module _ (source : List ℕ) where
    answer-behind : (place : ℕ) (R : Content) (have : Have) (o : Outcome) (answer : Result Outcome Reason) → Behind place R
        → IsHaveOutcome (record { texts = texts; source = source; label = part_label label place; theory = theory; content = R }) x have answer
        → o ≡ have_outcome (record { texts = texts; source = source; label = part_label label place; theory = theory; content = R }) x have answer → Behind (place + 1) o.next
    answer-behind place R have o (Ok p) b (n, m, is, its, h) e =
        let P : Place = record { texts = texts; source = source; label = part_label label place; theory = theory; content = R } in
        let c = bound-binding P n m have.prop have.script p h in
        let number_is : c.number ≡ n = bound-number P n m have.prop have.script p h in
        subst (λ (q : Outcome). Behind (place + 1) q.next) (sym e)
        (subst (λ (q : Outcome). Behind (place + 1) q.next) (sym c.is) (behind-one place R b c.number have.name c.stated.prop (subst (λ (k : ℕ). HasText texts k (have_text theory x have.name)) (sym number_is) is)))
    answer-behind place R have o (Err reason) b h e = subst (λ (q : Outcome). Behind (place + 1) q.next) (sym e) (behind-same place R b)

    -- One have more.
    pub behind-next : (place : ℕ) (R : Content) (have : Have) (note : Note) (next : Content) → Behind place R → DeclaresPart texts source (part_label label place) R (Within x have) note next → Behind (place + 1) next
    behind-next place R have note next b h =
        let same : h.theory ≡ theory = own-once texts R h.theory theory h.own b.own in
        let there = subst (λ (t : List ℕ). (answer : Result Outcome Reason)
        × IsHaveOutcome (record { texts = texts; source = source; label = part_label label place; theory = t; content = R }) x have answer
        × (outcome_with note next ≡ have_outcome (record { texts = texts; source = source; label = part_label label place; theory = t; content = R }) x have answer)) same (h.declares.answer, h.declares.is, h.declares.comes) in
        answer-behind place R have (record { note = note; next = next }) there.0 b there.1 there.2

    -- All haves of a list.
    pub behind-all : (haves : List Have) (place : ℕ) (R last : Content) (notes : List Note) → Behind place R → AreParts texts source label place R (map (Within x) haves) notes last → Behind (place + length haves) last
    behind-all [] place R last notes b h =
        let none : place ≡ place + 0 = omega arith in
        subst (λ (p : ℕ). Behind p last) none (subst (λ (S : Content). Behind place S) (sym h.1) b)
    behind-all (have ∷ haves) place R last notes b h =
        let on = behind-all haves (place + 1) h.1 last h.2 (behind-next place R have h.0 h.1 b h.3) h.4 in
        let count : place + 1 + length haves ≡ place + suc (length haves) = omega arith in
        subst (λ (p : ℕ). Behind p last) count on
