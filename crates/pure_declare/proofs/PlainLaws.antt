-- Commands without haves are one part.
use Rattle.std.proofs.Common.{◌≡◌, ◌↔◌, ◌⊎◌, ℕ, ◌+◌, List, [], ◌∷◌, ◌++◌, refl, sym, ◌∙◌, ap, subst, inl, inr}
use Rattle.std.specs.Prelude.{Result, Ok, Err}
use Rattle.pure_text.specs.Lists.{Each}
use Rattle.pure_definitions.specs.Names.{Label}
use Rattle.pure_grammar.specs.Theories.TheoryText.{Span, Step, Have, Command, Class as ClassOf, TypeDecl, Arity as ArityOf, Const, Axiom, Definition, Lemma}
use Rattle.pure_logic.specs.Content.{Content}
use Rattle.pure_print.specs.declared.row.Row.{Row}
use Rattle.pure_statements.specs.declared.reason.Reason.{Reason}
use Rattle.pure_statements.specs.Chain.{refuses, goes_on}
use Rattle.pure_statements.specs.Rows.{declared_row, refused_row}
use Rattle.pure_declare.specs.Notes.{Note, Said, Outcome, Change}
use Rattle.pure_declare.specs.Commands.{Place, IsOwnText, IsOutcome, IsSaid, IsClassChange, IsTypeChange, IsArityChange, IsConstChange, IsAxiomChange, IsDefinitionChange, IsLemmaOutcome, saying}
use Rattle.pure_declare.specs.Changes.{IsNoLemma}
use Rattle.pure_declare.specs.First as first
use Rattle.pure_declare.specs.First.{IsDeclaredAs, outcome_of}
use Rattle.pure_declare.specs.Parts.{Part, Whole, Within, End, IsBoundOutcome, LeavesRow, DeclaresPart}
use Rattle.pure_declare.specs.Fold.{HasParts, part_label, AreParts, Declares, AreDeclared}
use Rattle.pure_declare.specs.Plain.{IsPlain, DeclaresPlain, AreDeclaredPlain}
use Rattle.pure_declare.proofs.DoneLaws.{outcome_with}

-- A command that isn't a lemma leaves a row.
module _ (P : Place) where
  said-row : (command : Command) (Is : Result Change Reason → Type 0) (o : Outcome) → IsSaid P command Is (Ok o) → LeavesRow o
  unfolding IsSaid
  said-row command Is o (refuses reason h e) = absurd (cc)
  said-row command Is o (goes_on c h e) = let same : o ≡ saying P command c = cc in (declared_row P.theory command c.tail, ap (λ (x : Outcome). x.note) same)

  outcome-row : (command : Command) → IsNoLemma command → (o : Outcome) → IsOutcome P command (Ok o) → LeavesRow o
  outcome-row (ClassOf x names) kind o (n, is, h) = said-row (ClassOf x names) (IsClassChange P n names) o h
  outcome-row (TypeDecl x params) kind o (n, is, h) = said-row (TypeDecl x params) (IsTypeChange P n params) o h
  outcome-row (ArityOf con domains class) kind o h = said-row (ArityOf con domains class) (IsArityChange P con domains class) o h
  outcome-row (Const x span) kind o (n, is, h) = said-row (Const x span) (IsConstChange P n span) o h
  outcome-row (Axiom x span) kind o (n, is, h) = said-row (Axiom x span) (IsAxiomChange P n span) o h
  outcome-row (Definition x typ text) kind o (n, f, is, also, h) = said-row (Definition x typ text) (IsDefinitionChange P x n f typ text) o h
  outcome-row (Lemma x span haves script) kind o h = absurd kind

  -- A refusal leaves one, too.
  pub refused-row : (command : Command) (reason : Reason) (o : Outcome) → o ≡ outcome_of P command (Err reason) → LeavesRow o
  refused-row command reason o e = (refused_row P.texts P.source P.theory command reason, ap (λ (x : Outcome). x.note) e)

  answer-row : (command : Command) → IsNoLemma command → (o : Outcome) (answer : Result Outcome Reason) → IsOutcome P command answer → o ≡ outcome_of P command answer → LeavesRow o
  answer-row command kind o (Ok p) h e = subst LeavesRow (sym e) (outcome-row command kind p h)
  answer-row command kind o (Err reason) h e = refused-row command reason o e

  pub command-row : (command : Command) → IsNoLemma command → (o : Outcome) → IsDeclaredAs P command o → LeavesRow o
  command-row command kind o h = answer-row command kind o h.answer h.is h.comes

  -- A lemma is bound in itself.
  pub lemma-bound : (n : ℕ) (span : Span) (script : List Step) (answer : Result Outcome Reason) → IsLemmaOutcome P n span script answer → IsBoundOutcome P n n span script answer
  unfolding IsLemmaOutcome IsBoundOutcome
  lemma-bound n span script answer h = h

  pub bound-lemma : (n : ℕ) (span : Span) (script : List Step) (answer : Result Outcome Reason) → IsBoundOutcome P n n span script answer → IsLemmaOutcome P n span script answer
  unfolding IsLemmaOutcome IsBoundOutcome
  bound-lemma n span script answer h = h

module _ (texts : List (List ℕ)) (source : List ℕ) (label : Label) (Q : Content) where
  -- A chain of one part.
  pub one-part : (part : Part) (notes : List Note) (next : Content) → AreParts texts source label 0 Q (part ∷ []) notes next → (note : Note) × DeclaresPart texts source (part_label label 0) Q part note next × (notes ≡ note ∷ [])
  one-part part notes next (note, then, more, d, (none, last), all) =
      (note, subst (λ (R : Content). DeclaresPart texts source (part_label label 0) Q part note R) (sym last) d, all ∙ ap (λ (ns : List Note). note ∷ ns) none)

  pub part-alone : (part : Part) (note : Note) (next : Content) → DeclaresPart texts source (part_label label 0) Q part note next → AreParts texts source label 0 Q (part ∷ []) (note ∷ []) next
  part-alone part note next d = (note, next, [], d, (refl, refl), refl)

  pub first-whole : (command : Command) → IsNoLemma command → (note : Note) (next : Content) → first.Declares texts source label Q command note next → DeclaresPart texts source label Q (Whole command) note next
  first-whole command kind note next h = record {
    theory = h.theory;
    own = h.own;
    declares = (h.declares, command-row (record { texts = texts; source = source; label = label; theory = h.theory; content = Q }) command kind (record { note = note; next = next }) h.declares);
  }

  pub whole-first : (command : Command) (note : Note) (next : Content) → DeclaresPart texts source label Q (Whole command) note next → first.Declares texts source label Q command note next
  whole-first command note next h = record { theory = h.theory; own = h.own; declares = h.declares.0 }

module _ (texts : List (List ℕ)) (source : List ℕ) (i c : ℕ) (Q : Content) where
  abbrev label : Label
  label = record { theory = i; command = c; part = 0 }

  abbrev place : List ℕ → Place
  place theory = record { texts = texts; source = source; label = label; theory = theory; content = Q }

  -- What the command leaves with its parts is what it leaves as one.
  abbrev IsAlike : Command → List Note → Content → Type 0
  IsAlike command notes next = Declares texts source label Q command notes next ↔ ((note : Note) × first.Declares texts source label Q command note next × (notes ≡ note ∷ []))

  -- of a command that has one part
  by-whole : (command : Command) (notes : List Note) (next : Content) → IsNoLemma command → ((theory : List ℕ) (parts : List Part) → HasParts (place theory) command parts → parts ≡ Whole command ∷ [])
      → ((theory : List ℕ) → HasParts (place theory) command (Whole command ∷ [])) → IsAlike command notes next
  by-whole command notes next kind alone has = (there, back)
    where
      there : Declares texts source label Q command notes next → (note : Note) × first.Declares texts source label Q command note next × (notes ≡ note ∷ [])
      there d =
          let one = one-part texts source label Q (Whole command) notes next (subst (λ (ps : List Part). AreParts texts source label 0 Q ps notes next) (alone d.theory d.parts d.has) d.are) in
          (one.0, whole-first texts source label Q command one.0 next one.1, one.2)

      back : (note : Note) × first.Declares texts source label Q command note next × (notes ≡ note ∷ []) → Declares texts source label Q command notes next
      back (note, h, e) = record {
        theory = h.theory;
        own = h.own;
        parts = Whole command ∷ [];
        has = has h.theory;
        are = subst (λ (ns : List Note). AreParts texts source label 0 Q (Whole command ∷ []) ns next) (sym e) (part-alone texts source label Q (Whole command) note next (first-whole texts source label Q command kind note next h));
      }

  -- of a lemma without haves
  module _ (x : List ℕ) (span : Span) (script : List Step) (notes : List Note) (next : Content) where
    abbrev lemma : Command
    lemma = Lemma x span [] script

    end-first : (note : Note) → DeclaresPart texts source label Q (End x span script) note next → first.Declares texts source label Q lemma note next
    end-first note h = record {
      theory = h.theory;
      own = h.own;
      declares = record {
        answer = Ok (record { note = note; next = next });
        is = (h.declares.0, h.declares.1, bound-lemma (place h.theory) h.declares.0 span script (Ok (record { note = note; next = next })) h.declares.2);
        comes = refl;
      };
    }

    parted : (theory : List ℕ) (parts : List Part) → HasParts (place theory) lemma parts → AreParts texts source label 0 Q parts notes next → (note : Note) × first.Declares texts source label Q lemma note next × (notes ≡ note ∷ [])
    parted theory parts (inl (stands, e)) are =
        let one = one-part texts source label Q (End x span script) notes next (subst (λ (ps : List Part). AreParts texts source label 0 Q ps notes next) e are) in
        (one.0, end-first one.0 one.1, one.2)
    parted theory parts (inr e) are =
        let one = one-part texts source label Q (Whole lemma) notes next (subst (λ (ps : List Part). AreParts texts source label 0 Q ps notes next) e are) in
        (one.0, whole-first texts source label Q lemma one.0 next one.1, one.2)

    answered : (note : Note) (theory : List ℕ) → IsOwnText texts Q theory → (answer : Result Outcome Reason) → IsOutcome (place theory) lemma answer → outcome_with note next ≡ outcome_of (place theory) lemma answer
        → Declares texts source label Q lemma (note ∷ []) next
    answered note theory own (Ok p) (n, is, h) e = record {
      theory = theory;
      own = own;
      parts = End x span script ∷ [];
      has = inl ((p, (n, is, h)), refl);
      are = part-alone texts source label Q (End x span script) note next (record {
        theory = theory;
        own = own;
        declares = (n, is, subst (λ (q : Outcome). IsBoundOutcome (place theory) n n span script (Ok q)) (sym e) (lemma-bound (place theory) n span script (Ok p) h));
      });
    }
    answered note theory own (Err reason) h e = record {
      theory = theory;
      own = own;
      parts = Whole lemma ∷ [];
      has = inr refl;
      are = part-alone texts source label Q (Whole lemma) note next (record {
        theory = theory;
        own = own;
        declares = (record { answer = Err reason; is = h; comes = e }, refused-row (place theory) lemma reason (record { note = note; next = next }) e);
      });
    }

    by-lemma : IsAlike lemma notes next
    by-lemma = (
      λ d. parted d.theory d.parts d.has d.are,
      λ w. subst (λ (ns : List Note). Declares texts source label Q lemma ns next) (sym w.2) (answered w.0 w.1.theory w.1.own w.1.declares.answer w.1.declares.is w.1.declares.comes),
    )

  plainly : (command : Command) (notes : List Note) (next : Content) → IsPlain command → IsAlike command notes next
  plainly (ClassOf x names) notes next plain = by-whole (ClassOf x names) notes next tt (λ theory parts h. h) (λ theory. refl)
  plainly (TypeDecl x params) notes next plain = by-whole (TypeDecl x params) notes next tt (λ theory parts h. h) (λ theory. refl)
  plainly (ArityOf con domains class) notes next plain = by-whole (ArityOf con domains class) notes next tt (λ theory parts h. h) (λ theory. refl)
  plainly (Const x span) notes next plain = by-whole (Const x span) notes next tt (λ theory parts h. h) (λ theory. refl)
  plainly (Axiom x span) notes next plain = by-whole (Axiom x span) notes next tt (λ theory parts h. h) (λ theory. refl)
  plainly (Definition x typ text) notes next plain = by-whole (Definition x typ text) notes next tt (λ theory parts h. h) (λ theory. refl)
  plainly (Lemma x span haves script) notes next plain = subst (λ (hs : List Have). IsAlike (Lemma x span hs script) notes next) (sym plain) (by-lemma x span script notes next)

pub declares_plain : DeclaresPlain
declares_plain texts source label Q command notes next plain first_part =
    let same : part_label label 0 ≡ label = λ i. record { theory = label.theory; command = label.command; part = sym first_part i } in
    subst (λ (l : Label). Declares texts source l Q command notes next ↔ ((note : Note) × first.Declares texts source l Q command note next × (notes ≡ note ∷ []))) same
    (plainly texts source label.theory label.command Q command notes next plain)

module _ (texts : List (List ℕ)) (source : List ℕ) (index place : ℕ) (Q : Content) (c : Command) (cs : List Command) (notes : List Note) (last : Content) (plain : IsPlain c)
    (rest : (next : Content) (more : List Note) → AreDeclared texts source index (place + 1) next cs more last ↔ first.AreDeclared texts source index (place + 1) next cs more last) where
  fold-there : AreDeclared texts source index place Q (c ∷ cs) notes last → first.AreDeclared texts source index place Q (c ∷ cs) notes last
  fold-there (ns, next, more, d, h, e) =
      let one = (plainly texts source index place Q c ns next plain).0 d in
      (one.0, next, more, one.1, (rest next more).0 h, e ∙ ap (λ (l : List Note). l ++ more) one.2)

  fold-back : first.AreDeclared texts source index place Q (c ∷ cs) notes last → AreDeclared texts source index place Q (c ∷ cs) notes last
  fold-back (note, next, more, d, h, e) = (note ∷ [], next, more, (plainly texts source index place Q c (note ∷ []) next plain).1 (note, d, refl), (rest next more).1 h, e)

pub are_declared_plain : AreDeclaredPlain
are_declared_plain texts source index place Q [] notes last plain = (λ h. h, λ h. h)
are_declared_plain texts source index place Q (c ∷ cs) notes last plain =
    let rest = λ (next : Content) (more : List Note). are_declared_plain texts source index (place + 1) next cs more last plain.1 in
    (fold-there texts source index place Q c cs notes last plain.0 rest, fold-back texts source index place Q c cs notes last plain.0 rest)
