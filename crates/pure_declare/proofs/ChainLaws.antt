-- A command with its parts keeps what each part keeps.
use Rattle.std.proofs.Common.{◌≡◌, ◌⊎◌, ℕ, ◌+◌, suc, List, [], ◌∷◌, length, refl, sym, ap, subst, inl, inr, arith}
use Rattle.pure_text.specs.Lists.{IsIn}
use Rattle.pure_definitions.specs.Names.{Label}
use Rattle.pure_definitions.specs.Terms.Term.{Term}
use Rattle.pure_definitions.specs.Declarations.Decl.{PromiseDecl}
use Rattle.pure_logic.specs.Content.{Content}
use Rattle.pure_lookup.specs.Laws.{IsInSession}
use Rattle.pure_theory.specs.Refusals.{IsBefore, IsLabelAbove}
use Rattle.pure_declare.specs.Notes.{Note, Fork, Forked}
use Rattle.pure_declare.specs.Parts.{Part, DeclaresPart}
use Rattle.pure_declare.specs.Fold.{part_label, AreParts}
use Rattle.pure_declare.specs.Good.{IsGood}
use Rattle.pure_declare.specs.Grown.{IsGrown}
use Rattle.pure_declare.specs.Premises.{HasClassesAbove}
use Rattle.pure_declare.specs.Tidy.{IsTidy}
use Rattle.pure_declare.specs.Chains.{IsKept, CommandsKeep}
use Rattle.pure_declare.proofs.GrownLaws.{before-through, same-grown}
use Rattle.pure_declare.proofs.PartLaws.{parts_grow, parts_good, parts_tidy, parts_in_session, parts_promise}

module _ (texts : List (List ℕ)) (source : List ℕ) (label : Label) where
  -- What is kept from a place on: labels of parts at most at the last place.
  record IsKeptFrom (place : ℕ) (Q : Content) (notes : List Note) (next : Content) : Type 0 where
    good : IsGood next
    session : IsInSession texts next
    grown : IsGrown (part_label label (place + length notes)) Q next
    tidy : IsTidy Q → IsTidy next
    promises : (x : ℕ) (l : Label) (A : Term) → IsIn (PromiseDecl x l A) next.declarations
        → IsIn (PromiseDecl x l A) Q.declarations ⊎ ((f : Fork) × IsIn (Forked f) notes × (f.name ≡ x) × (f.label ≡ l) × (f.prop ≡ A))

  nothing-kept : (place : ℕ) (Q : Content) → IsInSession texts Q → IsGood Q → HasClassesAbove Q → IsLabelAbove Q.declarations (part_label label place) → IsKeptFrom place Q [] Q
  nothing-kept place Q s g above labels =
      let same : place ≡ place + 0 = omega arith in
      record {
        good = g;
        session = s;
        grown = subst (λ (p : ℕ). IsGrown (part_label label p) Q Q) same (same-grown (part_label label place) Q above labels);
        tidy = λ t. t;
        promises = λ x l A m. inl m;
      }

  one-kept : (place : ℕ) (Q R last : Content) (part : Part) (note : Note) (more : List Note) → IsInSession texts Q → IsGood Q → HasClassesAbove Q → IsLabelAbove Q.declarations (part_label label place)
      → DeclaresPart texts source (part_label label place) Q part note R → IsGrown (part_label label place) Q R → IsKeptFrom (place + 1) R more last → IsKeptFrom place Q (note ∷ more) last
  one-kept place Q R last part note more s g above labels d grown k =
      let count : place + 1 + length more ≡ place + length (note ∷ more) = omega arith in
      record {
        good = k.good;
        session = k.session;
        grown = subst (λ (p : ℕ). IsGrown (part_label label p) Q last) count (record {
          own = both k.grown.own grown.own;
          ancestors = both k.grown.ancestors grown.ancestors;
          below = λ e m. k.grown.below e (grown.below e m);
          above = k.grown.above;
          labels = k.grown.labels;
        });
        tidy = λ t. k.tidy (parts_tidy texts source (part_label label place) Q part note R t d);
        promises = λ x l A m. from x l A (k.promises x l A m);
      }
    where
      both : {A : Type 0} {a b c : A} → a ≡ b → b ≡ c → a ≡ c
      both e f = cc

      of-part : (x : ℕ) (l : Label) (A : Term) → IsIn (PromiseDecl x l A) Q.declarations ⊎ ((f : Fork) × (note ≡ Forked f) × (f.name ≡ x) × (f.label ≡ l) × (f.prop ≡ A))
          → IsIn (PromiseDecl x l A) Q.declarations ⊎ ((f : Fork) × IsIn (Forked f) (note ∷ more) × (f.name ≡ x) × (f.label ≡ l) × (f.prop ≡ A))
      of-part x l A (inl old) = inl old
      of-part x l A (inr (f, is, name, at, prop)) = inr (f, inl (sym is), name, at, prop)

      from : (x : ℕ) (l : Label) (A : Term) → IsIn (PromiseDecl x l A) R.declarations ⊎ ((f : Fork) × IsIn (Forked f) more × (f.name ≡ x) × (f.label ≡ l) × (f.prop ≡ A))
          → IsIn (PromiseDecl x l A) Q.declarations ⊎ ((f : Fork) × IsIn (Forked f) (note ∷ more) × (f.name ≡ x) × (f.label ≡ l) × (f.prop ≡ A))
      from x l A (inl there) = of-part x l A (parts_promise texts source (part_label label place) Q part note R d x l A there)
      from x l A (inr (f, m, name, at, prop)) = inr (f, inr m, name, at, prop)

  chain-kept : (parts : List Part) (place : ℕ) (Q : Content) (notes : List Note) (last : Content) → IsInSession texts Q → IsGood Q → HasClassesAbove Q → IsLabelAbove Q.declarations (part_label label place)
      → AreParts texts source label place Q parts notes last → IsKeptFrom place Q notes last
  chain-kept [] place Q notes last s g above labels h =
      subst (λ (ns : List Note). IsKeptFrom place Q ns last) (sym h.0) (subst (λ (R : Content). IsKeptFrom place Q [] R) (sym h.1) (nothing-kept place Q s g above labels))
  chain-kept (part ∷ parts) place Q notes last s g above labels (note, next, more, d, h, e) =
      let grown = parts_grow texts source (part_label label place) Q part note next s g.sound.content above labels d in
      let session = parts_in_session texts source (part_label label place) Q part note next s d in
      let good = parts_good texts source (part_label label place) Q part note next s g labels d in
      let after = grown.labels (part_label label (place + 1)) (inr (refl, inr (refl, omega arith))) in
      let on = chain-kept parts (place + 1) next more last session good grown.above after h in
      subst (λ (ns : List Note). IsKeptFrom place Q ns last) (sym e) (one-kept place Q next last part note more s g above labels d grown on)

pub commands_keep : CommandsKeep
commands_keep texts source label Q command notes next s g above labels d =
    let k = chain-kept texts source label d.parts 0 Q notes next s g above labels d.are in
    let same : 0 + length notes ≡ length notes = omega arith in
    record {
      good = k.good;
      session = k.session;
      grown = subst (λ (p : ℕ). IsGrown (part_label label p) Q next) same k.grown;
      tidy = k.tidy;
      promises = k.promises;
    }
