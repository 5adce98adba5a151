-- What stands under the name of a fact.
use Rattle.std.specs.Prelude.{ℕ, Option, None, Some, refl}
use Rattle.std.specs.Coded.{Coded, code_by, coded×, coded_option}
use Rattle.pure_definitions.specs.Names.{Label}
use Rattle.pure_definitions.specs.Terms.Term.{Term}
use Rattle.pure_definitions.specs.Models.Codes.{coded_label, coded_term}
use Rattle.pure_definitions.specs.Declarations.Decl.{Decl, AxiomDecl, PromiseDecl}

-- what an axiom or a promise states, with the label where it is a promise
pub record Stated : Type 0 where
  pub label : Option Label
  pub prop : Term

abbrev pub coded_stated : Coded Stated
coded_stated = code_by (Option Label × Term) (coded× (coded_option coded_label) coded_term) (λ s. (s.label, s.prop)) (λ p. record { label = p.0; prop = p.1 }) (λ _. refl)

-- the axiom, or the promise with the label, that has this name and states this
abbrev pub fact : (name : ℕ) → Option Label → Term → Decl
fact x None A = AxiomDecl x A
fact x (Some l) A = PromiseDecl x l A

-- the axiom or the promise of this name that is so stated
abbrev pub fact_decl : (name : ℕ) → Stated → Decl
fact_decl x s = fact x s.label s.prop
