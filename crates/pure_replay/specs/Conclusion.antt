-- What a line concludes, beside its tree.
use Rattle.std.specs.Prelude.{List, [], refl}
use Rattle.std.specs.Coded.{Coded, code_by, coded×, coded_list}
use Rattle.pure_definitions.specs.Terms.Term.{Term}
use Rattle.pure_definitions.specs.Models.Codes.{coded_term}

-- a proposition, and the hypotheses from which it follows: a set, that is, a list that ascends strictly
pub record Conclusion : Type 0 where
  pub hyps : List Term
  pub prop : Term

abbrev pub coded_conclusion : Coded Conclusion
coded_conclusion = code_by (List Term × Term) (coded× (coded_list coded_term) coded_term) (λ c. (c.hyps, c.prop)) (λ p. record { hyps = p.0; prop = p.1 }) (λ _. refl)

-- the proposition from no hypotheses
abbrev pub alone : Term → Conclusion
alone A = record { hyps = []; prop = A }
