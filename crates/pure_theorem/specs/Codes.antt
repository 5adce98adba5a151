-- Codes of pairs and of theorems, as the trees of numbers by which a proof tells two values apart.
use Rattle.std.specs.Prelude.{List, refl}
use Rattle.std.specs.Coded.{Coded, code_by, coded×, coded_list}
use Rattle.pure_definitions.specs.Names.{Label}
use Rattle.pure_definitions.specs.Terms.Term.{Term}
use Rattle.pure_definitions.specs.Models.Codes.{coded_label, coded_term}
use Rattle.pure_logic.specs.Derivable.{Pair, Theorem}

abbrev pub coded_pair : Coded Pair
coded_pair = code_by (Term × Term) (coded× coded_term coded_term) (λ p. (p.left, p.right)) (λ p. record { left = p.0; right = p.1 }) (λ _. refl)

abbrev pub coded_theorem : Coded Theorem
coded_theorem =
    code_by (List Term × (List Pair × (Term × List Label))) (coded× (coded_list coded_term) (coded× (coded_list coded_pair) (coded× coded_term (coded_list coded_label))))
    (λ t. (t.hyps, (t.pairs, (t.prop, t.rests)))) (λ p. record { hyps = p.0; pairs = p.1.0; prop = p.1.1.0; rests = p.1.1.1 }) (λ _. refl)
