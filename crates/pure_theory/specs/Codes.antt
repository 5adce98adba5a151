-- The code of contents, by which a proof tells two of them apart.
use Rattle.std.specs.Prelude.{ℕ, List, Option, refl}
use Rattle.std.specs.Coded.{Coded, code_by, coded×, coded_ℕ, coded_list, coded_option}
use Rattle.pure_definitions.specs.Declarations.Decl.{Decl}
use Rattle.pure_logic.specs.Content.{TheoryId, Content}
use Rattle.pure_theory_tables.specs.Codes.{coded_decl}

abbrev pub coded_theory : Coded TheoryId
coded_theory = code_by (ℕ × ℕ) (coded× coded_ℕ coded_ℕ) (λ t. (t.name, t.index)) (λ p. record { name = p.0; index = p.1 }) (λ _. refl)

abbrev pub coded_content : Coded Content
coded_content =
    code_by (List Decl × (Option TheoryId × List TheoryId)) (coded× (coded_list coded_decl) (coded× (coded_option coded_theory) (coded_list coded_theory)))
    (λ Q. (Q.declarations, (Q.own, Q.ancestors))) (λ p. record { declarations = p.0; own = p.1.0; ancestors = p.1.1 }) (λ _. refl)
