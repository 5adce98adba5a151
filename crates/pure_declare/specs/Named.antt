-- A content with the texts of names.
use Rattle.std.specs.Prelude.{ℕ, List, refl}
use Rattle.std.specs.Coded.{Coded, code_by, coded×, coded_ℕ, coded_list}
use Rattle.pure_logic.specs.Content.{Content}
use Rattle.pure_theory.specs.Codes.{coded_content}

pub record Named : Type 0 where
  pub texts : List (List ℕ)
  pub content : Content

abbrev pub coded_named : Coded Named
coded_named = code_by (List (List ℕ) × Content) (coded× (coded_list (coded_list coded_ℕ)) coded_content) (λ n. (n.texts, n.content)) (λ p. record { texts = p.0; content = p.1 }) (λ _. refl)
