-- Codes of lemmas that are raced, as the trees of numbers by which a proof tells two values apart.
use Rattle.std.specs.Prelude.{ℕ, List, refl}
use Rattle.std.specs.Coded.{Coded, code_by, coded×, coded_ℕ, coded_list}
use Rattle.pure_check_work.specs.Declare.Codes.{coded_fork}
use Rattle.pure_check_work.specs.Declare.Notes.{Fork}
use Rattle.pure_try.specs.Proofs.{Raced}

abbrev pub coded_raced : Coded Raced
coded_raced = code_by (List (List ℕ) × List Fork) (coded× (coded_list (coded_list coded_ℕ)) (coded_list coded_fork)) (λ r. (r.texts, r.forks)) (λ p. record { texts = p.0; forks = p.1 }) (λ _. refl)
