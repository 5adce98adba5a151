-- A code by which progress is told apart.
use Rattle.std.specs.Prelude.{ℕ, List, refl}
use Rattle.std.specs.Coded.{Coded, code_by, coded×, coded_ℕ, coded_list}
use Rattle.pure_definitions.specs.Terms.Subst.{TypBind}
use Rattle.pure_definitions.specs.Models.Codes.{coded_typ_bind}
use Rattle.pure_tunify.specs.Settings.{Progress}

abbrev pub coded_progress : Coded Progress
coded_progress = code_by (List TypBind × (ℕ × ℕ)) (coded× (coded_list coded_typ_bind) (coded× coded_ℕ coded_ℕ)) (λ p. (p.sets, (p.index, p.next))) (λ q. record { sets = q.0; index = q.1.0; next = q.1.1 }) (λ _. refl)
