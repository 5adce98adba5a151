-- Codes of cancellations, as the trees of numbers by which a proof tells two values apart.
use Rattle.std.specs.Prelude.{ℕ, List, refl}
use Rattle.std.specs.Coded.{Coded, code_by, coded×, coded_ℕ, coded_list}
use Rattle.pure_words.specs.declared.job.CancelWord.{CancelWord}

abbrev pub coded_cancel : Coded CancelWord
coded_cancel = code_by (List ℕ × ℕ) (coded× (coded_list coded_ℕ) coded_ℕ) (λ c. (c.group, c.after)) (λ p. record { group = p.0; after = p.1 }) (λ _. refl)
