-- Codes of what the program holds, by which proofs tell such values apart.
use Rattle.std.specs.Prelude.{◌≡◌, ◌⊎◌, ℕ, List, refl}
use Rattle.std.proofs.Common.{inl, inr}
use Rattle.std.specs.Coded.{Coded, code_by, coded×, coded⊎, coded_ℕ, coded_list}
use Rattle.pure_definitions.specs.Names.{Label}
use Rattle.pure_definitions.specs.Terms.Term.{Term}
use Rattle.pure_definitions.specs.Models.Codes.{coded_label, coded_term}
use Rattle.pure_grammar.specs.Theories.TheoryText.{Step, Rule, Erule, Drule, Assumption, Unfold, Prefer, Defer, Close, Done}
use Rattle.pure_logic.specs.Content.{Content}
use Rattle.pure_theory.specs.Codes.{coded_content}
use Rattle.pure_declare.specs.Notes.{Fork, Change}
use Rattle.pure_declare.specs.Commands.{Place}

abbrev pub coded_text : Coded (List ℕ)
coded_text = coded_list coded_ℕ

abbrev pub coded_change : Coded Change
coded_change = code_by (List ℕ × Content) (coded× coded_text coded_content) (λ c. (c.tail, c.next)) (λ p. record { tail = p.0; next = p.1 }) (λ _. refl)

abbrev pub coded_place : Coded Place
coded_place =
    code_by (List (List ℕ) × (List ℕ × (Label × (List ℕ × Content)))) (coded× (coded_list coded_text) (coded× coded_text (coded× coded_label (coded× coded_text coded_content))))
    (λ P. (P.texts, (P.source, (P.label, (P.theory, P.content)))))
    (λ p. record { texts = p.0; source = p.1.0; label = p.1.1.0; theory = p.1.1.1.0; content = p.1.1.1.1 })
    (λ _. refl)

-- the kinds of steps as a sum; a kind without data has a number
abbrev pub Kinds : Type 0
Kinds = List ℕ ⊎ (List ℕ ⊎ (List ℕ ⊎ (ℕ ⊎ (List (List ℕ) ⊎ (ℕ ⊎ (ℕ ⊎ (ℕ ⊎ ℕ)))))))

abbrev pub to_kinds : Step → Kinds
to_kinds (Rule x) = inl x
to_kinds (Erule x) = inr (inl x)
to_kinds (Drule x) = inr (inr (inl x))
to_kinds Assumption = inr (inr (inr (inl 0)))
to_kinds (Unfold xs) = inr (inr (inr (inr (inl xs))))
to_kinds (Prefer n) = inr (inr (inr (inr (inr (inl n)))))
to_kinds Defer = inr (inr (inr (inr (inr (inr (inl 0))))))
to_kinds Close = inr (inr (inr (inr (inr (inr (inr (inl 0)))))))
to_kinds Done = inr (inr (inr (inr (inr (inr (inr (inr 0)))))))

abbrev pub from_kinds : Kinds → Step
from_kinds (inl x) = Rule x
from_kinds (inr (inl x)) = Erule x
from_kinds (inr (inr (inl x))) = Drule x
from_kinds (inr (inr (inr (inl _)))) = Assumption
from_kinds (inr (inr (inr (inr (inl xs))))) = Unfold xs
from_kinds (inr (inr (inr (inr (inr (inl n)))))) = Prefer n
from_kinds (inr (inr (inr (inr (inr (inr (inl _))))))) = Defer
from_kinds (inr (inr (inr (inr (inr (inr (inr (inl _)))))))) = Close
from_kinds (inr (inr (inr (inr (inr (inr (inr (inr _)))))))) = Done

pub from-to_kinds : (s : Step) → from_kinds (to_kinds s) ≡ s
from-to_kinds (Rule x) = refl
from-to_kinds (Erule x) = refl
from-to_kinds (Drule x) = refl
from-to_kinds Assumption = refl
from-to_kinds (Unfold xs) = refl
from-to_kinds (Prefer n) = refl
from-to_kinds Defer = refl
from-to_kinds Close = refl
from-to_kinds Done = refl

abbrev pub coded_step : Coded Step
coded_step =
    code_by Kinds (coded⊎ coded_text (coded⊎ coded_text (coded⊎ coded_text (coded⊎ coded_ℕ (coded⊎ (coded_list coded_text) (coded⊎ coded_ℕ (coded⊎ coded_ℕ (coded⊎ coded_ℕ coded_ℕ))))))))
    to_kinds from_kinds from-to_kinds

abbrev pub coded_fork : Coded Fork
coded_fork =
    code_by (Label × (ℕ × (ℕ × (Content × (Term × (Term × List Step)))))) (coded× coded_label (coded× coded_ℕ (coded× coded_ℕ (coded× coded_content (coded× coded_term (coded× coded_term (coded_list coded_step)))))))
    (λ f. (f.label, (f.name, (f.lemma, (f.content, (f.fixed, (f.prop, f.script)))))))
    (λ p. record { label = p.0; name = p.1.0; lemma = p.1.1.0; content = p.1.1.1.0; fixed = p.1.1.1.1.0; prop = p.1.1.1.1.1.0; script = p.1.1.1.1.1.1 })
    (λ _. refl)
