-- The code of sessions, by which a proof tells two of them apart.
use Rattle.std.specs.Prelude.{◌≡◌, ◌⊎◌, ℕ, List, refl}
use Rattle.std.proofs.Common.{inl, inr}
use Rattle.std.specs.Coded.{Coded, code_by, coded×, coded⊎, coded_ℕ, coded_list}
use Rattle.pure_grammar.specs.Theories.TheoryText.{Span, Step, Have, Command, Class, TypeDecl, Arity, Const, Axiom, Definition, Lemma, TheoryText}
use Rattle.pure_graph.specs.Order.{Loaded}
use Rattle.pure_session_meaning.specs.Declare.Codes.{coded_text, coded_step}
use Rattle.pure_theory_run.specs.Checked.{Checked}

abbrev pub coded_span : Coded Span
coded_span = code_by (ℕ × ℕ) (coded× coded_ℕ coded_ℕ) (λ s. (s.from, s.to)) (λ p. record { from = p.0; to = p.1 }) (λ _. refl)

abbrev pub coded_have : Coded Have
coded_have = code_by (List ℕ × (Span × List Step)) (coded× coded_text (coded× coded_span (coded_list coded_step))) (λ h. (h.name, (h.prop, h.script))) (λ p. record { name = p.0; prop = p.1.0; script = p.1.1 }) (λ _. refl)

-- the kinds of commands as a sum
abbrev pub Kinds : Type 0
Kinds =
    (List ℕ × List (List ℕ)) ⊎ ((List ℕ × ℕ) ⊎ ((List ℕ × (List (List (List ℕ)) × List ℕ)) ⊎ ((List ℕ × Span) ⊎ ((List ℕ × Span) ⊎ ((List ℕ × (Span × Span)) ⊎ (List ℕ × (Span × (List Have × List Step))))))))

abbrev pub to_kinds : Command → Kinds
to_kinds (Class x above) = inl (x, above)
to_kinds (TypeDecl x params) = inr (inl (x, params))
to_kinds (Arity con doms class) = inr (inr (inl (con, (doms, class))))
to_kinds (Const x typ) = inr (inr (inr (inl (x, typ))))
to_kinds (Axiom x prop) = inr (inr (inr (inr (inl (x, prop)))))
to_kinds (Definition x typ prop) = inr (inr (inr (inr (inr (inl (x, (typ, prop)))))))
to_kinds (Lemma x prop haves script) = inr (inr (inr (inr (inr (inr (x, (prop, (haves, script))))))))

abbrev pub from_kinds : Kinds → Command
from_kinds (inl p) = Class p.0 p.1
from_kinds (inr (inl p)) = TypeDecl p.0 p.1
from_kinds (inr (inr (inl p))) = Arity p.0 p.1.0 p.1.1
from_kinds (inr (inr (inr (inl p)))) = Const p.0 p.1
from_kinds (inr (inr (inr (inr (inl p))))) = Axiom p.0 p.1
from_kinds (inr (inr (inr (inr (inr (inl p)))))) = Definition p.0 p.1.0 p.1.1
from_kinds (inr (inr (inr (inr (inr (inr p)))))) = Lemma p.0 p.1.0 p.1.1.0 p.1.1.1

pub from-to_kinds : (c : Command) → from_kinds (to_kinds c) ≡ c
from-to_kinds (Class x above) = refl
from-to_kinds (TypeDecl x params) = refl
from-to_kinds (Arity con doms class) = refl
from-to_kinds (Const x typ) = refl
from-to_kinds (Axiom x prop) = refl
from-to_kinds (Definition x typ prop) = refl
from-to_kinds (Lemma x prop haves script) = refl

abbrev pub coded_texts : Coded (List (List ℕ))
coded_texts = coded_list coded_text

abbrev pub coded_command : Coded Command
coded_command =
    code_by Kinds
    (coded⊎ (coded× coded_text coded_texts) (coded⊎ (coded× coded_text coded_ℕ) (coded⊎ (coded× coded_text (coded× (coded_list coded_texts) coded_text))
    (coded⊎ (coded× coded_text coded_span) (coded⊎ (coded× coded_text coded_span) (coded⊎ (coded× coded_text (coded× coded_span coded_span))
    (coded× coded_text (coded× coded_span (coded× (coded_list coded_have) (coded_list coded_step))))))))))
    to_kinds from_kinds from-to_kinds

abbrev pub coded_theory_text : Coded TheoryText
coded_theory_text =
    code_by (ℕ × (List ℕ × (List (List ℕ) × List Command))) (coded× coded_ℕ (coded× coded_text (coded× coded_texts (coded_list coded_command))))
    (λ t. (t.version, (t.name, (t.imports, t.commands)))) (λ p. record { version = p.0; name = p.1.0; imports = p.1.1.0; commands = p.1.1.1 }) (λ _. refl)

abbrev pub coded_loaded : Coded Loaded
coded_loaded =
    code_by (List ℕ × (List ℕ × (List ℕ × TheoryText))) (coded× coded_text (coded× (coded_list coded_ℕ) (coded× coded_text coded_theory_text)))
    (λ l. (l.name, (l.parents, (l.source, l.text)))) (λ p. record { name = p.0; parents = p.1.0; source = p.1.1.0; text = p.1.1.1 }) (λ _. refl)

abbrev pub coded_checked : Coded Checked
coded_checked = code_by (List (List ℕ) × List Loaded) (coded× coded_texts (coded_list coded_loaded)) (λ c. (c.texts, c.theories)) (λ p. record { texts = p.0; theories = p.1 }) (λ _. refl)
