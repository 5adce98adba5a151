-- Codes of declarations, by which a proof tells two of them apart.
use Rattle.std.specs.Prelude.{◌≡◌, ◌⊎◌, ℕ, List, refl}
use Rattle.std.proofs.Common.{inl, inr}
use Rattle.std.specs.Coded.{Coded, code_by, coded×, coded⊎, coded_ℕ, coded_list}
use Rattle.pure_definitions.specs.Names.{Label}
use Rattle.pure_definitions.specs.Types.Typ.{Typ}
use Rattle.pure_definitions.specs.Terms.Term.{Term}
use Rattle.pure_definitions.specs.Types.Order.{Class, Arity}
use Rattle.pure_definitions.specs.Models.Codes.{coded_label, coded_typ, coded_term}
use Rattle.pure_definitions.specs.Declarations.Decl.{Decl, ClassDecl, ConDecl, ArityDecl, ConstDecl, AxiomDecl, PromiseDecl}

abbrev pub coded_class : Coded Class
coded_class = code_by (ℕ × List ℕ) (coded× coded_ℕ (coded_list coded_ℕ)) (λ k. (k.name, k.above)) (λ p. record { name = p.0; above = p.1 }) (λ _. refl)

abbrev pub coded_arity : Coded Arity
coded_arity =
    code_by (ℕ × (List (List ℕ) × ℕ)) (coded× coded_ℕ (coded× (coded_list (coded_list coded_ℕ)) coded_ℕ)) (λ a. (a.con, (a.domains, a.class)))
    (λ p. record { con = p.0; domains = p.1.0; class = p.1.1 }) (λ _. refl)

-- the kinds of declarations as a sum
abbrev pub Kinds : Type 0
Kinds = Class ⊎ ((ℕ × ℕ) ⊎ (Arity ⊎ ((ℕ × Typ) ⊎ ((ℕ × Term) ⊎ (ℕ × (Label × Term))))))

abbrev pub to_kinds : Decl → Kinds
to_kinds (ClassDecl k) = inl k
to_kinds (ConDecl k n) = inr (inl (k, n))
to_kinds (ArityDecl a) = inr (inr (inl a))
to_kinds (ConstDecl c T) = inr (inr (inr (inl (c, T))))
to_kinds (AxiomDecl x A) = inr (inr (inr (inr (inl (x, A)))))
to_kinds (PromiseDecl x l A) = inr (inr (inr (inr (inr (x, (l, A))))))

abbrev pub from_kinds : Kinds → Decl
from_kinds (inl k) = ClassDecl k
from_kinds (inr (inl p)) = ConDecl p.0 p.1
from_kinds (inr (inr (inl a))) = ArityDecl a
from_kinds (inr (inr (inr (inl p)))) = ConstDecl p.0 p.1
from_kinds (inr (inr (inr (inr (inl p))))) = AxiomDecl p.0 p.1
from_kinds (inr (inr (inr (inr (inr p))))) = PromiseDecl p.0 p.1.0 p.1.1

pub from-to_kinds : (d : Decl) → from_kinds (to_kinds d) ≡ d
from-to_kinds (ClassDecl k) = refl
from-to_kinds (ConDecl k n) = refl
from-to_kinds (ArityDecl a) = refl
from-to_kinds (ConstDecl c T) = refl
from-to_kinds (AxiomDecl x A) = refl
from-to_kinds (PromiseDecl x l A) = refl

abbrev pub coded_kinds : Coded Kinds
coded_kinds =
    coded⊎ coded_class (coded⊎ (coded× coded_ℕ coded_ℕ) (coded⊎ coded_arity (coded⊎ (coded× coded_ℕ coded_typ) (coded⊎ (coded× coded_ℕ coded_term) (coded× coded_ℕ (coded× coded_label coded_term))))))

abbrev pub coded_decl : Coded Decl
coded_decl = code_by Kinds coded_kinds to_kinds from_kinds from-to_kinds
