-- Which classes are declared can be decided; and declarations whose inclusions and arities are of declared classes are closed.
use Rattle.std.proofs.Common.{◌≡◌, ◌⊎◌, ℕ, Bool, true, false, List, [], ◌∷◌, nat_eq, inl, inr, ⊎_elim, refl, subst, eqb-true, eq-eqb}
use Rattle.pure_text.proofs.ListLaws.{each_at}
use Rattle.pure_definitions.specs.Types.Order.{Class}
use Rattle.pure_definitions.specs.Declarations.Decl.{Decl, ClassDecl, ConDecl, ArityDecl, ConstDecl, AxiomDecl, PromiseDecl, algebra_of, IsDeclaredClass}
use Rattle.pure_term_laws.proofs.DeclLaws.{declared_classes, declared_arities}
use Rattle.pure_tunify.specs.Closed.{AreClosed, AreClassesDeclared}

later_class : (d : Decl) (ds : List Decl) (c : ℕ) → IsDeclaredClass ds c → IsDeclaredClass (d ∷ ds) c
later_class d ds c h = (h.0, inr h.1, h.2)

named_first : (k : Class) (ds : List Decl) (c : ℕ) → (k.name ≡ c → ⊥) → (IsDeclaredClass ds c → ⊥) → IsDeclaredClass (ClassDecl k ∷ ds) c → ⊥
named_first k ds c other rest h = ⊎_elim (λ same. let first : h.0 ≡ k = cc in other (subst (λ (x : Class). x.name ≡ c) first h.2)) (λ n. rest (h.0, n, h.2)) h.1

other_kind : (d : Decl) (ds : List Decl) (c : ℕ) → ((j : Class) → ClassDecl j ≡ d → ⊥) → IsDeclaredClass ds c ⊎ (IsDeclaredClass ds c → ⊥) → IsDeclaredClass (d ∷ ds) c ⊎ (IsDeclaredClass (d ∷ ds) c → ⊥)
other_kind d ds c other (inl h) = inl (later_class d ds c h)
other_kind d ds c other (inr gone) = inr (λ h. ⊎_elim (λ same. other h.0 same) (λ n. gone (h.0, n, h.2)) h.1)

decided : (ds : List Decl) (c : ℕ) → IsDeclaredClass ds c ⊎ (IsDeclaredClass ds c → ⊥)
decided [] c = inr (λ h. h.1)
decided (ClassDecl k ∷ ds) c = by_name (nat_eq k.name c) refl (decided ds c)
  where
    by_name : (q : Bool) → nat_eq k.name c ≡ q → IsDeclaredClass ds c ⊎ (IsDeclaredClass ds c → ⊥) → IsDeclaredClass (ClassDecl k ∷ ds) c ⊎ (IsDeclaredClass (ClassDecl k ∷ ds) c → ⊥)
    by_name true t rest = inl (k, inl refl, eqb-true k.name c t)
    by_name false t (inl h) = inl (later_class (ClassDecl k) ds c h)
    by_name false t (inr gone) = inr (named_first k ds c (λ e. let same = eq-eqb k.name c e in absurd (cc)) gone)
decided (ConDecl k n ∷ ds) c = other_kind (ConDecl k n) ds c (λ j e. absurd (cc)) (decided ds c)
decided (ArityDecl a ∷ ds) c = other_kind (ArityDecl a) ds c (λ j e. absurd (cc)) (decided ds c)
decided (ConstDecl d T ∷ ds) c = other_kind (ConstDecl d T) ds c (λ j e. absurd (cc)) (decided ds c)
decided (AxiomDecl x A ∷ ds) c = other_kind (AxiomDecl x A) ds c (λ j e. absurd (cc)) (decided ds c)
decided (PromiseDecl x l A ∷ ds) c = other_kind (PromiseDecl x l A) ds c (λ j e. absurd (cc)) (decided ds c)

pub declared_closed : (ds : List Decl) → AreClassesDeclared ds → AreClosed (algebra_of ds) (IsDeclaredClass ds)
declared_closed ds declared = record {
  decided = λ c. decided ds c;
  above = λ c d i. each_at (IsDeclaredClass ds) i.0.above (declared.inclusions i.0 ((declared_classes ds i.0).0 i.1)) d i.3;
  below = λ c d i. (i.0, (declared_classes ds i.0).0 i.1, i.2);
  class = λ a m. declared.classes a ((declared_arities ds a).0 m);
  domains = λ a m. declared.domains a ((declared_arities ds a).0 m);
}
