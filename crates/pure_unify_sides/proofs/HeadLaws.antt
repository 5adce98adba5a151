-- How two heads stand to each other, by tests.
use Rattle.std.proofs.Common.{◌≡◌, ◌≢◌, ℕ, Bool, true, false, refl, ap, sym, subst, ◌∙◌}
use Rattle.std.proofs.lemmas.Bool.{eqb-true, eq-eqb}
use Rattle.std.specs.Prelude.{nat_eq}
use Rattle.pure_definitions.specs.Types.Typ.{Typ}
use Rattle.pure_definitions.specs.Terms.Term.{Term, Const, term_eq}
use Rattle.pure_definitions.specs.Models.Equality.{term_eq-same, term_eq-itself}
use Rattle.pure_unify_definitions.specs.Treatment.{AreApart}
use Rattle.pure_unify_sides.specs.Heads.{is_same_name}

pub same_heads : (h k : Term) (test : Bool) → test ≡ term_eq h k → test ≡ true → h ≡ k
same_heads h k test e f = term_eq-same h k (sym e ∙ f)

differ : (h k : Term) (test : Bool) → test ≡ term_eq h k → test ≡ false → h ≢ k
differ h k test e f same =
    let holds : term_eq h k ≡ true = subst (λ (t : Term). term_eq h t ≡ true) same (term_eq-itself h) in
    absurd (cc)

named : (h k : Term) → is_same_name h k ≡ true → h ≢ k → (c : ℕ) × (T : Typ) × (U : Typ) × (h ≡ Const c T) × (k ≡ Const c U) × (T ≢ U)
named (Const c T) (Const d U) e n =
    let same : c ≡ d = eqb-true c d e in
    (c, T, U, refl, ap (λ (x : ℕ). Const x U) (sym same), λ typs. n (λ i. Const (same i) (typs i)))
named _ _ e n = absurd (cc)

pub constant_heads : (h k : Term) (first second : Bool) → first ≡ term_eq h k → first ≡ false → second ≡ is_same_name h k → second ≡ true → (c : ℕ) × (T : Typ) × (U : Typ) × (h ≡ Const c T) × (k ≡ Const c U) × (T ≢ U)
constant_heads h k first second e f g i = named h k (sym g ∙ i) (differ h k first e f)

pub apart_heads : (h k : Term) (first second : Bool) → first ≡ term_eq h k → first ≡ false → second ≡ is_same_name h k → second ≡ false → AreApart h k
apart_heads h k first second e f g i = record {
  differ = differ h k first e f;
  no_constants = λ c T U l r. clash c T U l r;
}
  where
    clash : (c : ℕ) (T U : Typ) → h ≡ Const c T → k ≡ Const c U → ⊥
    clash c T U l r =
        let names : is_same_name h k ≡ nat_eq c c = (λ j. is_same_name (l j) (r j)) in
        let holds : nat_eq c c ≡ true = eq-eqb c c refl in
        absurd (cc)
