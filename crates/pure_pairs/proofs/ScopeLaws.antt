-- What stands below abstractions over a scope.
use Rattle.std.proofs.Common.{◌≡◌, ◌≢◌, Bool, true, false, List, [], ◌∷◌, Option, Some, None, MatchOption, refl, ap, sym, subst, ◌∙◌}
use Rattle.pure_definitions.specs.Types.Typ.{Typ, typ_eq}
use Rattle.pure_definitions.specs.Terms.Term.{Term, Abs, term_eq}
use Rattle.pure_definitions.specs.Models.Equality.{typ_eq-same, typ_eq-itself, term_eq-same, term_eq-itself}
use Rattle.pure_definitions.proofs.BindLemmas.{term_eq-other}
use Rattle.pure_pairs.specs.Modulo.{closed_over}
use Rattle.pure_pairs.specs.Difference.{IsNotOver}
use Rattle.pure_pairs.proofs.ModuloLaws.{closed_over-same}

pub own_body : (own typ : Typ) (b r : Term) (test : Bool) → test ≡ typ_eq own typ → test ≡ true → r ≡ b → Abs own b ≡ Abs typ r
own_body own typ b r test e f g = let same = typ_eq-same own typ (sym e ∙ f) in λ i. Abs (same i) (sym g i)

pub other_body : (own typ : Typ) (b c : Term) (test : Bool) → test ≡ typ_eq own typ → test ≡ false → Abs own b ≡ Abs typ c → ⊥
other_body own typ b c test e f g =
    let same : own ≡ typ = cc in
    let holds : typ_eq own typ ≡ true = subst (λ (U : Typ). typ_eq own U ≡ true) same (typ_eq-itself own) in
    absurd (cc)

pub opened_on : {X : Type 0} (now : X → Term) (o : Option X) (T : Typ) (bs : List Typ) (t inside : Term) → t ≡ closed_over bs inside → MatchOption o (IsNotOver (T ∷ []) inside) (λ b. inside ≡ closed_over (T ∷ []) (now b))
    → MatchOption o (IsNotOver (T ∷ bs) t) (λ b. t ≡ closed_over (T ∷ bs) (now b))
opened_on now None T bs t inside e h = λ b f. h b (closed_over-same bs inside (Abs T b) (sym e ∙ f))
opened_on now (Some x) T bs t inside e h = e ∙ ap (closed_over bs) h

pub not_opened : (T : Typ) (bs : List Typ) (t : Term) → IsNotOver bs t → IsNotOver (T ∷ bs) t
not_opened T bs t h b e = h (Abs T b) e

differ : (t u : Term) → term_eq t u ≡ false → t ≢ u
differ t u e same = let holds : term_eq t u ≡ true = subst (λ (v : Term). term_eq t v ≡ true) same (term_eq-itself t) in absurd (cc)

pub side_is : (bs : List Typ) (side inside part : Term) (test : Bool) → side ≡ closed_over bs inside → test ≡ term_eq inside part → test ≡ term_eq side (closed_over bs part)
side_is bs side inside part test e f = f ∙ by (term_eq inside part) refl
  where
    by : (b : Bool) → term_eq inside part ≡ b → term_eq inside part ≡ term_eq side (closed_over bs part)
    by true g = g ∙ sym (subst (λ (u : Term). term_eq side u ≡ true) (e ∙ ap (closed_over bs) (term_eq-same inside part g)) (term_eq-itself side))
    by false g = g ∙ sym (term_eq-other side (closed_over bs part) (λ h. differ inside part g (closed_over-same bs inside part (sym e ∙ h))))

pub no_side : (bs : List Typ) (side part : Term) → IsNotOver bs side → false ≡ term_eq side (closed_over bs part)
no_side bs side part h = sym (term_eq-other side (closed_over bs part) (h part))
