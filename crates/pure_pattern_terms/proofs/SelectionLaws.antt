-- Places beside the domains of a type that isn't one of functions.
use Rattle.std.proofs.Common.{◌≡◌, ℕ, zero, List, [], ◌∷◌, Result, Ok, Err, IfOk, ap, refl, sym, ◌∙◌}
use Rattle.pure_definitions.specs.Types.Typ.{Typ, Con, none, also, IsNoArrow}
use Rattle.pure_unify_definitions.specs.Fronts.{domains, range, function_typ}
use Rattle.pure_pattern_laws.specs.Places.{agreeing, shared_left}

no_domains : (T : Typ) → IsNoArrow T → domains T ≡ []
no_domains (Con zero (also A (also B none))) n = absurd (n A B refl)
no_domains T n = refl

agreeing-none : (zs ws : List ℕ) (Ts : List Typ) → Ts ≡ [] → agreeing zs ws Ts ≡ []
agreeing-none [] ws Ts e = refl
agreeing-none (z ∷ zs) [] Ts e = refl
agreeing-none (z ∷ zs) (w ∷ ws) [] e = refl
agreeing-none (z ∷ zs) (w ∷ ws) (T ∷ Ts) e = absurd (cc)

left-none : (zs ws : List ℕ) (Ts : List Typ) → Ts ≡ [] → shared_left zs ws Ts ≡ []
left-none [] ws Ts e = refl
left-none (z ∷ zs) ws [] e = refl
left-none (z ∷ zs) ws (T ∷ Ts) e = absurd (cc)

pub agreeing-range : {E : Type 0} (r : Result Typ E) (zs ws : List ℕ) (T : Typ) → IsNoArrow T → IfOk r (λ U. U ≡ range T) → IfOk r (λ U. U ≡ function_typ (agreeing zs ws (domains T)) (range T))
agreeing-range (Ok U) zs ws T lacks e = e ∙ ap (λ (Us : List Typ). function_typ Us (range T)) (sym (agreeing-none zs ws (domains T) (no_domains T lacks)))
agreeing-range (Err x) zs ws T lacks e = e

pub left-range : {E : Type 0} (r : Result Typ E) (zs ws : List ℕ) (T : Typ) → IsNoArrow T → IfOk r (λ U. U ≡ range T) → IfOk r (λ U. U ≡ function_typ (shared_left zs ws (domains T)) (range T))
left-range (Ok U) zs ws T lacks e = e ∙ ap (λ (Us : List Typ). function_typ Us (range T)) (sym (left-none zs ws (domains T) (no_domains T lacks)))
left-range (Err x) zs ws T lacks e = e
