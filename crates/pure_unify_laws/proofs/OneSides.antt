-- Sides come to one long form or stop at most.
use Rattle.std.proofs.Common.{◌≡◌, List, [], ◌∷◌, refl, ap, sym, subst}
use Rattle.pure_definitions.specs.Terms.Term.{Term, IsWithin}
use Rattle.pure_definitions.specs.Reduction.Beta.{IsBetaAnswer, TooLarge, NormalForm, TooManySteps}
use Rattle.pure_definitions.specs.Reduction.Eta.{IsLongForm}
use Rattle.pure_term_laws.proofs.BetaLaws.{one_beta_answer}
use Rattle.pure_term_laws.proofs.EtaLaws.{one_long_form}
use Rattle.pure_logic.specs.Derivable.{Pair}
use Rattle.pure_unify_definitions.specs.Fronts.{pair}
use Rattle.pure_unify_definitions.specs.LongSides.{Stop, Side, Long, Ends, ComesTo, is_long, has_steps, is_large, is_wide, Sides, AllLong, Stopped, AreLong, no_more, left_stops, right_stops, later_stops, both_long}

-- two normal forms, and their long forms
normal-once : (t n m : Term) → IsBetaAnswer t (NormalForm n) → IsBetaAnswer t (NormalForm m) → n ≡ m
normal-once t n m f g = let same : NormalForm n ≡ NormalForm m = one_beta_answer t (NormalForm n) (NormalForm m) f g in cc

long-once : (t n m u v : Term) → IsBetaAnswer t (NormalForm n) → IsBetaAnswer t (NormalForm m) → IsLongForm n u → IsLongForm m v → u ≡ v
long-once t n m u v f g h k = one_long_form n u v h (subst (λ (w : Term). IsLongForm w v) (sym (normal-once t n m f g)) k)

normal-not-steps : (t n : Term) → IsBetaAnswer t (NormalForm n) → IsBetaAnswer t TooManySteps → ⊥
normal-not-steps t n f g = let same : NormalForm n ≡ TooManySteps = one_beta_answer t (NormalForm n) TooManySteps f g in absurd (cc)

normal-not-large : (t n : Term) → IsBetaAnswer t (NormalForm n) → IsBetaAnswer t TooLarge → ⊥
normal-not-large t n f g = let same : NormalForm n ≡ TooLarge = one_beta_answer t (NormalForm n) TooLarge f g in absurd (cc)

large-not-steps : (t : Term) → IsBetaAnswer t TooLarge → IsBetaAnswer t TooManySteps → ⊥
large-not-steps t f g = let same : TooLarge ≡ TooManySteps = one_beta_answer t TooLarge TooManySteps f g in absurd (cc)

pub side-once : (t : Term) (one other : Side) → ComesTo t one → ComesTo t other → one ≡ other
side-once t one other (is_long {n = n} {u = u} f h w) (is_long {n = m} {u = v} g k x) = ap Long (long-once t n m u v f g h k)
side-once t one other (is_long {n = n} f h w) (has_steps g) = absurd (normal-not-steps t n f g)
side-once t one other (is_long {n = n} f h w) (is_large g) = absurd (normal-not-large t n f g)
side-once t one other (is_long {n = n} {u = u} f h w) (is_wide {n = m} {u = v} g k x) = absurd (x (subst IsWithin (long-once t n m u v f g h k) w))
side-once t one other (has_steps f) (is_long {n = n} g k x) = absurd (normal-not-steps t n g f)
side-once t one other (has_steps f) (has_steps g) = refl
side-once t one other (has_steps f) (is_large g) = absurd (large-not-steps t g f)
side-once t one other (has_steps f) (is_wide {n = n} g k x) = absurd (normal-not-steps t n g f)
side-once t one other (is_large f) (is_long {n = n} g k x) = absurd (normal-not-large t n g f)
side-once t one other (is_large f) (has_steps g) = absurd (large-not-steps t f g)
side-once t one other (is_large f) (is_large g) = refl
side-once t one other (is_large f) (is_wide g k x) = refl
side-once t one other (is_wide {n = n} {u = u} f h w) (is_long {n = m} {u = v} g k x) = absurd (w (subst IsWithin (long-once t m n v u g f k h) x))
side-once t one other (is_wide {n = n} f h w) (has_steps g) = absurd (normal-not-steps t n f g)
side-once t one other (is_wide f h w) (is_large g) = refl
side-once t one other (is_wide f h w) (is_wide g k x) = refl

pub stop-once : (t : Term) (s r : Stop) → ComesTo t (Ends s) → ComesTo t (Ends r) → s ≡ r
stop-once t s r f g = let same : Ends s ≡ Ends r = side-once t (Ends s) (Ends r) f g in cc

pub form-once : (t u v : Term) → ComesTo t (Long u) → ComesTo t (Long v) → u ≡ v
form-once t u v f g = let same : Long u ≡ Long v = side-once t (Long u) (Long v) f g in cc

pub form-not-stop : (t u : Term) (s : Stop) → ComesTo t (Long u) → ComesTo t (Ends s) → ⊥
form-not-stop t u s f g = let same : Long u ≡ Ends s = side-once t (Long u) (Ends s) f g in absurd (cc)

pub sides-once : (ps : List Pair) (one other : Sides) → AreLong ps one → AreLong ps other → one ≡ other
sides-once [] one other no_more no_more = refl
sides-once (p ∷ ps) one other (left_stops {s = s} f) (left_stops {s = r} g) = ap Stopped (stop-once p.left s r f g)
sides-once (p ∷ ps) one other (left_stops {s = s} f) (right_stops {l = l} g h) = absurd (form-not-stop p.left l s g f)
sides-once (p ∷ ps) one other (left_stops {s = s} f) (later_stops {l = l} g h k) = absurd (form-not-stop p.left l s g f)
sides-once (p ∷ ps) one other (left_stops {s = s} f) (both_long {l = l} g h k) = absurd (form-not-stop p.left l s g f)
sides-once (p ∷ ps) one other (right_stops {l = l} f e) (left_stops {s = s} g) = absurd (form-not-stop p.left l s f g)
sides-once (p ∷ ps) one other (right_stops {s = s} f e) (right_stops {s = r} g h) = ap Stopped (stop-once p.right s r e h)
sides-once (p ∷ ps) one other (right_stops {s = s} f e) (later_stops {r = r} g h k) = absurd (form-not-stop p.right r s h e)
sides-once (p ∷ ps) one other (right_stops {s = s} f e) (both_long {r = r} g h k) = absurd (form-not-stop p.right r s h e)
sides-once (p ∷ ps) one other (later_stops {l = l} f e d) (left_stops {s = s} g) = absurd (form-not-stop p.left l s f g)
sides-once (p ∷ ps) one other (later_stops {r = r} f e d) (right_stops {s = s} g h) = absurd (form-not-stop p.right r s e h)
sides-once (p ∷ ps) one other (later_stops {s = s} f e d) (later_stops {s = r} g h k) = sides-once ps (Stopped s) (Stopped r) d k
sides-once (p ∷ ps) one other (later_stops {s = s} f e d) (both_long {qs = qs} g h k) = let same : Stopped s ≡ AllLong qs = sides-once ps (Stopped s) (AllLong qs) d k in absurd (cc)
sides-once (p ∷ ps) one other (both_long {l = l} f e d) (left_stops {s = s} g) = absurd (form-not-stop p.left l s f g)
sides-once (p ∷ ps) one other (both_long {r = r} f e d) (right_stops {s = s} g h) = absurd (form-not-stop p.right r s e h)
sides-once (p ∷ ps) one other (both_long {qs = qs} f e d) (later_stops {s = s} g h k) = let same : AllLong qs ≡ Stopped s = sides-once ps (AllLong qs) (Stopped s) d k in absurd (cc)
sides-once (p ∷ ps) one other (both_long {qs = qs} {l = l} {r = r} f e d) (both_long {qs = os} {l = k} {r = q} g h j) =
    let lefts = form-once p.left l k f g in
    let rights = form-once p.right r q e h in
    let same : AllLong qs ≡ AllLong os = sides-once ps (AllLong qs) (AllLong os) d j in
    let rest : qs ≡ os = cc in
    λ i. AllLong (pair (lefts i) (rights i) ∷ rest i)
