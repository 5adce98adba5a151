-- The pairs of arguments, one pair more.
use Rattle.std.proofs.Common.{◌≡◌, ◌+◌, List, [], ◌∷◌, ◌++◌, length, refl, ap, sym, subst, ◌∙◌, arith, append_assoc}
use Rattle.std.proofs.lemmas.List.{length-append}
use Rattle.pure_definitions.specs.Types.Typ.{Typ}
use Rattle.pure_definitions.specs.Terms.Term.{Term, App}
use Rattle.pure_logic.specs.Derivable.{Pair}
use Rattle.pure_unify_definitions.specs.Fronts.{arguments, below, pair, pairs_below}

pub fewer : (f g a b : Term) → length (arguments (App f a)) ≡ length (arguments (App g b)) → length (arguments f) ≡ length (arguments g)
fewer f g a b e =
    let first : length (arguments f ++ a ∷ []) ≡ length (arguments f) + 1 = length-append (arguments f) (a ∷ []) in
    let second : length (arguments g ++ b ∷ []) ≡ length (arguments g) + 1 = length-append (arguments g) (b ∷ []) in
    omega arith

one-more : (Ts Us : List Typ) (ts us : List Term) (a b : Term) → length ts ≡ length us → pairs_below Ts Us (ts ++ a ∷ []) (us ++ b ∷ []) ≡ pairs_below Ts Us ts us ++ pair (below Ts a) (below Us b) ∷ []
one-more Ts Us [] [] a b e = refl
one-more Ts Us [] (u ∷ us) a b e = absurd (omega arith)
one-more Ts Us (t ∷ ts) [] a b e = absurd (omega arith)
one-more Ts Us (t ∷ ts) (u ∷ us) a b e = ap (λ (ps : List Pair). pair (below Ts t) (below Us u) ∷ ps) (one-more Ts Us ts us a b (omega arith))

pub pushed : (Ts Us : List Typ) (f g a b : Term) (p : Pair) (old between new : List Pair) → length (arguments f) ≡ length (arguments g) → between ≡ old ++ pairs_below Ts Us (arguments f) (arguments g) → p ≡ pair (below Ts a) (below Us b)
    → new ≡ between ++ p ∷ [] → new ≡ old ++ pairs_below Ts Us (arguments (App f a)) (arguments (App g b))
pushed Ts Us f g a b p old between new e h k n =
    n ∙ ((λ i. h i ++ k i ∷ []) ∙ (append_assoc old (pairs_below Ts Us (arguments f) (arguments g)) (pair (below Ts a) (below Us b) ∷ [])
    ∙ ap (λ (ps : List Pair). old ++ ps) (sym (one-more Ts Us (arguments f) (arguments g) a b e))))

pub pushed_on : (Ts Us : List Typ) (F G f g a b h k c d : Term) (p : Pair) (old between new : List Pair) → F ≡ App f a → G ≡ App g b → h ≡ f → k ≡ g → c ≡ a → d ≡ b → length (arguments F) ≡ length (arguments G)
    → between ≡ old ++ pairs_below Ts Us (arguments h) (arguments k) → p ≡ pair (below Ts c) (below Us d) → new ≡ between ++ p ∷ [] → new ≡ old ++ pairs_below Ts Us (arguments F) (arguments G)
pushed_on Ts Us F G f g a b h k c d p old between new e1 e2 e3 e4 e5 e6 many e7 e8 e9 =
    let first : F ≡ App h c = e1 ∙ (λ i. App (sym e3 i) (sym e5 i)) in
    let second : G ≡ App k d = e2 ∙ (λ i. App (sym e4 i) (sym e6 i)) in
    let moved : length (arguments (App h c)) ≡ length (arguments (App k d)) = ap (λ (t : Term). length (arguments t)) (sym first) ∙ (many ∙ ap (λ (t : Term). length (arguments t)) second) in
    let whole = pushed Ts Us h k c d p old between new (fewer h k c d moved) e7 e8 e9 in
    subst (λ (t : Term). new ≡ old ++ pairs_below Ts Us (arguments t) (arguments G)) (sym first) (subst (λ (t : Term). new ≡ old ++ pairs_below Ts Us (arguments (App h c)) (arguments t)) (sym second) whole)
