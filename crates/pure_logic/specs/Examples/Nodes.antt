-- What each node of a tree concludes, by example, and where it concludes nothing.
use Rattle.std.specs.Prelude.{◌≡◌, ◌≢◌, if◌then◌else◌, List, [], ◌∷◌}
use Rattle.pure_definitions.specs.Types.Typ.{Typ, Con, none, arrow, prop}
use Rattle.pure_definitions.specs.Terms.Term.{Term, Const, Free, Var, Bound, Abs, App, term_eq}
use Rattle.pure_definitions.specs.Terms.Subst.{TypBind, TermBind, typ_image, retyped_variable, term_instance}
use Rattle.pure_term_laws.specs.LawsExamples.{i, j, a, f, x, y, any_x}
use Rattle.pure_term_laws.specs.LawsSubst.{for_a}
use Rattle.pure_logic.specs.Connectives.{all_of, all, imp, eq}
use Rattle.pure_logic.specs.Content.{IsContent, IsProposition}
use Rattle.pure_logic.specs.PureContent.{any_typ}
use Rattle.pure_logic.specs.Tree.{Tree, Axiom, Promise, Assume, AllIntro, AllElim, ImpliesIntro, ImpliesElim, Beta, Refl, Subst, Ext, Iff, hyps_of, rests_of, joined_terms}
use Rattle.pure_logic.specs.Concludes.{Concludes}
use Rattle.pure_logic.specs.Derivable.{IsUnderPairs, IsDerivable, IsDerivableAlone}
use Rattle.pure_logic.specs.Examples.Theory.{less, holds, any_left, any_right, any_w, related, h, q, promised, example}
use Rattle.pure_logic.specs.Examples.Contents.{content_of}

-- The example's declarations are a content.
abbrev pub ExampleIsContent : Type 0
ExampleIsContent = IsContent example

-- Over the example's content the tree concludes the proposition, from these hypotheses.
abbrev pub Gives : Tree → List Term → Term → Type 0
Gives d hyps C = Concludes example d C × (hyps_of d ≡ hyps)

-- It concludes nothing.
abbrev pub GivesNothing : Tree → Type 0
GivesNothing d = (C : Term) → ¬ Concludes example d C

-- an entry that replaces `?z :: i`
abbrev pub for_z : Term → TermBind
for_z image = record { name = 2; index = 0; typ = i; image = image }

-- the axiom `p ?z` with a type for `?'b` and a term for `?z`
abbrev pub axiom_at : Typ → Term → Tree
axiom_at T t = Axiom 50 (typ_image (for_a T ∷ [])) (joined_terms (for_a T ∷ []) (for_z t ∷ []))

-- With i for `?'b` and a for `?z` the axiom `p ?z` gives `p a`. The promise gives its statement, and rests on its label.
abbrev pub AxiomExample : Type 0
AxiomExample = Gives (axiom_at i a) [] (holds i a)

abbrev pub PromiseExample : Type 0
PromiseExample = Gives (Promise promised (λ T. T) (λ t. t)) [] (less any_x any_x) × (rests_of (Promise promised (λ T. T) (λ t. t)) ≡ promised ∷ [])

-- With i for both its type variables and a for `?w :: ?'a` and x for `?w :: ?'b` the axiom `r ?w ?w` gives `r a x`: an image is that of the variable with its own type, and not of what the type map makes of it.
-- With a type map and then a term map both would have one image.
abbrev pub both_to_i : List TypBind
both_to_i = record { name = 0; index = 0; sort = []; image = i } ∷ record { name = 1; index = 0; sort = []; image = i } ∷ []

abbrev pub image_of_own : Term → Term
image_of_own v = if term_eq (any_w any_left) v then a else (if term_eq (any_w any_right) v then x else retyped_variable (typ_image both_to_i) v)

abbrev pub OwnTypeExample : Type 0
OwnTypeExample = Gives (Axiom 52 (typ_image both_to_i) image_of_own) [] (related i i a x)
    × ((terms : List TermBind) → (t : Term) × (term_instance (typ_image both_to_i) (joined_terms both_to_i terms) (related any_left any_right (any_w any_left) (any_w any_right)) ≡ related i i t t))

-- A tree rests on the promises of all its parts.
abbrev pub RestsExample : Type 0
RestsExample =
    let other = record promised { part = 1 } in
    let both = ImpliesElim (Promise promised (λ T. T) (λ t. t)) (Promise other (λ T. T) (λ t. t)) in
    (rests_of both ≡ promised ∷ other ∷ []) × (rests_of (AllElim a (AllIntro x (ImpliesIntro (less x y) both))) ≡ promised ∷ other ∷ [])

-- An axiom or a label that the content doesn't have gives nothing.
abbrev pub NoAxiomExample : Type 0
NoAxiomExample = GivesNothing (Axiom 99 (λ T. T) (λ t. t)) × GivesNothing (Promise (record promised { part = 1 }) (λ T. T) (λ t. t))

-- Maps give nothing that send `?'b :: c` to j, which isn't of class c, or `?z` to f, which hasn't its type, or to a constant that isn't certified; nor does a promise with a map of the second kind.
abbrev pub NoMapExample : Type 0
NoMapExample = GivesNothing (axiom_at j (Free 41 j)) × GivesNothing (axiom_at i f) × GivesNothing (axiom_at i (Const 99 i)) × GivesNothing (Promise promised (λ T. T) (λ t. f))

-- `x < y` from itself; nothing from a, which is no proposition.
abbrev pub AssumeExample : Type 0
AssumeExample = Gives (Assume (less x y)) (less x y ∷ []) (less x y) × GivesNothing (Assume a)

-- `!!x. x == x`, over a fixed variable or a schematic one. Where the hypothesis with x was discharged x may be bound; and a variable of its name with another type isn't x.
abbrev pub AllIntroExample : Type 0
AllIntroExample = Gives (AllIntro x (Refl x)) [] (all i (eq i (Bound 0) (Bound 0))) × Gives (AllIntro any_x (Refl any_x)) [] (all i (eq i (Bound 0) (Bound 0)))
    × Gives (AllIntro x (ImpliesIntro (less x y) (Assume (less x y)))) [] (all i (imp (less (Bound 0) y) (less (Bound 0) y)))
    × Gives (AllIntro (Free 40 j) (Assume (less x y))) (less x y ∷ []) (all j (less x y))

-- Nothing where x is free in a hypothesis, nor over a constant, nor over a variable whose type isn't certified.
abbrev pub NoAllIntroExample : Type 0
NoAllIntroExample = GivesNothing (AllIntro x (Assume (less x y))) × GivesNothing (AllIntro a (Refl a)) × GivesNothing (AllIntro (Free 40 (Con 13 none)) (Refl a))

-- `!!x. !!y. x < y` eliminated with y is `!!z. y < z`, and not `!!y. y < y`.
abbrev pub AllElimExample : Type 0
AllElimExample =
    let every = all i (all i (less (Bound 1) (Bound 0))) in
    Gives (AllElim y (Assume every)) (every ∷ []) (all i (less y (Bound 0))) × (¬ Concludes example (AllElim y (Assume every)) (all i (less (Bound 0) (Bound 0))))

-- Nothing from a quantified function that is no abstraction, nor with a term of another type or one that isn't certified, nor where nothing is quantified.
abbrev pub NoAllElimExample : Type 0
NoAllElimExample = GivesNothing (AllElim y (Assume (all_of i q))) × GivesNothing (AllElim f (Assume (all i (less (Bound 0) y)))) × GivesNothing (AllElim (Const 99 i) (Assume (all i (less (Bound 0) y))))
    × GivesNothing (AllElim y (Assume (less x y)))

-- Of `x < y` from itself: `x < y ==> x < y` without hypotheses. Of `x < x`: the hypothesis that differs stays. Nothing of a, which is no proposition.
abbrev pub ImpliesIntroExample : Type 0
ImpliesIntroExample = Gives (ImpliesIntro (less x y) (Assume (less x y))) [] (imp (less x y) (less x y))
    × Gives (ImpliesIntro (less x x) (Assume (less x y))) (less x y ∷ []) (imp (less x x) (less x y)) × GivesNothing (ImpliesIntro a (Assume (less x y)))

-- From `x < y ==> x < y ==> y < x`, with `x < y` assumed at two places: `y < x`. Where `x < y` is discharged both go.
abbrev pub TwiceAssumedExample : Type 0
TwiceAssumedExample =
    let step = imp (less x y) (imp (less x y) (less y x)) in
    let twice = ImpliesElim (ImpliesElim (Assume step) (Assume (less x y))) (Assume (less x y)) in
    Gives twice (step ∷ less x y ∷ less x y ∷ []) (less y x) × Gives (ImpliesIntro (less x y) twice) (step ∷ []) (imp (less x y) (less y x))

-- From `x < y ==> y < x` and `x < y`: `y < x`, from both hypotheses. Nothing where the premise differs, nor where nothing is implied.
abbrev pub ImpliesElimExample : Type 0
ImpliesElimExample = Gives (ImpliesElim (Assume (imp (less x y) (less y x))) (Assume (less x y))) (imp (less x y) (less y x) ∷ less x y ∷ []) (less y x)
    × GivesNothing (ImpliesElim (Assume (imp (less x y) (less y x))) (Assume (less y x))) × GivesNothing (ImpliesElim (Assume (less x y)) (Assume (less x y)))

-- `(%x. f x) a == f a`, and nothing of `f a`, which is no redex; `a == a`, and nothing of an undeclared constant or of a loose bound variable.
abbrev pub BetaExample : Type 0
BetaExample = Gives (Beta (App (Abs i (App f (Bound 0))) a)) [] (eq i (App (Abs i (App f (Bound 0))) a) (App f a)) × GivesNothing (Beta (App f a))

abbrev pub ReflExample : Type 0
ReflExample = Gives (Refl a) [] (eq i a a) × GivesNothing (Refl (Const 99 i)) × GivesNothing (Refl (Bound 0))

-- `x == a ==> x < y ==> a < y`, of `%z. z < y`; and not with a redex `(%z. z < y) x`. Nothing of q, which is no abstraction, nor of `%z. z`, whose body is no proposition, nor with f, which hasn't the type of z.
abbrev pub SubstExample : Type 0
SubstExample =
    let below_y = Abs i (less (Bound 0) y) in
    Gives (Subst below_y x a) [] (imp (eq i x a) (imp (less x y) (less a y)))
    × (¬ Concludes example (Subst below_y x a) (imp (eq i x a) (imp (App below_y x) (App below_y a)))) × GivesNothing (Subst q x a)
    × GivesNothing (Subst (Abs i (Bound 0)) x a) × GivesNothing (Subst below_y f a) × GivesNothing (Subst below_y x f)

-- With `%z. z == x` symmetry follows: from `x == y`, `y == x`.
abbrev pub SymmetricExample : Type 0
SymmetricExample = Gives (ImpliesElim (ImpliesElim (Subst (Abs i (eq i (Bound 0) x)) x y) (Assume (eq i x y))) (Refl x)) (eq i x y ∷ []) (eq i y x)

-- `(!!x. f x == h x) ==> f == h`, and nothing of functions of different types, nor of what is no function.
abbrev pub ExtExample : Type 0
ExtExample = Gives (Ext f h) [] (imp (all i (eq i (App f (Bound 0)) (App h (Bound 0)))) (eq (arrow i i) f h)) × GivesNothing (Ext f q) × GivesNothing (Ext a a)

-- `(x < y ==> y < x) ==> (y < x ==> x < y) ==> x < y == y < x`, and nothing of a, which is no proposition.
abbrev pub IffExample : Type 0
IffExample = Gives (Iff (less x y) (less y x)) [] (imp (imp (less x y) (less y x)) (imp (imp (less y x) (less x y)) (eq prop (less x y) (less y x))))
    × GivesNothing (Iff a (less x y)) × GivesNothing (Iff (less x y) a)

-- Under the pairs of x and a, and of f and h, stands `x == a ==> f == h ==> x < y`.
abbrev pub PairsExample : Type 0
PairsExample = IsUnderPairs (record { left = x; right = a } ∷ record { left = f; right = h } ∷ []) (less x y) (imp (eq i x a) (imp (eq (arrow i i) f h) (less x y)))

-- `x < y` under the pair of x and a is derivable from the hypotheses `y < x` and `x < y`, of which it needs the second, and with a promise on which it needn't rest.
abbrev pub DerivableExample : Type 0
DerivableExample = IsDerivable example (record { hyps = less y x ∷ less x y ∷ []; pairs = record { left = x; right = a } ∷ []; prop = less x y; rests = promised ∷ [] })

-- The tree that assumes `x < y` concludes it, with itself for a hypothesis: so `x < y` is derivable from itself, and this tree doesn't show it derivable alone, nor under other hypotheses.
abbrev pub OpenHypothesisExample : Type 0
OpenHypothesisExample = Gives (Assume (less x y)) (less x y ∷ []) (less x y) × (hyps_of (Assume (less x y)) ≢ [])
    × IsDerivable example (record { hyps = less x y ∷ []; pairs = []; prop = less x y; rests = [] })
    × ((h : IsDerivableAlone example (less x y)) → h.tree ≢ Assume (less x y))
    × ((h : IsDerivable example (record { hyps = less y x ∷ []; pairs = []; prop = less x y; rests = [] })) → h.tree ≢ Assume (less x y))

-- Likewise the promise's own tree shows its statement derivable where the theorem rests on its label, and not alone.
abbrev pub OpenPromiseExample : Type 0
OpenPromiseExample =
    let tree = Promise promised (λ T. T) (λ t. t) in
    (rests_of tree ≢ []) × IsDerivable example (record { hyps = []; pairs = []; prop = less any_x any_x; rests = promised ∷ [] })
    × ((h : IsDerivableAlone example (less any_x any_x)) → h.tree ≢ tree)

-- Pure's content has to be below: over no declarations at all a tree concludes `?x == ?x`, which is no proposition there, since `==` isn't declared.
abbrev pub NoPropositionExample : Type 0
NoPropositionExample =
    let x = Var 0 0 any_typ in
    IsContent (content_of []) × Concludes (content_of []) (Refl x) (eq any_typ x x) × (¬ IsProposition (content_of []) (eq any_typ x x))
