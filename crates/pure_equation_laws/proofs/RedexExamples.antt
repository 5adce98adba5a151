-- Equations of a beta redex modulo one pair.
use Rattle.std.proofs.Common.{List, [], ◌∷◌, inl, inr, refl, arith}
use Rattle.pure_text.specs.Lists.{IsIn}
use Rattle.pure_definitions.specs.Types.Typ.{Typ, arrow, prop}
use Rattle.pure_definitions.specs.Terms.Term.{Term, Const, Bound, Abs, App}
use Rattle.pure_definitions.specs.Terms.Bounds.{Occurs}
use Rattle.pure_definitions.specs.Terms.Conditions.{IsVariable}
use Rattle.pure_term_laws.specs.LawsExamples.{i, a, f, x, y, any_x}
use Rattle.pure_term_laws.specs.LawsMaps.{sent}
use Rattle.pure_term_laws.proofs.BoundLaws.{lift-zero}
use Rattle.pure_term_laws.proofs.EtaLaws.{eta_example, long_form_example}
use Rattle.pure_logic.specs.Connectives.{eq}
use Rattle.pure_logic.specs.Content.{IsCertifiedOf, IsProposition}
use Rattle.pure_logic.specs.Derivable.{IsDerivable}
use Rattle.pure_logic.specs.Proves.{Proves}
use Rattle.pure_logic.specs.Concludes.{AreRespecting}
use Rattle.pure_logic.specs.Examples.Theory.{less, h, example}
use Rattle.pure_logic.proofs.ConnectiveLaws.{certified_of}
use Rattle.pure_logic.proofs.ExampleLaws.{example-above, example_is_content, i-certified, a-of, f-of, h-of, x-of, y-of, a-parts, less-parts, less-of}
use Rattle.pure_logic.proofs.MapLaws.{sent-respects, identity_respects}
use Rattle.pure_logic.proofs.PropositionLaws.{eq-proposition}
use Rattle.pure_logic.proofs.ProvesLaws.{assumed, proved-derivable}
use Rattle.pure_equation_laws.specs.Equated.{IsTypedUnder, AreEquated, AreEqualModulo}
use Rattle.pure_equation_laws.specs.Examples.{redex, redex_function, one_pair, pairs_with_y, Equates, NormalFormExample, EtaNormalFormExample, LongFormExample, RedexExample, OtherPairsExample, InstanceExample, TwoInstancesExample, FunctionsExample, BodiesExample, NodesExample, PropositionExample, PairsExample}
use Rattle.pure_equation_laws.proofs.SidesLaws.{typed-abstraction, typed-application}
use Rattle.pure_equation_laws.proofs.KeptLaws.{equated_of_instance, equated_modulo_others}
use Rattle.pure_equation_laws.proofs.ReductionLaws.{beta_step_is_equated, beta_normal_form_is_equated, eta_normal_form_is_equated, long_form_is_equated}
use Rattle.pure_equation_laws.proofs.NodesLaws.{equated_of_subst, equated_node_by_node, equated_instances, equated_functions, equated_bodies}
use Rattle.pure_equation_laws.proofs.PairsLaws.{proposition_is_replaced, pairs_are_replaced}

-- Typed under binders with certified parts, over the content.
abbrev Typed : List Typ → Term → Typ → Type 0
Typed bs t T = IsTypedUnder example.declarations bs t T

of : (t : Term) (T : Typ) → IsCertifiedOf example t T → Typed [] t T
of t T k = record { parts = k.certified.parts; typed = k.typed }

f-typed : (bs : List Typ) → Typed bs f (arrow i i)
f-typed bs = record { parts = f-of.certified.parts; typed = refl }

bound-typed : (bs : List Typ) → Typed (i ∷ bs) (Bound 0) i
bound-typed bs = record { parts = tt; typed = refl }

at-typed : (bs : List Typ) (t : Term) → Typed bs t i → Typed bs (App f t) i
at-typed bs t k = typed-application example.declarations bs i i f t (f-typed bs) k

function-typed : (bs : List Typ) → Typed bs (Abs i (App f (Bound 0))) (arrow i i)
function-typed bs = typed-abstraction example.declarations bs i i (App f (Bound 0)) i-certified (at-typed (i ∷ bs) (Bound 0) (bound-typed bs))

redex-typed : (bs : List Typ) (t : Term) → Typed bs t i → Typed bs (redex t) i
redex-typed bs t k = typed-application example.declarations bs i i (Abs i (App f (Bound 0))) t (function-typed bs) k

any_x-typed : Typed [] any_x i
any_x-typed = record { parts = i-certified; typed = refl }

pub normal_form_example : NormalFormExample
normal_form_example = beta_normal_form_is_equated example.declarations [] [] i (redex a) (App f a) (redex-typed [] a (of a i a-of)) (record {
  before = redex a ∷ [];
  last = App f a;
  sequence = (refl, (App f a, refl, refl));
  undecided = ((record { size = omega arith; depth = omega arith }, (λ n. n.0 tt)), tt);
  in_time = omega arith;
  decided = (record { size = omega arith; depth = omega arith }, ((λ n. n), tt, tt), refl);
})

pub eta_normal_form_example : EtaNormalFormExample
eta_normal_form_example = eta_normal_form_is_equated example.declarations [] [] (arrow i i) (Abs i (App f (Bound 0))) f (function-typed []) eta_example.0

pub long_form_equated_example : LongFormExample
long_form_equated_example = long_form_is_equated example example-above [] (arrow i i) f (Abs i (App f (Bound 0))) (f-typed []) long_form_example.0

-- The sides of a pair of typed terms are equated modulo it.
paired : (left right : Term) (T : Typ) → Typed [] left T → Typed [] right T → Equates (one_pair left right) T left right
paired left right T k l = AreEquated.pair (record { left = left; right = right }) (inl refl) k l

-- Modulo the pair of two terms the redex at the one is equated with f at the other: the body is instantiated with equated terms.
redex-equated : (left right : Term) → Typed [] left i → Typed [] right i → Equates (one_pair left right) i (redex left) (App f right)
redex-equated left right k l =
    rw (lift-zero 0 right) at (AreEquated.through (AreEquated.beta (redex-typed [] left k))
    (equated_of_subst example.declarations (one_pair left right) [] [] 0 i i (App f (Bound 0)) (App f (Bound 0)) left right refl tt i-certified
    (AreEquated.same (at-typed (i ∷ []) (Bound 0) (bound-typed []))) (paired left right i k l)))

pub redex_example : RedexExample
redex_example = redex-equated a x (of a i a-of) (of x i x-of)

pub other_pairs_example : OtherPairsExample
other_pairs_example = equated_modulo_others example.declarations (one_pair a x) pairs_with_y ((i, AreEquated.through first (AreEquated.back second)), tt) [] i (redex a) (App f x) redex_example
  where
    first : Equates pairs_with_y i a y
    first = AreEquated.pair (record { left = a; right = y }) (inl refl) (of a i a-of) (of y i y-of)

    second : Equates pairs_with_y i x y
    second = AreEquated.pair (record { left = x; right = y }) (inr (inl refl)) (of x i x-of) (of y i y-of)

-- the map that sends one variable elsewhere, and leaves all others
abbrev sends : (v image : Term) → Term → Term
sends v image = sent v image (λ t. t)

sends-respects : (image : Term) → IsCertifiedOf example image i → AreRespecting example (λ T. T) (sends any_x image)
sends-respects image k = sent-respects example (λ T. T) (λ t. t) any_x image (identity_respects example) k

pub instance_example : InstanceExample
instance_example =
    let general = redex-equated a any_x (of a i a-of) any_x-typed in
    (general, equated_of_instance example example_is_content (λ T. T) (sends any_x y) (sends-respects y y-of) (one_pair a any_x) [] i (redex a) (App f any_x) general)

pub two_instances_example : TwoInstancesExample
two_instances_example = equated_instances example example_is_content (λ T. T) (sends any_x a) (sends any_x y) (sends-respects a a-of) (one_pair a y) [] i (redex any_x) (redex-typed [] any_x any_x-typed) images
  where
    images : (v : Term) → IsVariable v → Occurs v (redex any_x) → AreEqualModulo example.declarations (one_pair a y) [] (sends any_x a v) (sends any_x y v)
    images v is (inl e) = absurd (rw e at is)
    images v is (inr (inl (inl e))) = absurd (rw e at is)
    images v is (inr (inl (inr (inl e)))) = absurd (rw e at is)
    images v is (inr (inl (inr (inr (inl e))))) = absurd (rw e at is)
    images v is (inr (inl (inr (inr (inr e))))) = absurd (rw e at is)
    images v is (inr (inr e)) = rw e (AreEqualModulo.equated (paired a y i (of a i a-of) (of y i y-of)))

redex_function-typed : (bs : List Typ) → Typed bs redex_function (arrow i i)
redex_function-typed bs = typed-abstraction example.declarations bs i i (redex (Bound 0)) i-certified (redex-typed (i ∷ bs) (Bound 0) (bound-typed bs))

pub functions_example : FunctionsExample
functions_example = (equated_functions example.declarations [] [] i i redex_function f i-certified (redex_function-typed []) (f-typed [])).1 at_bound
  where
    step : AreEquated example.declarations [] (i ∷ []) i (App redex_function (Bound 0)) (redex (Bound 0))
    step = beta_step_is_equated example.declarations [] (i ∷ []) i (App redex_function (Bound 0)) (redex (Bound 0))
        (typed-application example.declarations (i ∷ []) i i redex_function (Bound 0) (redex_function-typed (i ∷ [])) (bound-typed [])) refl

    at_bound : AreEquated example.declarations [] (i ∷ []) i (App redex_function (Bound 0)) (App f (Bound 0))
    at_bound = AreEquated.through step (beta_step_is_equated example.declarations [] (i ∷ []) i (redex (Bound 0)) (App f (Bound 0)) (redex-typed (i ∷ []) (Bound 0) (bound-typed [])) refl)

pub bodies_example : BodiesExample
bodies_example = (equated_bodies example.declarations (one_pair redex_function (Abs i (App h (Bound 0)))) [] i i (redex (Bound 0)) (App h (Bound 0)) i-certified).0
    (paired redex_function (Abs i (App h (Bound 0))) (arrow i i) (redex_function-typed []) expanded)
  where
    expanded : Typed [] (Abs i (App h (Bound 0))) (arrow i i)
    expanded = typed-abstraction example.declarations [] i i (App h (Bound 0)) i-certified
        (typed-application example.declarations (i ∷ []) i i h (Bound 0) (record { parts = h-of.certified.parts; typed = refl }) (bound-typed []))

pub nodes_example : NodesExample
nodes_example = (nodes, equated_node_by_node example.declarations (one_pair a x) [] (arrow i prop) (Abs i (less a (Bound 0))) (Abs i (less x (Bound 0))) typed nodes)
  where
    sides : AreEquated example.declarations (one_pair a x) (i ∷ []) i a x
    sides = AreEquated.pair (record { left = a; right = x }) (inl refl) (of a i a-of) (of x i x-of)

    nodes : AreEqualModulo example.declarations (one_pair a x) [] (Abs i (less a (Bound 0))) (Abs i (less x (Bound 0)))
    nodes = AreEqualModulo.bodies (AreEqualModulo.applied (AreEqualModulo.applied AreEqualModulo.itself (AreEqualModulo.equated sides)) AreEqualModulo.itself)

    typed : Typed [] (Abs i (less a (Bound 0))) (arrow i prop)
    typed = typed-abstraction example.declarations [] i prop (less a (Bound 0)) i-certified (record { parts = less-parts a (Bound 0) a-parts tt; typed = (i, (i, refl, refl), refl) })

certified : (t : Term) (T : Typ) → Typed [] t T → IsCertifiedOf example t T
certified t T k = certified_of example t T k.parts k.typed

-- The theorem of a proposition under one pair with certified sides is derivable where the proposition is proved from the pair's equation and the hypotheses.
under_pair : (left right : Term) (hyps : List Term) (A : Term) → Typed [] left i → Typed [] right i
    → ((all : List Term) → ((B : Term) → IsIn B hyps → IsIn B all) → Proves example all [] (eq i left right) → Proves example all [] A)
    → IsDerivable example (record { hyps = hyps; pairs = one_pair left right; prop = A; rests = [] })
under_pair left right hyps A k l step =
    let all = eq i left right ∷ hyps in
    let equation = eq-proposition example example-above i left right (certified left i k) (certified right i l) in
    proved-derivable example example_is_content example-above (record { hyps = hyps; pairs = one_pair left right; prop = A; rests = [] }) (record {
      equations = eq i left right ∷ [];
      are_equations = ((i, k.typed, refl), tt);
      propositions = (equation, tt);
      proves = step all (λ B m. inr m) (assumed example all [] (eq i left right) equation (inl refl));
    })

f_x-typed : Typed [] (App f x) i
f_x-typed = at-typed [] x (of x i x-of)

pub proposition_example : PropositionExample
proposition_example = proposition_is_replaced example example_is_content example-above (record { hyps = less (App f x) y ∷ []; pairs = one_pair a x; prop = less (App f x) y; rests = [] }) (less (redex a) y) replaced
    (under_pair a x (less (App f x) y ∷ []) (less (App f x) y) (of a i a-of) (of x i x-of)
    (λ all among p. assumed example all [] (less (App f x) y) proposition (among (less (App f x) y) (inl refl))))
  where
    proposition : IsProposition example (less (App f x) y)
    proposition = less-of (App f x) y (certified (App f x) i f_x-typed) y-of

    less-typed : Typed [] (Const 33 (arrow i (arrow i prop))) (arrow i (arrow i prop))
    less-typed = record { parts = proposition.certified.parts.0.0; typed = refl }

    replaced : Equates (one_pair a x) prop (less (App f x) y) (less (redex a) y)
    replaced = AreEquated.application (AreEquated.application (AreEquated.same less-typed) (AreEquated.back redex_example)) (AreEquated.same (of y i y-of))

pub pairs_example : PairsExample
pairs_example = pairs_are_replaced example example_is_content example-above (record { hyps = []; pairs = one_pair (redex a) (App f x); prop = eq i (redex a) (App f x); rests = [] }) (one_pair a x)
    ((i, a-of, x-of), tt) ((i, redex_example), tt)
    (under_pair (redex a) (App f x) [] (eq i (redex a) (App f x)) (redex-typed [] a (of a i a-of)) f_x-typed (λ all among p. p))
