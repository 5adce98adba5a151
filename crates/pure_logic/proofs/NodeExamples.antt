-- What each node concludes over the content of the examples, and where it concludes nothing.
use Rattle.std.proofs.Common.{◌≡◌, ◌≢◌, ℕ, List, [], ◌∷◌, inl, inr, refl, arith}
use Rattle.pure_text.specs.Lists.{IsIn, Each}
use Rattle.pure_definitions.specs.Types.Typ.{Typ, arrow, prop}
use Rattle.pure_definitions.specs.Terms.Term.{Term, Const, Free, Var, Bound, Abs, App}
use Rattle.pure_definitions.specs.Types.Order.{Arity}
use Rattle.pure_definitions.specs.Terms.Bounds.{Occurs}
use Rattle.pure_definitions.specs.Terms.Subst.{typ_image, retyped_variable}
use Rattle.pure_definitions.specs.Declarations.Decl.{ConDecl, ConstDecl, AxiomDecl, PromiseDecl}
use Rattle.pure_definitions.specs.Declarations.Certified.{HasCertifiedParts}
use Rattle.pure_term_laws.specs.LawsExamples.{i, j, c, a, f, x, y, any_x, sort_of}
use Rattle.pure_term_laws.specs.LawsSubst.{for_a}
use Rattle.pure_term_laws.specs.LawsMaps.{sent}
use Rattle.pure_logic.specs.Connectives.{all, imp, eq}
use Rattle.pure_logic.specs.Content.{IsContent, IsCertifiedOf, IsProposition}
use Rattle.pure_logic.specs.Tree.{Tree, Promise, Assume, ImpliesIntro, ImpliesElim, joined_terms, hyps_of, rests_of}
use Rattle.pure_logic.specs.Concludes.{AreRespecting, Concludes}
use Rattle.pure_logic.specs.PureContent.{any_typ}
use Rattle.pure_logic.specs.Examples.Contents.{content_of}
use Rattle.pure_logic.specs.Examples.Theory.{less, holds, any_c, any_z, any_left, any_right, any_w, related, i_arity, promised, example}
use Rattle.pure_logic.specs.Examples.Nodes.{for_z, both_to_i, image_of_own, AxiomExample, OwnTypeExample, PromiseExample, NoAxiomExample, NoMapExample, AssumeExample, AllIntroExample, NoAllIntroExample, AllElimExample, NoAllElimExample, ImpliesIntroExample, TwiceAssumedExample, ImpliesElimExample, BetaExample, ReflExample, SubstExample, SymmetricExample, ExtExample, IffExample, DerivableExample, OpenHypothesisExample, OpenPromiseExample, NoPropositionExample}
use Rattle.pure_logic.proofs.ConnectiveLaws.{certified_of, imp-parts, all-parts, eq-parts}
use Rattle.pure_logic.proofs.MapLaws.{identity_respects, joined_respect, sent-respects}
use Rattle.pure_logic.proofs.ExampleLaws.{example-above, example-has, none_passes, is_const, is_con, is_axiom, is_promised_part, i-certified, j-certified, any_c-certified, i-of_c, x-of, y-of, a-of, f-of, h-of, a-parts, f-parts, less-parts, less-of}

pub axiom_example : AxiomExample
axiom_example = (
  (holds any_c any_z, example-has (AxiomDecl 50 (holds any_c any_z)) (inr (inr (inr (inr (inr (inr (inr (inr (inl refl))))))))), joined_respect example (for_a i ∷ []) (for_z a ∷ []) (i-of_c, tt) (i-certified, tt) (a-of, tt), refl),
  refl,
)

pub own_type_example : OwnTypeExample
own_type_example = (
  ((related any_left any_right (any_w any_left) (any_w any_right), example-has (AxiomDecl 52 (related any_left any_right (any_w any_left) (any_w any_right))) (inr (inr (inr (inr (inr (inr (inr (inr (inr (inr (inr (inl refl)))))))))))), respecting, refl), refl),
  λ terms. (joined_terms both_to_i terms (any_w any_left), refl),
)
  where
    typs_alone : AreRespecting example (typ_image both_to_i) (retyped_variable (typ_image both_to_i))
    typs_alone = joined_respect example both_to_i [] (tt, (tt, tt)) (i-certified, (i-certified, tt)) tt

    respecting : AreRespecting example (typ_image both_to_i) image_of_own
    respecting =
        sent-respects example (typ_image both_to_i) (sent (any_w any_right) x (retyped_variable (typ_image both_to_i))) (any_w any_left) a
        (sent-respects example (typ_image both_to_i) (retyped_variable (typ_image both_to_i)) (any_w any_right) x typs_alone x-of) a-of

pub promise_example : PromiseExample
promise_example = (
  ((51, less any_x any_x, example-has (PromiseDecl 51 promised (less any_x any_x)) (inr (inr (inr (inr (inr (inr (inr (inr (inr (inl refl)))))))))), identity_respects example, refl), refl),
  refl,
)

pub no_axiom_example : NoAxiomExample
no_axiom_example = (
  λ C d. none_passes (is_axiom 99) (AxiomDecl 99 d.0) example.declarations refl refl d.1,
  λ C d. none_passes (is_promised_part 1) (PromiseDecl d.0 (record promised { part = 1 }) d.1) example.declarations refl refl d.2,
)

pub undeclared_const : ¬ HasCertifiedParts example.declarations (Const 99 i)
undeclared_const k = none_passes (is_const 99) (ConstDecl 99 k.1.0) example.declarations refl refl k.1.1

pub no_map_example : NoMapExample
no_map_example = (
  λ C d. (let arity = d.2.sorts.schematic 1 0 (sort_of c) in not_of_c arity.0.0 arity.0.1 arity.0.2),
  λ C d. (let typed : arrow i i ≡ i = d.2.types.schematic 2 0 any_c in cc),
  λ C d. undeclared_const (d.2.certified.schematic 2 0 any_c any_c-certified),
  λ C d. (let typed : arrow i i ≡ i = d.3.types.schematic 40 0 i in cc),
)
  where
    not_of_c : (b : Arity) → IsIn b (i_arity ∷ []) → b.con ≡ 11 → ⊥
    not_of_c b m e = elim m [ inl same ↦ cc | inr absent ↦ absent ]

not_proposition : ¬ IsProposition example a
not_proposition k = let typ : i ≡ prop = k.typed in cc

pub assume_example : AssumeExample
assume_example = (((less-of x y x-of y-of, refl), refl), λ C d. not_proposition d.0)

pub all_intro_example : AllIntroExample
all_intro_example = (
  ((i, eq i x x, (i, x-of, refl), tt, x-of, tt, refl), refl),
  ((i, eq i any_x any_x, (i, any_x-of, refl), tt, any_x-of, tt, refl), refl),
  ((i, imp (less x y) (less x y), (less x y, (less-of x y x-of y-of, refl), less-of x y x-of y-of, refl), tt, x-of, tt, refl), refl),
  ((j, less x y, (less-of x y x-of y-of, refl), tt, certified_of example (Free 40 j) j j-certified refl, (other, tt), refl), refl),
)
  where
    any_x-of : IsCertifiedOf example any_x i
    any_x-of = certified_of example any_x i i-certified refl

    other : ¬ Occurs (Free 40 j) (less x y)
    other (inl e) = cc
    other (inr (inl (inl e))) = cc
    other (inr (inl (inr (inl e)))) = cc
    other (inr (inl (inr (inr e)))) = cc
    other (inr (inr e)) = cc

pub no_all_intro_example : NoAllIntroExample
no_all_intro_example = (
  λ C d. d.5.0 (inr (inl (inr (inr refl)))),
  λ C d. d.3,
  λ C d. none_passes (is_con 13) (ConDecl 13 0) example.declarations refl refl d.4.certified.parts.0,
)

abbrev every : Term
every = all i (all i (less (Bound 1) (Bound 0)))

every-of : IsProposition example every
every-of = certified_of example every prop
    (all-parts example example-above i (all i (less (Bound 1) (Bound 0))) i-certified (all-parts example example-above i (less (Bound 1) (Bound 0)) i-certified (less-parts (Bound 1) (Bound 0) tt tt)))
    (arrow i prop, refl, (prop, (arrow i prop, refl, (prop, (i, (i, refl, refl), refl), refl)), refl))

pub all_elim_example : AllElimExample
all_elim_example = (
  ((i, all i (less (Bound 1) (Bound 0)), (every-of, refl), y-of, refl), refl),
  λ d. (let body : d.1 ≡ all i (less (Bound 1) (Bound 0)) = cc in let is = rw body at d.4 in cc),
)

pub no_all_elim_example : NoAllElimExample
no_all_elim_example = (
  λ C d. cc,
  λ C d. cc,
  λ C d. undeclared_const d.3.certified.parts,
  λ C d. cc,
)

pub implies_intro_example : ImpliesIntroExample
implies_intro_example = (
  ((less x y, (less-of x y x-of y-of, refl), less-of x y x-of y-of, refl), refl),
  ((less x y, (less-of x y x-of y-of, refl), less-of x x x-of x-of, refl), refl),
  λ C d. not_proposition d.2,
)

swap-of : IsProposition example (imp (less x y) (less y x))
swap-of = let k = less-of x y x-of y-of in let l = less-of y x y-of x-of in
    certified_of example (imp (less x y) (less y x)) prop (imp-parts example example-above (less x y) (less y x) k.certified.parts l.certified.parts) (prop, (prop, refl, k.typed), l.typed)

pub twice_assumed_example : TwiceAssumedExample
twice_assumed_example = (
  (twice, refl),
  ((less y x, twice, less-of x y x-of y-of, refl), refl),
)
  where
    step-of : IsProposition example (imp (less x y) (imp (less x y) (less y x)))
    step-of = let k = less-of x y x-of y-of in
        certified_of example (imp (less x y) (imp (less x y) (less y x))) prop (imp-parts example example-above (less x y) (imp (less x y) (less y x)) k.certified.parts swap-of.certified.parts) (prop, (prop, refl, k.typed), swap-of.typed)

    twice : Concludes example (ImpliesElim (ImpliesElim (Assume (imp (less x y) (imp (less x y) (less y x)))) (Assume (less x y))) (Assume (less x y))) (less y x)
    twice = let k = less-of x y x-of y-of in (less x y, (less x y, (step-of, refl), (k, refl)), (k, refl))

pub implies_elim_example : ImpliesElimExample
implies_elim_example = (
  ((less x y, (swap-of, refl), (less-of x y x-of y-of, refl)), refl),
  λ C d. differs d.0 C d.1.1 d.2.1,
  λ C d. implies_nothing d.0 C d.1.1,
)
  where
    differs : (A C : Term) → imp A C ≡ imp (less x y) (less y x) → ¬ (A ≡ less y x)
    differs A C e k = let names : ◌≡◌ {A = ℕ} 40 41 = cc in absurd (omega arith)

    implies_nothing : (A C : Term) → ¬ (imp A C ≡ less x y)
    implies_nothing A C e = cc

pub beta_example : BetaExample
beta_example = (
  ((i, i, App f (Bound 0), a, refl, certified_of example (App (Abs i (App f (Bound 0))) a) i ((i-certified, (f-parts, tt)), a-parts) (i, (i, (i, refl, refl), refl), refl), refl), refl),
  λ C d. cc,
)

pub refl_example : ReflExample
refl_example = (
  ((i, a-of, refl), refl),
  λ C d. undeclared_const d.1.certified.parts,
  λ C d. (let typed = d.1.typed in cc),
)

pub subst_example : SubstExample
subst_example = (
  ((i, less (Bound 0) y, refl, certified_of example (Abs i (less (Bound 0) y)) (arrow i prop) (i-certified, less-parts (Bound 0) y tt i-certified) (prop, (i, (i, refl, refl), refl), refl), x-of, a-of, refl), refl),
  λ d. (let body : d.1 ≡ less (Bound 0) y = cc in let is = rw body at d.6 in cc),
  λ C d. cc,
  λ C d. (let typ = d.3.typed in let body : i ≡ typ.0 = cc in let range : typ.0 ≡ prop = cc in cc),
  λ C d. (let domain : i ≡ d.0 = cc in let typ : arrow i i ≡ d.0 = d.4.typed in cc),
  λ C d. (let domain : i ≡ d.0 = cc in let typ : arrow i i ≡ d.0 = d.5.typed in cc),
)

pub symmetric_example : SymmetricExample
symmetric_example = (
  (eq i x x, (eq i x y, (i, eq i (Bound 0) x, refl, to_x, x-of, y-of, refl), (x-is_y, refl)), (i, x-of, refl)),
  refl,
)
  where
    to_x : IsCertifiedOf example (Abs i (eq i (Bound 0) x)) (arrow i prop)
    to_x = certified_of example (Abs i (eq i (Bound 0) x)) (arrow i prop) (i-certified, eq-parts example example-above i (Bound 0) x i-certified tt i-certified) (prop, (i, (i, refl, refl), refl), refl)

    x-is_y : IsProposition example (eq i x y)
    x-is_y = certified_of example (eq i x y) prop (eq-parts example example-above i x y i-certified i-certified i-certified) (i, (i, refl, refl), refl)

pub ext_example : ExtExample
ext_example = (
  ((i, i, f-of, h-of, refl), refl),
  λ C d. (let left : arrow i i ≡ arrow d.0 d.1 = d.2.typed in let right : arrow i prop ≡ arrow d.0 d.1 = d.3.typed in cc),
  λ C d. (let typ : i ≡ arrow d.0 d.1 = d.2.typed in cc),
)

pub iff_example : IffExample
iff_example = (
  ((less-of x y x-of y-of, less-of y x y-of x-of, refl), refl),
  λ C d. not_proposition d.0,
  λ C d. not_proposition d.1,
)

pub derivable_example : DerivableExample
derivable_example = record {
  tree = ImpliesIntro (eq i x a) (Assume (less x y));
  conclusion = imp (eq i x a) (less x y);
  concludes = (less x y, (less-of x y x-of y-of, refl), certified_of example (eq i x a) prop (eq-parts example example-above i x a i-certified i-certified a-parts) (i, (i, refl, refl), refl), refl);
  under_pairs = (i, less x y, refl, refl, refl);
  hyps = (inr (inl refl), tt);
  rests = tt;
}

-- No tree whose hypotheses are among none is this one.
no_such_tree : (hyps : List Term) (A : Term) (tree : Tree) → ¬ IsIn A hyps → Each (λ B. IsIn B hyps) (hyps_of tree) → tree ≢ Assume A
no_such_tree hyps A tree absent h same = let head = rw same at h in absent head.0

no_such_promise : (tree : Tree) (typs : Typ → Typ) (terms : Term → Term) → Each (λ l. IsIn l []) (rests_of tree) → tree ≢ Promise promised typs terms
no_such_promise tree typs terms h same = let head = rw same at h in head.0

pub open_hypothesis_example : OpenHypothesisExample
open_hypothesis_example = (
  ((less-of x y x-of y-of, refl), refl),
  λ none. cc,
  record { tree = Assume (less x y); conclusion = less x y; concludes = (less-of x y x-of y-of, refl); under_pairs = refl; hyps = (inl refl, tt); rests = tt },
  λ h. no_such_tree [] (less x y) h.tree (λ m. m) h.hyps,
  λ h. no_such_tree (less y x ∷ []) (less x y) h.tree (λ m. elim m [ inl same ↦ differs same | inr absent ↦ absent ]) h.hyps,
)
  where
    differs : ¬ (less x y ≡ less y x)
    differs same = let names : ◌≡◌ {A = ℕ} 40 41 = cc in absurd (omega arith)

pub open_promise_example : OpenPromiseExample
open_promise_example = (
  λ none. cc,
  record {
    tree = Promise promised (λ T. T) (λ t. t);
    conclusion = less any_x any_x;
    concludes = (51, less any_x any_x, example-has (PromiseDecl 51 promised (less any_x any_x)) (inr (inr (inr (inr (inr (inr (inr (inr (inr (inl refl)))))))))), identity_respects example, refl);
    under_pairs = refl;
    hyps = tt;
    rests = (inl refl, tt);
  },
  λ h. no_such_promise h.tree (λ T. T) (λ t. t) h.rests,
)

pub no_proposition_example : NoPropositionExample
no_proposition_example = (empty, (any_typ, certified_of (content_of []) (Var 0 0 any_typ) any_typ (λ k h. omega arith, tt) refl, refl), λ h. h.certified.parts.0.0.0.0)
  where
    empty : IsContent (content_of [])
    empty = record { named_once = λ d e m. absurd m; labelled_once = λ d e m. absurd m; well_formed = tt; coregular = λ a b m. absurd m }
