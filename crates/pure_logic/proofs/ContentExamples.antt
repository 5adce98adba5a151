-- The examples of contents.
use Rattle.std.proofs.Common.{◌≡◌, ◌↔◌, ◌⊎◌, ℕ, List, [], ◌∷◌, ◌++◌, inl, inr, refl, sym, ◌∙◌, arith, ap}
use Rattle.pure_text.specs.Lists.{IsIn, Each, AnyOf}
use Rattle.pure_definitions.specs.Types.Typ.{prop}
use Rattle.pure_definitions.specs.Terms.Term.{Free}
use Rattle.pure_definitions.specs.Types.Order.{Class, Algebra, IsInclusion, IsClassBelow, itself, along, IsCoregular}
use Rattle.pure_definitions.specs.Declarations.Decl.{Decl, ClassDecl, ConDecl, ArityDecl, ConstDecl, AxiomDecl, PromiseDecl, algebra_of}
use Rattle.pure_term_laws.specs.LawsExamples.{i, j, c, d, e, arity, class_above}
use Rattle.pure_term_laws.proofs.DeclLaws.{declared_classes, declared_arities}
use Rattle.pure_term_laws.proofs.OrderExamples.{crossing_is_not_coregular, open_fork_is_not_coregular, joined_fork_is_coregular}
use Rattle.pure_logic.specs.Content.{TheoryId, IsContent, IsWellFormed, AreNamedAlike, AreLabelledAlike}
use Rattle.pure_logic.specs.Beginning.{IsMerge, HasTheoriesApart}
use Rattle.pure_logic.specs.PureContent.{pure_declarations, proposition_variable}
use Rattle.pure_logic.specs.Examples.Theory.{promised, example}
use Rattle.pure_logic.specs.Examples.Contents.{content_of, theory, beginning, BeginningExample, NotApartExample, classes, with_arity, NoMergeExample, fork_declarations, with_square, MiddleMergeExample, NamedTwiceExample, IllFormedExample, SchematicExample, BelowExample}
use Rattle.pure_text.proofs.ListLaws.{in-append_left, in-append_right, each_at, in_split}
use Rattle.pure_logic.proofs.ContentLaws.{named_alike, both_promises, named_alike-so, both_promises-so, apart-once}
use Rattle.pure_logic.proofs.CoregularLaws.{lone_arity, coregular-same}
use Rattle.pure_logic.proofs.ExampleLaws.{example-above, none_passes, is_con}
use Rattle.pure_logic.proofs.MergeLaws.{merge_has_declarations, merged-coregular}

no_arities : (ds : List Decl) → (algebra_of ds).arities ≡ [] → IsCoregular (algebra_of ds)
no_arities ds none b d m = absurd (rw none at m)

-- The ancestors of the example are told apart, and the theory itself is new.
apart_in_example : HasTheoriesApart beginning
apart_in_example = record {
  ancestors = record { by_name = named; by_index = indexed };
  own = λ own e. (let same : own ≡ theory 63 3 = cc in rw same (record { index = (omega arith, (omega arith, tt)); name = (λ e. absurd (omega arith), (λ e. absurd (omega arith), tt)) }));
}
  where
    named : (t u : TheoryId) → IsIn t beginning.ancestors → IsIn u beginning.ancestors → t.name ≡ u.name → t ≡ u
    named t u (inl p) (inl r) e = p ∙ sym r
    named t u (inl p) (inr (inl r)) e = let left = ap (λ (v : TheoryId). v.name) p in let right = ap (λ (v : TheoryId). v.name) r in absurd (omega arith)
    named t u (inr (inl p)) (inl r) e = let left = ap (λ (v : TheoryId). v.name) p in let right = ap (λ (v : TheoryId). v.name) r in absurd (omega arith)
    named t u (inr (inl p)) (inr (inl r)) e = p ∙ sym r
    named t u (inr (inr absent)) m e = absurd absent
    named t u m (inr (inr absent)) e = absurd absent

    indexed : (t u : TheoryId) → IsIn t beginning.ancestors → IsIn u beginning.ancestors → t.index ≡ u.index → t ≡ u
    indexed t u (inl p) (inl r) e = p ∙ sym r
    indexed t u (inl p) (inr (inl r)) e = let left = ap (λ (v : TheoryId). v.index) p in let right = ap (λ (v : TheoryId). v.index) r in absurd (omega arith)
    indexed t u (inr (inl p)) (inl r) e = let left = ap (λ (v : TheoryId). v.index) p in let right = ap (λ (v : TheoryId). v.index) r in absurd (omega arith)
    indexed t u (inr (inl p)) (inr (inl r)) e = p ∙ sym r
    indexed t u (inr (inr absent)) m e = absurd absent
    indexed t u m (inr (inr absent)) e = absurd absent

pub beginning_example : BeginningExample
beginning_example = (
  record {
    some_parent = λ none. cc;
    merge = (
      ConDecl 10 0 ∷ [],
      inr (λ m. m, refl),
      no_arities (ConDecl 10 0 ∷ []) refl,
      (ConDecl 10 0 ∷ ConDecl 11 0 ∷ [], inr (apart, inl (inl refl, refl)), no_arities (ConDecl 10 0 ∷ ConDecl 11 0 ∷ []) refl, refl),
    );
    own = refl;
    ancestors = refl;
  },
  apart_in_example,
)
  where
    apart : ¬ IsIn (ConDecl 11 0) (ConDecl 10 0 ∷ [])
    apart m = none_passes (is_con 11) (ConDecl 11 0) (ConDecl 10 0 ∷ []) refl refl m

pub not_apart_example : NotApartExample
not_apart_example = (
  λ h. (let same = ap (λ (v : TheoryId). v.name) (h.ancestors.by_index (theory 61 1) (theory 62 1) (inl refl) (inr (inl refl)) refl) in let names : ◌≡◌ {A = ℕ} 61 62 = same in absurd (omega arith)),
  λ h. (let same = ap (λ (v : TheoryId). v.index) (h.ancestors.by_name (theory 61 1) (theory 61 2) (inl refl) (inr (inl refl)) refl) in let indexes : ◌≡◌ {A = ℕ} 1 2 = same in absurd (omega arith)),
  λ h. (h.own (theory 61 3) refl).name.0 refl,
  λ h. (let below = (h.own (theory 63 1) refl).index.0 in absurd (omega arith)),
  λ h. (let below = (h.own (theory 63 1) refl).index.0 in absurd (omega arith)),
)

-- What has no class above it is below itself alone.
below-top : (A : Algebra) {b t : ℕ} → ((u : ℕ) → ¬ IsInclusion A b u) → IsClassBelow A b t → b ≡ t
below-top A top itself = refl
below-top A top (along {b = u} h below) = absurd (top u h)

one_arity : (domain : ℕ) → IsContent (with_arity domain)
one_arity domain = record {
  named_once = apart-once AreNamedAlike named_alike named_alike-so (classes ++ ArityDecl (arity domain e) ∷ []) refl;
  labelled_once = apart-once AreLabelledAlike both_promises both_promises-so (classes ++ ArityDecl (arity domain e) ∷ []) refl;
  well_formed = (tt, (tt, (tt, (tt, (tt, tt)))));
  coregular = lone_arity (algebra_of (classes ++ ArityDecl (arity domain e) ∷ [])) (arity domain e) refl;
}

one_square : (class : ℕ) → IsContent (with_square class)
one_square class = record {
  named_once = apart-once AreNamedAlike named_alike named_alike-so (fork_declarations ++ ArityDecl (arity class class) ∷ []) refl;
  labelled_once = apart-once AreLabelledAlike both_promises both_promises-so (fork_declarations ++ ArityDecl (arity class class) ∷ []) refl;
  well_formed = (tt, (tt, (tt, (tt, (tt, tt)))));
  coregular = lone_arity (algebra_of (fork_declarations ++ ArityDecl (arity class class) ∷ [])) (arity class class) refl;
}

-- A declared class has no class above it.
abbrev IsLone : Decl → Type 0
IsLone (ClassDecl class) = class.above ≡ []
IsLone _ = Unit {0}

lone : (domain : ℕ) → Each IsLone (classes ++ ArityDecl (arity domain e) ∷ [])
lone domain = (refl, (refl, (refl, (tt, (tt, tt)))))

no_merge : (merged : List Decl) → ¬ IsMerge (with_arity c ∷ with_arity d ∷ []) merged
no_merge merged h = clash (below-top (algebra_of merged) top class)
  where
    from : (x : Decl) → IsIn x merged → IsLone x
    from x m = elim ((merge_has_declarations (with_arity c ∷ with_arity d ∷ []) merged h x).0 m) [
      | inl n ↦ each_at IsLone (with_arity c).declarations (lone c) x n
      | inr n ↦ elim n [ inl o ↦ each_at IsLone (with_arity d).declarations (lone d) x o | inr absent ↦ absurd absent ]
    ]

    top : (u : ℕ) → ¬ IsInclusion (algebra_of merged) c u
    top u n =
        let above = from (ClassDecl n.0) ((declared_classes merged n.0).0 n.1) in
        rw above at n.3

    arity_of : (domain : ℕ) → IsIn (ArityDecl (arity domain e)) merged → IsIn (arity domain e) (algebra_of merged).arities
    arity_of domain m = (declared_arities merged (arity domain e)).1 m

    class : IsClassBelow (algebra_of merged) c d
    class =
        let has = merge_has_declarations (with_arity c ∷ with_arity d ∷ []) merged h in
        let left = arity_of c ((has (ArityDecl (arity c e))).1 (inl (inr (inr (inr (inr (inl refl))))))) in
        let right = arity_of d ((has (ArityDecl (arity d e))).1 (inr (inl (inr (inr (inr (inr (inl refl)))))))) in
        let below = (merged-coregular (with_arity c) (with_arity d) merged h (arity c e) (arity d e) left right refl).forth itself in
        elim below.0.0 [ inl h ↦ h | inr absent ↦ absurd absent ]

    clash : ¬ (c ≡ d)
    clash same = absurd (omega arith)

pub no_merge_example : NoMergeExample
no_merge_example = (one_arity c, one_arity d, no_merge)

-- the squares of c and of d, and then that of e behind them or before them
abbrev both_squares : List Decl
both_squares = ArityDecl (arity c c) ∷ ArityDecl (arity d d) ∷ []

abbrev three_squares : List Decl
three_squares = ArityDecl (arity c c) ∷ ArityDecl (arity d d) ∷ ArityDecl (arity e e) ∷ []

abbrev three_from_top : List Decl
three_from_top = ArityDecl (arity e e) ∷ ArityDecl (arity c c) ∷ ArityDecl (arity d d) ∷ []

-- Behind one front, what is in the one rest is in the other.
in-rest : (x : Decl) (front ys zs : List Decl) → (IsIn x ys → IsIn x zs) → IsIn x (front ++ ys) → IsIn x (front ++ zs)
in-rest x front ys zs h m = elim (in_split x front ys m) [ inl n ↦ in-append_left x front zs n | inr n ↦ in-append_right x front zs (h n) ]

all_squares_are_coregular : IsCoregular (algebra_of (fork_declarations ++ three_squares))
all_squares_are_coregular =
    coregular-same (fork_declarations ++ three_squares) (fork_declarations ++ three_from_top) (λ x m. in-rest x fork_declarations three_squares three_from_top (up x) m)
    (λ x m. in-rest x fork_declarations three_from_top three_squares (down x) m) joined_fork_is_coregular
  where
    up : (x : Decl) → IsIn x three_squares → IsIn x three_from_top
    up x (inl h) = inr (inl h)
    up x (inr (inl h)) = inr (inr (inl h))
    up x (inr (inr (inl h))) = inl h
    up x (inr (inr (inr absent))) = absurd absent

    down : (x : Decl) → IsIn x three_from_top → IsIn x three_squares
    down x (inl h) = inr (inr (inl h))
    down x (inr (inl h)) = inl h
    down x (inr (inr (inl h))) = inr (inl h)
    down x (inr (inr (inr absent))) = absurd absent

-- The merge of the first two has exactly the declarations of both.
no_middle : (merged : List Decl) → IsMerge (with_square c ∷ with_square d ∷ []) merged → ⊥
no_middle merged h =
    open_fork_is_not_coregular (coregular-same (fork_declarations ++ both_squares) merged (λ x m. (has x).1 (up x (in_split x fork_declarations both_squares m))) (λ x m. down x ((has x).0 m))
    (merged-coregular (with_square c) (with_square d) merged h))
  where
    has : (x : Decl) → IsIn x merged ↔ AnyOf (λ Q. IsIn x Q.declarations) (with_square c ∷ with_square d ∷ [])
    has x = merge_has_declarations (with_square c ∷ with_square d ∷ []) merged h x

    up : (x : Decl) → IsIn x fork_declarations ⊎ IsIn x both_squares → AnyOf (λ Q. IsIn x Q.declarations) (with_square c ∷ with_square d ∷ [])
    up x (inl m) = inl (in-append_left x fork_declarations (ArityDecl (arity c c) ∷ []) m)
    up x (inr (inl same)) = inl (in-append_right x fork_declarations (ArityDecl (arity c c) ∷ []) (inl same))
    up x (inr (inr (inl same))) = inr (inl (in-append_right x fork_declarations (ArityDecl (arity d d) ∷ []) (inl same)))
    up x (inr (inr (inr absent))) = absurd absent

    down : (x : Decl) → AnyOf (λ Q. IsIn x Q.declarations) (with_square c ∷ with_square d ∷ []) → IsIn x (fork_declarations ++ both_squares)
    down x (inl m) = in-rest x fork_declarations (ArityDecl (arity c c) ∷ []) both_squares (λ n. elim n [ inl same ↦ inl same | inr absent ↦ absurd absent ]) m
    down x (inr (inl m)) = in-rest x fork_declarations (ArityDecl (arity d d) ∷ []) both_squares (λ n. elim n [ inl same ↦ inr (inl same) | inr absent ↦ absurd absent ]) m
    down x (inr (inr absent)) = absurd absent

pub middle_merge_example : MiddleMergeExample
middle_merge_example = (one_square c, one_square d, one_square e, open_fork_is_not_coregular, all_squares_are_coregular, λ merged h. no_middle h.3.0 (h.0, h.1, h.2, (h.3.0, h.3.1, h.3.2, refl)))

pub named_twice_example : NamedTwiceExample
named_twice_example = (
  λ q. (let same = q.named_once (ClassDecl (class_above c [])) (ClassDecl (class_above c (d ∷ []))) (inl refl) (inr (inl refl)) refl in let classes : class_above c [] ≡ class_above c (d ∷ []) = cc in let above = ap (λ (b : Class). b.above) classes in cc),
  λ q. (let same = q.named_once (ConDecl 10 0) (ConDecl 10 1) (inl refl) (inr (inl refl)) refl in cc),
  λ q. (let same = q.named_once (ConstDecl 30 i) (ConstDecl 30 j) (inl refl) (inr (inl refl)) refl in cc),
  λ q. (let same = q.named_once (AxiomDecl 50 (proposition_variable 0)) (PromiseDecl 50 promised (proposition_variable 0)) (inr (inr (inr (inr (inr (inr (inr (inl refl)))))))) (inr (inr (inr (inr (inr (inr (inr (inr (inl refl))))))))) refl in cc),
  λ q. (let same = q.labelled_once (PromiseDecl 50 promised (proposition_variable 0)) (PromiseDecl 51 promised (proposition_variable 0)) (inr (inr (inr (inr (inr (inr (inr (inl refl)))))))) (inr (inr (inr (inr (inr (inr (inr (inr (inl refl))))))))) refl in let names : ◌≡◌ {A = ℕ} 50 51 = cc in absurd (omega arith)),
)

pub ill_formed_example : IllFormedExample
ill_formed_example = (
  λ q. q.well_formed.0,
  λ q. (each_at (IsWellFormed (content_of (pure_declarations ++ AxiomDecl 50 (Free 1 prop) ∷ []))) (pure_declarations ++ AxiomDecl 50 (Free 1 prop) ∷ []) q.well_formed (AxiomDecl 50 (Free 1 prop)) (inr (inr (inr (inr (inr (inr (inr (inl refl))))))))).schematic,
  λ q. (each_at (IsWellFormed (content_of (pure_declarations ++ PromiseDecl 50 promised (Free 1 prop) ∷ []))) (pure_declarations ++ PromiseDecl 50 promised (Free 1 prop) ∷ []) q.well_formed (PromiseDecl 50 promised (Free 1 prop)) (inr (inr (inr (inr (inr (inr (inr (inl refl))))))))).schematic,
  λ q. (let typed : i ≡ prop = q.well_formed.1.1.0.proposition.typed in cc),
  λ q. none_passes (is_con 1) (ConDecl 1 0) (AxiomDecl 50 (proposition_variable 0) ∷ []) refl refl q.well_formed.0.proposition.certified.parts.0,
  λ q. crossing_is_not_coregular q.coregular,
)

pub schematic_example : SchematicExample
schematic_example = (((tt, (tt, tt)), tt), λ k. k, λ k. k.1.0, λ k. k.0, λ k. k.1, λ k. k.1, λ k. k.0)

pub below_example : BelowExample
below_example = (example-above, not_back, not_other)
  where
    not_back : (h : (x : Decl) → IsIn x example.declarations → IsIn x pure_declarations) → ⊥
    not_back h = none_passes (is_con 10) (ConDecl 10 0) pure_declarations refl refl (h (ConDecl 10 0) (inr (inr (inr (inr (inr (inr (inr (inl refl)))))))))

    not_other : (h : (x : Decl) → IsIn x (ConstDecl 30 i ∷ []) → IsIn x (ConstDecl 30 j ∷ [])) → ⊥
    not_other h = elim (h (ConstDecl 30 i) (inl refl)) [ inl same ↦ cc | inr absent ↦ absent ]
