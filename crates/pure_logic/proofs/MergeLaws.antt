-- Merges of contents.
use Rattle.std.proofs.Common.{◌≡◌, ◌↔◌, ◌⊎◌, List, [], ◌∷◌, ◌++◌, inl, inr, sym, ◌∙◌, refl}
use Rattle.pure_text.specs.Lists.{IsIn, Each, AnyOf, AreDistinct}
use Rattle.pure_definitions.specs.Types.Order.{IsCoregular}
use Rattle.pure_definitions.specs.Types.Typ.{prop}
use Rattle.pure_definitions.specs.Terms.Term.{Term}
use Rattle.pure_definitions.specs.Declarations.Decl.{Decl, ClassDecl, ConDecl, ArityDecl, ConstDecl, AxiomDecl, PromiseDecl, algebra_of}
use Rattle.pure_text.proofs.ListLaws.{each_of, in-append_left, in-append_right, each_at, in_split, distinct-snoc}
use Rattle.pure_logic.specs.Content.{TheoryId, Content, IsStatement, IsWellFormed, IsContent, IsBelow}
use Rattle.pure_logic.specs.Beginning.{IsBeginning, IsAdded, IsMergeAfter, IsMerge}
use Rattle.pure_logic.specs.Laws.Contents.{AreAgreed}
use Rattle.pure_logic.proofs.AboveLaws.{certified_of-above}

-- What is added has the declarations of both lists.
added-has : (before added after : List Decl) → IsAdded before added after → (x : Decl) → IsIn x before ⊎ IsIn x added → IsIn x after
added-has before [] after h x m = rw h (elim m [ inl n ↦ n | inr absent ↦ absurd absent ])
added-has before (d ∷ ds) after (inl h) x m = added-has before ds after h.1 x (elim m [ inl n ↦ inl n | inr n ↦ elim n [ inl e ↦ inl (rw e h.0) | inr o ↦ inr o ] ])
added-has before (d ∷ ds) after (inr h) x m =
    added-has (before ++ d ∷ []) ds after h.1 x (elim m [
      | inl n ↦ inl (in-append_left x before (d ∷ []) n)
      | inr n ↦ elim n [ inl e ↦ inl (in-append_right x before (d ∷ []) (inl e)) | inr o ↦ inr o ]
    ])

added-from : (before added after : List Decl) → IsAdded before added after → (x : Decl) → IsIn x after → IsIn x before ⊎ IsIn x added
added-from before [] after h x m = inl (rw h at m)
added-from before (d ∷ ds) after (inl h) x m = elim (added-from before ds after h.1 x m) [ inl n ↦ inl n | inr n ↦ inr (inr n) ]
added-from before (d ∷ ds) after (inr h) x m = elim (added-from (before ++ d ∷ []) ds after h.1 x m) [
  | inl n ↦ elim (in_split x before (d ∷ []) n) [ inl o ↦ inl o | inr o ↦ elim o [ inl e ↦ inr (inl e) | inr absent ↦ absurd absent ] ]
  | inr n ↦ inr (inr n)
]

added-distinct : (before added after : List Decl) → IsAdded before added after → AreDistinct before → AreDistinct after
added-distinct before [] after h k = rw h k
added-distinct before (d ∷ ds) after (inl h) k = added-distinct before ds after h.1 k
added-distinct before (d ∷ ds) after (inr h) k = added-distinct (before ++ d ∷ []) ds after h.1 (distinct-snoc before d k h.0)

one_added : (before added after other : List Decl) → IsAdded before added after → IsAdded before added other → after ≡ other
one_added before [] after other h k = h ∙ sym k
one_added before (d ∷ ds) after other (inl h) (inl k) = one_added before ds after other h.1 k.1
one_added before (d ∷ ds) after other (inr h) (inr k) = one_added (before ++ d ∷ []) ds after other h.1 k.1
one_added before (d ∷ ds) after other (inl h) (inr k) = absurd (k.0 h.0)
one_added before (d ∷ ds) after other (inr h) (inl k) = absurd (h.0 k.0)

merge-has : (before : List Decl) (parents : List Content) (merged : List Decl) → IsMergeAfter before parents merged → (x : Decl) → IsIn x before ⊎ AnyOf (λ Q. IsIn x Q.declarations) parents → IsIn x merged
merge-has before [] merged h x m = rw h (elim m [ inl n ↦ n | inr absent ↦ absurd absent ])
merge-has before (Q ∷ Qs) merged h x m = merge-has h.0 Qs merged h.3 x (elim m [
  | inl n ↦ inl (added-has before Q.declarations h.0 h.1 x (inl n))
  | inr n ↦ elim n [ inl o ↦ inl (added-has before Q.declarations h.0 h.1 x (inr o)) | inr o ↦ inr o ]
])

merge-from : (before : List Decl) (parents : List Content) (merged : List Decl) → IsMergeAfter before parents merged → (x : Decl) → IsIn x merged → IsIn x before ⊎ AnyOf (λ Q. IsIn x Q.declarations) parents
merge-from before [] merged h x m = inl (rw h at m)
merge-from before (Q ∷ Qs) merged h x m = elim (merge-from h.0 Qs merged h.3 x m) [
  | inl n ↦ elim (added-from before Q.declarations h.0 h.1 x n) [ inl o ↦ inl o | inr o ↦ inr (inl o) ]
  | inr n ↦ inr (inr n)
]

pub merge_has_declarations : (parents : List Content) (merged : List Decl) → IsMerge parents merged → (x : Decl) → IsIn x merged ↔ AnyOf (λ Q. IsIn x Q.declarations) parents
merge_has_declarations parents merged h x = (
  λ m. elim (merge-from [] parents merged h x m) [ inl absent ↦ absurd absent | inr n ↦ n ],
  λ m. merge-has [] parents merged h x (inr m),
)

merge-distinct : (before : List Decl) (parents : List Content) (merged : List Decl) → IsMergeAfter before parents merged → AreDistinct before → AreDistinct merged
merge-distinct before [] merged h k = rw h k
merge-distinct before (Q ∷ Qs) merged h k = merge-distinct h.0 Qs merged h.3 (added-distinct before Q.declarations h.0 h.1 k)

pub merge_has_no_repeats : (parents : List Content) (merged : List Decl) → IsMerge parents merged → AreDistinct merged
merge_has_no_repeats parents merged h = merge-distinct [] parents merged h tt

one_merge_after : (before : List Decl) (parents : List Content) (merged other : List Decl) → IsMergeAfter before parents merged → IsMergeAfter before parents other → merged ≡ other
one_merge_after before [] merged other h k = h ∙ sym k
one_merge_after before (Q ∷ Qs) merged other h k =
    let same = one_added before Q.declarations h.0 k.0 h.1 k.1 in
    one_merge_after k.0 Qs merged other (rw same at h.3) k.3

pub one_merge : (parents : List Content) (merged other : List Decl) → IsMerge parents merged → IsMerge parents other → merged ≡ other
one_merge parents merged other h k = one_merge_after [] parents merged other h k

-- What two parents make is coregular.
pub merged-coregular : (P Q : Content) (merged : List Decl) → IsMerge (P ∷ Q ∷ []) merged → IsCoregular (algebra_of merged)
merged-coregular P Q merged h = rw h.3.3 h.3.2

-- After the last parent the list is coregular.
merge-coregular : (before : List Decl) (P : Content) (Ps : List Content) (merged : List Decl) → IsMergeAfter before (P ∷ Ps) merged → IsCoregular (algebra_of merged)
merge-coregular before P [] merged h = rw h.3 h.2
merge-coregular before P (R ∷ Rs) merged h = merge-coregular h.0 R Rs merged h.3

statement-above : (P Q : Content) → IsBelow P Q → (A : Term) → IsStatement P A → IsStatement Q A
statement-above P Q below A h = record { proposition = certified_of-above P Q below A prop h.proposition; schematic = h.schematic }

pub well_formed-above : (P Q : Content) → IsBelow P Q → (x : Decl) → IsWellFormed P x → IsWellFormed Q x
well_formed-above P Q below (ConstDecl c T) h = h
well_formed-above P Q below (AxiomDecl n A) h = statement-above P Q below A h
well_formed-above P Q below (PromiseDecl n l A) h = statement-above P Q below A h
well_formed-above P Q below (ClassDecl k) h = tt
well_formed-above P Q below (ConDecl k n) h = tt
well_formed-above P Q below (ArityDecl b) h = tt

some_parent-well_formed : (Q : Content) (x : Decl) (parents : List Content) → Each IsContent parents → Each (λ P. IsBelow P Q) parents → AnyOf (λ P. IsIn x P.declarations) parents → IsWellFormed Q x
some_parent-well_formed Q x [] h below m = absurd m
some_parent-well_formed Q x (P ∷ Ps) h below (inl m) = well_formed-above P Q below.0 x (each_at (IsWellFormed P) P.declarations h.0.well_formed x m)
some_parent-well_formed Q x (P ∷ Ps) h below (inr m) = some_parent-well_formed Q x Ps h.1 below.1 m

below-any : (Q : Content) (parents : List Content) → ((x : Decl) → AnyOf (λ P. IsIn x P.declarations) parents → IsIn x Q.declarations) → Each (λ P. IsBelow P Q) parents
below-any Q [] h = tt
below-any Q (P ∷ Ps) h = (λ x m. h x (inl m), below-any Q Ps (λ x m. h x (inr m)))

pub parents_are_below : (id : TheoryId) (parents : List Content) (Q : Content) → IsBeginning id parents Q → Each (λ P. IsBelow P Q) parents
parents_are_below id parents Q h = below-any Q parents (λ x m. (merge_has_declarations parents Q.declarations h.merge x).1 m)

pub beginning_is_content : (id : TheoryId) (parents : List Content) (Q : Content) → Each IsContent parents → AreAgreed parents → IsBeginning id parents Q → IsContent Q
beginning_is_content id [] Q h agreed b = absurd (b.some_parent refl)
beginning_is_content id (P ∷ Ps) Q h agreed b =
    let has = λ (x : Decl) (m : IsIn x Q.declarations). (merge_has_declarations (P ∷ Ps) Q.declarations b.merge x).0 m in
    record {
      named_once = λ x y m n same. agreed.named_once x y (has x m) (has y n) same;
      labelled_once = λ x y m n same. agreed.labelled_once x y (has x m) (has y n) same;
      well_formed = each_of (IsWellFormed Q) Q.declarations (λ x m. some_parent-well_formed Q x (P ∷ Ps) h (parents_are_below id (P ∷ Ps) Q b) (has x m));
      coregular = merge-coregular [] P Ps Q.declarations b.merge;
    }
