-- The classes of a merge are declared in order, where those of the parents are.
use Rattle.std.proofs.Common.{◌≡◌, ◌⊎◌, ℕ, List, [], ◌∷◌, ◌++◌, append-nil, refl, sym, subst, inl, inr}
use Rattle.pure_text.specs.Lists.{IsIn, Each, AnyOf}
use Rattle.pure_text.proofs.ListLaws.{any_some, each_imply, in_split, in-append_left, in-append_right}
use Rattle.pure_definitions.specs.Types.Order.{Class}
use Rattle.pure_definitions.specs.Declarations.Decl.{Decl, ClassDecl, ConDecl, ArityDecl, ConstDecl, AxiomDecl, PromiseDecl, classes_of}
use Rattle.pure_term_laws.proofs.DeclLaws.{declared_classes}
use Rattle.pure_order_tables.specs.Classes.{IsDeclared, Follows}
use Rattle.pure_order_tables.proofs.BelowLaws.{declared, follows-one_more}
use Rattle.pure_logic.specs.Content.{Content, AreNamedAlike}
use Rattle.pure_logic.specs.Beginning.{IsAdded, IsMergeAfter}
use Rattle.pure_logic.specs.Laws.Contents.{AreAgreed}
use Rattle.pure_theory_tables.proofs.AlgebraLaws.{classes-append}

-- The declaration is one of the first list or one of the second.
abbrev pub IsOneOf : List Decl → List Decl → Decl → Type 0
IsOneOf before added d = IsIn d before ⊎ IsIn d added

-- Of the two lists: declarations of one kind with one name are the same.
abbrev AreOnceTogether : List Decl → List Decl → Type 0
AreOnceTogether before added = (d e : Decl) → IsOneOf before added d → IsOneOf before added e → AreNamedAlike d e → d ≡ e

-- One declaration is behind the classes before it.
passed : (front : List Decl) (d : Decl) (ds : List Decl) → Follows (classes_of front) (classes_of (d ∷ ds)) → Follows (classes_of (front ++ d ∷ [])) (classes_of ds)
passed front (ClassDecl k) ds f = rw (classes-append front (ClassDecl k ∷ [])) f.2
passed front (ConDecl k n) ds f = rw (classes-append front (ConDecl k n ∷ []), append-nil) f
passed front (ArityDecl a) ds f = rw (classes-append front (ArityDecl a ∷ []), append-nil) f
passed front (ConstDecl c T) ds f = rw (classes-append front (ConstDecl c T ∷ []), append-nil) f
passed front (AxiomDecl x A) ds f = rw (classes-append front (AxiomDecl x A ∷ []), append-nil) f
passed front (PromiseDecl x l A) ds f = rw (classes-append front (PromiseDecl x l A ∷ []), append-nil) f

-- What is declared by some declarations is declared by more.
declared-more : (front before : List Decl) → ((d : Decl) → IsIn d front → IsIn d before) → (c : ℕ) → IsDeclared (classes_of front) c → IsDeclared (classes_of before) c
declared-more front before more c m =
    let k = any_some (λ (k : Class). k.name ≡ c) (classes_of front) m in
    declared (classes_of before) k.0 c ((declared_classes before k.0).1 (more (ClassDecl k.0) ((declared_classes front k.0).0 k.1))) k.2

class-fresh : (before : List Decl) (k : Class) → ¬ IsIn (ClassDecl k) before → ((e : Decl) → IsIn e before → AreNamedAlike e (ClassDecl k) → e ≡ ClassDecl k) → ¬ IsDeclared (classes_of before) k.name
class-fresh before k new once m =
    let c = any_some (λ (c : Class). c.name ≡ k.name) (classes_of before) m in
    let there = (declared_classes before c.0).0 c.1 in
    new (subst (λ (e : Decl). IsIn e before) (once (ClassDecl c.0) there c.2) there)

-- A new declaration behind those before it.
put : (front before : List Decl) (d : Decl) (ds : List Decl) → Follows [] (classes_of before) → Follows (classes_of front) (classes_of (d ∷ ds)) → ((e : Decl) → IsIn e front → IsIn e before) → ¬ IsIn d before
    → ((e : Decl) → IsIn e before → AreNamedAlike e d → e ≡ d) → Follows [] (classes_of (before ++ d ∷ []))
put front before (ClassDecl k) ds g f more new once = rw (classes-append before (ClassDecl k ∷ [])) (follows-one_more [] (classes_of before) k g (class-fresh before k new once)
    (each_imply (IsDeclared (classes_of front)) (IsDeclared (classes_of before)) k.above (declared-more front before more) f.1))
put front before (ConDecl k n) ds g f more new once = rw (classes-append before (ConDecl k n ∷ []), append-nil) g
put front before (ArityDecl a) ds g f more new once = rw (classes-append before (ArityDecl a ∷ []), append-nil) g
put front before (ConstDecl c T) ds g f more new once = rw (classes-append before (ConstDecl c T ∷ []), append-nil) g
put front before (AxiomDecl x A) ds g f more new once = rw (classes-append before (AxiomDecl x A ∷ []), append-nil) g
put front before (PromiseDecl x l A) ds g f more new once = rw (classes-append before (PromiseDecl x l A ∷ []), append-nil) g

within-one : (front before : List Decl) (d : Decl) → ((e : Decl) → IsIn e front → IsIn e before) → IsIn d before → (e : Decl) → IsIn e (front ++ d ∷ []) → IsIn e before
within-one front before d more here e m = elim (in_split e front (d ∷ []) m) [
  | inl a ↦ more e a
  | inr b ↦ elim b [ inl same ↦ subst (λ (x : Decl). IsIn x before) (sym same) here | inr none ↦ absurd none ]
]

put-back : (before : List Decl) (d : Decl) (ds : List Decl) (e : Decl) → IsOneOf (before ++ d ∷ []) ds e → IsOneOf before (d ∷ ds) e
put-back before d ds e (inr m) = inr (inr m)
put-back before d ds e (inl m) = elim (in_split e before (d ∷ []) m) [ inl a ↦ inl a | inr b ↦ elim b [ inl same ↦ inr (inl same) | inr none ↦ absurd none ] ]

kept-back : (before : List Decl) (d : Decl) (ds : List Decl) (e : Decl) → IsOneOf before ds e → IsOneOf before (d ∷ ds) e
kept-back before d ds e (inl m) = inl m
kept-back before d ds e (inr m) = inr (inr m)

added-follows : (front before added after : List Decl) → IsAdded before added after → Follows [] (classes_of before) → Follows (classes_of front) (classes_of added) → ((d : Decl) → IsIn d front → IsIn d before) → AreOnceTogether before added
    → Follows [] (classes_of after)
added-follows front before [] after h g f more once = rw h g
added-follows front before (d ∷ ds) after (inl h) g f more once =
    added-follows (front ++ d ∷ []) before ds after h.1 g (passed front d ds f) (within-one front before d more h.0) (λ x y m n alike. once x y (kept-back before d ds x m) (kept-back before d ds y n) alike)
added-follows front before (d ∷ ds) after (inr h) g f more once =
    added-follows (front ++ d ∷ []) (before ++ d ∷ []) ds after h.1
    (put front before d ds g f more h.0 (λ e m alike. once e d (inl m) (inr (inl refl)) alike))
    (passed front d ds f)
    (within-one front (before ++ d ∷ []) d (λ e m. in-append_left e before (d ∷ []) (more e m)) (in-append_right d before (d ∷ []) (inl refl)))
    (λ x y m n alike. once x y (put-back before d ds x m) (put-back before d ds y n) alike)

pub added-from : (before added after : List Decl) → IsAdded before added after → (x : Decl) → IsIn x after → IsOneOf before added x
added-from before [] after h x m = inl (rw h at m)
added-from before (d ∷ ds) after (inl h) x m = kept-back before d ds x (added-from before ds after h.1 x m)
added-from before (d ∷ ds) after (inr h) x m = put-back before d ds x (added-from (before ++ d ∷ []) ds after h.1 x m)

-- Some content declares it.
abbrev IsOf : List Content → Decl → Type 0
IsOf contents d = AnyOf (λ (Q : Content). IsIn d Q.declarations) contents

abbrev pub IsOrdered : Content → Type 0
IsOrdered Q = Follows [] (classes_of Q.declarations)

merge-follows : (all : List Content) → AreAgreed all → (before : List Decl) (parents : List Content) (merged : List Decl) → IsMergeAfter before parents merged → Follows [] (classes_of before) → Each IsOrdered parents
    → ((d : Decl) → IsIn d before → IsOf all d) → ((d : Decl) → IsOf parents d → IsOf all d) → Follows [] (classes_of merged)
merge-follows all agreed before [] merged h f ordered old new = rw h f
merge-follows all agreed before (Q ∷ Qs) merged h f ordered old new =
    let from : (d : Decl) → IsOneOf before Q.declarations d → IsOf all d = λ d m. elim m [ inl a ↦ old d a | inr b ↦ new d (inl b) ] in
    let next = added-follows [] before Q.declarations h.0 h.1 f ordered.0 (λ d m. absurd m) (λ d e m n alike. agreed.named_once d e (from d m) (from e n) alike) in
    merge-follows all agreed h.0 Qs merged h.3 next ordered.1 (λ d m. from d (added-from before Q.declarations h.0 h.1 d m)) (λ d m. new d (inr m))

-- A merge of contents that agree has its classes in order, where theirs are.
pub merge_is_ordered : (parents : List Content) (merged : List Decl) → AreAgreed parents → IsMergeAfter [] parents merged → Each IsOrdered parents → Follows [] (classes_of merged)
merge_is_ordered parents merged agreed h ordered = merge-follows parents agreed [] parents merged h tt ordered (λ d m. absurd m) (λ d m. m)
