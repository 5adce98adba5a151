-- Merges of parents, and what begins with them.
use Rattle.std.proofs.Common.{◌≡◌, ℕ, zero, suc, ◌+◌, List, [], ◌∷◌, ◌++◌, take, drop, add-one, refl, ap, sym, ◌∙◌, inl, inr, ◌<◌, ◌≤◌, length, get_or, subst, arith}
use Rattle.std.proofs.lemmas.Option.{slice_get-map, slice_get-get_or, slice_get_past}
use Rattle.std.specs.Prelude.{Some, slice_get}
use Rattle.std.specs.Option.{option_map}
use Rattle.std.specs.declared.alloc.Global.{Global}
use Rattle.std.specs.declared.sync.Arc.{Arc}
use Rattle.pure_text.specs.Lists.{IsIn, Each, AnyOf, AreDistinct}
use Rattle.pure_text.proofs.ListLaws.{in_split, in-append_left, in-append_right, any_of, each_at, each_of, each_imply}
use Rattle.pure_definitions.specs.Types.Order.{Algebra, IsCoregular}
use Rattle.pure_definitions.specs.Declarations.Decl.{Decl, ClassDecl, algebra_of}
use Rattle.pure_term_laws.proofs.DeclLaws.{declared_classes}
use Rattle.pure_order.specs.OrderTables.Classes.{Agree}
use Rattle.pure_order.specs.OrderTables.Others.{AreOthers, none, new, AreWithOthers}
use Rattle.pure_order.specs.declared.fault.OrderFault.{OrderFault}
use Rattle.pure_order.specs.declared.fault.OrderFault.TheVariants as order
use Rattle.pure_order.specs.FaultView.{IsMergeFault}
use Rattle.pure_logic.specs.Content.{TheoryId, Content, IsContent, IsBelow}
use Rattle.pure_logic.specs.PureContent.{pure_content}
use Rattle.pure_logic.specs.Beginning.{IsAdded, IsMergeAfter, IsMerge, IsBeginning, ancestors_of, AreToldApart, IsNewOver}
use Rattle.pure_logic.specs.Laws.Contents.{AreAgreed}
use Rattle.pure_logic.proofs.MergeLaws.{merge_has_declarations, merge_has_no_repeats, parents_are_below, beginning_is_content}
use Rattle.pure_logic.proofs.AncestorLaws.{beginning_has_theories_apart}
use Rattle.pure_theory_tables.specs.Named.{AreNamedOnce}
use Rattle.pure_order.specs.OrderTables.Arities.{IsUnionInOrder}
use Rattle.pure_theory_tables.proofs.AlgebraLaws.{united_algebra}
use Rattle.pure_theory_tables.proofs.OtherLaws.{added, added_others}
use Rattle.pure_theory_tables.proofs.GetLaws.{take_next, split_get, all_taken, each_turn_at}
use Rattle.pure_theory.specs.declared.fault.DeclFault.{DeclFault}
use Rattle.pure_theory.specs.declared.fault.DeclFault.TheVariants.{Duplicate, UnknownClass, UnknownType, WrongCount, NotCoregular, NotClosed, ExtraType, Memory}
use Rattle.pure_theory.specs.Refusals.{refusal_of}
use Rattle.pure_theory.specs.Stage.{IsCertifiedDecl, IsSound, IsStage}
use Rattle.pure_theory.specs.Begin.{contents, IsMergeRefusal, IsBeginRefusal}
use Rattle.pure_theory.proofs.StageLaws.{certified-above}

-- Orders of lists in which each name is declared once agree.
pub orders_agree : (ds es : List Decl) (A B : Algebra) → A ≡ algebra_of ds → B ≡ algebra_of es → AreNamedOnce (ds ++ es) → Agree A.classes B.classes
orders_agree ds es A B a b once = rw (a, b) (λ c k m n e.
    (let same : ClassDecl c ≡ ClassDecl k = once (ClassDecl c) (ClassDecl k) (in-append_left (ClassDecl c) ds es ((declared_classes ds c).0 m)) (in-append_right (ClassDecl k) ds es ((declared_classes es k).0 n)) e in cc))

pub merge_refusal : (ds es : List Decl) (A B : Algebra) (fault : OrderFault) → A ≡ algebra_of ds → B ≡ algebra_of es → IsMergeFault A B fault → IsMergeRefusal ds es (refusal_of fault)
merge_refusal ds es A B (order.UnknownClass c) a b h = absurd h
merge_refusal ds es A B order.Duplicate a b h = absurd h
merge_refusal ds es A B (order.NotCoregular k c d) a b h = rw (← a, ← b) h
merge_refusal ds es A B order.Memory a b h = tt

others_all : (ys : List Decl) → AreOthers [] ys ys
others_all [] = none
others_all (y ∷ ys) = new (λ m. m) (others_all ys)

-- One parent alone is merged to what it declares.
pub merge_of_one : (P : Content) → IsSound P → IsMerge (P ∷ []) P.declarations
merge_of_one P h = (P.declarations, added P.declarations (others_all P.declarations) h.distinct, h.content.coregular, refl)

pub merge_after-snoc : (before : List Decl) (Qs : List Content) (Q : Content) (mid after : List Decl) → IsMergeAfter before Qs mid → IsAdded mid Q.declarations after → IsCoregular (algebra_of after) → IsMergeAfter before (Qs ++ Q ∷ []) after
merge_after-snoc before [] Q mid after h a c = (after, rw (← h) a, c, refl)
merge_after-snoc before (P ∷ Ps) Q mid after h a c = (h.0, h.1, h.2, merge_after-snoc h.0 Ps Q mid after h.3 a c)

-- One more parent.
pub merge_turn : (parents : List Content) (i : ℕ) (P : Content) (mid after : List Decl) → slice_get parents i ≡ Some P → IsMerge (take i parents) mid → IsAdded mid P.declarations after → IsCoregular (algebra_of after) → IsMerge (take (i + 1) parents) after
merge_turn parents i P mid after held h a c = rw (add-one, take_next parents i P held) (merge_after-snoc [] (take i parents) P mid after h a c)

pub any-take : (R : Content → Type 0) (parents : List Content) (i : ℕ) → AnyOf R (take i parents) → AnyOf R parents
any-take R [] zero m = absurd m
any-take R [] (suc i) m = absurd m
any-take R (P ∷ Ps) zero m = absurd m
any-take R (P ∷ Ps) (suc i) m = elim m [ inl p ↦ inl p | inr n ↦ inr (any-take R Ps i n) ]

pub get_any : (R : Content → Type 0) (parents : List Content) (i : ℕ) (P : Content) → slice_get parents i ≡ Some P → R P → AnyOf R parents
get_any R parents i P held h = rw (split_get parents i P held) (any_of R P (take i parents ++ P ∷ drop (suc i) parents) (in-append_right P (take i parents) (P ∷ drop (suc i) parents) (inl refl)) h)

-- Each of the declarations that are merged is one of a parent, so they agree with those of another parent.
pub named_once_with : (parents : List Content) (i : ℕ) (P : Content) (mid : List Decl) → slice_get parents i ≡ Some P → AreAgreed parents → IsMerge (take i parents) mid → AreNamedOnce (mid ++ P.declarations)
named_once_with parents i P mid held agreed h d e m n alike = agreed.named_once d e (from d m) (from e n) alike
  where
    from : (x : Decl) → IsIn x (mid ++ P.declarations) → AnyOf (λ Q. IsIn x Q.declarations) parents
    from x k = elim (in_split x mid P.declarations k) [
      | inl a ↦ any-take (λ Q. IsIn x Q.declarations) parents i ((merge_has_declarations (take i parents) mid h x).0 a)
      | inr b ↦ get_any (λ Q. IsIn x Q.declarations) parents i P held b
    ]

-- A refusal of one parent is one of them all.
pub begin_refusal : (parents : List Content) (i : ℕ) (P : Content) (mid : List Decl) (fault : DeclFault) → slice_get parents i ≡ Some P → IsMerge (take i parents) mid → IsMergeRefusal mid P.declarations fault → IsBeginRefusal parents fault
begin_refusal parents i P mid (NotCoregular k c d) held h r = record {
  front = take i parents;
  parent = P;
  rest = drop (suc i) parents;
  are = split_get parents i P held;
  merged = mid;
  merge = h;
  union = r.0;
  is_union = r.1;
  least = r.2;
}
begin_refusal parents i P mid Memory held h r = tt
begin_refusal parents i P mid Duplicate held h r = absurd r
begin_refusal parents i P mid (UnknownClass c) held h r = absurd r
begin_refusal parents i P mid (UnknownType k) held h r = absurd r
begin_refusal parents i P mid (WrongCount k) held h r = absurd r
begin_refusal parents i P mid NotClosed held h r = absurd r
begin_refusal parents i P mid ExtraType held h r = absurd r

-- What begins with sound parents is sound.
module _ (id : TheoryId) (parents : List Content) (sound : Each IsSound parents) (agreed : AreAgreed parents) (apart : AreToldApart (ancestors_of parents)) (new_one : IsNewOver id (ancestors_of parents)) (Q : Content) (begins : IsBeginning id parents Q) where
  below_all : Each (λ P. IsBelow P Q) parents
  below_all = parents_are_below id parents Q begins

  from_parent : (Ps : List Content) → Each IsSound Ps → Each (λ P. IsBelow P Q) Ps → (d : Decl) → AnyOf (λ P. IsIn d P.declarations) Ps → IsCertifiedDecl Q.declarations d
  from_parent [] s b d m = absurd m
  from_parent (P ∷ Ps) s b d m = elim m [
    | inl here ↦ certified-above P.declarations Q.declarations b.0 d (each_at (IsCertifiedDecl P.declarations) P.declarations s.0.certified d here)
    | inr later ↦ from_parent Ps s.1 b.1 d later
  ]

  above_pure : (Ps : List Content) → ¬ (Ps ≡ []) → Each IsSound Ps → Each (λ P. IsBelow P Q) Ps → IsBelow pure_content Q
  above_pure [] some s b d m = absurd (some refl)
  above_pure (P ∷ Ps) some s b d m = b.0 d (s.0.above_pure d m)

  pub sound_beginning : IsSound Q
  sound_beginning = record {
    content = beginning_is_content id parents Q (each_imply IsSound IsContent parents (λ P s. s.content) sound) agreed begins;
    above_pure = above_pure parents begins.some_parent sound below_all;
    apart = beginning_has_theories_apart id parents Q apart new_one begins;
    certified = each_of (IsCertifiedDecl Q.declarations) Q.declarations (λ d m. from_parent parents sound below_all d ((merge_has_declarations parents Q.declarations begins.merge d).0 m));
    distinct = merge_has_no_repeats parents Q.declarations begins.merge;
  }

-- The parents behind their pointers.
pub parent_held : (parents : List (Arc Content Global)) (place : ℕ) (pointer : Arc Content Global) (P : Content) → place < length parents → pointer ≡ get_or parents place pointer → P ≡ pointer.value → slice_get (contents parents) place ≡ Some P
parent_held parents place pointer P short is value =
    slice_get-map (λ (p : Arc Content Global). p.value) parents place
    ∙ ap (option_map (λ (p : Arc Content Global). p.value)) (slice_get-get_or parents place pointer short)
    ∙ ap (λ (q : Arc Content Global). Some q.value) (sym is)
    ∙ ap Some (sym value)

pub some_parent : (parents : List (Arc Content Global)) → ¬ (contents parents ≡ []) → 0 < length parents
some_parent [] h = absurd (h refl)
some_parent (p ∷ ps) h = omega arith

pub all_parents : (parents : List (Arc Content Global)) (place : ℕ) → length parents ≤ place → take place (contents parents) ≡ contents parents
all_parents parents place long =
    all_taken (contents parents) place (slice_get-map (λ (p : Arc Content Global). p.value) parents place ∙ ap (option_map (λ (p : Arc Content Global). p.value)) (slice_get_past parents place long))

-- The first parent, and one more.
pub merge_first : (parents : List Content) (P : Content) (merged : List Decl) → slice_get parents 0 ≡ Some P → IsSound P → merged ≡ P.declarations → IsMerge (take 1 parents) merged × Each IsSound (take 1 parents)
merge_first parents P merged held h same =
    let one : take 1 parents ≡ P ∷ [] = take_next parents 0 P held in
    rw (one, same) (merge_of_one P h, (h, tt))

pub merge_next : (parents : List Content) (i : ℕ) (P : Content) (mid after : List Decl) → slice_get parents i ≡ Some P → IsSound P → IsMerge (take i parents) mid × Each IsSound (take i parents) → IsAdded mid P.declarations after → IsCoregular (algebra_of after) → IsMerge (take (i + 1) parents) after × Each IsSound (take (i + 1) parents)
merge_next parents i P mid after held s h a c = (merge_turn parents i P mid after held h.0 a c, each_turn_at IsSound parents i P held h.1 s)

-- What begins so, and its stage.
pub begun : (id : TheoryId) (parents : List Content) (ds : List Decl) (ancestors : List TheoryId) → ¬ (parents ≡ []) → IsMerge parents ds → ancestors ≡ ancestors_of parents → IsBeginning id parents (record { declarations = ds; own = Some id; ancestors = ancestors })
begun id parents ds ancestors some merge same = record { some_parent = some; merge = merge; own = refl; ancestors = same }

pub begun_stage : (id : TheoryId) (parents : List Content) (ds : List Decl) (ancestors : List TheoryId) (A : Algebra) → Each IsSound parents → AreAgreed parents → AreToldApart (ancestors_of parents) → IsNewOver id (ancestors_of parents)
    → ¬ (parents ≡ []) → IsMerge parents ds → ancestors ≡ ancestors_of parents → A ≡ algebra_of ds → IsStage (record { declarations = ds; own = Some id; ancestors = ancestors }) A
begun_stage id parents ds ancestors A sound agreed apart new_one some merge same order = record {
  sound = sound_beginning id parents sound agreed apart new_one _ (begun id parents ds ancestors some merge same);
  order = order;
}

-- The order and the list of what is merged.
pub merged_order : (ds es own others all : List Decl) (A B U O : Algebra) → own ≡ ds → others ≡ es → A ≡ algebra_of ds → B ≡ algebra_of es → AreWithOthers own others all → IsUnionInOrder A B U → O ≡ U → O ≡ algebra_of all
merged_order ds es own others all A B U O p q a b w u o =
    let first : A ≡ algebra_of own = a ∙ ap algebra_of (sym p) in
    let second : B ≡ algebra_of others = b ∙ ap algebra_of (sym q) in
    o ∙ united_algebra own others all U w (subst (λ C. IsUnionInOrder C (algebra_of others) U) first (subst (λ C. IsUnionInOrder A C U) second u))

pub merged_added : (ds es own others all : List Decl) → own ≡ ds → others ≡ es → AreWithOthers own others all → AreDistinct es → IsAdded ds es all
merged_added ds es own others all p q w d = subst (λ xs. IsAdded xs es all) p (subst (λ ys. IsAdded own ys all) q (added_others own others all w (subst AreDistinct (sym q) d)))
