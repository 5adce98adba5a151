-- Items that are added one after the other make good contents.
use Rattle.std.proofs.Common.{◌≡◌, ◌∙◌, ◌⊎◌, ℕ, ◌+◌, ◌≤◌, ◌<◌, zero, suc, List, [], ◌∷◌, ◌++◌, map, take, drop, length, get_or, refl, sym, ap, subst, inl, inr, arith, append_assoc, take_all}
use Rattle.std.specs.Prelude.{Option, Some, None, Result, Ok, Err, IfOk, MatchOption}
use Rattle.pure_text.specs.Lists.{IsIn, Each}
use Rattle.pure_text.proofs.ListLaws.{each-append, each_imply, each-right, each_at, in-append_left, in-append_right, in_split, split_at}
use Rattle.pure_text.proofs.LoopLaws.{longer_by}
use Rattle.pure_definitions.specs.Types.Typ.{Typ}
use Rattle.pure_definitions.specs.Types.Order.{IsCoregular}
use Rattle.pure_definitions.specs.Terms.Term.{Term}
use Rattle.pure_definitions.specs.Terms.Limits.{cut_off}
use Rattle.pure_definitions.specs.Declarations.Decl.{Decl, ConDecl, ConstDecl, AxiomDecl, algebra_of}
use Rattle.pure_logic.specs.Content.{IsContent, IsBelow, IsWellFormed, IsStatement, IsSchematicTyp, AreNamedAlike, AreLabelledAlike}
use Rattle.pure_logic.specs.PureContent.{pure_declarations}
use Rattle.pure_logic.proofs.ContentLaws.{pure_is_content}
use Rattle.pure_logic.proofs.MergeLaws.{well_formed-above}
use Rattle.pure_theory.specs.Refusals.{HasNamesake}
use Rattle.pure_theory.proofs.NamesakeLaws.{named_back, labelled_back, new_typ, new_const, new_axiom, old_typ, old_const, old_axiom}
use Rattle.pure_theory_tables.proofs.AlgebraLaws.{IsPlain, plain_algebra}
use Rattle.pure_theory_tables.specs.Facts.{Stated, fact_decl}
use Rattle.pure_record.specs.Items.{Item, TypeDecl, Const, Axiom}
use Rattle.pure_record.specs.declared.record.Item as program
use Rattle.pure_record.specs.Seen.{seen_item, seen_items}
use Rattle.pure_replay.specs.Step.{plain_content, no_classes}
use Rattle.pure_replay.specs.Contents.{declared_by, content_of, AreNamedApart, IsGoodContent, AreGoodItems, IsFirstBadItem}
use Rattle.pure_replay.specs.Added.{IsAddable, IsAdded, IsNext, AreDeclared}
use Rattle.pure_replay.specs.declared.fault.ReplayFault.{ReplayFault}
use Rattle.pure_replay.specs.declared.fault.ReplayFault.TheVariants as fault

differ : (m n : ℕ) → m + 1 ≤ n → m ≡ n → ⊥
differ m n h e = omega (arith, h, e)

-- Pure's declarations are named apart.
pure_apart : AreNamedApart pure_declarations
pure_apart = (
  (differ 0 1 (omega arith), ((λ r. r), ((λ r. r), ((λ r. r), ((λ r. r), ((λ r. r), tt)))))),
  (
    ((λ r. r), ((λ r. r), ((λ r. r), ((λ r. r), ((λ r. r), tt))))),
    (
      (differ 2 3 (omega arith), (differ 2 4 (omega arith), (differ 2 5 (omega arith), ((λ r. r), tt)))),
      ((differ 3 4 (omega arith), (differ 3 5 (omega arith), ((λ r. r), tt))), ((differ 4 5 (omega arith), ((λ r. r), tt)), (((λ r. r), tt), (tt, tt)))),
    ),
  ),
)

-- Nothing that an item declares is a class or an arity, or is labelled.
item_plain : (i : Item) → IsPlain (declared_by i)
item_plain (TypeDecl k n) = tt
item_plain (Const c T) = tt
item_plain (Axiom x A) = tt

item_unlabelled : (i : Item) (e : Decl) → ¬ AreLabelledAlike (declared_by i) e
item_unlabelled (TypeDecl k n) e r = absurd r
item_unlabelled (Const c T) e r = absurd r
item_unlabelled (Axiom x A) e r = absurd r

-- Declarations that are named apart, with one more.
apart-more : (ds : List Decl) (d : Decl) → AreNamedApart ds → ¬ HasNamesake ds d → AreNamedApart (ds ++ d ∷ [])
apart-more [] d h new = (tt, tt)
apart-more (e ∷ ds) d h new =
    (each-append (λ f. ¬ AreNamedAlike e f) ds (d ∷ []) h.0 ((λ r. new (e, inl refl, named_back e d r)), tt), apart-more ds d h.1 (λ s. new (s.0, inr s.1, s.2)))

apart-new : (ds : List Decl) (d : Decl) → AreNamedApart (ds ++ d ∷ []) → ¬ HasNamesake ds d
apart-new [] d h s = absurd s.1
apart-new (e ∷ ds) d h s = elim s.1 [
  | inl f ↦ each_at (λ f. ¬ AreNamedAlike e f) (ds ++ d ∷ []) h.0 d (in-append_right d ds (d ∷ []) (inl refl)) (named_back d e (subst (AreNamedAlike d) f s.2))
  | inr m ↦ apart-new ds d h.1 (s.0, m, s.2)
]

once : (R : Decl → Decl → Type 0) → ((d e : Decl) → R d e → R e d) → (ds : List Decl) (d : Decl) → ((e : Decl) → IsIn e ds → ¬ R d e) → ((x y : Decl) → IsIn x ds → IsIn y ds → R x y → x ≡ y)
    → (x y : Decl) → IsIn x (ds ++ d ∷ []) → IsIn y (ds ++ d ∷ []) → R x y → x ≡ y
once R back ds d new same x y m n r = elim (in_split x ds (d ∷ []) m) [
  | inl old ↦ elim (in_split y ds (d ∷ []) n) [
    | inl also ↦ same x y old also r
    | inr one ↦ elim one [ inl e ↦ absurd (new x old (back x d (rw e at r))) | inr none ↦ absurd none ]
  ]
  | inr one ↦ elim one [
    | inl e ↦ elim (in_split y ds (d ∷ []) n) [
      | inl old ↦ absurd (new y old (rw e at r))
      | inr other ↦ elim other [ inl f ↦ e ∙ sym f | inr none ↦ absurd none ]
    ]
    | inr none ↦ absurd none
  ]
]

-- the declarations of items, with one item more
more_declared : (items : List Item) (i : Item) → (content_of (items ++ i ∷ [])).declarations ≡ (content_of items).declarations ++ declared_by i ∷ []
more_declared items i = ap (λ ds. pure_declarations ++ ds) (snoc items) ∙ sym (append_assoc pure_declarations (map declared_by items) (declared_by i ∷ []))
  where
    snoc : (xs : List Item) → map declared_by (xs ++ i ∷ []) ≡ map declared_by xs ++ declared_by i ∷ []
    snoc [] = refl
    snoc (x ∷ xs) = ap (λ ds. declared_by x ∷ ds) (snoc xs)

-- A good content with an item that may be added is good.
pub good-more : (items : List Item) (i : Item) → IsGoodContent items → IsAddable (content_of items).declarations (declared_by i) → IsGoodContent (items ++ i ∷ [])
good-more items i h a = record {
  content = subst IsContent (ap plain_content (sym (more_declared items i))) grown;
  apart = subst AreNamedApart (sym (more_declared items i)) (apart-more ds d h.apart a.new);
}
  where
    ds : List Decl
    ds = (content_of items).declarations

    d : Decl
    d = declared_by i

    below : IsBelow (plain_content ds) (plain_content (ds ++ d ∷ []))
    below e m = in-append_left e ds (d ∷ []) m

    grown : IsContent (plain_content (ds ++ d ∷ []))
    grown = record {
      named_once = once AreNamedAlike named_back ds d (λ e m r. a.new (e, m, r)) h.content.named_once;
      labelled_once = once AreLabelledAlike labelled_back ds d (λ e m. item_unlabelled i e) h.content.labelled_once;
      well_formed = each-append (IsWellFormed (plain_content (ds ++ d ∷ []))) ds (d ∷ [])
          (each_imply (IsWellFormed (plain_content ds)) (IsWellFormed (plain_content (ds ++ d ∷ []))) ds (well_formed-above (plain_content ds) (plain_content (ds ++ d ∷ [])) below) h.content.well_formed)
          (a.well_formed, tt);
      coregular = subst IsCoregular (sym (plain_algebra ds d (item_plain i))) h.content.coregular;
    }

-- An item that may not be added makes no good content.
pub bad-more : (items : List Item) (i : Item) → ¬ IsAddable (content_of items).declarations (declared_by i) → ¬ IsGoodContent (items ++ i ∷ [])
bad-more items i bad h = bad (record {
  new = apart-new (content_of items).declarations (declared_by i) (subst AreNamedApart (more_declared items i) h.apart);
  well_formed =
      (each-right (IsWellFormed (plain_content ((content_of items).declarations ++ declared_by i ∷ []))) (content_of items).declarations (declared_by i ∷ [])
      (subst (λ ds. Each (IsWellFormed (plain_content ds)) ds) (more_declared items i) h.content.well_formed)).0;
})

-- Pure's content is good, and the only one of no items.
pure_good : IsGoodContent []
pure_good = record { content = pure_is_content; apart = pure_apart }

take_nothing : {A : Type 0} (n : ℕ) → ◌≡◌ {A = List A} (take n []) []
take_nothing zero = refl
take_nothing (suc n) = refl

pub none_good : AreGoodItems []
none_good n = subst IsGoodContent (sym (take_nothing n)) pure_good

take-snoc : {A : Type 0} (xs : List A) (x : A) (n : ℕ) → (take n (xs ++ x ∷ []) ≡ take n xs) ⊎ (take n (xs ++ x ∷ []) ≡ xs ++ x ∷ [])
take-snoc [] x zero = inl refl
take-snoc [] x (suc n) = inr (ap (λ ys. x ∷ ys) (take_nothing n))
take-snoc (y ∷ ys) x zero = inl refl
take-snoc (y ∷ ys) x (suc n) = elim (take-snoc ys x n) [ inl e ↦ inl (ap (λ zs. y ∷ zs) e) | inr e ↦ inr (ap (λ zs. y ∷ zs) e) ]

pub good_all : (items : List Item) → AreGoodItems items → IsGoodContent items
good_all items h = subst IsGoodContent (take_all (length items) items (omega arith)) (h (length items))

items-more : (items : List Item) (i : Item) → AreGoodItems items → IsGoodContent (items ++ i ∷ []) → AreGoodItems (items ++ i ∷ [])
items-more items i h k n = elim (take-snoc items i n) [ inl e ↦ subst IsGoodContent (sym e) (h n) | inr e ↦ subst IsGoodContent (sym e) k ]

-- Items that the program has, as far as a place.
map-snoc : (xs : List program.Item) (x : program.Item) → seen_items (xs ++ x ∷ []) ≡ seen_items xs ++ seen_item x ∷ []
map-snoc [] x = refl
map-snoc (y ∷ ys) x = ap (λ zs. seen_item y ∷ zs) (map-snoc ys x)

map-both : (xs ys : List program.Item) → seen_items (xs ++ ys) ≡ seen_items xs ++ seen_items ys
map-both [] ys = refl
map-both (x ∷ xs) ys = ap (λ zs. seen_item x ∷ zs) (map-both xs ys)

map-long : (xs : List program.Item) → length (seen_items xs) ≡ length xs
map-long [] = refl
map-long (x ∷ xs) = ap suc (map-long xs)

pub take-long : {A : Type 0} (xs : List A) (i : ℕ) → i < length xs → length (take i xs) ≡ i
take-long [] i h = absurd (omega (arith, h))
take-long (x ∷ xs) zero h = refl
take-long (x ∷ xs) (suc i) h = ap suc (take-long xs i (omega (arith, h)))

module _ (xs : List program.Item) (i : ℕ) (r : program.Item) (within : i < length xs) (read : r ≡ get_or xs i r) (ds : List Decl)
    (is : ds ≡ (content_of (seen_items (take i xs))).declarations) (good : AreGoodItems (seen_items (take i xs))) where
  abbrev front : List Item
  front = seen_items (take i xs)

  pub items-turn : (more : List Decl) → more ≡ ds ++ declared_by (seen_item r) ∷ [] → IsAddable ds (declared_by (seen_item r))
      → (more ≡ (content_of (seen_items (take (i + 1) xs))).declarations) × AreGoodItems (seen_items (take (i + 1) xs))
  items-turn more grown a =
      let longer : seen_items (take (i + 1) xs) ≡ front ++ seen_item r ∷ [] = ap seen_items (longer_by xs i r within read) ∙ map-snoc (take i xs) r in (
        grown ∙ (ap (λ es. es ++ declared_by (seen_item r) ∷ []) is ∙ (sym (more_declared front (seen_item r)) ∙ ap (λ items. (content_of items).declarations) (sym longer))),
        subst AreGoodItems (sym longer) (items-more front (seen_item r) good (good-more front (seen_item r) (good_all front good) (subst (λ es. IsAddable es (declared_by (seen_item r))) is a))),
      )

  bad_here : (k : ℕ) → k ≡ cut_off i → ¬ IsAddable ds (declared_by (seen_item r)) → IsFirstBadItem (seen_items xs) k
  bad_here k place bad = record {
    front = front;
    item = seen_item r;
    rest = seen_items (drop (i + 1) xs);
    is = ap seen_items (split_at xs i r within read) ∙ map-both (take i xs) (r ∷ drop (i + 1) xs);
    place_is = place ∙ ap cut_off (sym (map-long (take i xs) ∙ take-long xs i within));
    before = good;
    bad = bad-more front (seen_item r) (subst (λ es. ¬ IsAddable es (declared_by (seen_item r))) is bad);
  }

  pub items-stop : (f : ReplayFault) → IsNext ds (declared_by (seen_item r)) i (Err f) → AreDeclared (seen_items xs) (Err f)
  items-stop (fault.Content k) h = bad_here k h.0 h.1
  items-stop (fault.Line k) h = absurd h
  items-stop (fault.Big k) h = absurd h
  items-stop fault.Open h = absurd h
  items-stop fault.Empty h = absurd h
  items-stop fault.Memory h = tt

-- What a name that is new, and one that isn't, say of a declaration.
pub typ-taken : (ds : List Decl) (k m n : ℕ) → IsIn (ConDecl k n) ds → ¬ IsAddable ds (ConDecl k m)
typ-taken ds k m n h a = a.new (old_typ ds k m n h)

pub typ-free : (ds : List Decl) (k m : ℕ) → ((n : ℕ) → ¬ IsIn (ConDecl k n) ds) → IsAddable ds (ConDecl k m)
typ-free ds k m h = record { new = new_typ ds k m h; well_formed = tt }

pub const-taken : (ds : List Decl) (c : ℕ) (T U : Typ) → IsIn (ConstDecl c U) ds → ¬ IsAddable ds (ConstDecl c T)
const-taken ds c T U h a = a.new (old_const ds c T U h)

pub const-free : (ds : List Decl) (c : ℕ) (T : Typ) → ((U : Typ) → ¬ IsIn (ConstDecl c U) ds) → IsSchematicTyp T → IsAddable ds (ConstDecl c T)
const-free ds c T h k = record { new = new_const ds c T h; well_formed = k }

pub axiom-taken : (ds : List Decl) (x : ℕ) (A : Term) (s : Stated) → IsIn (fact_decl x s) ds → ¬ IsAddable ds (AxiomDecl x A)
axiom-taken ds x A s h a = a.new (old_axiom ds x A s h)

pub axiom-free : (ds more : List Decl) (x : ℕ) (A : Term) → ((s : Stated) → ¬ IsIn (fact_decl x s) ds) → more ≡ ds ++ AxiomDecl x A ∷ [] → IsStatement (plain_content more) A → IsAddable ds (AxiomDecl x A)
axiom-free ds more x A h e k = record { new = new_axiom ds x A h; well_formed = subst (λ es. IsStatement (plain_content es) A) e k }

-- Over no classes a declaration that is neither a class nor an arity leaves none.
pub classless-more : (ds more : List Decl) (d : Decl) → IsPlain d → algebra_of ds ≡ no_classes → more ≡ ds ++ d ∷ [] → algebra_of more ≡ no_classes
classless-more ds more d plain h e = ap algebra_of e ∙ (plain_algebra ds d plain ∙ h)

pub axiom-answer : {E : Type 0} (ds grown : List Decl) (x : ℕ) (A : Term) → ((s : Stated) → ¬ IsIn (fact_decl x s) ds) → grown ≡ ds ++ AxiomDecl x A ∷ [] → (r : Result (Option (List Decl)) E)
    → IfOk r (λ kept. MatchOption kept (¬ IsStatement (plain_content grown) A) (λ same. (same ≡ grown) × IsStatement (plain_content grown) A)) → IfOk r (λ more. IsAdded ds (AxiomDecl x A) more)
axiom-answer ds grown x A free e (Ok None) h = λ a. h (subst (λ es. IsStatement (plain_content es) A) (sym e) a.well_formed)
axiom-answer ds grown x A free e (Ok (Some more)) h = (h.0 ∙ e, axiom-free ds grown x A free e h.1)
axiom-answer ds grown x A free e (Err fault) h = tt

pub items-all : (xs : List program.Item) (i : ℕ) (ds : List Decl) → length xs ≤ i → ds ≡ (content_of (seen_items (take i xs))).declarations → AreGoodItems (seen_items (take i xs))
    → (ds ≡ (content_of (seen_items xs)).declarations) × AreGoodItems (seen_items xs)
items-all xs i ds end is good =
    let whole = take_all i xs end in
    (subst (λ ys. ds ≡ (content_of (seen_items ys)).declarations) whole is, subst (λ ys. AreGoodItems (seen_items ys)) whole good)
