-- Matches: what a walk over two types has put for variables, and in what order.
use Rattle.std.proofs.Common.{◌≡◌, ◌≢◌, ◌↔◌, ◌⊎◌, ℕ, zero, suc, ◌+◌, ◌<◌, ◌≤◌, List, [], ◌∷◌, ◌++◌, length, get_or, take, drop, map, Bool, true, false, refl, ap, sym, ◌∙◌, subst, inl, inr, true≢false, arith, append_assoc}
use Rattle.std.proofs.lemmas.List.{map-append, append-nil, take_all}
use Rattle.std.specs.Prelude.{MatchBool}
use Rattle.pure_text.specs.Lists.{IsIn, Each, EachTwo}
use Rattle.pure_text.proofs.ListLaws.{each_of, each_at, each_imply, each-append, each-left, each-right, in-append_left, in-append_right, in-map, two_read, two_long, split_at}
use Rattle.pure_text.proofs.LoopLaws.{each_turn}
use Rattle.pure_definitions.specs.Types.Typ.{Typ, TFree, TVar, Con, Typs, none, also, typs_of, typ_eq}
use Rattle.pure_definitions.specs.Types.Order.{Algebra, IsOfSort}
use Rattle.pure_definitions.specs.Terms.Subst.{TypBind, typ_variable, typ_image, typ_instance, typs_instance, KeepsFixedTyps, IsTypMap, AreSortRespecting, IsSortRespecting}
use Rattle.pure_definitions.specs.Declarations.Certified.{IsMatch}
use Rattle.pure_definitions.specs.Models.Equality.{typ_eq-same, typ_eq-is_equality}
use Rattle.pure_definitions.proofs.EntryLemmas.{typ_image-entry}
use Rattle.pure_typ.specs.TypBound.{IsTypBound}
use Rattle.pure_term_laws.proofs.SubstLaws.{entries-keep_fixed_typs}
use Rattle.pure_certify.specs.Matching.{HasNoMatch, schematics, all_schematics, HasImageOfSort, IsFirstFailing, IsSortFault, IsFirstUnsorted, Gives, AreInOrder, IsGrown, IsExcluded}

-- Two cuts of one list in front of the first element without a property are the same.
pub same_cut : {A : Type 0} (P : A → Type 0) (xs ys : List A) (x y : A) (us vs : List A) → xs ++ x ∷ us ≡ ys ++ y ∷ vs → Each P xs → Each P ys → (¬ P x) → (¬ P y) → x ≡ y
same_cut P [] [] x y us vs e h k p q = cc
same_cut P [] (z ∷ ys) x y us vs e h k p q = let same : z ≡ x = cc in absurd (p (subst P same k.0))
same_cut P (z ∷ xs) [] x y us vs e h k p q = let same : z ≡ y = cc in absurd (q (subst P same h.0))
same_cut P (z ∷ xs) (w ∷ ys) x y us vs e h k p q = let rest : xs ++ x ∷ us ≡ ys ++ y ∷ vs = cc in same_cut P xs ys x y us vs rest h.1 k.1 p q

-- Maps that make one instance of a type agree on its schematic variables.
mutual
  pub agree-typ : (f g : Typ → Typ) (T : Typ) → typ_instance f T ≡ typ_instance g T → Each (λ v. f v ≡ g v) (schematics T)
  agree-typ f g (TFree x s) e = tt
  agree-typ f g (TVar x i s) e = (e, tt)
  agree-typ f g (Con k ts) e = let inside : typs_instance f ts ≡ typs_instance g ts = cc in agree-typs f g ts inside

  agree-typs : (f g : Typ → Typ) (ts : Typs) → typs_instance f ts ≡ typs_instance g ts → Each (λ v. f v ≡ g v) (all_schematics ts)
  agree-typs f g none e = tt
  agree-typs f g (also t ts) e =
      let first : typ_instance f t ≡ typ_instance g t = cc in
      let rest : typs_instance f ts ≡ typs_instance g ts = cc in
      each-append (λ v. f v ≡ g v) (schematics t) (all_schematics ts) (agree-typ f g t first) (agree-typs f g ts rest)

-- Of maps that agree on variables the same variable is the first to fail.
image_along : (A : Algebra) (f g : Typ → Typ) (v : Typ) → f v ≡ g v → HasImageOfSort A f v → HasImageOfSort A g v
image_along A f g (TFree x s) e h = tt
image_along A f g (TVar x i s) e h = subst (λ T. IsOfSort A T s) e h
image_along A f g (Con k ts) e h = tt

images_along : (A : Algebra) (f g : Typ → Typ) (vs : List Typ) → Each (λ v. f v ≡ g v) vs → Each (HasImageOfSort A f) vs → Each (HasImageOfSort A g) vs
images_along A f g [] e h = tt
images_along A f g (v ∷ vs) e h = (image_along A f g v e.0 h.0, images_along A f g vs e.1 h.1)

failing_along : (A : Algebra) (f g : Typ → Typ) (vs : List Typ) (x : ℕ) → Each (λ v. f v ≡ g v) vs → IsFirstFailing A f vs x → IsFirstFailing A g vs x
failing_along A f g vs x e h =
    let v = TVar x h.index h.sort in
    let cut : Each (λ v. f v ≡ g v) (h.front ++ v ∷ h.rest) = subst (Each (λ v. f v ≡ g v)) h.is e in
    let here = each-right (λ v. f v ≡ g v) h.front (v ∷ h.rest) cut in
    record {
      front = h.front;
      index = h.index;
      sort = h.sort;
      rest = h.rest;
      is = h.is;
      before = images_along A f g h.front (each-left (λ v. f v ≡ g v) h.front (v ∷ h.rest) cut) h.before;
      fails = λ k. h.fails (image_along A g f v (sym here.0) k);
    }

failing-once : (A : Algebra) (f : Typ → Typ) (vs : List Typ) (x y : ℕ) → IsFirstFailing A f vs x → IsFirstFailing A f vs y → x ≡ y
failing-once A f vs x y h k =
    let same : TVar x h.index h.sort ≡ TVar y k.index k.sort
    = same_cut (HasImageOfSort A f) h.front k.front (TVar x h.index h.sort) (TVar y k.index k.sort) h.rest k.rest (sym h.is ∙ k.is) h.before k.before h.fails k.fails in
    cc

-- A declared type and a type have one such variable at most; and where they have one, no match respects sorts.
pub sort_fault-once : (A : Algebra) (declared typ : Typ) (x y : ℕ) → IsSortFault A declared typ x → IsSortFault A declared typ y → x ≡ y
sort_fault-once A declared typ x y h k =
    let same = agree-typ h.typs k.typs declared (h.matches.is ∙ sym k.matches.is) in
    failing-once A k.typs (schematics declared) x y (failing_along A h.typs k.typs (schematics declared) x same h.first) k.first

pub sort_fault-no_instance : (A : Algebra) (declared typ : Typ) (x : ℕ) (typs : Typ → Typ) → IsSortFault A declared typ x → IsMatch typs declared typ → ¬ IsSortRespecting A typs
sort_fault-no_instance A declared typ x typs h m r =
    let same = agree-typ h.typs typs declared (h.matches.is ∙ sym m.is) in
    let fault = failing_along A h.typs typs (schematics declared) x same h.first in
    fault.fails (r.schematic x fault.index fault.sort)

-- A map of entries gives them.
pub gives-itself : (binds : List TypBind) → IsTypMap binds → Gives (typ_image binds) binds
gives-itself binds h = each_of (λ b. typ_image binds (typ_variable b) ≡ b.image) binds (λ b m. typ_image-entry binds b h m)

-- Entries grow by one property after the other, and by the same property in other words.
pub grown-more : (P Q : (Typ → Typ) → Type 0) (us vs : List Typ) (old middle new : List TypBind) → IsGrown P us old middle → IsGrown Q vs middle new → IsGrown (λ f. P f × Q f) (us ++ vs) old new
grown-more P Q us vs old middle new h k = record {
  exactly = λ f keeps. (
    λ g. (let gone = (k.exactly f keeps).0 g in let first = (h.exactly f keeps).0 gone.0 in (first.0, (first.1, gone.1))),
    λ g. (k.exactly f keeps).1 ((h.exactly f keeps).1 (g.0, g.1.0), g.1.1),
  );
  in_order = λ earlier o. subst (AreInOrder new) (append_assoc earlier us vs) (k.in_order (earlier ++ us) (h.in_order earlier o));
}

pub grown-as : (P Q : (Typ → Typ) → Type 0) (vs : List Typ) (old new : List TypBind) → ((f : Typ → Typ) → KeepsFixedTyps f → P f ↔ Q f) → IsGrown P vs old new → IsGrown Q vs old new
grown-as P Q vs old new same h = record {
  exactly = λ f keeps. (
    λ g. (let first = (h.exactly f keeps).0 g in (first.0, (same f keeps).0 first.1)),
    λ g. (h.exactly f keeps).1 (g.0, (same f keeps).1 g.1),
  );
  in_order = h.in_order;
}

-- What holds anyway leaves the entries as they are.
pub grown-by_nothing : (P : (Typ → Typ) → Type 0) (binds : List TypBind) → ((f : Typ → Typ) → KeepsFixedTyps f → P f) → IsGrown P [] binds binds
grown-by_nothing P binds h = record {
  exactly = λ f keeps. (λ g. (g, h f keeps), λ g. g.0);
  in_order = λ earlier o. rw append-nil o;
}

-- A variable that an entry replaces already.
pub grown-at_bound : (binds : List TypBind) (b : TypBind) (v T : Typ) → IsIn b binds → typ_variable b ≡ v → b.image ≡ T → IsGrown (λ f. f v ≡ T) (v ∷ []) binds binds
grown-at_bound binds b v T m e i = record {
  exactly = λ f keeps. (
    λ g. (g, let given = each_at (λ b. f (typ_variable b) ≡ b.image) binds g b m in ap f (sym e) ∙ given ∙ i),
    λ g. g.0,
  );
  in_order = λ earlier o. record {
    all = each-append (λ v. IsIn v (map typ_variable binds)) earlier (v ∷ []) o.all (subst (λ u. IsIn u (map typ_variable binds)) e (in-map typ_variable b binds m), tt);
    first = λ front rest c cut. let old = o.first front rest c cut in
        (old.0, old.1 ++ v ∷ [], ap (λ l. l ++ v ∷ []) old.2 ∙ append_assoc old.0 (typ_variable c ∷ old.1) (v ∷ []), old.3);
  };
}

pub excluded-at_bound : (binds : List TypBind) (b : TypBind) (v T : Typ) → IsIn b binds → typ_variable b ≡ v → b.image ≢ T → IsExcluded (λ f. f v ≡ T) binds
excluded-at_bound binds b v T m e other f keeps g k =
    let given = each_at (λ b. f (typ_variable b) ≡ b.image) binds g b m in
    other (sym given ∙ ap f e ∙ k)

-- A cut of a list with one element more behind it: behind the whole list, or in it.
cut-more : {A : Type 0} (xs front rest : List A) (b c : A) → xs ++ b ∷ [] ≡ front ++ c ∷ rest → ((front ≡ xs) × (c ≡ b)) ⊎ ((behind : List A) × (xs ≡ front ++ c ∷ behind))
cut-more [] [] rest b c e = inl (refl, cc)
cut-more [] (z ∷ []) rest b c e = let no : ⊥ = cc in absurd no
cut-more [] (z ∷ w ∷ zs) rest b c e = let no : ⊥ = cc in absurd no
cut-more (x ∷ xs) [] rest b c e = let same : x ≡ c = cc in inr (xs, ap (λ y. y ∷ xs) same)
cut-more (x ∷ xs) (z ∷ zs) rest b c e =
    let same : x ≡ z = cc in
    let inside : xs ++ b ∷ [] ≡ zs ++ c ∷ rest = cc in
    elim (cut-more xs zs rest b c inside) [
      | inl k ↦ inl (let fronts : zs ≡ xs = k.0 in cc, k.1)
      | inr k ↦ inr (k.0, let rests : xs ≡ zs ++ c ∷ k.0 = k.1 in cc)
    ]

no-cut : {A : Type 0} (front rest : List A) (c : A) → [] ≡ front ++ c ∷ rest → ⊥
no-cut [] rest c e = cc
no-cut (x ∷ xs) rest c e = cc

-- A variable that no entry replaces yet gets one.
grown-in_order : (binds : List TypBind) (b : TypBind) (earlier : List Typ) → AreInOrder binds earlier → AreInOrder (binds ++ b ∷ []) (earlier ++ typ_variable b ∷ [])
grown-in_order binds b earlier o = record {
  all = let now = map typ_variable (binds ++ b ∷ []) in
      let are : now ≡ map typ_variable binds ++ typ_variable b ∷ [] = map-append typ_variable binds (b ∷ []) in
      each-append (λ v. IsIn v now) earlier (typ_variable b ∷ [])
      (each_imply (λ v. IsIn v (map typ_variable binds)) (λ v. IsIn v now) earlier (λ v m. subst (IsIn v) (sym are) (in-append_left v (map typ_variable binds) (typ_variable b ∷ []) m)) o.all)
      (subst (IsIn (typ_variable b)) (sym are) (in-append_right (typ_variable b) (map typ_variable binds) (typ_variable b ∷ []) (inl refl)), tt);
  first = λ front rest c cut. elim (cut-more binds front rest b c cut) [
    | inl k ↦ (earlier, [], ap (λ e. earlier ++ typ_variable e ∷ []) (sym k.1), subst (λ fs. Each (λ v. IsIn v (map typ_variable fs)) earlier) (sym k.0) o.all)
    | inr k ↦ let old = o.first front k.0 c k.1 in
        (old.0, old.1 ++ typ_variable b ∷ [], ap (λ l. l ++ typ_variable b ∷ []) old.2 ∙ append_assoc old.0 (typ_variable c ∷ old.1) (typ_variable b ∷ []), old.3)
  ];
}

pub grown-by_entry : (binds : List TypBind) (b : TypBind) → IsGrown (λ f. f (typ_variable b) ≡ b.image) (typ_variable b ∷ []) binds (binds ++ b ∷ [])
grown-by_entry binds b = record {
  exactly = λ f keeps. (
    λ g. (each-left (λ b. f (typ_variable b) ≡ b.image) binds (b ∷ []) g, (each-right (λ b. f (typ_variable b) ≡ b.image) binds (b ∷ []) g).0),
    λ g. each-append (λ b. f (typ_variable b) ≡ b.image) binds (b ∷ []) g.0 (g.1, tt),
  );
  in_order = λ earlier o. grown-in_order binds b earlier o;
}

-- Of entries in the order of the declared type's variables the first that isn't of its sort is for the first variable that fails.
image-of_sort : (A : Algebra) (binds front : List TypBind) (v : Typ) → IsTypMap binds → ((b : TypBind) → IsIn b front → IsIn b binds) → AreSortRespecting A front → IsIn v (map typ_variable front) → HasImageOfSort A (typ_image binds) v
image-of_sort A binds [] v h inside r m = absurd m
image-of_sort A binds (b ∷ bs) v h inside r m = elim m [
  | inl e ↦ subst (HasImageOfSort A (typ_image binds)) (sym e) (subst (λ T. IsOfSort A T b.sort) (sym (typ_image-entry binds b h (inside b (inl refl)))) r.0)
  | inr k ↦ image-of_sort A binds bs v h (λ c n. inside c (inr n)) r.1 k
]

pub unsorted-failing : (A : Algebra) (binds : List TypBind) (vs : List Typ) (x : ℕ) → IsTypMap binds → AreInOrder binds vs → IsFirstUnsorted A binds x → IsFirstFailing A (typ_image binds) vs x
unsorted-failing A binds vs x h o u =
    let c = o.first u.front u.rest u.entry u.is in
    let inside : (b : TypBind) → IsIn b (u.front ++ u.entry ∷ u.rest) → IsIn b binds = λ b m. subst (IsIn b) (sym u.is) m in
    subst (IsFirstFailing A (typ_image binds) vs) u.named (record {
      front = c.0;
      index = u.entry.index;
      sort = u.entry.sort;
      rest = c.1;
      is = c.2;
      before = each_imply (λ v. IsIn v (map typ_variable u.front)) (HasImageOfSort A (typ_image binds)) c.0
          (λ v m. image-of_sort A binds u.front v h (λ b n. inside b (in-append_left b u.front (u.entry ∷ u.rest) n)) u.before m) c.3;
      fails = λ k. u.fails (subst (λ T. IsOfSort A T u.entry.sort) (typ_image-entry binds u.entry h (inside u.entry (in-append_right u.entry u.front (u.entry ∷ u.rest) (inl refl)))) k);
    })

-- Two lists of types, one type after another.
pub instances-are : (f : Typ → Typ) (ds ts : List Typ) → typs_instance f (typs_of ds) ≡ typs_of ts → EachTwo (λ d t. typ_instance f d ≡ t) ds ts
instances-are f [] [] e = tt
instances-are f [] (t ∷ ts) e = let no : ⊥ = cc in absurd no
instances-are f (d ∷ ds) [] e = let no : ⊥ = cc in absurd no
instances-are f (d ∷ ds) (t ∷ ts) e =
    let first : typ_instance f d ≡ t = cc in
    let rest : typs_instance f (typs_of ds) ≡ typs_of ts = cc in
    (first, instances-are f ds ts rest)

pub are-instances : (f : Typ → Typ) (ds ts : List Typ) → EachTwo (λ d t. typ_instance f d ≡ t) ds ts → typs_instance f (typs_of ds) ≡ typs_of ts
are-instances f [] [] h = refl
are-instances f [] (t ∷ ts) h = absurd h
are-instances f (d ∷ ds) [] h = absurd h
are-instances f (d ∷ ds) (t ∷ ts) h = let rest = are-instances f ds ts h.1 in let first = h.0 in cc

two-take : {A B : Type 0} (R : A → B → Type 0) (xs : List A) (ys : List B) (i : ℕ) → EachTwo R xs ys → EachTwo R (take i xs) (take i ys)
two-take R [] [] zero h = tt
two-take R [] [] (suc i) h = tt
two-take R [] (y ∷ ys) i h = absurd h
two-take R (x ∷ xs) [] i h = absurd h
two-take R (x ∷ xs) (y ∷ ys) zero h = tt
two-take R (x ∷ xs) (y ∷ ys) (suc i) h = (h.0, two-take R xs ys i h.1)

two-next : {A B : Type 0} (R : A → B → Type 0) (xs : List A) (ys : List B) (i : ℕ) (a : A) (b : B) → i < length xs → i < length ys → a ≡ get_or xs i a → b ≡ get_or ys i b
    → (EachTwo R (take i xs) (take i ys) × R a b) ↔ EachTwo R (take (i + 1) xs) (take (i + 1) ys)
two-next R [] ys i a b h k e f = absurd (omega arith)
two-next R (x ∷ xs) [] i a b h k e f = absurd (omega arith)
two-next R (x ∷ xs) (y ∷ ys) zero a b h k e f = (λ t. (rw (← e, ← f) t.1, tt), λ t. (tt, rw (e, f) t.0))
two-next R (x ∷ xs) (y ∷ ys) (suc i) a b h k e f =
    let next : suc i + 1 ≡ suc (i + 1) = omega arith in
    let rest = two-next R xs ys i a b (omega arith) (omega arith) e f in
    rw next (λ t. (t.0.0, rest.0 (t.0.1, t.1)), λ t. (let inside = rest.1 t.1 in ((t.0, inside.0), inside.1)))

schematics-next : (ds : List Typ) (i : ℕ) (d : Typ) → i < length ds → d ≡ get_or ds i d → all_schematics (typs_of (take (i + 1) ds)) ≡ all_schematics (typs_of (take i ds)) ++ schematics d
schematics-next [] i d h e = absurd (omega arith)
schematics-next (c ∷ cs) zero d h e = rw (append-nil, e) refl
schematics-next (c ∷ cs) (suc i) d h e =
    let next : suc i + 1 ≡ suc (i + 1) = omega arith in
    let rest = schematics-next cs i d (omega arith) e in
    rw (next, rest) (sym (append_assoc (schematics c) (all_schematics (typs_of (take i cs))) (schematics d)))

-- The entries have grown by the first types of two lists.
pub record AreMatchedTo (ds ts : List Typ) (i : ℕ) (old new : List TypBind) : Type 0 where
  pub grown : IsGrown (λ f. EachTwo (λ d t. typ_instance f d ≡ t) (take i ds) (take i ts)) (all_schematics (typs_of (take i ds))) old new

pub matched-none : (ds ts : List Typ) (old : List TypBind) → AreMatchedTo ds ts 0 old old
matched-none ds ts old = record { grown = grown-by_nothing _ old (λ f keeps. tt) }

pub matched-next : (ds ts : List Typ) (i : ℕ) (d t : Typ) (old middle new : List TypBind) → i < length ds → i < length ts → d ≡ get_or ds i d → t ≡ get_or ts i t
    → AreMatchedTo ds ts i old middle → IsGrown (λ f. typ_instance f d ≡ t) (schematics d) middle new → AreMatchedTo ds ts (i + 1) old new
matched-next ds ts i d t old middle new h k e f before here =
    let R : (Typ → Typ) → Typ → Typ → Type 0 = λ f d t. typ_instance f d ≡ t in
    let P : (Typ → Typ) → Type 0 = λ f. EachTwo (R f) (take i ds) (take i ts) in
    let Q : (Typ → Typ) → Type 0 = λ f. typ_instance f d ≡ t in
    let both = grown-more P Q (all_schematics (typs_of (take i ds))) (schematics d) old middle new before.grown here in
    let N : (Typ → Typ) → Type 0 = λ f. EachTwo (R f) (take (i + 1) ds) (take (i + 1) ts) in
    let same : (g : Typ → Typ) → KeepsFixedTyps g → (P g × Q g) ↔ N g = λ g keeps. two-next (R g) ds ts i d t h k e f in
    record { grown = subst (λ vs. IsGrown N vs old new) (sym (schematics-next ds i d h e)) (grown-as (λ f. P f × Q f) N (all_schematics (typs_of (take i ds)) ++ schematics d) old new same both) }

pub matched-all : (ds ts : List Typ) (i : ℕ) (old new : List TypBind) → length ds ≡ length ts → length ds ≤ i → AreMatchedTo ds ts i old new
    → IsGrown (λ f. typs_instance f (typs_of ds) ≡ typs_of ts) (all_schematics (typs_of ds)) old new
matched-all ds ts i old new long h before =
    let P : (Typ → Typ) → Type 0 = λ f. EachTwo (λ d t. typ_instance f d ≡ t) ds ts in
    let whole : take i ds ≡ ds = take_all i ds h in
    let other : take i ts ≡ ts = take_all i ts (omega arith) in
    let all : IsGrown P (all_schematics (typs_of ds)) old new = rw (whole, other) at before.grown in
    grown-as P (λ f. typs_instance f (typs_of ds) ≡ typs_of ts) (all_schematics (typs_of ds)) old new (λ f keeps. (are-instances f ds ts, instances-are f ds ts)) all

pub excluded-next : (ds ts : List Typ) (i : ℕ) (d t : Typ) (old middle : List TypBind) → i < length ds → d ≡ get_or ds i d → t ≡ get_or ts i t
    → AreMatchedTo ds ts i old middle → IsExcluded (λ f. typ_instance f d ≡ t) middle → IsExcluded (λ f. typs_instance f (typs_of ds) ≡ typs_of ts) old
excluded-next ds ts i d t old middle h e k before here f keeps g whole =
    let R : Typ → Typ → Type 0 = λ d t. typ_instance f d ≡ t in
    let each = instances-are f ds ts whole in
    here f keeps ((before.grown.exactly f keeps).1 (g, two-take R ds ts i each)) (two_read R ds ts i d t h e k each)

-- whether a walk has grown the entries by a property, or excludes it
abbrev pub IsWalked : ((Typ → Typ) → Type 0) → List Typ → (old new : List TypBind) → Bool → Type 0
IsWalked property variables old new walked = MatchBool walked (IsGrown property variables old new) (IsExcluded property old)

pub when_true : (P Q : Type 0) (b : Bool) → MatchBool b P Q → b ≡ true → P
when_true P Q b h e = rw e at h

pub when_false : (P Q : Type 0) (b : Bool) → MatchBool b P Q → b ≡ false → Q
when_false P Q b h e = rw e at h

-- an entry of a map
abbrev pub entry_of : (name index : ℕ) → (sort : List ℕ) → (image : Typ) → TypBind
entry_of name index sort image = record { name = name; index = index; sort = sort; image = image }

-- A walk at a variable that has an entry, by the test whether that is of the type; and at one that gets an entry.
pub walked-at_bound : (binds : List TypBind) (v image T : Typ) (same : Bool) → IsTypBound binds v image → same ≡ typ_eq image T → IsWalked (λ f. f v ≡ T) (v ∷ []) binds binds same
walked-at_bound binds v image T true h e = grown-at_bound binds h.0 v T h.1 h.2 (h.3 ∙ typ_eq-same image T (sym e))
walked-at_bound binds v image T false h e = excluded-at_bound binds h.0 v T h.1 h.2 (λ k. true≢false (sym ((typ_eq-is_equality image T).1 (sym h.3 ∙ k)) ∙ sym e))

pub grown-by_pushed : (old new : List TypBind) (x i : ℕ) (s made : List ℕ) (T copy : Typ) → made ≡ s → copy ≡ T → new ≡ old ++ entry_of x i made copy ∷ []
    → IsGrown (λ f. f (TVar x i s) ≡ T) (TVar x i s ∷ []) old new
grown-by_pushed old new x i s made T copy d e grown =
    let b : TypBind = entry_of x i made copy in
    let here : IsGrown (λ f. f (TVar x i made) ≡ copy) (TVar x i made ∷ []) old new = subst (IsGrown (λ f. f (TVar x i made) ≡ copy) (TVar x i made ∷ []) old) (sym grown) (grown-by_entry old b) in
    let typed : IsGrown (λ f. f (TVar x i made) ≡ T) (TVar x i made ∷ []) old new = subst (λ U. IsGrown (λ f. f (TVar x i made) ≡ U) (TVar x i made ∷ []) old new) e here in
    subst (λ r. IsGrown (λ f. f (TVar x i r) ≡ T) (TVar x i r ∷ []) old new) d typed

-- A walk at a fixed variable, at a schematic one, and at a constructor.
fixed-walked : (T : Typ) (x : ℕ) (s : List ℕ) (binds : List TypBind) (same : Bool) → same ≡ typ_eq (TFree x s) T → IsWalked (λ f. f (TFree x s) ≡ T) [] binds binds same
fixed-walked T x s binds true e = grown-by_nothing (λ f. f (TFree x s) ≡ T) binds (λ f keeps. keeps x s ∙ typ_eq-same (TFree x s) T (sym e))
fixed-walked T x s binds false e = λ f keeps g k. true≢false (sym ((typ_eq-is_equality (TFree x s) T).1 (sym (keeps x s) ∙ k)) ∙ sym e)

pub walked-at_fixed : (D T : Typ) (x : ℕ) (s : List ℕ) (binds : List TypBind) (same : Bool) → D ≡ TFree x s → same ≡ typ_eq D T → IsWalked (λ f. typ_instance f D ≡ T) (schematics D) binds binds same
walked-at_fixed D T x s binds same d e =
    subst (λ U. IsWalked (λ f. typ_instance f U ≡ T) (schematics U) binds binds same) (sym d) (fixed-walked T x s binds same (e ∙ ap (λ U. typ_eq U T) d))

pub walked-at_schematic : (D T : Typ) (x i : ℕ) (s : List ℕ) (old new : List TypBind) (walked : Bool) → D ≡ TVar x i s → IsWalked (λ f. f (TVar x i s) ≡ T) (TVar x i s ∷ []) old new walked
    → IsWalked (λ f. typ_instance f D ≡ T) (schematics D) old new walked
walked-at_schematic D T x i s old new walked d h = subst (λ U. IsWalked (λ f. typ_instance f U ≡ T) (schematics U) old new walked) (sym d) h

same-args : (k l : ℕ) (ts us : Typs) → Con k ts ≡ Con l us → ts ≡ us
same-args k l ts us e = cc

con-walked : (k : ℕ) (ds ts : Typs) (old new : List TypBind) (walked : Bool) → IsWalked (λ f. typs_instance f ds ≡ ts) (all_schematics ds) old new walked
    → IsWalked (λ f. Con k (typs_instance f ds) ≡ Con k ts) (all_schematics ds) old new walked
con-walked k ds ts old new true h =
    grown-as (λ f. typs_instance f ds ≡ ts) (λ f. Con k (typs_instance f ds) ≡ Con k ts) (all_schematics ds) old new (λ f keeps. (λ e. ap (Con k) e, λ e. same-args k k (typs_instance f ds) ts e)) h
con-walked k ds ts old new false h = λ f keeps g e. h f keeps g (same-args k k (typs_instance f ds) ts e)

pub walked-at_con : (D T : Typ) (k : ℕ) (ds ts : Typs) (old new : List TypBind) (walked : Bool) → D ≡ Con k ds → T ≡ Con k ts → IsWalked (λ f. typs_instance f ds ≡ ts) (all_schematics ds) old new walked
    → IsWalked (λ f. typ_instance f D ≡ T) (schematics D) old new walked
walked-at_con D T k ds ts old new walked d c h =
    subst (λ U. IsWalked (λ f. typ_instance f U ≡ T) (schematics U) old new walked) (sym d)
    (subst (λ U. IsWalked (λ f. Con k (typs_instance f ds) ≡ U) (all_schematics ds) old new walked) (sym c) (con-walked k ds ts old new walked h))

-- A type that isn't made by the constructor, and lists of different lengths.
pub excluded-by_constructor : (D T : Typ) (k : ℕ) (ds : Typs) (old : List TypBind) → D ≡ Con k ds → ((ts : Typs) → T ≢ Con k ts) → IsExcluded (λ f. typ_instance f D ≡ T) old
excluded-by_constructor D T k ds old d other f keeps g k' = other (typs_instance f ds) (sym k' ∙ ap (typ_instance f) d)

pub excluded-by_length : (ds ts : List Typ) (old : List TypBind) → length ds ≢ length ts → IsExcluded (λ f. typs_instance f (typs_of ds) ≡ typs_of ts) old
excluded-by_length ds ts old other f keeps g whole = other (two_long (λ d t. typ_instance f d ≡ t) ds ts (instances-are f ds ts whole))

-- The first entry that isn't of its sort.
pub unsorted-at : (A : Algebra) (binds : List TypBind) (i : ℕ) (b : TypBind) (x j : ℕ) (s : List ℕ) (T : Typ) → entry_of x j s T ≡ b → i < length binds → b ≡ get_or binds i b
    → AreSortRespecting A (take i binds) → (¬ IsOfSort A T s) → IsFirstUnsorted A binds x
unsorted-at A binds i b x j s T seen h e before fails = record {
  front = take i binds;
  entry = b;
  rest = drop (i + 1) binds;
  is = split_at binds i b h e;
  before = before;
  fails = λ k. fails (subst (λ (c : TypBind). IsOfSort A c.image c.sort) (sym seen) k);
  named = ap (λ (c : TypBind). c.name) (sym seen);
}

pub sorted-next : (A : Algebra) (binds : List TypBind) (i : ℕ) (b : TypBind) (x j : ℕ) (s : List ℕ) (T : Typ) → entry_of x j s T ≡ b → i < length binds → b ≡ get_or binds i b
    → AreSortRespecting A (take i binds) → IsOfSort A T s → AreSortRespecting A (take (i + 1) binds)
sorted-next A binds i b x j s T seen h e before here = each_turn (λ b. IsOfSort A b.image b.sort) binds i b h e before (subst (λ (c : TypBind). IsOfSort A c.image c.sort) seen here)

-- A walk that began without entries says what a match is.
pub no_match-of : (D T : Typ) (old new : List TypBind) (walked : Bool) → old ≡ [] → walked ≡ false → IsWalked (λ f. typ_instance f D ≡ T) (schematics D) old new walked → HasNoMatch D T
no_match-of D T old new walked empty e h typs m =
    let excluded = when_false (IsGrown (λ f. typ_instance f D ≡ T) (schematics D) old new) (IsExcluded (λ f. typ_instance f D ≡ T) old) walked h e in
    excluded typs m.fixed (subst (Gives typs) (sym empty) tt) m.is

pub match-of : (D T : Typ) (old new : List TypBind) (walked : Bool) → old ≡ [] → walked ≡ true → IsTypMap new → IsWalked (λ f. typ_instance f D ≡ T) (schematics D) old new walked
    → IsMatch (typ_image new) D T × AreInOrder new (schematics D)
match-of D T old new walked empty e distinct h =
    let grown = when_true (IsGrown (λ f. typ_instance f D ≡ T) (schematics D) old new) (IsExcluded (λ f. typ_instance f D ≡ T) old) walked h e in
    let keeps = entries-keep_fixed_typs new in
    let start : AreInOrder old [] = subst (λ bs. AreInOrder bs []) (sym empty) (record { all = tt; first = λ front rest b cut. absurd (no-cut front rest b cut) }) in
    (record { fixed = keeps; is = ((grown.exactly (typ_image new) keeps).0 (gives-itself new distinct)).1 }, grown.in_order [] start)
