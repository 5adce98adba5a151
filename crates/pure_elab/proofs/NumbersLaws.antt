-- Tables of numbered variables: what they have of a variable, and that its image stays.
use Rattle.std.proofs.Common.{◌≡◌, ℕ, suc, ◌+◌, ◌<◌, ◌≤◌, Bool, true, false, ◌||◌, List, [], ◌∷◌, ◌++◌, length, drop, get_or, if◌then◌else◌, Some, None, refl, ap, sym, subst, ◌∙◌, append_assoc, append-nil, length-append, arith}
use Rattle.std.proofs.lemmas.List.Folds.{list_any-append}
use Rattle.pure_definitions.specs.Types.Typ.{Typ, TFree, TVar, Con, typ_eq}
use Rattle.pure_definitions.specs.Models.Equality.{typ_eq-same, typ_eq-itself}
use Rattle.pure_definitions.specs.Terms.Subst.{TypBind, typ_variable, typ_image}
use Rattle.pure_tunify.specs.Settings.{bind}
use Rattle.pure_elab.specs.declared.numbers.Variable.{Variable}
use Rattle.pure_elab.specs.Numbered.{has_entry, with_entry, numbered}
use Rattle.pure_elab.specs.Numbers.{entries_from, IsPlaceAmong, IsImageIn}
use Rattle.pure_elab.proofs.SortLaws.{drop_here, drop_none}
use Rattle.pure_elab.proofs.NumberedLaws.{with_entry-kept, has-appended}

-- Entries behind others.
image_kept : (binds more : List TypBind) (v : Typ) → has_entry binds v ≡ true → typ_image (binds ++ more) v ≡ typ_image binds v
image_kept [] more v h = absurd (cc)
image_kept (b ∷ bs) more v h = by_test (typ_eq (typ_variable b) v) (image_kept bs more v) h
  where
    by_test : (q : Bool) → (has_entry bs v ≡ true → typ_image (bs ++ more) v ≡ typ_image bs v) → (q || has_entry bs v) ≡ true → (if q then b.image else typ_image (bs ++ more) v) ≡ (if q then b.image else typ_image bs v)
    by_test true f t = refl
    by_test false f t = f t

image_behind : (binds more : List TypBind) (v : Typ) → has_entry binds v ≡ false → typ_image (binds ++ more) v ≡ typ_image more v
image_behind [] more v h = refl
image_behind (b ∷ bs) more v h = by_test (typ_eq (typ_variable b) v) (image_behind bs more v) h
  where
    by_test : (q : Bool) → (has_entry bs v ≡ false → typ_image (bs ++ more) v ≡ typ_image more v) → (q || has_entry bs v) ≡ false → (if q then b.image else typ_image (bs ++ more) v) ≡ typ_image more v
    by_test true f t = absurd (cc)
    by_test false f t = f t

has_before : (binds more : List TypBind) (v : Typ) → has_entry binds v ≡ true → has_entry (binds ++ more) v ≡ true
has_before binds more v h = list_any-append (λ c. typ_eq (typ_variable c) v) binds more ∙ (rw h refl)

has_behind : (binds more : List TypBind) (v : Typ) → has_entry binds v ≡ false → has_entry (binds ++ more) v ≡ has_entry more v
has_behind binds more v h = list_any-append (λ c. typ_eq (typ_variable c) v) binds more ∙ (rw h refl)

-- The image of a variable with an entry stays, whichever further ones are numbered.
chosen_stays : (q : Bool) (binds : List TypBind) (b : TypBind) (v : Typ) → has_entry binds v ≡ true → typ_image (if q then binds else binds ++ b ∷ []) v ≡ typ_image binds v
chosen_stays true binds b v h = refl
chosen_stays false binds b v h = image_kept binds (b ∷ []) v h

with_entry-stays : (image : ℕ → List ℕ → Typ) (first : ℕ) (binds : List TypBind) (w v : Typ) → has_entry binds v ≡ true → typ_image (with_entry image first binds w) v ≡ typ_image binds v
with_entry-stays image first binds (TFree x s) v h = refl
with_entry-stays image first binds (TVar x i s) v h = chosen_stays (has_entry binds (TVar x i s)) binds (bind x i s (image (first + length binds) s)) v h
with_entry-stays image first binds (Con k ts) v h = refl

pub numbered-stays : (image : ℕ → List ℕ → Typ) (first : ℕ) (binds : List TypBind) (vs : List Typ) (v : Typ) → has_entry binds v ≡ true → typ_image (numbered image first binds vs) v ≡ typ_image binds v
numbered-stays image first binds [] v h = refl
numbered-stays image first binds (w ∷ vs) v h = numbered-stays image first (with_entry image first binds w) vs v (with_entry-kept image first binds w v h) ∙ with_entry-stays image first binds w v h

-- Where a variable stands among others.
or_here : (q r : Bool) → q ≡ true → (q || r) ≡ true
or_here q r h = rw h refl

or_later : (q r : Bool) → q ≡ false → (q || r) ≡ r
or_later q r h = rw h refl

if_here : (q : Bool) (t u : Typ) → q ≡ true → (if q then t else u) ≡ t
if_here q t u h = rw h refl

if_later : (q : Bool) (t u : Typ) → q ≡ false → (if q then t else u) ≡ u
if_later q t u h = rw h refl

-- What those from the place on have of a variable is what all have.
abbrev pub IsInRest : (image : ℕ → List ℕ → Typ) → (first : ℕ) → List Variable → Typ → ℕ → Type 0
IsInRest image first vs v i = (has_entry (entries_from image (first + i) (drop i vs)) v ≡ has_entry (entries_from image first vs) v) × (typ_image (entries_from image (first + i) (drop i vs)) v ≡ typ_image (entries_from image first vs) v)

pub rest_first : (image : ℕ → List ℕ → Typ) (first : ℕ) (vs : List Variable) (v : Typ) → IsInRest image first vs v 0
rest_first image first vs v =
    let start : first + 0 ≡ first = omega arith in
    (ap (λ n. has_entry (entries_from image n vs) v) start, ap (λ n. typ_image (entries_from image n vs) v) start)

pub rest_next : (image : ℕ → List ℕ → Typ) (first : ℕ) (vs : List Variable) (v : Typ) (i : ℕ) (x : Variable) → i < length vs → x ≡ get_or vs i x → typ_eq (TVar x.name x.index x.sort) v ≡ false
    → IsInRest image first vs v i → IsInRest image first vs v (i + 1)
rest_next image first vs v i x within is other rest =
    let here = drop_here vs i x within is in
    let number : first + i + 1 ≡ first + (i + 1) = omega arith in
    let behind = entries_from image (first + i + 1) (drop (i + 1) vs) in (
      sym (ap (λ l. has_entry (entries_from image (first + i) l) v) here ∙ or_later (typ_eq (TVar x.name x.index x.sort) v) (has_entry behind v) other ∙ ap (λ n. has_entry (entries_from image n (drop (i + 1) vs)) v) number) ∙ rest.0,
      sym (ap (λ l. typ_image (entries_from image (first + i) l) v) here ∙ if_later (typ_eq (TVar x.name x.index x.sort) v) (image (first + i) x.sort) (typ_image behind v) other ∙ ap (λ n. typ_image (entries_from image n (drop (i + 1) vs)) v) number) ∙ rest.1,
    )

same_sort : (x i y j : ℕ) (s r : List ℕ) → TVar x i s ≡ TVar y j r → s ≡ r
same_sort x i y j s r e = cc

pub rest_here : (image : ℕ → List ℕ → Typ) (first : ℕ) (vs : List Variable) (name index : ℕ) (sort : List ℕ) (i : ℕ) (x : Variable) → i < length vs → x ≡ get_or vs i x
    → typ_eq (TVar x.name x.index x.sort) (TVar name index sort) ≡ true → IsInRest image first vs (TVar name index sort) i → IsPlaceAmong image first vs name index sort (Some i)
rest_here image first vs name index sort i x within is same rest =
    let v = TVar name index sort in
    let here = drop_here vs i x within is in
    let behind = entries_from image (first + i + 1) (drop (i + 1) vs) in
    let sorts : x.sort ≡ sort = same_sort x.name x.index name index x.sort sort (typ_eq-same (TVar x.name x.index x.sort) v same) in (
      sym rest.0 ∙ ap (λ l. has_entry (entries_from image (first + i) l) v) here ∙ or_here (typ_eq (TVar x.name x.index x.sort) v) (has_entry behind v) same,
      sym rest.1 ∙ ap (λ l. typ_image (entries_from image (first + i) l) v) here ∙ if_here (typ_eq (TVar x.name x.index x.sort) v) (image (first + i) x.sort) (typ_image behind v) same ∙ ap (image (first + i)) sorts,
    )

pub rest_none : (image : ℕ → List ℕ → Typ) (first : ℕ) (vs : List Variable) (name index : ℕ) (sort : List ℕ) (i : ℕ) → length vs ≤ i → IsInRest image first vs (TVar name index sort) i → IsPlaceAmong image first vs name index sort None
rest_none image first vs name index sort i full rest = sym rest.0 ∙ ap (λ l. has_entry (entries_from image (first + i) l) (TVar name index sort)) (drop_none vs i full)

-- The entries of a table.
pub entries-length : (image : ℕ → List ℕ → Typ) (n : ℕ) (vs : List Variable) → length (entries_from image n vs) ≡ length vs
entries-length image n [] = refl
entries-length image n (v ∷ vs) = ap suc (entries-length image (n + 1) vs)

entries-snoc : (image : ℕ → List ℕ → Typ) (n : ℕ) (vs : List Variable) (x : Variable) → entries_from image n (vs ++ x ∷ []) ≡ entries_from image n vs ++ bind x.name x.index x.sort (image (n + length vs) x.sort) ∷ []
entries-snoc image n [] x = let start : n ≡ n + 0 = omega arith in ap (λ k. bind x.name x.index x.sort (image k x.sort) ∷ []) start
entries-snoc image n (v ∷ vs) x =
    let number : n + 1 + length vs ≡ n + suc (length vs) = omega arith in
    ap (λ l. bind v.name v.index v.sort (image n v.sort) ∷ l) (entries-snoc image (n + 1) vs x ∙ ap (λ k. entries_from image (n + 1) vs ++ bind x.name x.index x.sort (image k x.sort) ∷ []) number)

entry_kept : (image : ℕ → List ℕ → Typ) (first : ℕ) (binds : List TypBind) (x i : ℕ) (s : List ℕ) → has_entry binds (TVar x i s) ≡ true → with_entry image first binds (TVar x i s) ≡ binds
entry_kept image first binds x i s h = rw h refl

entry_new : (image : ℕ → List ℕ → Typ) (first : ℕ) (binds : List TypBind) (x i : ℕ) (s : List ℕ) → has_entry binds (TVar x i s) ≡ false → with_entry image first binds (TVar x i s) ≡ binds ++ bind x i s (image (first + length binds) s) ∷ []
entry_new image first binds x i s h = rw h refl

-- The image of a variable by where it stands.
pub image_here : (image : ℕ → List ℕ → Typ) (first : ℕ) (vs : List Variable) (many : List TypBind) (x i : ℕ) (s : List ℕ) (k : ℕ) (t : Typ) → IsPlaceAmong image first vs x i s (Some k) → t ≡ image (first + k) s
    → IsImageIn image first (entries_from image first vs ++ many) (entries_from image first vs ++ many) (TVar x i s) t
image_here image first vs many x i s k t at is =
    let has = has_before (entries_from image first vs) many (TVar x i s) at.0 in
    record {
      added = sym (entry_kept image first (entries_from image first vs ++ many) x i s has);
      image_is = is ∙ sym at.1 ∙ sym (image_kept (entries_from image first vs) many (TVar x i s) at.0);
      has = has;
    }

pub image_next : (image : ℕ → List ℕ → Typ) (first : ℕ) (vs ws : List Variable) (many : List TypBind) (x i : ℕ) (s : List ℕ) (t : Typ) → IsPlaceAmong image first vs x i s None → many ≡ []
    → ws ≡ vs ++ record { name = x; index = i; sort = s } ∷ [] → t ≡ image (first + length vs) s
    → IsImageIn image first (entries_from image first vs ++ many) (entries_from image first ws ++ many) (TVar x i s) t
image_next image first vs ws many x i s t absent none more is =
    let v = TVar x i s in
    let old = entries_from image first vs in
    let b = bind x i s (image (first + length vs) s) in
    let now : entries_from image first ws ≡ old ++ b ∷ [] = ap (entries_from image first) more ∙ entries-snoc image first vs (record { name = x; index = i; sort = s }) in
    let here : has_entry (old ++ b ∷ []) v ≡ true = has-appended old b v refl in
    let count = entries-length image first vs in
    subst (λ (l : List TypBind). IsImageIn image first (old ++ l) (entries_from image first ws ++ l) v t) (sym none)
    (subst (λ (l : List TypBind). IsImageIn image first l (entries_from image first ws ++ []) v t) (sym (append-nil old))
    (subst (λ (l : List TypBind). IsImageIn image first old l v t) (sym (append-nil (entries_from image first ws) ∙ now))
    (record {
      added = sym (entry_new image first old x i s absent ∙ ap (λ n. old ++ bind x i s (image (first + n) s) ∷ []) count);
      image_is = is ∙ sym (image_behind old (b ∷ []) v absent ∙ if_here (typ_eq v v) b.image v (typ_eq-itself v));
      has = here;
    })))

pub image_further : (image : ℕ → List ℕ → Typ) (first : ℕ) (vs : List Variable) (many new : List TypBind) (x i : ℕ) (s : List ℕ) (t : Typ) → IsPlaceAmong image first vs x i s None
    → new ≡ with_entry image (first + length vs) many (TVar x i s) → t ≡ typ_image new (TVar x i s) → has_entry new (TVar x i s) ≡ true
    → IsImageIn image first (entries_from image first vs ++ many) (entries_from image first vs ++ new) (TVar x i s) t
image_further image first vs many new x i s t absent added is has = record {
  added = ap (λ l. old ++ l) added ∙ by_test (has_entry many v) refl;
  image_is = is ∙ sym (image_behind old new v absent);
  has = has_behind old new v absent ∙ has;
}
  where
    v : Typ
    v = TVar x i s

    old : List TypBind
    old = entries_from image first vs

    by_test : (q : Bool) → has_entry many v ≡ q → old ++ with_entry image (first + length vs) many v ≡ with_entry image first (old ++ many) v
    by_test true t = ap (λ l. old ++ l) (entry_kept image (first + length vs) many x i s t) ∙ sym (entry_kept image first (old ++ many) x i s (has_behind old many v absent ∙ t))
    by_test false t =
        ap (λ l. old ++ l) (entry_new image (first + length vs) many x i s t)
        ∙ sym (append_assoc old many (bind x i s (image (first + length vs + length many) s) ∷ []))
        ∙ ap (λ n. (old ++ many) ++ bind x i s (image n s) ∷ []) (counted many)
        ∙ sym (entry_new image first (old ++ many) x i s (has_behind old many v absent ∙ t))
      where
        counted : (more : List TypBind) → first + length vs + length more ≡ first + length (old ++ more)
        counted more = let all = length-append old more in let count = entries-length image first vs in omega arith

pub all_counted : (image : ℕ → List ℕ → Typ) (first : ℕ) (vs : List Variable) (many binds : List TypBind) (behind number : ℕ) → behind ≡ first + length vs → binds ≡ many → number ≡ behind + length binds
    → number ≡ first + length (entries_from image first vs ++ many)
all_counted image first vs many binds behind number e f g =
    let last : number ≡ behind + length many = g ∙ ap (λ l. behind + length l) f in
    let all = length-append (entries_from image first vs) many in
    let count = entries-length image first vs in
    omega arith
