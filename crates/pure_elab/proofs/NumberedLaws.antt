-- Numbered type variables: each has an entry, whose image is that of a number.
use Rattle.std.proofs.Common.{◌≡◌, ℕ, ◌+◌, ◌⊎◌, Bool, true, false, ◌||◌, List, [], ◌∷◌, ◌++◌, map, length, if◌then◌else◌, inl, inr, refl, ap, sym, subst, ◌∙◌}
use Rattle.std.proofs.lemmas.List.Folds.{list_any-append}
use Rattle.pure_text.specs.Lists.{IsIn, Each}
use Rattle.pure_text.proofs.ListLaws.{each-append, in-append_left, in-append_right}
use Rattle.pure_definitions.specs.Types.Typ.{Typ, TFree, TVar, Con, Typs, none, also, typ_eq}
use Rattle.pure_definitions.specs.Types.Occurs.{OccursInTyp, OccursInTyps}
use Rattle.pure_definitions.specs.Models.Equality.{typ_eq-same, typ_eq-itself}
use Rattle.pure_definitions.specs.Terms.Term.{Term}
use Rattle.pure_definitions.specs.Terms.Subst.{TypBind, typ_variable, typ_image, inst_typ}
use Rattle.pure_tunify.specs.Occurrences.{schematics, schematics_of}
use Rattle.pure_tunify.specs.Settings.{bind}
use Rattle.pure_typ.specs.TypBound.{IsTypBound}
use Rattle.pure_elab.specs.Numbered.{has_entry, with_entry, numbered, term_variables, with_fixed}

mutual
  pub occurs-schematics : (x i : ℕ) (s : List ℕ) (T : Typ) → OccursInTyp (TVar x i s) T → IsIn (TVar x i s) (schematics T)
  occurs-schematics x i s (TFree y r) o = absurd (cc)
  occurs-schematics x i s (TVar y j r) o = inl o
  occurs-schematics x i s (Con k ts) (inl e) = absurd (cc)
  occurs-schematics x i s (Con k ts) (inr o) = occurs-schematics_of x i s ts o

  pub occurs-schematics_of : (x i : ℕ) (s : List ℕ) (ts : Typs) → OccursInTyps (TVar x i s) ts → IsIn (TVar x i s) (schematics_of ts)
  occurs-schematics_of x i s none o = o
  occurs-schematics_of x i s (also t ts) (inl o) = in-append_left (TVar x i s) (schematics t) (schematics_of ts) (occurs-schematics x i s t o)
  occurs-schematics_of x i s (also t ts) (inr o) = in-append_right (TVar x i s) (schematics t) (schematics_of ts) (occurs-schematics_of x i s ts o)

-- The image of the entry is that of a number, at the variable's sort.
abbrev pub IsNumberEntry : (ℕ → List ℕ → Typ) → TypBind → Type 0
IsNumberEntry image b = (k : ℕ) × (b.image ≡ image k b.sort)

chosen_entries : (P : TypBind → Type 0) (q : Bool) (binds : List TypBind) (b : TypBind) → Each P binds → P b → Each P (if q then binds else binds ++ b ∷ [])
chosen_entries P true binds b h p = h
chosen_entries P false binds b h p = each-append P binds (b ∷ []) h (p, tt)

with_entry-each : (image : ℕ → List ℕ → Typ) (first : ℕ) (binds : List TypBind) (v : Typ) → Each (IsNumberEntry image) binds → Each (IsNumberEntry image) (with_entry image first binds v)
with_entry-each image first binds (TFree x s) h = h
with_entry-each image first binds (TVar x i s) h = chosen_entries (IsNumberEntry image) (has_entry binds (TVar x i s)) binds (bind x i s (image (first + length binds) s)) h (first + length binds, refl)
with_entry-each image first binds (Con k ts) h = h

pub numbered-each : (image : ℕ → List ℕ → Typ) (first : ℕ) (binds : List TypBind) (vs : List Typ) → Each (IsNumberEntry image) binds → Each (IsNumberEntry image) (numbered image first binds vs)
numbered-each image first binds [] h = h
numbered-each image first binds (v ∷ vs) h = numbered-each image first (with_entry image first binds v) vs (with_entry-each image first binds v h)

or-right : (a b : Bool) → b ≡ true → (a || b) ≡ true
or-right true b h = refl
or-right false b h = h

or-left : (a b : Bool) → a ≡ true → (a || b) ≡ true
or-left a b h = rw h refl

pub has-appended : (binds : List TypBind) (b : TypBind) (v : Typ) → typ_variable b ≡ v → has_entry (binds ++ b ∷ []) v ≡ true
has-appended binds b v e =
    list_any-append (λ c. typ_eq (typ_variable c) v) binds (b ∷ [])
    ∙ or-right (has_entry binds v) (typ_eq (typ_variable b) v || false) (or-left (typ_eq (typ_variable b) v) false (subst (λ (u : Typ). typ_eq (typ_variable b) u ≡ true) e (typ_eq-itself (typ_variable b))))

has-kept : (binds more : List TypBind) (v : Typ) → has_entry binds v ≡ true → has_entry (binds ++ more) v ≡ true
has-kept binds more v h = list_any-append (λ c. typ_eq (typ_variable c) v) binds more ∙ or-left (has_entry binds v) (has_entry more v) h

chosen_kept : (q : Bool) (binds : List TypBind) (b : TypBind) (v : Typ) → has_entry binds v ≡ true → has_entry (if q then binds else binds ++ b ∷ []) v ≡ true
chosen_kept true binds b v h = h
chosen_kept false binds b v h = has-kept binds (b ∷ []) v h

pub with_entry-kept : (image : ℕ → List ℕ → Typ) (first : ℕ) (binds : List TypBind) (w v : Typ) → has_entry binds v ≡ true → has_entry (with_entry image first binds w) v ≡ true
with_entry-kept image first binds (TFree x s) v h = h
with_entry-kept image first binds (TVar x i s) v h = chosen_kept (has_entry binds (TVar x i s)) binds (bind x i s (image (first + length binds) s)) v h
with_entry-kept image first binds (Con k ts) v h = h

pub numbered-kept : (image : ℕ → List ℕ → Typ) (first : ℕ) (binds : List TypBind) (vs : List Typ) (v : Typ) → has_entry binds v ≡ true → has_entry (numbered image first binds vs) v ≡ true
numbered-kept image first binds [] v h = h
numbered-kept image first binds (w ∷ vs) v h = numbered-kept image first (with_entry image first binds w) vs v (with_entry-kept image first binds w v h)

chosen_has : (q : Bool) (binds : List TypBind) (b : TypBind) (v : Typ) → typ_variable b ≡ v → q ≡ has_entry binds v → has_entry (if q then binds else binds ++ b ∷ []) v ≡ true
chosen_has true binds b v e h = sym h
chosen_has false binds b v e h = has-appended binds b v e

pub numbered-has : (image : ℕ → List ℕ → Typ) (first : ℕ) (binds : List TypBind) (vs : List Typ) (x i : ℕ) (s : List ℕ) → IsIn (TVar x i s) vs → has_entry (numbered image first binds vs) (TVar x i s) ≡ true
numbered-has image first binds [] x i s m = absurd m
numbered-has image first binds (v ∷ vs) x i s (inl e) =
    numbered-kept image first (with_entry image first binds v) vs (TVar x i s)
    (subst (λ (w : Typ). has_entry (with_entry image first binds w) (TVar x i s) ≡ true) e
    (chosen_has (has_entry binds (TVar x i s)) binds (bind x i s (image (first + length binds) s)) (TVar x i s) refl refl))
numbered-has image first binds (v ∷ vs) x i s (inr m) = numbered-has image first (with_entry image first binds v) vs x i s m

with_entry-none : (image : ℕ → List ℕ → Typ) (first : ℕ) (binds : List TypBind) (x i : ℕ) (s : List ℕ) → has_entry binds (TVar x i s) ≡ true → with_entry image first binds (TVar x i s) ≡ binds
with_entry-none image first binds x i s h = by (has_entry binds (TVar x i s)) h
  where
    by : (q : Bool) → q ≡ true → (if q then binds else binds ++ bind x i s (image (first + length binds) s) ∷ []) ≡ binds
    by true e = refl
    by false e = absurd (cc)

-- Variables that have entries get no further ones.
numbered-none : (image : ℕ → List ℕ → Typ) (first : ℕ) (binds : List TypBind) (vs : List Typ) → ((x i : ℕ) (s : List ℕ) → IsIn (TVar x i s) vs → has_entry binds (TVar x i s) ≡ true) → numbered image first binds vs ≡ binds
numbered-none image first binds [] h = refl
numbered-none image first binds (TFree x s ∷ vs) h = numbered-none image first binds vs (λ y j r m. h y j r (inr m))
numbered-none image first binds (TVar x i s ∷ vs) h = ap (λ b. numbered image first b vs) (with_entry-none image first binds x i s (h x i s (inl refl))) ∙ numbered-none image first binds vs (λ y j r m. h y j r (inr m))
numbered-none image first binds (Con k ts ∷ vs) h = numbered-none image first binds vs (λ y j r m. h y j r (inr m))

pub numbered-again : (image : ℕ → List ℕ → Typ) (first : ℕ) (binds : List TypBind) (vs : List Typ) → numbered image first (numbered image first binds vs) vs ≡ numbered image first binds vs
numbered-again image first binds vs = numbered-none image first (numbered image first binds vs) vs (numbered-has image first binds vs)

chosen_image : (P : TypBind → Type 0) (q : Bool) (b : TypBind) (bs : List TypBind) (v : Typ) → q ≡ typ_eq (typ_variable b) v → P b
    → (has_entry bs v ≡ true → (c : TypBind) × P c × (typ_image bs v ≡ c.image) × (typ_variable c ≡ v))
    → (q || has_entry bs v) ≡ true → (c : TypBind) × P c × ((if q then b.image else typ_image bs v) ≡ c.image) × (typ_variable c ≡ v)
chosen_image P true b bs v e p f h = (b, p, refl, typ_eq-same (typ_variable b) v (sym e))
chosen_image P false b bs v e p f h = f h

-- The image of a variable that has an entry is that of an entry for it.
pub image-of_entry : (P : TypBind → Type 0) (binds : List TypBind) (v : Typ) → Each P binds → has_entry binds v ≡ true → (c : TypBind) × P c × (typ_image binds v ≡ c.image) × (typ_variable c ≡ v)
image-of_entry P [] v all h = absurd (cc)
image-of_entry P (b ∷ bs) v all h = chosen_image P (typ_eq (typ_variable b) v) b bs v refl all.0 (λ g. image-of_entry P bs v all.1 g) h

-- Each schematic variable of a type that is numbered has the image of a number, at its own sort.
pub numbered_image : (image : ℕ → List ℕ → Typ) (first : ℕ) (vs : List Typ) (x i : ℕ) (s : List ℕ) → IsIn (TVar x i s) vs → (k : ℕ) × (typ_image (numbered image first [] vs) (TVar x i s) ≡ image k s)
numbered_image image first vs x i s m =
    let c = image-of_entry (IsNumberEntry image) (numbered image first [] vs) (TVar x i s) (numbered-each image first [] vs tt) (numbered-has image first [] vs x i s m) in
    let entry : TypBind = c.0 in
    let same : entry.sort ≡ s = cc in
    (c.1.0, c.2 ∙ c.1.1 ∙ ap (image c.1.0) same)

-- A variable that is bound has an entry, and one that isn't among the entries' variables has none.
pub has_by : (binds : List TypBind) (b : TypBind) (v : Typ) → IsIn b binds → typ_variable b ≡ v → has_entry binds v ≡ true
has_by [] b v m e = absurd m
has_by (c ∷ cs) b v (inl same) e =
    let first : typ_variable c ≡ v = subst (λ (x : TypBind). typ_variable x ≡ v) same e in
    or-left (typ_eq (typ_variable c) v) (has_entry cs v) (subst (λ (u : Typ). typ_eq (typ_variable c) u ≡ true) first (typ_eq-itself (typ_variable c)))
has_by (c ∷ cs) b v (inr m) e = or-right (typ_eq (typ_variable c) v) (has_entry cs v) (has_by cs b v m e)

pub bound-has : (binds : List TypBind) (v t : Typ) → IsTypBound binds v t → has_entry binds v ≡ true
bound-has binds v t b = has_by binds b.0 v b.1 b.2

absent_by : (q : Bool) (b : TypBind) (bs : List TypBind) (v : Typ) → q ≡ typ_eq (typ_variable b) v → ((v ≡ typ_variable b) ⊎ IsIn v (map typ_variable bs) → ⊥) → has_entry bs v ≡ false → (q || has_entry bs v) ≡ false
absent_by true b bs v e gone rest = absurd (gone (inl (sym (typ_eq-same (typ_variable b) v (sym e)))))
absent_by false b bs v e gone rest = rest

pub absent-has : (binds : List TypBind) (v : Typ) → ¬ IsIn v (map typ_variable binds) → has_entry binds v ≡ false
absent-has [] v gone = refl
absent-has (b ∷ bs) v gone = absent_by (typ_eq (typ_variable b) v) b bs v refl gone (absent-has bs v (λ m. gone (inr m)))

-- The term with its variables made fixed, from what the program makes.
pub fixed_by : (fresh first : ℕ) (start binds : List TypBind) (t u : Term) → start ≡ [] → first ≡ fresh → binds ≡ numbered TFree first start (term_variables t) → u ≡ inst_typ (typ_image binds) t → u ≡ with_fixed fresh t
fixed_by fresh first start binds t u e f g h = h ∙ ap (λ b. inst_typ (typ_image b) t) (g ∙ (λ i. numbered TFree (f i) (e i) (term_variables t)))

pub empty_list : (entries : List TypBind) → length entries ≡ 0 → entries ≡ []
empty_list [] e = refl
empty_list (b ∷ bs) e = absurd (cc)
