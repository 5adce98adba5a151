-- The entries of settings, from the last one on.
use Rattle.std.proofs.Common.{◌≡◌, ◌⊎◌, ℕ, zero, suc, ◌-◌, ◌<◌, ◌≤◌, List, [], ◌∷◌, ◌++◌, map, length, get_or, drop, drop-cons, Bool, true, false, cond, inl, inr, refl, ap, sym, subst, ◌∙◌, arith}
use Rattle.std.specs.Prelude.{reverse}
use Rattle.std.proofs.lemmas.List.{reverse-reverse}
use Rattle.std.proofs.lemmas.Grind.{reverse_onto}
use Rattle.pure_text.specs.Lists.{IsIn, Each}
use Rattle.pure_text.proofs.ListLaws.{each-append, each-right}
use Rattle.pure_definitions.specs.Types.Typ.{Typ, TFree, TVar, Con, Typs, none, also, typ_eq}
use Rattle.pure_definitions.specs.Terms.Term.{IsWithin}
use Rattle.pure_definitions.specs.Terms.Limits.{IsWithinTyp}
use Rattle.pure_definitions.specs.Models.Equality.{typ_eq-same}
use Rattle.pure_definitions.specs.Terms.Subst.{TypBind, IsTypMap, typ_variable, typ_image, typ_instance, typs_instance}
use Rattle.pure_term_laws.specs.LawsOccurs.{IsTypVariable}
use Rattle.pure_term_laws.proofs.OccursLaws.{typ_instances-agree}
use Rattle.pure_term_laws.proofs.SubstLaws.{typ_instance-identity}
use Rattle.pure_unify_steps.specs.declared.node.Setting.{Setting}
use Rattle.pure_unify_steps.specs.declared.node.Setting.TheVariants.{OfTyps, OfTerm}
use Rattle.pure_unify.specs.Later.{typ_later, typ_entry, term_entry, typ_entries, term_entries, AreEntriesWithin}

pub reverse-cons : {X : Type 0} (x : X) (xs : List X) → reverse (x ∷ xs) ≡ reverse xs ++ x ∷ []
reverse-cons x xs = reverse_onto xs x []

-- A loop that goes through a list from its end.
pub rest_here : {X : Type 0} (items : List X) (left less : ℕ) (b : X) → 0 < left → left ≤ length items → less ≡ left - 1 → b ≡ get_or items less b → drop less items ≡ b ∷ drop left items
rest_here items left less b some short down read =
    let next : suc less ≡ left = omega arith in
    drop-cons items less b (omega arith) ∙ (λ l. sym read l ∷ drop (next l) items)

pub each-reverse : {X : Type 0} (P : X → Type 0) (xs : List X) → Each P xs → Each P (reverse xs)
each-reverse P [] h = tt
each-reverse P (x ∷ xs) h = subst (λ ys. Each P ys) (sym (reverse-cons x xs)) (each-append P (reverse xs) (x ∷ []) (each-reverse P xs h.1) (h.0, tt))

-- The entries of one setting of type variables, the last first.
pub record AreMade (f : TypBind → TypBind) (binds : List TypBind) (left : ℕ) (made : List TypBind) : Type 0 where
  pub are : made ≡ reverse (map f (drop left binds))
  pub within : Each (λ b. IsWithinTyp b.image) made
  pub short : left ≤ length binds

pub made_none : (f : TypBind → TypBind) (binds : List TypBind) → AreMade f binds (length binds) []
made_none f binds = record { are = sym (ap (λ bs. reverse (map f bs)) (drop-all binds)); within = tt; short = omega arith }
  where
    drop-all : (bs : List TypBind) → drop (length bs) bs ≡ []
    drop-all [] = refl
    drop-all (b ∷ bs) = drop-all bs

pub made_more : (f : TypBind → TypBind) (binds : List TypBind) (left less : ℕ) (made more : List TypBind) (b e : TypBind) → AreMade f binds left made → 0 < left → less ≡ left - 1 → b ≡ get_or binds less b → e ≡ f b → IsWithinTyp e.image
    → more ≡ made ++ e ∷ [] → AreMade f binds less more
made_more f binds left less made more b e h some down read is within grown =
    let short = h.short in
    record {
      are = grown ∙ ((λ l. h.are l ++ is l ∷ []) ∙ (sym (reverse-cons (f b) (map f (drop left binds))) ∙ ap (λ bs. reverse (map f bs)) (sym (rest_here binds left less b some short down read))));
      within = subst (λ bs. Each (λ b. IsWithinTyp b.image) bs) (sym grown) (each-append (λ b. IsWithinTyp b.image) made (e ∷ []) h.within (within, tt));
      short = omega arith;
    }

pub made_all : (f : TypBind → TypBind) (binds : List TypBind) (left : ℕ) (made : List TypBind) → AreMade f binds left made → left ≤ 0 → (made ≡ reverse (map f binds)) × Each (λ b. IsWithinTyp b.image) made
made_all f binds left made h over =
    let none : left ≡ 0 = omega arith in
    (h.are ∙ ap (λ n. reverse (map f (drop n binds))) none ∙ ap (λ bs. reverse (map f bs)) (whole binds), h.within)
  where
    whole : (bs : List TypBind) → drop 0 bs ≡ bs
    whole [] = refl
    whole (b ∷ bs) = refl

pub made_beyond : (f : TypBind → TypBind) (binds : List TypBind) (n : ℕ) (b : TypBind) → n < length binds → b ≡ get_or binds n b → ¬ IsWithinTyp (f b).image → ¬ Each (λ c. IsWithinTyp c.image) (map f binds)
made_beyond f [] n b h read beyond each = absurd (omega arith)
made_beyond f (c ∷ cs) zero b h read beyond each = beyond (subst (λ (d : TypBind). IsWithinTyp (f d).image) (sym read) each.0)
made_beyond f (c ∷ cs) (suc n) b h read beyond each = made_beyond f cs n b (omega arith) read beyond each.1

-- Instances of instances.
mutual
  instance-twice : (f g : Typ → Typ) (T : Typ) → typ_instance f (typ_instance g T) ≡ typ_instance (λ v. typ_instance f (g v)) T
  instance-twice f g (TFree x s) = refl
  instance-twice f g (TVar x i s) = refl
  instance-twice f g (Con k ts) = ap (Con k) (instances-twice f g ts)

  instances-twice : (f g : Typ → Typ) (ts : Typs) → typs_instance f (typs_instance g ts) ≡ typs_instance (λ v. typ_instance f (g v)) ts
  instances-twice f g none = refl
  instances-twice f g (also t ts) = λ l. also (instance-twice f g t l) (instances-twice f g ts l)

-- What the settings make of a type is told by what they make of its variables.
variable-itself : (f : Typ → Typ) (v : Typ) → IsTypVariable v → typ_instance f v ≡ f v
variable-itself f (TFree x s) is = refl
variable-itself f (TVar x i s) is = refl
variable-itself f (Con k ts) is = absurd is

later-instance : (hs : List Setting) (T : Typ) → typ_later hs T ≡ typ_instance (typ_later hs) T
later-instance [] T = sym (typ_instance-identity T)
later-instance (OfTyps binds ∷ rest) T =
    later-instance rest (typ_instance (typ_image binds) T)
    ∙ (instance-twice (typ_later rest) (typ_image binds) T
    ∙ typ_instances-agree (λ v. typ_instance (typ_later rest) (typ_image binds v)) (typ_later (OfTyps binds ∷ rest)) T
    (λ v is o. sym (later-instance rest (typ_image binds v)) ∙ ap (typ_later rest) (sym (variable-itself (typ_image binds) v is))))
later-instance (OfTerm binds ∷ rest) T = later-instance rest T

-- The entries are a map that does the same.
front-image : (rest : List Setting) (binds : List TypBind) (v : Typ) → typ_image (typ_entries rest) v ≡ typ_later rest v → typ_image (map (typ_entry rest) binds ++ typ_entries rest) v ≡ typ_later rest (typ_image binds v)
front-image rest [] v h = h
front-image rest (b ∷ bs) v h = by (typ_eq (typ_variable b) v) (front-image rest bs v h)
  where
    by : (t : Bool) → typ_image (map (typ_entry rest) bs ++ typ_entries rest) v ≡ typ_later rest (typ_image bs v)
        → cond t (typ_later rest b.image) (typ_image (map (typ_entry rest) bs ++ typ_entries rest) v) ≡ typ_later rest (cond t b.image (typ_image bs v))
    by true k = refl
    by false k = k

entries-image : (hs : List Setting) (v : Typ) → IsTypVariable v → typ_image (typ_entries hs) v ≡ typ_later hs v
entries-image [] v is = refl
entries-image (OfTyps binds ∷ rest) v is = front-image rest binds v (entries-image rest v is) ∙ ap (typ_later rest) (sym (variable-itself (typ_image binds) v is))
entries-image (OfTerm binds ∷ rest) v is = entries-image rest v is

-- A list of entries the other way round is the same map, where no variable has two.
image-other : (sets : List TypBind) (e : TypBind) (v : Typ) → typ_eq (typ_variable e) v ≡ false → typ_image (sets ++ e ∷ []) v ≡ typ_image sets v
image-other [] e v other = ap (λ t. cond t e.image v) other
image-other (b ∷ bs) e v other = ap (cond (typ_eq (typ_variable b) v) b.image) (image-other bs e v other)

image-last : (sets : List TypBind) (e : TypBind) (v : Typ) → typ_eq (typ_variable e) v ≡ true → (¬ IsIn v (map typ_variable sets)) → typ_image (sets ++ e ∷ []) v ≡ e.image
image-last [] e v same absent = ap (λ t. cond t e.image v) same
image-last (b ∷ bs) e v same absent = by (typ_eq (typ_variable b) v) refl (image-last bs e v same (λ m. absent (inr m)))
  where
    by : (c : Bool) → typ_eq (typ_variable b) v ≡ c → typ_image (bs ++ e ∷ []) v ≡ e.image → cond c b.image (typ_image (bs ++ e ∷ []) v) ≡ e.image
    by true t rest = absurd (absent (inl (sym (typ_eq-same (typ_variable b) v t))))
    by false t rest = rest

variables-snoc : (sets : List TypBind) (e : TypBind) (v : Typ) → IsIn v (map typ_variable (sets ++ e ∷ [])) → IsIn v (map typ_variable sets) ⊎ (v ≡ typ_variable e)
variables-snoc [] e v (inl same) = inr same
variables-snoc [] e v (inr m) = absurd m
variables-snoc (b ∷ bs) e v (inl same) = inl (inl same)
variables-snoc (b ∷ bs) e v (inr m) = elim (variables-snoc bs e v m) [ inl n ↦ inl (inr n) | inr same ↦ inr same ]

variables-reverse : (sets : List TypBind) (v : Typ) → IsIn v (map typ_variable (reverse sets)) → IsIn v (map typ_variable sets)
variables-reverse [] v m = m
variables-reverse (b ∷ bs) v m = elim (variables-snoc (reverse bs) b v (subst (λ (xs : List TypBind). IsIn v (map typ_variable xs)) (reverse-cons b bs) m)) [ inl n ↦ inr (variables-reverse bs v n) | inr same ↦ inl same ]

image-reverse : (sets : List TypBind) (v : Typ) → IsTypMap sets → typ_image (reverse sets) v ≡ typ_image sets v
image-reverse [] v distinct = refl
image-reverse (b ∷ bs) v distinct = ap (λ xs. typ_image xs v) (reverse-cons b bs) ∙ by (typ_eq (typ_variable b) v) refl (image-reverse bs v distinct.1)
  where
    by : (c : Bool) → typ_eq (typ_variable b) v ≡ c → typ_image (reverse bs) v ≡ typ_image bs v → typ_image (reverse bs ++ b ∷ []) v ≡ cond c b.image (typ_image bs v)
    by true t rest = image-last (reverse bs) b v t (λ m. distinct.0 (variables-reverse bs (typ_variable b) (subst (λ (w : Typ). IsIn w (map typ_variable (reverse bs))) (sym (typ_eq-same (typ_variable b) v t)) m)))
    by false t rest = image-other (reverse bs) b v t ∙ rest

pub map_is : (hs : List Setting) (entries : List TypBind) → entries ≡ reverse (typ_entries hs) → IsTypMap entries → (T : Typ) → typ_later hs T ≡ typ_instance (typ_image entries) T
map_is hs entries e distinct T =
    let back : reverse entries ≡ typ_entries hs = ap reverse e ∙ reverse-reverse (typ_entries hs) in
    later-instance hs T ∙ typ_instances-agree (typ_later hs) (typ_image entries) T
    (λ v is o. sym (entries-image hs v is) ∙ (ap (λ bs. typ_image bs v) (sym back) ∙ image-reverse entries v distinct))

-- The entries of all settings are within the limits only where those of the last ones are.
pub within_rest : (h : Setting) (hs : List Setting) → AreEntriesWithin (h ∷ hs) → AreEntriesWithin hs
within_rest (OfTyps binds) hs w = record { typs = each-right (λ b. IsWithinTyp b.image) (map (typ_entry hs) binds) (typ_entries hs) w.typs; terms = w.terms }
within_rest (OfTerm binds) hs w = record { typs = w.typs; terms = each-right (λ b. IsWithin b.image) (map (term_entry hs) binds) (term_entries hs) w.terms }

pub within_drop : (hs : List Setting) (n : ℕ) → AreEntriesWithin hs → AreEntriesWithin (drop n hs)
within_drop [] zero w = w
within_drop [] (suc n) w = w
within_drop (h ∷ hs) zero w = w
within_drop (h ∷ hs) (suc n) w = within_drop hs n (within_rest h hs w)
