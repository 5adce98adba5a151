-- The settings are written out from the last one on: an image has only variables that are set later, and those are written out already.
use Rattle.std.proofs.Common.{◌≡◌, ℕ, ◌+◌, ◌-◌, ◌<◌, ◌≤◌, List, [], ◌∷◌, ◌++◌, map, length, get_or, take, drop, drop-cons, suc, zero, inl, inr, ◌⊎◌, refl, ap, sym, subst, ◌∙◌, arith, Bool, true, false, cond}
use Rattle.std.specs.Prelude.{reverse}
use Rattle.std.proofs.lemmas.List.{drop_all, reverse-reverse}
use Rattle.std.proofs.lemmas.Grind.{reverse_onto}
use Rattle.pure_text.specs.Lists.{IsIn, Each}
use Rattle.pure_text.proofs.ListLaws.{each_of, each-right, in-map, split_at}
use Rattle.pure_definitions.specs.Types.Typ.{Typ, TFree, TVar, Con, typ_eq}
use Rattle.pure_definitions.specs.Types.Occurs.{OccursInTyp}
use Rattle.pure_definitions.specs.Terms.Subst.{TypBind, IsTypMap, typ_variable, typ_image, typ_instance}
use Rattle.pure_definitions.specs.Terms.Limits.{IsWithinTyp}
use Rattle.pure_definitions.specs.Models.Equality.{typ_eq-same, typ_eq-itself}
use Rattle.pure_term_laws.specs.LawsOccurs.{IsTypVariable}
use Rattle.pure_term_laws.proofs.OccursLaws.{typ_instances-agree}
use Rattle.pure_term_laws.proofs.SubstLaws.{typ_instance-identity}
use Rattle.pure_tunify.specs.Unifiers.{IsFresh, IsOld}
use Rattle.pure_tunify.specs.Settings.{composed, AreTriangular, IsOldBind, Progress, IsTidy}
use Rattle.pure_tunify.specs.Working.{HasImagesWithin, IsWrittenInOrder, AreWrittenOut, MakesTheSame}
use Rattle.pure_tunify.proofs.SettingLaws.{composed-fixed, composed-absent, composed-image, instance-append, instance-free, instance-new, instance-old, tidy-snoc}

-- What is in front may be left out.
triangular-behind : (xs ys : List TypBind) → AreTriangular (xs ++ ys) → AreTriangular ys
triangular-behind [] ys tri = tri
triangular-behind (x ∷ xs) ys tri = triangular-behind xs ys tri.2

distinct-behind : (xs : List TypBind) (b : TypBind) (ys : List TypBind) → IsTypMap (xs ++ b ∷ ys) → ¬ IsIn (typ_variable b) (map typ_variable ys)
distinct-behind [] b ys d = d.0
distinct-behind (x ∷ xs) b ys d = distinct-behind xs b ys d.1

in_middle : (xs : List TypBind) (b : TypBind) (ys : List TypBind) → IsIn (typ_variable b) (map typ_variable (xs ++ b ∷ ys))
in_middle [] b ys = inl refl
in_middle (x ∷ xs) b ys = inr (in_middle xs b ys)

distinct-before : (xs : List TypBind) (b : TypBind) (ys : List TypBind) → IsTypMap (xs ++ b ∷ ys) → ¬ IsIn (typ_variable b) (map typ_variable xs)
distinct-before [] b ys d m = m
distinct-before (x ∷ xs) b ys d (inl e) = d.0 (subst (λ (v : Typ). IsIn v (map typ_variable (xs ++ b ∷ ys))) e (in_middle xs b ys))
distinct-before (x ∷ xs) b ys d (inr m) = distinct-before xs b ys d.1 m

-- One entry more at the end.
image-other : (sets : List TypBind) (e : TypBind) (v : Typ) → typ_eq (typ_variable e) v ≡ false → typ_image (sets ++ e ∷ []) v ≡ typ_image sets v
image-other [] e v other = rw other refl
image-other (b ∷ bs) e v other = ap (cond (typ_eq (typ_variable b) v) b.image) (image-other bs e v other)

image-last : (sets : List TypBind) (e : TypBind) (v : Typ) → typ_eq (typ_variable e) v ≡ true → (¬ IsIn v (map typ_variable sets)) → typ_image (sets ++ e ∷ []) v ≡ e.image
image-last [] e v same absent = rw same refl
image-last (b ∷ bs) e v same absent = by (typ_eq (typ_variable b) v) refl (image-last bs e v same (λ m. absent (inr m)))
  where
    by : (c : Bool) → typ_eq (typ_variable b) v ≡ c → typ_image (bs ++ e ∷ []) v ≡ e.image → cond c b.image (typ_image (bs ++ e ∷ []) v) ≡ e.image
    by true t rest = absurd (absent (inl (sym (typ_eq-same (typ_variable b) v t))))
    by false t rest = rest

variables-snoc : (sets : List TypBind) (e : TypBind) (v : Typ) → IsIn v (map typ_variable (sets ++ e ∷ [])) → IsIn v (map typ_variable sets) ⊎ (v ≡ typ_variable e)
variables-snoc [] e v (inl same) = inr same
variables-snoc [] e v (inr m) = absurd m
variables-snoc (b ∷ bs) e v (inl same) = inl (inl same)
variables-snoc (b ∷ bs) e v (inr m) = elim (variables-snoc bs e v m) [ inl n ↦ inl (inr n) | inr same ↦ inr same ]

map-snoc : (sets : List TypBind) (e : TypBind) → map typ_variable (sets ++ e ∷ []) ≡ map typ_variable sets ++ typ_variable e ∷ []
map-snoc [] e = refl
map-snoc (b ∷ bs) e = ap (λ vs. typ_variable b ∷ vs) (map-snoc bs e)

-- A list the other way round.
reverse-cons : {X : Type 0} (x : X) (xs : List X) → reverse (x ∷ xs) ≡ reverse xs ++ x ∷ []
reverse-cons x xs = reverse_onto xs x []

map-reverse : (sets : List TypBind) → map typ_variable (reverse sets) ≡ reverse (map typ_variable sets)
map-reverse [] = refl
map-reverse (b ∷ bs) = ap (map typ_variable) (reverse-cons b bs) ∙ (map-snoc (reverse bs) b ∙ (ap (λ vs. vs ++ typ_variable b ∷ []) (map-reverse bs) ∙ sym (reverse-cons (typ_variable b) (map typ_variable bs))))

variables-reverse : (sets : List TypBind) (v : Typ) → IsIn v (map typ_variable (reverse sets)) → IsIn v (map typ_variable sets)
variables-reverse [] v m = m
variables-reverse (b ∷ bs) v m = elim (variables-snoc (reverse bs) b v (subst (λ (xs : List TypBind). IsIn v (map typ_variable xs)) (reverse-cons b bs) m)) [ inl n ↦ inr (variables-reverse bs v n) | inr same ↦ inl same ]

image-reverse : (sets : List TypBind) (v : Typ) → IsTypMap sets → typ_image (reverse sets) v ≡ typ_image sets v
image-reverse [] v distinct = refl
image-reverse (b ∷ bs) v distinct = ap (λ xs. typ_image xs v) (reverse-cons b bs) ∙ by (typ_eq (typ_variable b) v) refl (image-reverse bs v distinct.1)
  where
    by : (c : Bool) → typ_eq (typ_variable b) v ≡ c → typ_image (reverse bs) v ≡ typ_image bs v → typ_image (reverse bs ++ b ∷ []) v ≡ cond c b.image (typ_image bs v)
    by true t rest = image-last (reverse bs) b v t (λ m. distinct.0 (variables-reverse bs (typ_variable b) (subst (λ (w : Typ). IsIn w (map typ_variable (reverse bs))) (sym (typ_eq-same (typ_variable b) v t)) m)))
    by false t rest = image-other (reverse bs) b v t ∙ rest

-- One turn of putting entries into a map the other way round.
pub reversed_next : (items out new : List TypBind) (left : ℕ) (b e : TypBind) → 0 < left → left ≤ length items → b ≡ get_or items (left - 1) b → e ≡ b → out ≡ reverse (drop left items) → new ≡ out ++ e ∷ [] → new ≡ reverse (drop (left - 1) items)
reversed_next items out new left b e some short read copy so_far is =
    is ∙ (ap (λ x. out ++ x ∷ []) copy ∙ (ap (λ xs. xs ++ b ∷ []) so_far ∙ (sym (reverse-cons b (drop left items)) ∙ ap reverse (sym (rest_here items left b some short read)))))
  where
    rest_here : (items : List TypBind) (left : ℕ) (b : TypBind) → 0 < left → left ≤ length items → b ≡ get_or items (left - 1) b → drop (left - 1) items ≡ b ∷ drop left items
    rest_here items left b some short read = drop-cons items (left - 1) b (omega arith) ∙ (let next_left : suc (left - 1) ≡ left = omega arith in rw (← read, next_left) refl)

pub reversed_absent : (items out : List TypBind) (left : ℕ) (b e : TypBind) → 0 < left → left ≤ length items → b ≡ get_or items (left - 1) b → e ≡ b → out ≡ reverse (drop left items) → IsTypMap items → ¬ IsIn (typ_variable e) (map typ_variable out)
reversed_absent items out left b e some short read copy so_far distinct m =
    distinct-behind (take (left - 1) items) b (drop left items) (subst IsTypMap whole distinct)
    (variables-reverse (drop left items) (typ_variable b) (subst (λ (xs : List TypBind). IsIn (typ_variable b) (map typ_variable xs)) so_far (subst (λ (x : TypBind). IsIn (typ_variable x) (map typ_variable out)) copy m)))
  where
    back : left - 1 + 1 ≡ left
    back = omega arith

    whole : items ≡ take (left - 1) items ++ b ∷ drop left items
    whole = split_at items (left - 1) b (omega arith) read ∙ ap (λ k. take (left - 1) items ++ b ∷ drop k items) back

-- Settings that are written out make of each type what they made before.
module _ (p d : Progress) (later : List TypBind) (tri : AreTriangular later) (h : AreWrittenOut p later d) where
  -- No variable of an entry that is written out occurs in a type with all later settings.
  free : (t : Typ) (v : Typ) → IsIn v (map typ_variable d.sets) → ¬ OccursInTyp v (typ_instance (composed later) t)
  free t v m = among later (instance-free later tri t) (h.variables v m)
    where
      among : (bs : List TypBind) → Each (λ c. ¬ OccursInTyp (typ_variable c) (typ_instance (composed later) t)) bs → IsIn v (map typ_variable bs) → ¬ OccursInTyp v (typ_instance (composed later) t)
      among [] each m = absurd m
      among (c ∷ cs) each (inl e) = subst (λ (w : Typ). ¬ OccursInTyp w (typ_instance (composed later) t)) (sym e) each.0
      among (c ∷ cs) each (inr n) = among cs each.1 n

  left_alone : (t : Typ) → typ_instance (composed d.sets) (typ_instance (composed later) t) ≡ typ_instance (composed later) t
  left_alone t = typ_instances-agree (composed d.sets) (λ v. v) (typ_instance (composed later) t) (λ v is o. composed-absent d.sets v is (λ m. free t v m o)) ∙ typ_instance-identity (typ_instance (composed later) t)

  agrees : (v : Typ) → IsTypVariable v → composed d.sets v ≡ composed later v
  agrees (TFree x s) is = composed-fixed d.sets x s ∙ sym (composed-fixed later x s)
  agrees (TVar x i s) is = composed-image d.sets (TVar x i s) h.tidy.triangular tt ∙ (ap (typ_instance (composed d.sets)) (h.written x i s) ∙ left_alone (TVar x i s))
  agrees (Con k ts) is = absurd is

  pub makes_the_same : MakesTheSame later d.sets
  makes_the_same t = typ_instances-agree (composed d.sets) (composed later) t (λ v is o. agrees v is)

module _ (p d : Progress) (front later : List TypBind) (b : TypBind) (tidy : IsTidy p) (distinct : IsTypMap p.sets) (whole : p.sets ≡ front ++ b ∷ later) (h : AreWrittenOut p later d) where
  triangular : AreTriangular (b ∷ later)
  triangular = triangular-behind front (b ∷ later) (subst AreTriangular whole tidy.triangular)

  olds : Each (IsOldBind p.index p.next) (b ∷ later)
  olds = each-right (IsOldBind p.index p.next) front (b ∷ later) (subst (Each (IsOldBind p.index p.next)) whole tidy.old)

  -- An image with all settings is its image with those that are written out.
  pub image_same : typ_instance (composed d.sets) b.image ≡ typ_instance (composed later) b.image
  image_same = makes_the_same p d later triangular.2 h b.image

  -- An image beyond the limits.
  pub written_beyond : ¬ IsWithinTyp (typ_instance (composed d.sets) b.image) → ¬ HasImagesWithin p.sets
  written_beyond beyond all = beyond (subst IsWithinTyp (here ∙ sym image_same) (all b.name b.index b.sort))
    where
      here : composed p.sets (typ_variable b) ≡ typ_instance (composed later) b.image
      here =
          ap (λ sets. composed sets (typ_variable b)) whole
          ∙ (instance-append front (b ∷ later) (typ_variable b)
          ∙ (ap (typ_instance (composed (b ∷ later))) (composed-absent front (typ_variable b) tt (distinct-before front b later (subst IsTypMap whole distinct)))
          ∙ ap (typ_instance (composed later)) own))
        where
          own : typ_image (b ∷ []) (typ_variable b) ≡ b.image
          own = rw (typ_eq-itself (typ_variable b)) refl

  module _ (e : TypBind) (is : e ≡ record b { image = typ_instance (composed d.sets) b.image }) (fits : IsWithinTyp (typ_instance (composed d.sets) b.image)) where
    variable_same : typ_variable e ≡ typ_variable b
    variable_same = λ l. TVar (is l).name (is l).index (is l).sort

    entry_image : e.image ≡ typ_instance (composed later) b.image
    entry_image = (λ l. (is l).image) ∙ image_same

    pub entry_absent : ¬ IsIn (typ_variable e) (map typ_variable d.sets)
    entry_absent m = distinct-behind front b later (subst IsTypMap whole distinct) (subst (λ (v : Typ). IsIn v (map typ_variable later)) variable_same (h.variables (typ_variable e) m))

    pub entry_tidy : (next : ℕ) → next ≡ d.next → IsTidy (record { sets = d.sets ++ e ∷ []; index = d.index; next = next })
    entry_tidy next same = subst (λ (n : ℕ). IsTidy (record { sets = d.sets ++ e ∷ []; index = d.index; next = n })) (sym same) (tidy-snoc d e d.next h.tidy (omega arith)
        (subst (λ (v : Typ). ¬ IsFresh d.index d.next v) (sym variable_same) (λ f. olds.0.variable (subst (λ (i : ℕ). IsFresh i p.next (typ_variable b)) h.index (subst (λ (n : ℕ). IsFresh d.index n (typ_variable b)) h.next f))))
        (subst (IsOld d.index d.next) (sym entry_image) (subst (λ (i : ℕ). IsOld i d.next (typ_instance (composed later) b.image)) (sym h.index) (subst (λ (n : ℕ). IsOld p.index n (typ_instance (composed later) b.image)) (sym h.next)
        (instance-old p.index p.next later b.image olds.1 olds.0.image))))
        (each_of (λ c. ¬ OccursInTyp (typ_variable c) e.image) d.sets (λ c m. subst (λ (t : Typ). ¬ OccursInTyp (typ_variable c) t) (sym entry_image) (free p d later triangular.2 h b.image (typ_variable c) (in-map typ_variable c d.sets m))))
        (subst (λ (v : Typ). ¬ OccursInTyp v e.image) (sym variable_same) (subst (λ (t : Typ). ¬ OccursInTyp (typ_variable b) t) (sym entry_image) (instance-new (typ_variable b) tt later b.image triangular.1 triangular.0))))

    -- What holds of the entry's image, and of later images, holds of all.
    by_entry : (P : Typ → Typ → Type 0) → P e.image (typ_instance (composed later) b.image) → ((x i : ℕ) (s : List ℕ) → P (typ_image d.sets (TVar x i s)) (composed later (TVar x i s)))
        → (x i : ℕ) (s : List ℕ) → P (typ_image (d.sets ++ e ∷ []) (TVar x i s)) (composed (b ∷ later) (TVar x i s))
    by_entry P here there x i s = by (typ_eq (typ_variable b) (TVar x i s)) refl
      where
        tested : (c : Bool) → typ_eq (typ_variable b) (TVar x i s) ≡ c → typ_eq (typ_variable e) (TVar x i s) ≡ c
        tested c t = ap (λ v. typ_eq v (TVar x i s)) variable_same ∙ t

        absent : typ_eq (typ_variable b) (TVar x i s) ≡ true → ¬ IsIn (TVar x i s) (map typ_variable d.sets)
        absent t m = entry_absent (subst (λ (v : Typ). IsIn v (map typ_variable d.sets)) (sym (variable_same ∙ typ_eq-same (typ_variable b) (TVar x i s) t)) m)

        by : (c : Bool) → typ_eq (typ_variable b) (TVar x i s) ≡ c → P (typ_image (d.sets ++ e ∷ []) (TVar x i s)) (typ_instance (composed later) (cond (typ_eq (typ_variable b) (TVar x i s)) b.image (TVar x i s)))
        by true t = subst (λ (c : Bool). P (typ_image (d.sets ++ e ∷ []) (TVar x i s)) (typ_instance (composed later) (cond c b.image (TVar x i s)))) (sym t)
            (subst (λ (u : Typ). P u (typ_instance (composed later) b.image)) (sym (image-last d.sets e (TVar x i s) (tested true t) (absent t))) here)
        by false t = subst (λ (c : Bool). P (typ_image (d.sets ++ e ∷ []) (TVar x i s)) (typ_instance (composed later) (cond c b.image (TVar x i s)))) (sym t)
            (subst (λ (u : Typ). P u (composed later (TVar x i s))) (sym (image-other d.sets e (TVar x i s) (tested false t))) (there x i s))

    pub entry_written : (new : Progress) (next : ℕ) → next ≡ d.next → new ≡ record { sets = d.sets ++ e ∷ []; index = d.index; next = next } → AreWrittenOut p (b ∷ later) new
    entry_written new next same are = subst (AreWrittenOut p (b ∷ later)) (sym are) (record {
      written = by_entry (λ t u. t ≡ u) entry_image h.written;
      order = map-snoc d.sets e ∙ (ap (λ vs. vs ++ typ_variable e ∷ []) h.order ∙ (ap (λ v. reverse (map typ_variable later) ++ v ∷ []) variable_same ∙ sym (reverse-cons (typ_variable b) (map typ_variable later))));
      variables = λ v m. elim (variables-snoc d.sets e v m) [ inl n ↦ inr (h.variables v n) | inr f ↦ inl (f ∙ variable_same) ];
      within = by_entry (λ t u. IsWithinTyp u) (subst IsWithinTyp image_same fits) h.within;
      tidy = entry_tidy next same;
      index = h.index;
      next = same ∙ h.next;
    })

-- Nothing is written out yet.
pub none_written : (p d : Progress) → IsTidy d → d.sets ≡ [] → d.index ≡ p.index → d.next ≡ p.next → AreWrittenOut p [] d
none_written p d tidy none index next = record {
  written = λ x i s. ap (λ sets. typ_image sets (TVar x i s)) none;
  variables = λ v m. subst (λ (sets : List TypBind). IsIn v (map typ_variable sets)) none m;
  order = ap (map typ_variable) none;
  within = λ x i s. record { size = omega arith; depth = omega arith };
  tidy = tidy;
  index = index;
  next = next;
}

-- One turn: the last entry that isn't written out yet.
module _ (p d : Progress) (items : List TypBind) (left : ℕ) (b : TypBind) (tidy : IsTidy p) (distinct : IsTypMap p.sets) (are : items ≡ p.sets) (some : 0 < left) (short : left ≤ length p.sets) (read : b ≡ get_or items (left - 1) b)
    (h : AreWrittenOut p (drop left p.sets) d) where
  last : left - 1 < length p.sets
  last = omega arith

  back : left - 1 + 1 ≡ left
  back = omega arith

  next_left : suc (left - 1) ≡ left
  next_left = omega arith

  last_read : b ≡ get_or p.sets (left - 1) b
  last_read = read ∙ ap (λ xs. get_or xs (left - 1) b) are

  whole_here : p.sets ≡ take (left - 1) p.sets ++ b ∷ drop left p.sets
  whole_here = split_at p.sets (left - 1) b last last_read ∙ ap (λ k. take (left - 1) p.sets ++ b ∷ drop k p.sets) back

  rest_here : drop (left - 1) p.sets ≡ b ∷ drop left p.sets
  rest_here = drop-cons p.sets (left - 1) b last ∙ rw (← last_read, next_left) refl

  pub turn_beyond : ¬ IsWithinTyp (typ_instance (composed d.sets) b.image) → ¬ HasImagesWithin p.sets
  turn_beyond = written_beyond p d (take (left - 1) p.sets) (drop left p.sets) b tidy distinct whole_here h

  module _ (e : TypBind) (found : (e ≡ record b { image = typ_instance (composed d.sets) b.image }) × IsWithinTyp (typ_instance (composed d.sets) b.image)) where
    pub turn_absent : ¬ IsIn (typ_variable e) (map typ_variable d.sets)
    turn_absent = entry_absent p d (take (left - 1) p.sets) (drop left p.sets) b tidy distinct whole_here h e found.0 found.1

    pub turn_tidy : (next : ℕ) → next ≡ d.next → IsTidy (record { sets = d.sets ++ e ∷ []; index = d.index; next = next })
    turn_tidy next same = entry_tidy p d (take (left - 1) p.sets) (drop left p.sets) b tidy distinct whole_here h e found.0 found.1 next same

    pub turn_written : (new : Progress) (next : ℕ) → next ≡ d.next → new ≡ record { sets = d.sets ++ e ∷ []; index = d.index; next = next } → AreWrittenOut p (drop (left - 1) p.sets) new
    turn_written new next same e_new = subst (λ (xs : List TypBind). AreWrittenOut p xs new) (sym rest_here) (entry_written p d (take (left - 1) p.sets) (drop left p.sets) b tidy distinct whole_here h e found.0 found.1 new next same e_new)

pub writing_starts : (p d : Progress) (items : List TypBind) → items ≡ p.sets → IsTidy d → d.sets ≡ [] → d.index ≡ p.index → d.next ≡ p.next → AreWrittenOut p (drop (length items) p.sets) d
writing_starts p d items are tidy none index next = subst (λ (xs : List TypBind). AreWrittenOut p xs d) (sym (drop_all (length items) p.sets (let same = ap length are in omega arith))) (none_written p d tidy none index next)

-- All are written out.
pub all_written : (p d : Progress) (left : ℕ) → left ≤ 0 → AreWrittenOut p (drop left p.sets) d → AreWrittenOut p p.sets d
all_written p d zero none h = h
all_written p d (suc left) none h = absurd (omega arith)

pub writing_ends : (p d : Progress) (items out : List TypBind) → AreWrittenOut p p.sets d → items ≡ d.sets → IsTypMap d.sets → out ≡ reverse items → HasImagesWithin p.sets × IsWrittenInOrder p.sets out
writing_ends p d items out h are distinct is = (
  h.within,
  (
    λ x i s. ap (λ xs. typ_image xs (TVar x i s)) whole ∙ (image-reverse d.sets (TVar x i s) distinct ∙ h.written x i s),
    ap (map typ_variable) whole ∙ (map-reverse d.sets ∙ (ap reverse h.order ∙ reverse-reverse (map typ_variable p.sets))),
  ),
)
  where
    whole : out ≡ reverse d.sets
    whole = is ∙ ap reverse are
