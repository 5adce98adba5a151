-- What settings one after the other make of types.
use Rattle.std.proofs.Common.{◌≡◌, ℕ, ◌≤◌, List, [], ◌∷◌, ◌++◌, map, inl, inr, refl, ap, sym, subst, ◌∙◌, Bool, true, false, cond}
use Rattle.pure_text.specs.Lists.{IsIn, Each}
use Rattle.pure_text.proofs.ListLaws.{each_imply, each-append}
use Rattle.pure_definitions.specs.Types.Typ.{Typ, TFree, TVar, Con, typ_eq}
use Rattle.pure_definitions.specs.Types.Occurs.{OccursInTyp}
use Rattle.pure_definitions.specs.Terms.Subst.{TypBind, typ_variable, typ_image, typ_instance}
use Rattle.pure_definitions.specs.Models.Equality.{typ_eq-same, typ_eq-itself}
use Rattle.pure_definitions.proofs.EntryLemmas.{chosen, typ_image-absent}
use Rattle.pure_definitions.proofs.TypsLemmas.{occurs-itself}
use Rattle.pure_term_laws.specs.LawsOccurs.{IsTypVariable}
use Rattle.pure_term_laws.proofs.OccursLaws.{typ_instances-agree, typ_variable_of_typ_instance}
use Rattle.pure_term_laws.proofs.SubstLaws.{typ_instance-identity}
use Rattle.pure_term_laws.proofs.MapLaws.{typ_instance-again}
use Rattle.pure_tunify.specs.declared.pair.TypPair.{TypPair}
use Rattle.pure_tunify.specs.Unifiers.{IsFresh, IsOld, IsOldPair}
use Rattle.pure_tunify.specs.Steps.{pair, instance_pair}
use Rattle.pure_tunify.specs.Settings.{composed, AreTriangular, IsOldBind, Progress, IsTidy}
use Rattle.pure_tunify.proofs.MapLaws.{setting-cases, fresh-later, variable_is_old, old-instance}

-- Settings and then further ones.
pub instance-append : (xs ys : List TypBind) (t : Typ) → typ_instance (composed (xs ++ ys)) t ≡ typ_instance (composed ys) (typ_instance (composed xs) t)
instance-append [] ys t = ap (typ_instance (composed ys)) (sym (typ_instance-identity t))
instance-append (b ∷ bs) ys t =
    sym (typ_instance-again (typ_image (b ∷ [])) (composed (bs ++ ys)) t)
    ∙ (instance-append bs ys (typ_instance (typ_image (b ∷ [])) t) ∙ ap (typ_instance (composed ys)) (typ_instance-again (typ_image (b ∷ [])) (composed bs) t))

pub instance_pair-append : (xs ys : List TypBind) (p : TypPair) → instance_pair (composed ys) (instance_pair (composed xs) p) ≡ instance_pair (composed (xs ++ ys)) p
instance_pair-append xs ys p = λ l. pair (sym (instance-append xs ys p.left) l) (sym (instance-append xs ys p.right) l)

pub instance_pairs-append : (xs ys : List TypBind) (ps : List TypPair) → map (instance_pair (composed ys)) (map (instance_pair (composed xs)) ps) ≡ map (instance_pair (composed (xs ++ ys))) ps
instance_pairs-append xs ys [] = refl
instance_pairs-append xs ys (p ∷ ps) = λ l. instance_pair-append xs ys p l ∷ instance_pairs-append xs ys ps l

pub instance_pairs-identity : (ps : List TypPair) → map (instance_pair (λ v. v)) ps ≡ ps
instance_pairs-identity [] = refl
instance_pairs-identity (p ∷ ps) = λ l. pair (typ_instance-identity p.left l) (typ_instance-identity p.right l) ∷ instance_pairs-identity ps l

pub composed-fixed : (sets : List TypBind) (x : ℕ) (s : List ℕ) → composed sets (TFree x s) ≡ TFree x s
composed-fixed [] x s = refl
composed-fixed (b ∷ bs) x s = composed-fixed bs x s

pub as_variable : (typs : Typ → Typ) (v : Typ) → IsTypVariable v → typ_instance typs v ≡ typs v
as_variable typs (TFree x s) is = refl
as_variable typs (TVar x i s) is = refl
as_variable typs (Con k ts) is = absurd is

-- What occurs in a variable is the variable.
pub variable_occurs : (w v : Typ) → IsTypVariable v → OccursInTyp w v → w ≡ v
variable_occurs w (TFree x s) is o = o
variable_occurs w (TVar x i s) is o = o
variable_occurs w (Con k ts) is o = absurd is

-- what holds of the first where a test holds, and of the second where it doesn't, holds of the chosen one
decided : (P : Typ → Type 0) (c : Bool) (t u : Typ) → (c ≡ true → P t) → (c ≡ false → P u) → P (cond c t u)
decided P true t u h k = h refl
decided P false t u h k = k refl

false_true : false ≡ true → ⊥
false_true e = cc

pub other_variable : (b : TypBind) (v : Typ) → typ_eq (typ_variable b) v ≡ false → typ_variable b ≡ v → ⊥
other_variable b v e same = false_true (sym e ∙ subst (λ (T : Typ). typ_eq (typ_variable b) T ≡ true) same (typ_eq-itself (typ_variable b)))

-- What is no set variable stays.
pub composed-absent : (sets : List TypBind) (v : Typ) → IsTypVariable v → (¬ IsIn v (map typ_variable sets)) → composed sets v ≡ v
composed-absent [] v is absent = refl
composed-absent (b ∷ bs) v is absent =
    ap (typ_instance (composed bs)) (typ_image-absent (b ∷ []) v (λ m. elim m [ inl e ↦ absent (inl e) | inr n ↦ absurd n ]))
    ∙ (as_variable (composed bs) v is ∙ composed-absent bs v is (λ m. absent (inr m)))

-- Settings of variables that don't occur in a type leave it.
pub instance-untouched : (b : TypBind) (bs : List TypBind) (t : Typ) → (¬ OccursInTyp (typ_variable b) t) → typ_instance (composed (b ∷ bs)) t ≡ typ_instance (composed bs) t
instance-untouched b bs t free = typ_instances-agree (composed (b ∷ bs)) (composed bs) t (λ v is o. one v is (λ e. free (subst (λ (T : Typ). OccursInTyp T t) (sym e) o)))
  where
    one : (v : Typ) → IsTypVariable v → (typ_variable b ≡ v → ⊥) → typ_instance (composed bs) (typ_image (b ∷ []) v) ≡ composed bs v
    one v is other = ap (typ_instance (composed bs)) (typ_image-absent (b ∷ []) v (λ m. elim m [ inl e ↦ other (sym e) | inr n ↦ absurd n ])) ∙ as_variable (composed bs) v is

-- What occurs in no image and isn't the variable doesn't occur in its image.
pub image-free : (w : Typ) (sets : List TypBind) (v : Typ) → Each (λ c. ¬ OccursInTyp w c.image) sets → (¬ OccursInTyp w v) → ¬ OccursInTyp w (typ_image sets v)
image-free w [] v each other = other
image-free w (b ∷ bs) v each other = chosen (λ T. ¬ OccursInTyp w T) (typ_eq (typ_variable b) v) b.image (typ_image bs v) (λ e. each.0) (image-free w bs v each.1 other)

-- A variable's image under all settings is that of its entry's image.
pub composed-image : (sets : List TypBind) (v : Typ) → AreTriangular sets → IsTypVariable v → composed sets v ≡ typ_instance (composed sets) (typ_image sets v)
composed-image [] v tri is = sym (as_variable (λ u. u) v is)
composed-image (b ∷ bs) v tri is = by (typ_eq (typ_variable b) v) refl (composed-image bs v tri.2 is)
  where
    by : (c : Bool) → typ_eq (typ_variable b) v ≡ c → composed bs v ≡ typ_instance (composed bs) (typ_image bs v)
        → typ_instance (composed bs) (cond c b.image v) ≡ typ_instance (composed (b ∷ bs)) (cond c b.image (typ_image bs v))
    by true e rest = sym (instance-untouched b bs b.image tri.0)
    by false e rest =
        as_variable (composed bs) v is
        ∙ (rest ∙ sym (instance-untouched b bs (typ_image bs v) (image-free (typ_variable b) bs v tri.1 (λ o. other_variable b v e (variable_occurs (typ_variable b) v is o)))))

-- A variable that has no entry with another image is no set variable.
pub free-absent : (sets : List TypBind) (v : Typ) → AreTriangular sets → IsTypVariable v → typ_image sets v ≡ v → ¬ IsIn v (map typ_variable sets)
free-absent [] v tri is e m = m
free-absent (b ∷ bs) v tri is e m = by (typ_eq (typ_variable b) v) refl e m (free-absent bs v tri.2 is)
  where
    by : (c : Bool) → typ_eq (typ_variable b) v ≡ c → cond c b.image (typ_image bs v) ≡ v → IsIn v (map typ_variable (b ∷ bs)) → (typ_image bs v ≡ v → ¬ IsIn v (map typ_variable bs)) → ⊥
    by true t e m rest = tri.0 (occurs-itself (typ_variable b) b.image (typ_eq-same (typ_variable b) v t ∙ sym e))
    by false t e (inl same) rest = other_variable b v t (sym same)
    by false t e (inr n) rest = rest e n

-- One setting: what occurs neither in its image nor in the type doesn't occur in the type with it.
pub setting-new : (w : Typ) → IsTypVariable w → (b : TypBind) (t : Typ) → (¬ OccursInTyp w b.image) → (¬ OccursInTyp w t) → ¬ OccursInTyp w (typ_instance (typ_image (b ∷ [])) t)
setting-new w is b t image free m =
    let found = typ_variable_of_typ_instance (typ_image (b ∷ [])) w t is m in
    image-free w (b ∷ []) found.0 (image, tt) (λ k. free (subst (λ (T : Typ). OccursInTyp T t) (sym (variable_occurs w found.0 found.1 k)) found.2)) found.3

-- The variable that is set doesn't occur in a type with its setting.
pub setting-away : (b : TypBind) (t : Typ) → (¬ OccursInTyp (typ_variable b) b.image) → ¬ OccursInTyp (typ_variable b) (typ_instance (typ_image (b ∷ [])) t)
setting-away b t image m =
    let found = typ_variable_of_typ_instance (typ_image (b ∷ [])) (typ_variable b) t tt m in
    decided (λ T. ¬ OccursInTyp (typ_variable b) T) (typ_eq (typ_variable b) found.0) b.image found.0 (λ c k. image k) (λ c k. other_variable b found.0 c (variable_occurs (typ_variable b) found.0 found.1 k)) found.3

-- What occurs in no image and not in a type doesn't occur in its instance.
pub instance-new : (w : Typ) → IsTypVariable w → (sets : List TypBind) (t : Typ) → Each (λ c. ¬ OccursInTyp w c.image) sets → (¬ OccursInTyp w t) → ¬ OccursInTyp w (typ_instance (composed sets) t)
instance-new w is [] t each free o = free (subst (OccursInTyp w) (typ_instance-identity t) o)
instance-new w is (b ∷ bs) t each free o =
    instance-new w is bs (typ_instance (typ_image (b ∷ [])) t) each.1 (setting-new w is b t each.0 free) (subst (OccursInTyp w) (sym (typ_instance-again (typ_image (b ∷ [])) (composed bs) t)) o)

-- No set variable occurs in an instance.
pub instance-free : (sets : List TypBind) → AreTriangular sets → (t : Typ) → Each (λ b. ¬ OccursInTyp (typ_variable b) (typ_instance (composed sets) t)) sets
instance-free [] tri t = tt
instance-free (b ∷ bs) tri t = (
  λ o. instance-new (typ_variable b) tt bs (typ_instance (typ_image (b ∷ [])) t) tri.1 (setting-away b t tri.0) (subst (OccursInTyp (typ_variable b)) (sym (typ_instance-again (typ_image (b ∷ [])) (composed bs) t)) o),
  subst (λ (T : Typ). Each (λ c. ¬ OccursInTyp (typ_variable c) T) bs) (typ_instance-again (typ_image (b ∷ [])) (composed bs) t) (instance-free bs tri.2 (typ_instance (typ_image (b ∷ [])) t)),
)

-- One setting more.
pub triangular-snoc : (sets : List TypBind) (b : TypBind) → AreTriangular sets → Each (λ c. ¬ OccursInTyp (typ_variable c) b.image) sets → (¬ OccursInTyp (typ_variable b) b.image) → AreTriangular (sets ++ b ∷ [])
triangular-snoc [] b tri each free = (free, tt, tt)
triangular-snoc (c ∷ cs) b tri each free = (tri.0, each-append (λ d. ¬ OccursInTyp (typ_variable c) d.image) cs (b ∷ []) tri.1 (each.0, tt), triangular-snoc cs b tri.2 each.1 free)

-- Types and settings without fresh variables have none when more names are used.
pub old-later : (index n m : ℕ) (t : Typ) → n ≤ m → IsOld index n t → IsOld index m t
old-later index n m t le old v o = fresh-later index n m v le (old v o)

pub old_pair-later : (index n m : ℕ) (p : TypPair) → n ≤ m → IsOldPair index n p → IsOldPair index m p
old_pair-later index n m p le old = (old-later index n m p.left le old.0, old-later index n m p.right le old.1)

pub old_bind-later : (index n m : ℕ) (b : TypBind) → n ≤ m → IsOldBind index n b → IsOldBind index m b
old_bind-later index n m b le old = record { variable = fresh-later index n m (typ_variable b) le old.variable; image = old-later index n m b.image le old.image }

-- Settings without fresh variables give none.
pub composed-old : (index n : ℕ) (sets : List TypBind) → Each (IsOldBind index n) sets → (x i : ℕ) (s : List ℕ) → ¬ IsFresh index n (TVar x i s) → IsOld index n (composed sets (TVar x i s))
composed-old index n [] each x i s h = variable_is_old index n x i s h
composed-old index n (b ∷ bs) each x i s h =
    let on = λ (t : Typ) (old : IsOld index n t). old-instance index n n (composed bs) (composed-fixed bs) (composed-old index n bs each.1) t old in
    setting-cases (λ T. IsOld index n (typ_instance (composed bs) T)) b.name b.index b.sort b.image (TVar x i s) (λ e. on b.image each.0.image) (on (TVar x i s) (variable_is_old index n x i s h))

pub instance-old : (index n : ℕ) (sets : List TypBind) (t : Typ) → Each (IsOldBind index n) sets → IsOld index n t → IsOld index n (typ_instance (composed sets) t)
instance-old index n sets t each old = old-instance index n n (composed sets) (composed-fixed sets) (composed-old index n sets each) t old

-- One setting more leaves settings tidy.
pub tidy-snoc : (p : Progress) (b : TypBind) (m : ℕ) → IsTidy p → p.next ≤ m → (¬ IsFresh p.index m (typ_variable b)) → IsOld p.index m b.image → Each (λ c. ¬ OccursInTyp (typ_variable c) b.image) p.sets
    → (¬ OccursInTyp (typ_variable b) b.image) → IsTidy (record { sets = p.sets ++ b ∷ []; index = p.index; next = m })
tidy-snoc p b m tidy le variable image each free = record {
  triangular = triangular-snoc p.sets b tidy.triangular each free;
  old = each-append (IsOldBind p.index m) p.sets (b ∷ []) (each_imply (IsOldBind p.index p.next) (IsOldBind p.index m) p.sets (λ c old. old_bind-later p.index p.next m c le old) tidy.old) (record { variable = variable; image = image }, tt);
}

-- The image of a variable, by an entry without fresh variables, has none.
pub image-old : (index n : ℕ) (sets : List TypBind) (v : Typ) → Each (IsOldBind index n) sets → IsOld index n v → IsOld index n (typ_image sets v)
image-old index n [] v each old = old
image-old index n (b ∷ bs) v each old = chosen (IsOld index n) (typ_eq (typ_variable b) v) b.image (typ_image bs v) (λ e. each.0.image) (image-old index n bs v each.1 old)
