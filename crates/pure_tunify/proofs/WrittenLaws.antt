-- Types with all set variables replaced, and the settings written out as one map.
use Rattle.std.proofs.Common.{◌≡◌, ℕ, ◌-◌, ◌<◌, ◌≤◌, List, [], ◌∷◌, ◌++◌, map, length, take, take_all, Option, Some, None, inl, inr, ◌⊎◌, refl, ap, sym, subst, ◌∙◌, arith, Bool, true, false, cond}
use Rattle.std.proofs.lemmas.List.{append_assoc}
use Rattle.std.proofs.Math.Nat.{le_trans}
use Rattle.pure_text.specs.Lists.{IsIn, Each, AnyOf}
use Rattle.pure_text.proofs.ListLaws.{each_at, any_decided, any_some, in_split, in-append_right}
use Rattle.pure_definitions.specs.Types.Typ.{Typ, TFree, TVar, Con, typ_eq, typ_size, typ_depth}
use Rattle.pure_definitions.specs.Types.Occurs.{OccursInTyp}
use Rattle.pure_definitions.specs.Terms.Subst.{TypBind, IsTypMap, typ_variable, typ_image, typ_instance}
use Rattle.pure_definitions.specs.Terms.Limits.{Leaves, IsWithinTyp}
use Rattle.pure_definitions.proofs.EntryLemmas.{typ_image-entry}
use Rattle.pure_definitions.proofs.TypsLemmas.{occurs-itself}
use Rattle.pure_term_laws.specs.LawsOccurs.{IsTypVariable}
use Rattle.pure_term_laws.proofs.OccursLaws.{typ_instances-agree}
use Rattle.pure_term_laws.proofs.MapLaws.{typ_instance-again}
use Rattle.pure_tunify.specs.declared.resolve.Resolved.{Resolved}
use Rattle.pure_tunify.specs.Unifiers.{IsOld}
use Rattle.pure_tunify.specs.Procedure.{IsSchematic}
use Rattle.pure_tunify.specs.Settings.{composed, AreTriangular, Progress, IsTidy}
use Rattle.pure_tunify.specs.Working.{IsPutIn, IsResolved, HasImagesWithin, IsSmall}
use Rattle.pure_tunify.proofs.DecidedLaws.{same_or_not}
use Rattle.pure_tunify.proofs.SizeLaws.{size-grows, depth-grows}
use Rattle.pure_tunify.proofs.SettingLaws.{other_variable, as_variable, composed-image, composed-absent, image-old}

-- No fixed variable is set.
pub fixed_absent : (sets : List TypBind) (x : ℕ) (s : List ℕ) → ¬ IsIn (TFree x s) (map typ_variable sets)
fixed_absent [] x s m = m
fixed_absent (b ∷ bs) x s (inl e) = other b.name b.index x b.sort s e
  where
    other : (y j x : ℕ) (r s : List ℕ) → TFree x s ≡ TVar y j r → ⊥
    other y j x r s e = cc
fixed_absent (b ∷ bs) x s (inr m) = fixed_absent bs x s m

-- A variable that isn't schematic isn't set.
pub not_schematic_absent : (sets : List TypBind) (t : Typ) → ¬ IsSchematic t → IsTypVariable t → ¬ IsIn t (map typ_variable sets)
not_schematic_absent sets (TFree x s) other is = fixed_absent sets x s
not_schematic_absent sets (TVar x i s) other is = absurd (other tt)
not_schematic_absent sets (Con k ts) other is = absurd is

-- A set variable and its image have one instance.
pub image_same : (p : Progress) (t u : Typ) → IsTidy p → IsTypVariable t → typ_image p.sets t ≡ u → typ_instance (composed p.sets) u ≡ typ_instance (composed p.sets) t
image_same p t u tidy is e = ap (typ_instance (composed p.sets)) (sym e) ∙ (sym (composed-image p.sets t tidy.triangular is) ∙ sym (as_variable (composed p.sets) t is))

pub image_old : (p : Progress) (t u : Typ) → IsTidy p → typ_image p.sets t ≡ u → IsOld p.index p.next t → IsOld p.index p.next u
image_old p t u tidy e old = subst (IsOld p.index p.next) e (image-old p.index p.next p.sets t tidy.old old)

-- A type that doesn't fit with the images as they were set doesn't with all set variables replaced.
pub leaves_grow : (p : Progress) (t : Typ) (left room : ℕ) → IsTidy p → Leaves left room (typ_size (typ_instance (typ_image p.sets) t)) (typ_depth (typ_instance (typ_image p.sets) t)) None
    → Leaves left room (typ_size (typ_instance (composed p.sets) t)) (typ_depth (typ_instance (composed p.sets) t)) None
leaves_grow p t left room tidy h fits =
    let whole : typ_instance (composed p.sets) (typ_instance (typ_image p.sets) t) ≡ typ_instance (composed p.sets) t = typ_instance-again (typ_image p.sets) (composed p.sets) t
    ∙ typ_instances-agree (λ v. typ_instance (composed p.sets) (typ_image p.sets v)) (composed p.sets) t (λ v is o. sym (composed-image p.sets v tidy.triangular is)) in
    let size = subst (λ (u : Typ). typ_size (typ_instance (typ_image p.sets) t) ≤ typ_size u) whole (size-grows (composed p.sets) (typ_instance (typ_image p.sets) t)) in
    let depth = subst (λ (u : Typ). typ_depth (typ_instance (typ_image p.sets) t) ≤ typ_depth u) whole (depth-grows (composed p.sets) (typ_instance (typ_image p.sets) t)) in
    let deep : room < typ_depth (typ_instance (typ_image p.sets) t) = h (le_trans size fits) in
    omega arith

-- A variable that isn't set is its own instance, and one node.
pub leaf_same : (sets : List TypBind) (top : Typ) → IsTypVariable top → (¬ IsIn top (map typ_variable sets)) → typ_instance (composed sets) top ≡ top
leaf_same sets top is absent = as_variable (composed sets) top is ∙ composed-absent sets top is absent

leaf_leaves : (top : Typ) (left room : ℕ) → IsTypVariable top → (left ≡ 0 → ⊥) → (room ≡ 0 → ⊥) → Leaves left room (typ_size top) (typ_depth top) (Some (left - 1))
leaf_leaves (TFree x s) left room is a b = (omega arith, omega arith)
leaf_leaves (TVar x i s) left room is a b = (omega arith, omega arith)
leaf_leaves (Con k ts) left room is a b = absurd is

pub leaf_resolved : (sets : List TypBind) (t top u : Typ) (left room : ℕ) → typ_instance (composed sets) top ≡ typ_instance (composed sets) t → IsTypVariable top → (¬ IsIn top (map typ_variable sets)) → u ≡ top → (left ≡ 0 → ⊥) → (room ≡ 0 → ⊥)
    → (u ≡ typ_instance (composed sets) t) × Leaves left room (typ_size (typ_instance (composed sets) t)) (typ_depth (typ_instance (composed sets) t)) (Some (left - 1))
leaf_resolved sets t top u left room same is absent e a b =
    let whole : top ≡ typ_instance (composed sets) t = sym (leaf_same sets top is absent) ∙ same in
    (e ∙ whole, subst (λ (T : Typ). Leaves left room (typ_size T) (typ_depth T) (Some (left - 1))) whole (leaf_leaves top left room is a b))

-- What is put in as it stands is resolved, where no variable of it is set.
pub put_resolved : (sets : List TypBind) (t top : Typ) (left room : ℕ) (o : Option Resolved) → typ_instance (composed sets) top ≡ typ_instance (composed sets) t → typ_instance (composed sets) top ≡ top → IsPutIn top left room o → IsResolved sets t left room o
put_resolved sets t top left room None same stays h = subst (λ (T : Typ). Leaves left room (typ_size T) (typ_depth T) None) (sym stays ∙ same) h
put_resolved sets t top left room (Some r) same stays h = subst (λ (T : Typ). (r.typ ≡ T) × Leaves left room (typ_size T) (typ_depth T) (Some r.left)) (sym stays ∙ same) h

-- the entry with its image written out
abbrev pub written_entry : List TypBind → TypBind → TypBind
written_entry sets b = record { name = b.name; index = b.index; sort = b.sort; image = typ_instance (composed sets) b.image }

-- What the entries written out make of a variable: an entry's image written out, or itself, where it has none.
written_image : (sets bs : List TypBind) (v : Typ)
    → ((b : TypBind) × IsIn b bs × (typ_image bs v ≡ b.image) × (typ_image (map (written_entry sets) bs) v ≡ typ_instance (composed sets) b.image)) ⊎ ((¬ IsIn v (map typ_variable bs)) × (typ_image (map (written_entry sets) bs) v ≡ v))
written_image sets [] v = inr (λ m. m, refl)
written_image sets (b ∷ bs) v = by (typ_eq (typ_variable b) v) refl (written_image sets bs v)
  where
    by : (c : Bool) → typ_eq (typ_variable b) v ≡ c
        → ((d : TypBind) × IsIn d bs × (typ_image bs v ≡ d.image) × (typ_image (map (written_entry sets) bs) v ≡ typ_instance (composed sets) d.image)) ⊎ ((¬ IsIn v (map typ_variable bs)) × (typ_image (map (written_entry sets) bs) v ≡ v))
        → ((d : TypBind) × IsIn d (b ∷ bs) × (cond c b.image (typ_image bs v) ≡ d.image) × (cond c (typ_instance (composed sets) b.image) (typ_image (map (written_entry sets) bs) v) ≡ typ_instance (composed sets) d.image))
        ⊎ ((¬ IsIn v (map typ_variable (b ∷ bs))) × (cond c (typ_instance (composed sets) b.image) (typ_image (map (written_entry sets) bs) v) ≡ v))
    by true e rest = inl (b, inl refl, refl, refl)
    by false e (inl found) = inl (found.0, inr found.1, found.2, found.3)
    by false e (inr absent) = inr (λ m. elim m [ inl same ↦ other_variable b v e (sym same) | inr n ↦ absent.0 n ], absent.1)

module _ (p : Progress) (tidy : IsTidy p) where
  pub images_within : Each (λ b. IsWithinTyp (typ_instance (composed p.sets) b.image)) p.sets → HasImagesWithin p.sets
  images_within each x i s = by (written_image p.sets p.sets (TVar x i s))
    where
      by : ((b : TypBind) × IsIn b p.sets × (typ_image p.sets (TVar x i s) ≡ b.image) × (typ_image (map (written_entry p.sets) p.sets) (TVar x i s) ≡ typ_instance (composed p.sets) b.image))
          ⊎ ((¬ IsIn (TVar x i s) (map typ_variable p.sets)) × (typ_image (map (written_entry p.sets) p.sets) (TVar x i s) ≡ TVar x i s)) → IsWithinTyp (composed p.sets (TVar x i s))
      by (inl found) = subst IsWithinTyp (ap (typ_instance (composed p.sets)) (sym found.2) ∙ sym (composed-image p.sets (TVar x i s) tidy.triangular tt)) (each_at (λ b. IsWithinTyp (typ_instance (composed p.sets) b.image)) p.sets each found.0 found.1)
      by (inr absent) = subst IsWithinTyp (sym (composed-absent p.sets (TVar x i s) tt absent.0)) (record { size = omega arith; depth = omega arith })

  -- An image beyond the limits.
  pub image_beyond : IsTypMap p.sets → (b : TypBind) → IsIn b p.sets → ¬ IsWithinTyp (typ_instance (composed p.sets) b.image) → ¬ HasImagesWithin p.sets
  image_beyond distinct b m beyond within =
      beyond (subst IsWithinTyp (composed-image p.sets (typ_variable b) tidy.triangular tt ∙ ap (typ_instance (composed p.sets)) (typ_image-entry p.sets b distinct m)) (within b.name b.index b.sort))

-- A variable is within the limits.
leaf_within : (v : Typ) → IsTypVariable v → IsWithinTyp v
leaf_within (TFree x s) is = record { size = omega arith; depth = omega arith }
leaf_within (TVar x i s) is = record { size = omega arith; depth = omega arith }
leaf_within (Con k ts) is = absurd is

pub has_entry : (sets : List TypBind) (v : Typ) → IsIn v (map typ_variable sets) → AnyOf (λ b. typ_variable b ≡ v) sets
has_entry [] v m = m
has_entry (b ∷ bs) v (inl e) = inl (sym e)
has_entry (b ∷ bs) v (inr m) = inr (has_entry bs v m)

-- No variable that was set before occurs in an image.
set_before : (xs : List TypBind) (b : TypBind) (ys : List TypBind) (c : TypBind) → AreTriangular (xs ++ b ∷ ys) → IsIn c xs → ¬ OccursInTyp (typ_variable c) b.image
set_before [] b ys c tri m = absurd m
set_before (x ∷ xs) b ys c tri (inl e) = subst (λ (d : TypBind). ¬ OccursInTyp (typ_variable d) b.image) (sym e) (each_at (λ d. ¬ OccursInTyp (typ_variable x) d.image) (xs ++ b ∷ ys) tri.1 b (in-append_right b xs (b ∷ ys) (inl refl)))
set_before (x ∷ xs) b ys c tri (inr m) = set_before xs b ys c tri.2 m

module _ (p : Progress) (tidy : IsTidy p) (distinct : IsTypMap p.sets) where
  -- An image that is a variable is a later entry's, or stays.
  variable_within : (front : List TypBind) (b : TypBind) (later : List TypBind) → p.sets ≡ front ++ b ∷ later → Each (λ c. IsWithinTyp (typ_instance (composed p.sets) c.image)) later → IsTypVariable b.image → IsWithinTyp (typ_instance (composed p.sets) b.image)
  variable_within front b later whole rest is = by (any_decided (λ c. typ_variable c ≡ b.image) (λ c. same_or_not (typ_variable c) b.image) p.sets)
    where
      triangular : AreTriangular (front ++ b ∷ later)
      triangular = subst AreTriangular whole tidy.triangular

      entry : (c : TypBind) → IsIn c p.sets → typ_variable c ≡ b.image → typ_instance (composed p.sets) c.image ≡ typ_instance (composed p.sets) b.image
      entry c m e =
          ap (typ_instance (composed p.sets)) (sym (typ_image-entry p.sets c distinct m))
          ∙ (sym (composed-image p.sets (typ_variable c) tidy.triangular tt) ∙ ap (typ_instance (composed p.sets)) e)

      behind_front : (c : TypBind) → IsIn c p.sets → typ_variable c ≡ b.image → IsIn c front ⊎ IsIn c (b ∷ later) → IsWithinTyp (typ_instance (composed p.sets) b.image)
      behind_front c m e (inl before) = absurd (set_before front b later c triangular before (occurs-itself (typ_variable c) b.image e))
      behind_front c m e (inr (inl same)) = absurd (own front triangular (occurs-itself (typ_variable b) b.image (subst (λ (d : TypBind). typ_variable d ≡ b.image) same e)))
        where
          own : (xs : List TypBind) → AreTriangular (xs ++ b ∷ later) → ¬ OccursInTyp (typ_variable b) b.image
          own [] tri = tri.0
          own (x ∷ xs) tri = own xs tri.2
      behind_front c m e (inr (inr after)) = subst IsWithinTyp (entry c m e) (each_at (λ c. IsWithinTyp (typ_instance (composed p.sets) c.image)) later rest c after)

      by : AnyOf (λ c. typ_variable c ≡ b.image) p.sets ⊎ ¬ AnyOf (λ c. typ_variable c ≡ b.image) p.sets → IsWithinTyp (typ_instance (composed p.sets) b.image)
      by (inl found) =
          let c = any_some (λ c. typ_variable c ≡ b.image) p.sets found in
          behind_front c.0 c.1 c.2 (in_split c.0 front (b ∷ later) (subst (IsIn c.0) whole c.1))
      by (inr none) = subst IsWithinTyp (sym (leaf_same p.sets b.image is (λ m. none (has_entry p.sets b.image m)))) (leaf_within b.image is)

  all_within : (front later : List TypBind) → p.sets ≡ front ++ later → Each (λ b. IsSmall p.sets b.image) later → Each (λ b. IsWithinTyp (typ_instance (composed p.sets) b.image)) later
  all_within front [] whole each = tt
  all_within front (b ∷ later) whole each =
      let rest = all_within (front ++ b ∷ []) later (whole ∙ sym (append_assoc front (b ∷ []) later)) each.1 in
      (elim each.0 [ inl is ↦ variable_within front b later whole rest is | inr within ↦ within ], rest)

-- All images are within the limits.
pub images_all : (p : Progress) (items : List TypBind) (i : ℕ) → IsTidy p → IsTypMap p.sets → items ≡ p.sets → length items ≤ i → Each (λ b. IsSmall p.sets b.image) (take i items) → HasImagesWithin p.sets
images_all p items i tidy distinct same full each = images_within p tidy (all_within p tidy distinct [] p.sets refl (subst (Each (λ b. IsSmall p.sets b.image)) (take_all i items full ∙ same) each))

pub leaf_left : (sets : List TypBind) (t top : Typ) (left room : ℕ) → typ_instance (composed sets) top ≡ typ_instance (composed sets) t → IsTypVariable top → (¬ IsIn top (map typ_variable sets)) → (left ≡ 0 → ⊥) → (room ≡ 0 → ⊥)
    → Leaves left room (typ_size (typ_instance (composed sets) t)) (typ_depth (typ_instance (composed sets) t)) (Some (left - 1))
leaf_left sets t top left room same is absent a b = (leaf_resolved sets t top top left room same is absent refl a b).1
