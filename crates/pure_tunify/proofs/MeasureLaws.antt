-- Types that are measured part by part, and variables whose measures are known.
use Rattle.std.proofs.Common.{◌≡◌, ℕ, ◌+◌, ◌-◌, ◌<◌, ◌≤◌, max, List, [], ◌∷◌, map, length, get_or, take, take_all, drop, drop-cons, suc, Some, refl, ap, sym, subst, ◌∙◌, arith, Bool, true, false, cond}
use Rattle.std.specs.BTreeMap.{BTreeMap, insert_entry, is_at}
use Rattle.std.specs.Map.{lookup}
use Rattle.std.specs.Ordering.{match_ordering, is_eq}
use Rattle.std.specs.declared.cmp.Ordering.{Ordering}
use Rattle.std.specs.declared.cmp.Ordering.TheVariants.{Less, Equal, Greater}
use Rattle.std.proofs.lemmas.List.{length-map, get_or-map}
use Rattle.pure_text.specs.Lists.{IsIn, Each}
use Rattle.pure_text.proofs.ListLaws.{read_in}
use Rattle.pure_definitions.specs.Types.Typ.{Typ, TFree, TVar, Con, Typs, typs_of, typs_size, typs_depth}
use Rattle.pure_definitions.specs.Terms.Limits.{IsWithinTyp}
use Rattle.pure_definitions.specs.Terms.Subst.{TypBind, IsTypMap, typ_variable, typ_instance, typs_instance}
use Rattle.pure_definitions.specs.Models.Equality.{typ_eq-same}
use Rattle.pure_definitions.specs.Models.Comparison.{typ_cmp, typ_cmp-ties}
use Rattle.pure_definitions.proofs.EntryLemmas.{typ_image-entry}
use Rattle.pure_definitions.proofs.InstanceLemmas.{typs_instance-of}
use Rattle.pure_definitions.proofs.TypsLemmas.{typs_size-take, typs_depth-take, typs_size-take-le, typs_depth-take-le}
use Rattle.pure_term_laws.specs.LawsOccurs.{IsTypVariable}
use Rattle.pure_tunify.specs.declared.measure.Measure.{Measure}
use Rattle.pure_tunify.specs.Settings.{composed, Progress, IsTidy}
use Rattle.pure_tunify.specs.Working.{HasImagesWithin}
use Rattle.pure_tunify.specs.Measures.{IsMeasured, IsSmallMeasure, with_part, AreMeasures, IsKnownMore}
use Rattle.pure_tunify.proofs.WrittenLaws.{leaf_same, image_same, images_within, image_beyond}

-- Some of a constructor's arguments are measured.
pub record HasMeasured (us : List Typ) (i : ℕ) (m : Measure) : Type 0 where
  pub size : m.size ≡ 1 + typs_size (typs_of (take i us))
  pub depth : m.depth ≡ 1 + typs_depth (typs_of (take i us))
  pub small : IsSmallMeasure m

-- One node alone.
pub measured_start : (us : List Typ) → HasMeasured us 0 (record { size = 1; depth = 1 })
measured_start us = record { size = refl; depth = refl; small = (omega arith, omega arith) }

leaf_measured : (v : Typ) → IsTypVariable v → IsMeasured v (record { size = 1; depth = 1 })
leaf_measured (TFree x s) is = record { size = refl; depth = refl; within = record { size = omega arith; depth = omega arith } }
leaf_measured (TVar x i s) is = record { size = refl; depth = refl; within = record { size = omega arith; depth = omega arith } }
leaf_measured (Con k ts) is = absurd is

pub unset_measured : (sets : List TypBind) (v : Typ) → IsTypVariable v → (¬ IsIn v (map typ_variable sets)) → IsMeasured (typ_instance (composed sets) v) (record { size = 1; depth = 1 })
unset_measured sets v is absent = subst (λ (t : Typ). IsMeasured t (record { size = 1; depth = 1 })) (sym (leaf_same sets v is absent)) (leaf_measured v is)

-- One argument more.
module _ (image : Typ → Typ) (ts : List Typ) (i : ℕ) (t : Typ) (whole : Measure) (h : HasMeasured (map (typ_instance image) ts) i whole) (k : i < length ts) (e : t ≡ get_or ts i t) where
  here : i < length (map (typ_instance image) ts)
  here = rw length-map k

  read : typ_instance image t ≡ get_or (map (typ_instance image) ts) i (typ_instance image t)
  read = ap (typ_instance image) e ∙ sym (get_or-map (typ_instance image) ts i t (typ_instance image t) k)

  pub measured_more : (part more : Measure) → IsMeasured (typ_instance image t) part → (more ≡ with_part whole part) × IsSmallMeasure more → HasMeasured (map (typ_instance image) ts) (i + 1) more
  measured_more part more p joined =
      let size = typs_size-take (map (typ_instance image) ts) i (typ_instance image t) here read in
      let depth = typs_depth-take (map (typ_instance image) ts) i (typ_instance image t) here read in
      let sizes : more.size ≡ whole.size + part.size = (λ l. (joined.0 l).size) in
      let depths : more.depth ≡ max whole.depth (part.depth + 1) = (λ l. (joined.0 l).depth) in
      let whole_size = h.size in
      let whole_depth = h.depth in
      let part_size = p.size in
      let part_depth = p.depth in
      record { size = omega arith; depth = omega arith; small = joined.1 }

  -- A part beyond the limits, and a whole that comes to be beyond them.
  pub part_beyond : (c : ℕ) → (¬ IsWithinTyp (typ_instance image t)) → ¬ IsWithinTyp (Con c (typs_instance image (typs_of ts)))
  part_beyond c none w =
      let size = typs_size-take (map (typ_instance image) ts) i (typ_instance image t) here read in
      let depth = typs_depth-take (map (typ_instance image) ts) i (typ_instance image t) here read in
      let sizes = typs_size-take-le (map (typ_instance image) ts) (i + 1) in
      let depths = typs_depth-take-le (map (typ_instance image) ts) (i + 1) in
      let within : IsWithinTyp (Con c (typs_of (map (typ_instance image) ts))) = subst (λ (us : Typs). IsWithinTyp (Con c us)) (typs_instance-of image ts) w in
      let most = within.size in
      let deepest = within.depth in
      none (record { size = omega arith; depth = omega arith })

  pub whole_beyond : (c : ℕ) (part : Measure) → IsMeasured (typ_instance image t) part → (¬ IsSmallMeasure (with_part whole part)) → ¬ IsWithinTyp (Con c (typs_instance image (typs_of ts)))
  whole_beyond c part p none w =
      let size = typs_size-take (map (typ_instance image) ts) i (typ_instance image t) here read in
      let depth = typs_depth-take (map (typ_instance image) ts) i (typ_instance image t) here read in
      let sizes = typs_size-take-le (map (typ_instance image) ts) (i + 1) in
      let depths = typs_depth-take-le (map (typ_instance image) ts) (i + 1) in
      let within : IsWithinTyp (Con c (typs_of (map (typ_instance image) ts))) = subst (λ (us : Typs). IsWithinTyp (Con c us)) (typs_instance-of image ts) w in
      let most = within.size in
      let deepest = within.depth in
      let whole_size = h.size in
      let whole_depth = h.depth in
      let part_size = p.size in
      let part_depth = p.depth in
      none (omega arith, omega arith)

-- All arguments.
pub measured_all : (image : Typ → Typ) (ts : List Typ) (i c : ℕ) (m : Measure) → HasMeasured (map (typ_instance image) ts) i m → length ts ≤ i → IsMeasured (Con c (typs_instance image (typs_of ts))) m
measured_all image ts i c m h full =
    let all = take_all i (map (typ_instance image) ts) (rw length-map full) in
    let size = rw all at h.size in
    let depth = rw all at h.depth in
    let small = h.small in
    rw typs_instance-of (record { size = size; depth = depth; within = record { size = (let most = small.0 in omega arith); depth = (let most = small.1 in omega arith) } })

-- What is read of a list whose entries have a property, and an entry that is put into it.
module _ (P : Typ → Measure → Type 0) where
  pub known_at : (es : List (Typ × Measure)) (v : Typ) (m : Measure) → Each (λ e. P e.0 e.1) es → Some m ≡ lookup (is_at (typ_cmp v)) es → P v m
  known_at [] v m each found = absurd (cc)
  known_at (e ∷ es) v m each found = by (is_at (typ_cmp v) e.0) refl (known_at es v m each.1) found
    where
      by : (b : Bool) → is_at (typ_cmp v) e.0 ≡ b → (Some m ≡ lookup (is_at (typ_cmp v)) es → P v m) → Some m ≡ cond b (Some e.1) (lookup (is_at (typ_cmp v)) es) → P v m
      by true t rest is = subst (λ (w : Typ). P w m) (sym (typ_eq-same v e.0 (typ_cmp-ties v e.0 ∙ t))) (subst (P e.0) (let same : e.1 ≡ m = cc in same) each.0)
      by false t rest is = rest is

  known_put : (es : List (Typ × Measure)) (v : Typ) (m : Measure) → P v m → Each (λ e. P e.0 e.1) es → Each (λ e. P e.0 e.1) (insert_entry typ_cmp es v m)
  known_put [] v m holds each = (holds, tt)
  known_put (e ∷ es) v m holds each = by (typ_cmp v e.0) refl (known_put es v m holds each.1)
    where
      by : (o : Ordering) → typ_cmp v e.0 ≡ o → Each (λ d. P d.0 d.1) (insert_entry typ_cmp es v m) → Each (λ d. P d.0 d.1) (match_ordering o ((v, m) ∷ e ∷ es) ((e.0, m) ∷ es) (e ∷ insert_entry typ_cmp es v m))
      by Less t rest = (holds, each)
      by Equal t rest = (subst (λ (w : Typ). P w m) (typ_eq-same v e.0 (typ_cmp-ties v e.0 ∙ ap is_eq t)) holds, each.1)
      by Greater t rest = (each.0, rest)

-- One turn: the last entry that isn't measured yet.
module _ (p : Progress) (items : List TypBind) (left : ℕ) (b : TypBind) (tidy : IsTidy p) (distinct : IsTypMap p.sets) (are : items ≡ p.sets) (some : 0 < left) (short : left ≤ length p.sets) (at : b ≡ get_or items (left - 1) b) where
  last : left - 1 < length p.sets
  last = omega arith

  last_read : b ≡ get_or p.sets (left - 1) b
  last_read = at ∙ ap (λ xs. get_or xs (left - 1) b) are

  there : IsIn b p.sets
  there = read_in p.sets (left - 1) b last last_read

  pub turn_beyond : ¬ IsWithinTyp (typ_instance (composed p.sets) b.image) → ¬ HasImagesWithin p.sets
  turn_beyond = image_beyond p tidy distinct b there

  pub turn_known : (m : Measure) (old new : BTreeMap Typ Measure) → IsMeasured (typ_instance (composed p.sets) b.image) m → IsKnownMore (typ_variable b) m old new → AreMeasures p.sets old → AreMeasures p.sets new
  turn_known m old new is grown each = subst (Each (λ e. IsMeasured (typ_instance (composed p.sets) e.0) e.1)) (sym grown) (known_put (λ v m. IsMeasured (typ_instance (composed p.sets) v) m) old.entries (typ_variable b) m own each)
    where
      own : IsMeasured (typ_instance (composed p.sets) (typ_variable b)) m
      own = subst (λ (t : Typ). IsMeasured t m) (image_same p (typ_variable b) b.image tidy tt (typ_image-entry p.sets b distinct there)) is

  pub turn_within : IsWithinTyp (typ_instance (composed p.sets) b.image) → Each (λ c. IsWithinTyp (typ_instance (composed p.sets) c.image)) (drop left p.sets) → Each (λ c. IsWithinTyp (typ_instance (composed p.sets) c.image)) (drop (left - 1) p.sets)
  turn_within within each = subst (Each (λ c. IsWithinTyp (typ_instance (composed p.sets) c.image))) (sym rest_here) (within, each)
    where
      next_left : suc (left - 1) ≡ left
      next_left = omega arith

      rest_here : drop (left - 1) p.sets ≡ b ∷ drop left p.sets
      rest_here = drop-cons p.sets (left - 1) b last ∙ rw (← last_read, next_left) refl

pub all_within : (p : Progress) (left : ℕ) → IsTidy p → left ≤ 0 → Each (λ c. IsWithinTyp (typ_instance (composed p.sets) c.image)) (drop left p.sets) → HasImagesWithin p.sets
all_within p left tidy none each = images_within p tidy (subst (λ (n : ℕ). Each (λ c. IsWithinTyp (typ_instance (composed p.sets) c.image)) (drop n p.sets)) (let zero : left ≡ 0 = omega arith in zero) each)
