-- Substitutions one after the other, maps that set one variable, and types without fresh variables.
use Rattle.std.proofs.Common.{◌≡◌, ◌≢◌, ℕ, ◌≤◌, List, [], ◌∷◌, map, refl, ap, sym, ◌∙◌, arith}
use Rattle.std.specs.Prelude.{if◌then◌else◌}
use Rattle.pure_text.specs.Lists.{Each}
use Rattle.pure_definitions.specs.Types.Typ.{Typ, TFree, TVar, Con, Typs, none, also, typ_eq}
use Rattle.pure_definitions.specs.Types.Order.{Algebra, IsOfSort}
use Rattle.pure_definitions.specs.Terms.Subst.{typ_instance, typs_instance}
use Rattle.pure_definitions.specs.Models.Equality.{typ_eq-same, typ_eq-itself}
use Rattle.pure_definitions.proofs.OrderLaws.{sort_below-itself, of_sort-instance}
use Rattle.pure_definitions.proofs.EntryLemmas.{chosen}
use Rattle.pure_term_laws.specs.LawsOccurs.{IsTypVariable}
use Rattle.pure_term_laws.proofs.OccursLaws.{typ_instances-agree, typ_variable_of_typ_instance}
use Rattle.pure_term_laws.proofs.MapLaws.{typ_instance-again}
use Rattle.pure_tunify.specs.declared.pair.TypPair.{TypPair}
use Rattle.pure_tunify.specs.Unifiers.{IsSubstitution, Equates, IsFresh, IsOld, IsOldPair, AreTogether}
use Rattle.pure_tunify.specs.Steps.{setting, instance_pair}

mutual
  pub typ_instance-nothing_first : (second : Typ → Typ) (t : Typ) → typ_instance (λ v. typ_instance second v) t ≡ typ_instance second t
  typ_instance-nothing_first second (TFree x s) = refl
  typ_instance-nothing_first second (TVar x i s) = refl
  typ_instance-nothing_first second (Con k ts) = ap (Con k) (typs_instance-nothing_first second ts)

  typs_instance-nothing_first : (second : Typ → Typ) (ts : Typs) → typs_instance (λ v. typ_instance second v) ts ≡ typs_instance second ts
  typs_instance-nothing_first second none = refl
  typs_instance-nothing_first second (also t ts) = λ l. also (typ_instance-nothing_first second t l) (typs_instance-nothing_first second ts l)

pub identity_is_substitution : (A : Algebra) → IsSubstitution A (λ v. v)
identity_is_substitution A = record {
  respects = record { fixed = λ x s. sort_below-itself A s; schematic = λ x i s. sort_below-itself A s };
  keeps = λ x s. refl;
}

-- Two substitutions, one after the other, are one.
pub after_is_substitution : (A : Algebra) (first second : Typ → Typ) → IsSubstitution A first → IsSubstitution A second → IsSubstitution A (λ v. typ_instance second (first v))
after_is_substitution A first second f g = record {
  respects = record {
    fixed = λ x s. of_sort-instance A second g.respects (first (TFree x s)) s (f.respects.fixed x s);
    schematic = λ x i s. of_sort-instance A second g.respects (first (TVar x i s)) s (f.respects.schematic x i s);
  };
  keeps = λ x s. ap (typ_instance second) (f.keeps x s) ∙ g.keeps x s;
}

-- what holds of the image if the variable is the one that is set, and of the variable, holds of its image
pub setting-cases : (P : Typ → Type 0) (x i : ℕ) (s : List ℕ) (t v : Typ) → (TVar x i s ≡ v → P t) → P v → P (setting x i s t v)
setting-cases P x i s t v h k = chosen P (typ_eq (TVar x i s) v) t v (λ e. h (typ_eq-same (TVar x i s) v e)) k

pub setting-itself : (x i : ℕ) (s : List ℕ) (t : Typ) → setting x i s t (TVar x i s) ≡ t
setting-itself x i s t = rw (typ_eq-itself (TVar x i s)) refl

pub setting-other : (x i : ℕ) (s : List ℕ) (t v : Typ) → TVar x i s ≢ v → setting x i s t v ≡ v
setting-other x i s t v other = setting-cases (λ T. T ≡ v) x i s t v (λ e. absurd (other e)) refl

pub setting_is_substitution : (A : Algebra) (x i : ℕ) (s : List ℕ) (t : Typ) → IsOfSort A t s → IsSubstitution A (setting x i s t)
setting_is_substitution A x i s t of = record {
  respects = record {
    fixed = λ y q. sort_below-itself A q;
    schematic = λ y j q. setting-cases (λ T. IsOfSort A T q) x i s t (TVar y j q) (λ e. (let sorts : s ≡ q = cc in rw sorts at of)) (sort_below-itself A q);
  };
  keeps = λ y q. refl;
}

-- a map that is changed at one variable
abbrev pub changed : (v image : Typ) → (Typ → Typ) → Typ → Typ
changed v image typs u = if typ_eq v u then image else typs u

pub changed-cases : (P : Typ → Type 0) (v image : Typ) (typs : Typ → Typ) (u : Typ) → (v ≡ u → P image) → P (typs u) → P (changed v image typs u)
changed-cases P v image typs u h k = chosen P (typ_eq v u) image (typs u) (λ e. h (typ_eq-same v u e)) k

pub changed-itself : (v image : Typ) (typs : Typ → Typ) → changed v image typs v ≡ image
changed-itself v image typs = rw (typ_eq-itself v) refl

pub changed_is_substitution : (A : Algebra) (x i : ℕ) (s : List ℕ) (image : Typ) (typs : Typ → Typ) → IsOfSort A image s → IsSubstitution A typs → IsSubstitution A (changed (TVar x i s) image typs)
changed_is_substitution A x i s image typs of sub = record {
  respects = record {
    fixed = λ y q. sub.respects.fixed y q;
    schematic = λ y j q. changed-cases (λ T. IsOfSort A T q) (TVar x i s) image typs (TVar y j q) (λ e. (let sorts : s ≡ q = cc in rw sorts at of)) (sub.respects.schematic y j q);
  };
  keeps = λ y q. sub.keeps y q;
}

-- A type that isn't fresh from n isn't from a later number.
pub fresh-later : (index n m : ℕ) (v : Typ) → n ≤ m → ¬ IsFresh index n v → ¬ IsFresh index m v
fresh-later index n m (TVar x i s) le h f = h (f.0, (let later = f.1 in omega arith))
fresh-later index n m (TFree x s) le h f = f
fresh-later index n m (Con k ts) le h f = f

pub fresh_is_variable : (index n : ℕ) (v : Typ) → IsFresh index n v → IsTypVariable v
fresh_is_variable index n (TVar x i s) f = tt
fresh_is_variable index n (TFree x s) f = tt
fresh_is_variable index n (Con k ts) f = f

pub variable_is_old : (index n x i : ℕ) (s : List ℕ) → ¬ IsFresh index n (TVar x i s) → IsOld index n (TVar x i s)
variable_is_old index n x i s h v o = rw o h

-- an image without fresh variables, of a variable that isn't fresh
old_image : (index n m : ℕ) (first : Typ → Typ) → ((x : ℕ) (s : List ℕ) → first (TFree x s) ≡ TFree x s) → ((x i : ℕ) (s : List ℕ) → ¬ IsFresh index n (TVar x i s) → IsOld index m (first (TVar x i s)))
    → (u : Typ) → IsTypVariable u → ¬ IsFresh index n u → IsOld index m (first u)
old_image index n m first keeps images (TFree x s) is h = rw (keeps x s) (λ v o. rw o (λ f. f))
old_image index n m first keeps images (TVar x i s) is h = images x i s h
old_image index n m first keeps images (Con k ts) is h = absurd is

-- An instance of a type without fresh variables has none.
pub old-instance : (index n m : ℕ) (first : Typ → Typ) → ((x : ℕ) (s : List ℕ) → first (TFree x s) ≡ TFree x s) → ((x i : ℕ) (s : List ℕ) → ¬ IsFresh index n (TVar x i s) → IsOld index m (first (TVar x i s)))
    → (t : Typ) → IsOld index n t → IsOld index m (typ_instance first t)
old-instance index n m first keeps images t old v o f =
    let found = typ_variable_of_typ_instance first v t (fresh_is_variable index m v f) o in
    old_image index n m first keeps images found.0 found.1 (old found.0 found.2) v found.3 f

pub old-instances : (index n m : ℕ) (first : Typ → Typ) → ((x : ℕ) (s : List ℕ) → first (TFree x s) ≡ TFree x s) → ((x i : ℕ) (s : List ℕ) → ¬ IsFresh index n (TVar x i s) → IsOld index m (first (TVar x i s)))
    → (ps : List TypPair) → Each (IsOldPair index n) ps → Each (IsOldPair index m) (map (instance_pair first) ps)
old-instances index n m first keeps images [] old = tt
old-instances index n m first keeps images (p ∷ ps) old =
    ((old-instance index n m first keeps images p.left old.0.0, old-instance index n m first keeps images p.right old.0.1), old-instances index n m first keeps images ps old.1)

-- maps that are together a third agree with it on a type without fresh variables
together-at : (A : Algebra) (index n : ℕ) (first second both : Typ → Typ) → IsSubstitution A first → IsSubstitution A second → IsSubstitution A both → AreTogether index n first second both
    → (u : Typ) → IsTypVariable u → ¬ IsFresh index n u → typ_instance second (first u) ≡ both u
together-at A index n first second both f g b h (TFree x s) is new = (ap (typ_instance second) (f.keeps x s) ∙ g.keeps x s) ∙ sym (b.keeps x s)
together-at A index n first second both f g b h (TVar x i s) is new = h x i s new
together-at A index n first second both f g b h (Con k ts) is new = absurd is

pub together : (A : Algebra) (index n : ℕ) (first second both : Typ → Typ) → IsSubstitution A first → IsSubstitution A second → IsSubstitution A both → AreTogether index n first second both
    → (t : Typ) → IsOld index n t → typ_instance second (typ_instance first t) ≡ typ_instance both t
together A index n first second both f g b h t old =
    typ_instance-again first second t
    ∙ typ_instances-agree (λ v. typ_instance second (first v)) both t (λ v is o. together-at A index n first second both f g b h v is (old v o))

pub equates-forth : (A : Algebra) (index n : ℕ) (first second both : Typ → Typ) → IsSubstitution A first → IsSubstitution A second → IsSubstitution A both → AreTogether index n first second both
    → (ps : List TypPair) → Each (IsOldPair index n) ps → Each (Equates both) ps → Each (Equates second) (map (instance_pair first) ps)
equates-forth A index n first second both f g b h [] old e = tt
equates-forth A index n first second both f g b h (p ∷ ps) old e = (
  together A index n first second both f g b h p.left old.0.0 ∙ (e.0 ∙ sym (together A index n first second both f g b h p.right old.0.1)),
  equates-forth A index n first second both f g b h ps old.1 e.1,
)

pub equates-back : (first second : Typ → Typ) (ps : List TypPair) → Each (Equates second) (map (instance_pair first) ps) → Each (Equates (λ v. typ_instance second (first v))) ps
equates-back first second [] e = tt
equates-back first second (p ∷ ps) e = (sym (typ_instance-again first second p.left) ∙ (e.0 ∙ typ_instance-again first second p.right), equates-back first second ps e.1)

pub equates-nothing_first : (second : Typ → Typ) (ps : List TypPair) → Each (Equates second) ps → Each (Equates (λ v. typ_instance second v)) ps
equates-nothing_first second [] e = tt
equates-nothing_first second (p ∷ ps) e = (typ_instance-nothing_first second p.left ∙ (e.0 ∙ sym (typ_instance-nothing_first second p.right)), equates-nothing_first second ps e.1)
