-- Variables that are set one after the other, as unification sets them.
use Rattle.std.specs.Prelude.{ℕ, ◌≤◌, ◌^◌, List, [], ◌∷◌}
use Rattle.pure_text.specs.Lists.{Each}
use Rattle.pure_definitions.specs.Types.Typ.{Typ, TVar}
use Rattle.pure_definitions.specs.Types.Occurs.{OccursInTyp}
use Rattle.pure_definitions.specs.Terms.Subst.{TypBind, typ_variable, typ_image, typ_instance}
use Rattle.pure_definitions.specs.Terms.Limits.{IsWithinTyp}
use Rattle.pure_tunify.specs.Unifiers.{IsFresh, IsOld}

-- the map that sets the variables of a list, one after the other
abbrev pub composed : List TypBind → Typ → Typ
composed [] v = v
composed (b ∷ bs) v = typ_instance (composed bs) (typ_image (b ∷ []) v)

-- an entry that sets a variable
abbrev pub bind : (name index : ℕ) → (sort : List ℕ) → Typ → TypBind
bind x i s t = record { name = x; index = i; sort = s; image = t }

-- No variable that is set occurs in its own image or in a later one.
abbrev pub AreTriangular : List TypBind → Type 0
AreTriangular [] = Unit {0}
AreTriangular (b ∷ bs) = (¬ OccursInTyp (typ_variable b) b.image) × Each (λ c. ¬ OccursInTyp (typ_variable b) c.image) bs × AreTriangular bs

-- The variable that is set isn't fresh, and no fresh variable occurs in its image.
pub record IsOldBind (index from : ℕ) (b : TypBind) : Type 0 where
  pub variable : ¬ IsFresh index from (typ_variable b)
  pub image : IsOld index from b.image

-- The images of the variables are within the limits of types, and the first name that isn't used is at most 2^31.
pub record AreWithinLimits (sets : List TypBind) (next : ℕ) : Type 0 where
  pub images : (x i : ℕ) (s : List ℕ) → IsWithinTyp (composed sets (TVar x i s))
  pub names : next ≤ 2 ^ 31

-- how far unification has come: the variables that are set, the index of fresh variables, and the first name that isn't used
pub record Progress : Type 0 where
  pub sets : List TypBind
  pub index : ℕ
  pub next : ℕ

-- Set variables don't occur where they are replaced, and neither they nor their images have fresh ones.
pub record IsTidy (p : Progress) : Type 0 where
  pub triangular : AreTriangular p.sets
  pub old : Each (IsOldBind p.index p.next) p.sets
