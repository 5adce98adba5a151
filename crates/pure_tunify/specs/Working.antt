-- What the parts of the program do to the settings: a type in which all set variables are replaced, a variable that is set, and pairs that are left of a pair.
use Rattle.std.specs.Prelude.{◌≡◌, ◌⊎◌, ℕ, ◌-◌, ◌<◌, ◌≤◌, List, [], ◌∷◌, ◌++◌, map, reverse, Option, Some, None}
use Rattle.pure_text.specs.Lists.{IsIn, Each}
use Rattle.pure_definitions.specs.Types.Typ.{Typ, TFree, TVar, Con, typs_of, typ_size, typ_depth}
use Rattle.pure_definitions.specs.Types.Occurs.{OccursInTyp}
use Rattle.pure_definitions.specs.Types.Order.{Algebra}
use Rattle.pure_definitions.specs.Terms.Subst.{TypBind, typ_variable, typ_image, typ_instance}
use Rattle.pure_definitions.specs.Terms.Limits.{Leaves, IsWithinTyp}
use Rattle.pure_term_laws.specs.LawsOccurs.{IsTypVariable}
use Rattle.pure_tunify.specs.declared.pair.TypPair.{TypPair}
use Rattle.pure_tunify.specs.declared.resolve.Resolved.{Resolved}
use Rattle.pure_tunify.specs.Unifiers.{IsFresh, IsOld}
use Rattle.pure_tunify.specs.Asks.{HasNoInstance}
use Rattle.pure_tunify.specs.Steps.{pair, instance_pair}
use Rattle.pure_tunify.specs.Settings.{composed, bind, Progress, IsTidy}
use Rattle.pure_tunify.specs.Procedure.{sooner, place_of, Narrows, Equalises, Blocks}

-- The type, and the room that it leaves; none exactly where it doesn't fit.
abbrev pub IsPutIn : Typ → (left room : ℕ) → Option Resolved → Type 0
IsPutIn t left room None = Leaves left room (typ_size t) (typ_depth t) None
IsPutIn t left room (Some r) = (r.typ ≡ t) × Leaves left room (typ_size t) (typ_depth t) (Some r.left)

-- a constructor applied to one type twice
abbrev pub twice_applied : ℕ → Typ → Typ
twice_applied k t = Con k (typs_of (t ∷ t ∷ []))

-- The constructor applied to a part that was put in, in both of two places: with both it leaves so much, or doesn't fit.
abbrev pub IsPutTwice : (name room : ℕ) → (half whole : Option Resolved) → Type 0
IsPutTwice k room half whole = (t : Typ) (left deep : ℕ) → 0 < left → 0 < deep → deep - 1 ≡ room → IsPutIn t (left - 1) room half → IsPutIn (twice_applied k t) left deep whole

-- It is the type, and leaves so much room.
abbrev pub IsConstructed : Typ → (left : ℕ) → Option Resolved → Type 0
IsConstructed t left None = ⊥
IsConstructed t left (Some r) = (r.typ ≡ t) × (r.left ≡ left)

-- The type with all set variables replaced, and the room that it leaves; none exactly where it doesn't fit.
abbrev pub IsResolved : List TypBind → Typ → (left room : ℕ) → Option Resolved → Type 0
IsResolved sets t left room None = Leaves left room (typ_size (typ_instance (composed sets) t)) (typ_depth (typ_instance (composed sets) t)) None
IsResolved sets t left room (Some r) = (r.typ ≡ typ_instance (composed sets) t) × Leaves left room (typ_size (typ_instance (composed sets) t)) (typ_depth (typ_instance (composed sets) t)) (Some r.left)

-- the images of the variables are within the limits
abbrev pub HasImagesWithin : List TypBind → Type 0
HasImagesWithin sets = (x i : ℕ) (s : List ℕ) → IsWithinTyp (composed sets (TVar x i s))

-- The type is a variable, or within the limits with all set variables replaced.
abbrev pub IsSmall : List TypBind → Typ → Type 0
IsSmall sets t = IsTypVariable t ⊎ IsWithinTyp (typ_instance (composed sets) t)

-- The finite map is the settings one after the other, at each schematic variable.
abbrev pub IsWritten : List TypBind → List TypBind → Type 0
IsWritten sets binds = (x i : ℕ) (s : List ℕ) → typ_image binds (TVar x i s) ≡ composed sets (TVar x i s)

-- The same, and its entries stand in the order of the settings.
abbrev pub IsWrittenInOrder : List TypBind → List TypBind → Type 0
IsWrittenInOrder sets binds = IsWritten sets binds × (map typ_variable binds ≡ map typ_variable sets)

-- Settings from a place on are written out, as other settings, the last one first.
pub record AreWrittenOut (p : Progress) (later : List TypBind) (d : Progress) : Type 0 where
  pub written : IsWritten later d.sets
  pub variables : (v : Typ) → IsIn v (map typ_variable d.sets) → IsIn v (map typ_variable later)
  pub order : map typ_variable d.sets ≡ reverse (map typ_variable later)
  pub within : HasImagesWithin later
  pub tidy : IsTidy d
  pub index : d.index ≡ p.index
  pub next : d.next ≡ p.next

-- Other settings make the same of each type.
abbrev pub MakesTheSame : List TypBind → List TypBind → Type 0
MakesTheSame sets others = (t : Typ) → typ_instance (composed others) t ≡ typ_instance (composed sets) t

-- No set variable occurs in the type.
abbrev pub IsFreeOf : List TypBind → Typ → Type 0
IsFreeOf sets t = Each (λ b. ¬ OccursInTyp (typ_variable b) t) sets

-- No variable of the type is set, so that it is its own instance, and this one doesn't occur in it.
abbrev pub IsUntouched : List TypBind → (variable t : Typ) → Type 0
IsUntouched sets v t = (typ_instance (composed sets) t ≡ t) × ¬ OccursInTyp v t

-- further settings and names were used
pub record IsFurther (old new : Progress) (more : List TypBind) : Type 0 where
  pub sets : new.sets ≡ old.sets ++ more
  pub index : new.index ≡ old.index
  pub later : old.next ≤ new.next

-- By further settings a type is being narrowed to a sort: what is made of the one now is made of the one at first.
pub record IsNarrowing (A : Algebra) (s : List ℕ) (old new : Progress) (t u : Typ) : Type 0 where
  pub more : List TypBind
  pub further : IsFurther old new more
  pub onward : (m : ℕ) (rest : List TypBind) (v : Typ) → Narrows A old.index s new.next u rest m v → Narrows A old.index s old.next t (more ++ rest) m v
  pub none : HasNoInstance A u s → HasNoInstance A t s
  pub old_typ : IsOld new.index new.next u
  pub free : IsFreeOf new.sets u
  pub absent : (v : Typ) → IsTypVariable v → ¬ IsFresh old.index old.next v → ¬ OccursInTyp v t → ¬ IsIn v (map typ_variable more)
  pub kept : (v : Typ) → IsTypVariable v → ¬ IsFresh old.index old.next v → ¬ OccursInTyp v t → ¬ OccursInTyp v u

-- A type has been narrowed to a sort.
pub record IsNarrowed (A : Algebra) (s : List ℕ) (old new : Progress) (t u : Typ) : Type 0 where
  pub narrowing : IsNarrowing A s old new t u
  pub narrows : Narrows A old.index s old.next t narrowing.more new.next u

-- A variable has been set to a type, narrowed to its sort.
pub record IsSet (A : Algebra) (old new : Progress) (x i : ℕ) (s : List ℕ) (t : Typ) : Type 0 where
  pub image : Typ
  pub narrowed : List TypBind
  pub further : IsFurther old new (narrowed ++ bind x i s image ∷ [])
  pub free : ¬ OccursInTyp (TVar x i s) t
  pub narrows : Narrows A old.index s old.next t narrowed new.next image
  pub equated : composed (narrowed ++ bind x i s image ∷ []) (TVar x i s) ≡ typ_instance (composed (narrowed ++ bind x i s image ∷ [])) t

-- the same of a variable as a type
abbrev pub IsSetTo : Algebra → Progress → Progress → (variable other : Typ) → Type 0
IsSetTo A old new (TVar x i s) t = IsSet A old new x i s t
IsSetTo A old new (TFree x s) t = ⊥
IsSetTo A old new (Con k ts) t = ⊥

-- A variable can't be set to a type: it occurs in it, or no instance of the type is of its sort.
abbrev pub CannotBeSetTo : Algebra → (variable other : Typ) → Type 0
CannotBeSetTo A (TVar x i s) t = OccursInTyp (TVar x i s) t ⊎ HasNoInstance A t s
CannotBeSetTo A (TFree x s) t = ⊥
CannotBeSetTo A (Con k ts) t = ⊥

-- the first place of the first pair that has one
abbrev pub place_among : List TypPair → Option TypPair
place_among [] = None
place_among (p ∷ ps) = sooner (place_of p) (place_among ps)

-- the pairs of the types at each place of two lists
abbrev pub pairs_along : List Typ → List Typ → List TypPair
pairs_along (t ∷ ts) (u ∷ us) = pair t u ∷ pairs_along ts us
pairs_along _ _ = []

-- A list of pairs is what is left of a pair: under these settings, and any map behind them, the first place among them is that of the pair.
abbrev pub IsLeftOf : List TypBind → TypPair → List TypPair → Type 0
IsLeftOf sets p work = (typs : Typ → Typ) → place_of (instance_pair typs (instance_pair (composed sets) p)) ≡ place_among (map (instance_pair typs) (map (instance_pair (composed sets)) work))

-- A pair is being made equal: what is made of it under the settings now is made of it under those at first; and what is left of it.
pub record Pursues (A : Algebra) (p : TypPair) (first now : Progress) (work : List TypPair) : Type 0 where
  pub more : List TypBind
  pub further : IsFurther first now more
  pub onward : (m : ℕ) (rest : List TypBind) → Equalises A first.index now.next (instance_pair (composed now.sets) p) rest m → Equalises A first.index first.next (instance_pair (composed first.sets) p) (more ++ rest) m
  pub none : Blocks A first.index now.next (instance_pair (composed now.sets) p) → Blocks A first.index first.next (instance_pair (composed first.sets) p)
  pub left : IsLeftOf now.sets p work
