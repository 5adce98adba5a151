-- How two types meet at a place, and what a turn makes of the pairs that are left.
use Rattle.std.specs.Prelude.{◌≡◌, ◌≢◌, ◌⊎◌, ℕ, List, [], ◌∷◌, map, reverse, Some, Bool, true, false, length, MatchBool}
use Rattle.pure_text.specs.Lists.{IsIn, Each}
use Rattle.pure_definitions.specs.Types.Typ.{Typ, Con, Typs, typs_of, typs_count}
use Rattle.pure_definitions.specs.Types.Order.{Algebra}
use Rattle.pure_definitions.specs.Terms.Subst.{typ_variable, typ_instance, KeepsFixedTyps}
use Rattle.pure_definitions.specs.Terms.Limits.{IsWithinTyp}
use Rattle.pure_tunify.specs.declared.pair.TypPair.{TypPair}
use Rattle.pure_tunify.specs.declared.meeting.Meeting.{Meeting}
use Rattle.pure_tunify.specs.declared.meeting.Meeting.TheVariants.{Same, Left, Right, Arguments, Apart}
use Rattle.pure_tunify.specs.declared.meeting.Turned.{Turned}
use Rattle.pure_tunify.specs.declared.meeting.Turned.TheVariants.{Further, Never, Large}
use Rattle.pure_tunify.specs.Unifiers.{IsOldPair}
use Rattle.pure_tunify.specs.Steps.{pair, instance_pair}
use Rattle.pure_tunify.specs.Settings.{composed, Progress}
use Rattle.pure_tunify.specs.Procedure.{difference, IsSchematic, Blocks}
use Rattle.pure_tunify.specs.Working.{IsSetTo, CannotBeSetTo, Pursues}

-- The type is this constructor with so many arguments, and it isn't.
pub record HasArguments (t : Typ) (name count : ℕ) : Type 0 where
  pub args : List Typ
  pub is : t ≡ Con name (typs_of args)
  pub many : length args ≡ count

abbrev pub HasOtherNode : Typ → (name count : ℕ) → Type 0
HasOtherNode t k n = (l : ℕ) (ts : Typs) → t ≡ Con l ts → k ≡ l → n ≡ typs_count ts → ⊥

-- The types are one constructor with as many arguments.
pub record HaveArguments (t u : Typ) : Type 0 where
  pub name : ℕ
  pub lefts : List Typ
  pub rights : List Typ
  pub left : t ≡ Con name (typs_of lefts)
  pub right : u ≡ Con name (typs_of rights)
  pub many : length lefts ≡ length rights

-- They aren't.
abbrev pub HaveNoArguments : Typ → Typ → Type 0
HaveNoArguments t u = (k l : ℕ) (ts us : Typs) → t ≡ Con k ts → u ≡ Con l us → k ≡ l → typs_count ts ≡ typs_count us → ⊥

-- The nodes of the types differ, and stay so under maps.
abbrev pub AreApart : Typ → Typ → Type 0
AreApart t u = (typs : Typ → Typ) → KeepsFixedTyps typs → difference (typ_instance typs t) (typ_instance typs u) ≡ Some (pair (typ_instance typs t) (typ_instance typs u))

abbrev pub IsMeeting : Typ → Typ → Meeting → Type 0
IsMeeting t u Same = t ≡ u
IsMeeting t u Left = IsSchematic t × (t ≢ u)
IsMeeting t u Right = (¬ IsSchematic t) × IsSchematic u
IsMeeting t u Arguments = HaveArguments t u
IsMeeting t u Apart = (¬ IsSchematic t) × (¬ IsSchematic u) × AreApart t u

-- The pairs that are left go on as others, under further settings.
pub record GoesOn (A : Algebra) (old new : Progress) (before after : List TypPair) : Type 0 where
  pub pursued : (p : TypPair) (first : Progress) → Pursues A p first old before → Pursues A p first new after
  pub kept : Each (IsOldPair old.index old.next) before → Each (IsOldPair new.index new.next) after

-- The first of the pairs that are left comes to a place without a unifier.
abbrev pub Stops : Algebra → Progress → List TypPair → Type 0
Stops A old before = (p : TypPair) (first : Progress) → Pursues A p first old before → Blocks A first.index first.next (instance_pair (composed first.sets) p)

-- A variable that isn't set meets a type that is beyond the limits with all set variables replaced.
pub record IsLargeAt (now : Progress) (variable other : Typ) : Type 0 where
  pub schematic : IsSchematic variable
  pub free : ¬ IsIn variable (map typ_variable now.sets)
  pub beyond : ¬ IsWithinTyp (typ_instance (composed now.sets) other)

-- The first of the pairs that are left is such a one, on the left or on the right.
abbrev pub HasLargeHead : Progress → List TypPair → Type 0
HasLargeHead now [] = ⊥
HasLargeHead now (q ∷ rest) = IsLargeAt now q.left q.right ⊎ ((¬ IsSchematic q.left) × IsLargeAt now q.right q.left)

abbrev pub IsTurn : Algebra → (old new : Progress) → (before after : List TypPair) → Bool → Type 0
IsTurn A old new before after goes = MatchBool goes (GoesOn A old new before after) (Stops A old before)

-- What a turn comes to: the pairs go on, or have no unifier, or a type is too large to be written out.
abbrev pub IsTurned : Algebra → (old new : Progress) → (before after : List TypPair) → Turned → Type 0
IsTurned A old new before after Further = GoesOn A old new before after
IsTurned A old new before after Never = Stops A old before
IsTurned A old new before after Large = GoesOn A old new before after × HasLargeHead new after

-- The same of all turns: where they go on, nothing is left.
abbrev pub IsPursuit : Algebra → (old new : Progress) → (before after : List TypPair) → Turned → Type 0
IsPursuit A old new before after Further = GoesOn A old new before []
IsPursuit A old new before after Never = Stops A old before
IsPursuit A old new before after Large = GoesOn A old new before after × HasLargeHead new after

-- A variable is set to a type, or can't be, or the type is too large to be written out.
abbrev pub IsTreating : Algebra → (old new : Progress) → (variable other : Typ) → Turned → Type 0
IsTreating A old new v t Further = IsSetTo A old new v t
IsTreating A old new v t Never = CannotBeSetTo A v t
IsTreating A old new v t Large = (new ≡ old) × ¬ IsWithinTyp t

-- What comes of a variable that was set, and of one that can't be.
abbrev pub turned_by : Bool → Turned
turned_by true = Further
turned_by false = Never

-- A pair that is too large is put back.
abbrev pub IsPutBack : TypPair → (old new : List TypPair) → Turned → Type 0
IsPutBack q old new Large = reverse new ≡ q ∷ reverse old
IsPutBack q old new _ = new ≡ old

-- These pairs stand for one: whatever is set, what is made of them is made of it.
abbrev pub StandsFor : TypPair → List TypPair → Type 0
StandsFor p work = (A : Algebra) (now : Progress) → GoesOn A now now (p ∷ []) work
