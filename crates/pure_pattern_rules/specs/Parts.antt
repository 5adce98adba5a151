-- Parts of a treatment: which variables are set to which images, and what the rules for one flexible side make of the other side's head.
use Rattle.std.specs.Prelude.{◌≡◌, ◌*◌, ◌<◌, ℕ, [], ◌∷◌, List, length, true, false}
use Rattle.pure_text.specs.Lists.{IsIn}
use Rattle.pure_definitions.specs.Types.Typ.{Typ}
use Rattle.pure_definitions.specs.Terms.Term.{Term, Const, Free, Bound}
use Rattle.pure_definitions.specs.Terms.Typing.{HasType}
use Rattle.pure_definitions.specs.Reduction.Eta.{IsLongForm}
use Rattle.pure_unify_definitions.specs.Fronts.{domains, is_flexible, pair}
use Rattle.pure_unify_definitions.specs.Node.{bind}
use Rattle.pure_unify_definitions.specs.Children.{image_of}
use Rattle.pure_pattern_laws.specs.Patterns.{IsPattern}
use Rattle.pure_pattern_laws.specs.Treatment.{Treatment, Sets, Never, AreMixed, IsWritten, IsTreated}
use Rattle.pure_pattern_laws.specs.Answers.{AreLongOfOneTyp}

-- The variable alone is set, to the long form of an image.
abbrev pub IsSet : (x i : ℕ) → (T : Typ) → (image : Term) → Treatment → Type 0
IsSet x i T image how = (u : Term) × IsLongForm image u × (how ≡ Sets (bind x i T u ∷ []))

-- Two variables are set, each to the long form of its image.
abbrev pub AreSet : (x i : ℕ) → (T : Typ) → (image : Term) → (y j : ℕ) → (U : Typ) → (other : Term) → Treatment → Type 0
AreSet x i T image y j U other how = (u : Term) × (w : Term) × IsLongForm image u × IsLongForm other w × (how ≡ Sets (bind x i T u ∷ bind y j U w ∷ []))

-- A constant, a fixed variable or a bound variable, as the head of each rigid side is.
abbrev pub IsRigidHead : Term → Type 0
IsRigidHead (Const c T) = Unit {0}
IsRigidHead (Free y T) = Unit {0}
IsRigidHead (Bound p) = Unit {0}
IsRigidHead _ = ⊥

-- The image by imitation of a head that is written as h, of the type U, has the type T of its variable.
abbrev pub IsImageTyped : (index : ℕ) → (T : Typ) → (h : Term) → (U : Typ) → Type 0
IsImageTyped index T h U = HasType [] (image_of index (domains T) h (domains U)) T

-- The new variables of such an image have so many arguments in all that it isn't within the limits: each argument and its type in the variable's are four nodes at least.
abbrev pub IsWide : (T U : Typ) → Type 0
IsWide T U = 50000 < length (domains U) * length (domains T)

-- The head can be imitated by a variable of the type T that stands applied to zs, unless it escapes.
pub record IsImitable (index : ℕ) (T : Typ) (zs : List ℕ) (k : Term) : Type 0 where
  pub rigid : IsRigidHead k
  pub many : length zs ≡ length (domains T)
  pub typed : (h : Term) (U : Typ) → IsWritten T zs k h U → IsImageTyped index T h U

-- What becomes of the head: it is a bound variable that isn't in zs, or it is imitated.
pub data IsHeadTreated (index x i : ℕ) (T : Typ) (zs : List ℕ) (k : Term) : Treatment → Type 0 where
  escapes : {p : ℕ} → k ≡ Bound p → ¬ IsIn p zs → IsHeadTreated index x i T zs k Never
  imitates : {h : Term} {U : Typ} {how : Treatment} → IsWritten T zs k h U → IsSet x i T (image_of index (domains T) h (domains U)) how → IsHeadTreated index x i T zs k how

-- A flexible side, a pattern, and a rigid one, in long form and of one type.
pub record AreFlexibleRigid (f k : Term) : Type 0 where
  pub long : AreLongOfOneTyp (pair f k)
  pub pattern : IsPattern f
  pub flexible : is_flexible f ≡ true
  pub rigid : is_flexible k ≡ false

-- The treatment of each pair of a flexible and a rigid side.
abbrev pub IsMixedTreated : (index : ℕ) → (f k : Term) → Treatment → Type 0
IsMixedTreated index f k how = (l r : Term) → AreMixed l r f k → IsTreated index l r how
