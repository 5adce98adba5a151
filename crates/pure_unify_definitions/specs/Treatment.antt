-- The rules of simplification: which one applies first to a pair.
use Rattle.std.specs.Prelude.{◌≡◌, ◌≢◌, ℕ, [], Bool, true, false, ◌||◌}
use Rattle.pure_definitions.specs.Types.Typ.{Typ}
use Rattle.pure_definitions.specs.Terms.Term.{Term, Const, Var}
use Rattle.pure_definitions.specs.Terms.Bounds.{Occurs}
use Rattle.pure_definitions.specs.Terms.Typing.{HasType}
use Rattle.pure_definitions.specs.Terms.Subst.{TermBind}
use Rattle.pure_definitions.specs.Reduction.Eta.{IsEtaNormalForm}
use Rattle.pure_unify_definitions.specs.Fronts.{head, is_schematic, is_flexible}
use Rattle.pure_unify_definitions.specs.Firm.{occurs_firmly}
use Rattle.pure_unify_definitions.specs.Node.{bind}

-- what is done with a pair: it is dropped, its sides' types are unified, the node fails, a variable is set and the pair goes, the pair is split into those of the arguments, the types of the heads are unified and it is split then, or it is left
pub data Treatment : Type 0 where
  Drop : Treatment
  Differ : (left right : Typ) → Treatment
  Fail : Treatment
  Put : (bind : TermBind) → Treatment
  Split : Treatment
  Unify : (left right : Typ) → Treatment
  Leave : Treatment

-- The term is a bare variable: its eta-normal form is this schematic variable.
pub record IsBare (t v : Term) : Type 0 where
  pub variable : is_schematic v ≡ true
  pub form : IsEtaNormalForm t v

-- The side that is looked at as a bare variable is this one, and this is the other: the left is looked at first.
pub data IsBareSide (l r : Term) : (v other : Term) → Type 0 where
  left_bare : {v other : Term} → IsBare l v → other ≡ r → IsBareSide l r v other
  right_bare : {v other : Term} → ((w : Term) → ¬ IsBare l w) → IsBare r v → other ≡ l → IsBareSide l r v other

-- The sides differ and are of one type: neither the rule of equal sides nor that of different types applies.
pub record AreOfOneTyp (l r : Term) : Type 0 where
  pub differ : l ≢ r
  pub typ : Typ
  pub left : HasType [] l typ
  pub right : HasType [] r typ

-- Nor does that of a bare variable: where a side is one, the variable occurs on the other, and on no firm path.
pub record ArePastVariables (l r : Term) : Type 0 where
  pub typed : AreOfOneTyp l r
  pub occurring : (v other : Term) → IsBareSide l r v other → (occurs_firmly v other ≡ false) × Occurs v other

-- Both sides are rigid, and no rule before applies.
pub record AreRigid (l r : Term) : Type 0 where
  pub past : ArePastVariables l r
  pub neither : (is_flexible l || is_flexible r) ≡ false

-- The heads differ and aren't constants of one name.
pub record AreApart (h k : Term) : Type 0 where
  pub differ : h ≢ k
  pub no_constants : (c : ℕ) (T U : Typ) → h ≡ Const c T → k ≡ Const c U → ⊥

-- The treatment of a pair: the first rule that applies to its sides.
pub data IsTreatment (l r : Term) : Treatment → Type 0 where
  -- the sides are equal
  equal : l ≡ r → IsTreatment l r Drop
  -- their types differ
  differ : {T U : Typ} → HasType [] l T → HasType [] r U → T ≢ U → IsTreatment l r (Differ T U)
  -- a side is a bare variable, which occurs on a firm path of the other
  firm : {v other : Term} → AreOfOneTyp l r → IsBareSide l r v other → occurs_firmly v other ≡ true → IsTreatment l r Fail
  -- or doesn't occur there at all: it becomes the other side in eta-normal form
  absent : {x i : ℕ} {T : Typ} {other u : Term} → AreOfOneTyp l r → IsBareSide l r (Var x i T) other → ¬ Occurs (Var x i T) other → IsEtaNormalForm other u → IsTreatment l r (Put (bind x i T u))
  -- both are rigid, and the heads are the same
  same_heads : AreRigid l r → head l ≡ head r → IsTreatment l r Split
  -- or constants of one name with different types
  constants : {c : ℕ} {T U : Typ} → AreRigid l r → head l ≡ Const c T → head r ≡ Const c U → T ≢ U → IsTreatment l r (Unify T U)
  -- or else
  clash : AreRigid l r → AreApart (head l) (head r) → IsTreatment l r Fail
  -- no rule applies
  left : ArePastVariables l r → (is_flexible l || is_flexible r) ≡ true → IsTreatment l r Leave
