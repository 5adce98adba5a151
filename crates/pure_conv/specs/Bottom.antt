-- Conversions of the constants of a term: a function is asked of each (Isabelle/Isar Implementation manual, section 2.3).
use Rattle.std.specs.Prelude.{◌≡◌, ◌⊎◌, ℕ, List, [], ◌++◌, Option, Some, None, Result, Ok, Err}
use Rattle.std.specs.Borrow.{Bor}
use Rattle.std.specs.Fn.{Shared, FnReturns}
use Rattle.pure_definitions.specs.Names.{Label}
use Rattle.pure_definitions.specs.Types.Typ.{Typ}
use Rattle.pure_definitions.specs.Terms.Term.{Term, Const, Abs, App}
use Rattle.pure_definitions.specs.Terms.Typing.{HasType}
use Rattle.pure_logic.specs.Connectives.{eq}
use Rattle.pure_logic.specs.Content.{Content}
use Rattle.pure_logic.specs.Derivable.{Theorem, IsDerivable}
use Rattle.pure_theorem.specs.Sets.{label_cmp, IsSetOf}
use Rattle.pure_theorem.specs.Within.{AreWithin}
use Rattle.pure_conv.specs.declared.fault.ConvFault.{ConvFault}
use Rattle.pure_conv.specs.declared.fault.ConvFault.TheVariants.{Big, Memory}

-- A call of the function at references to these two may give this.
pub record ReturnsAt {F T S R : Type 0} (g : Shared F (Bor T × (Bor S × Unit {0})) R) (f : F) (x : T) (y : S) (r : R) : Type 0 where
  pub first : Bor T
  pub second : Bor S
  pub shows : (first.now ≡ x) × (second.now ≡ y)
  pub says : FnReturns g f (first, (second, tt)) r

-- The theorem is an equation from the term, without hypotheses and pairs.
pub record IsEquationFrom (t : Term) (th : Theorem) : Type 0 where
  pub no_hyps : th.hyps ≡ []
  pub no_pairs : th.pairs ≡ []
  pub typ : Typ
  pub right : Term
  pub equates : th.prop ≡ eq typ t right

-- This is the right side of the theorem, with the promises on which the theorem rests.
abbrev pub IsRightSide : Theorem → (u : Term) → (rests : List Label) → Type 0
IsRightSide th u rests = ((S : Typ) × (left : Term) × (th.prop ≡ eq S left u)) × (rests ≡ th.rests)

-- Each theorem that is answered for a constant is an equation from it.
abbrev pub AreEquations : (Term → Result (Option Theorem) ConvFault → Type 0) → Type 0
AreEquations Answers = (c : ℕ) (T : Typ) (th : Theorem) → Answers (Const c T) (Ok (Some th)) → IsEquationFrom (Const c T) th

-- Each such theorem is derivable.
abbrev pub AreDerivable : Content → (Term → Result (Option Theorem) ConvFault → Type 0) → Type 0
AreDerivable Q Answers = (c : ℕ) (T : Typ) (th : Theorem) → Answers (Const c T) (Ok (Some th)) → IsDerivable Q th

-- The term is a constant.
abbrev pub IsConstant : Term → Type 0
IsConstant t = (c : ℕ) × (T : Typ) × (t ≡ Const c T)

-- The first term becomes the second by what is answered for its constants, one after the other in preorder: each is replaced by the right side of the equation that is answered for it, or stays where none is; and these are the promises on which the equations rest.
abbrev pub IsConverted : (Term → Result (Option Theorem) ConvFault → Type 0) → Term → Term → List Label → Type 0
IsConverted Answers (Const c T) u rests = (Answers (Const c T) (Ok None) × (u ≡ Const c T) × (rests ≡ []))
    ⊎ ((th : Theorem) × (S : Typ) × Answers (Const c T) (Ok (Some th)) × (th.prop ≡ eq S (Const c T) u) × (rests ≡ th.rests))
IsConverted Answers (Abs T b) u rests = (c : Term) × IsConverted Answers b c rests × (u ≡ Abs T c)
IsConverted Answers (App f a) u rests =
    (g b : Term) × (first second : List Label) × IsConverted Answers f g first × IsConverted Answers a b second × (u ≡ App g b) × IsSetOf label_cmp (first ++ second) rests
IsConverted Answers t u rests = (u ≡ t) × (rests ≡ [])

-- The fault is the first that is answered for a constant of the term, in preorder: those before it have other answers.
abbrev pub IsFirstFault : (Term → Result (Option Theorem) ConvFault → Type 0) → Term → ConvFault → Type 0
IsFirstFault Answers (Const c T) fault = Answers (Const c T) (Err fault)
IsFirstFault Answers (Abs T b) fault = IsFirstFault Answers b fault
IsFirstFault Answers (App f a) fault = IsFirstFault Answers f fault ⊎ ((g : Term) × (rests : List Label) × IsConverted Answers f g rests × IsFirstFault Answers a fault)
IsFirstFault Answers t fault = ⊥

-- It is that fault, or want of memory.
abbrev pub IsRefused : (Term → Result (Option Theorem) ConvFault → Type 0) → Term → ConvFault → Type 0
IsRefused Answers t fault = IsFirstFault Answers t fault ⊎ (fault ≡ Memory)

-- The equation of the term and what it becomes.
pub record GivesConverted (Answers : Term → Result (Option Theorem) ConvFault → Type 0) (t : Term) (th : Theorem) : Type 0 where
  pub right : Term
  pub converted : IsConverted Answers t right th.rests
  pub typ : Typ
  pub typed : HasType [] t typ
  pub is : th ≡ record { hyps = []; pairs = []; prop = eq typ t right; rests = th.rests }

-- The equation of the term and another, which rests on these promises, within the limits; or `Big` where it isn't within them; or `Memory`.
abbrev pub IsEquated : (t u : Term) → (rests : List Label) → Result Theorem ConvFault → Type 0
IsEquated t u rests (Ok th) = (T : Typ) × HasType [] t T × (th ≡ record { hyps = []; pairs = []; prop = eq T t u; rests = rests }) × AreWithin th
IsEquated t u rests (Err Big) = (T : Typ) × HasType [] t T × ¬ AreWithin (record { hyps = []; pairs = []; prop = eq T t u; rests = rests })
IsEquated t u rests (Err Memory) = Unit {0}
IsEquated t u rests (Err fault) = ⊥

-- The answer: that equation, within the limits; or the first fault that is answered; or `Big` where no fault is answered and the equation isn't within the limits; or want of memory.
abbrev pub IsBottomAnswer : (Term → Result (Option Theorem) ConvFault → Type 0) → Term → Result Theorem ConvFault → Type 0
IsBottomAnswer Answers t (Ok th) = GivesConverted Answers t th × AreWithin th
IsBottomAnswer Answers t (Err fault) = IsRefused Answers t fault ⊎ ((fault ≡ Big) × ((th : Theorem) × GivesConverted Answers t th × ¬ AreWithin th))
