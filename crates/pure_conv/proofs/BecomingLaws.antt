-- What terms become, node by node.
use Rattle.std.proofs.Common.{◌≡◌, List, [], ◌++◌, inl, inr, refl, ap, sym, subst, ◌∙◌}
use Rattle.std.specs.Prelude.{Option, Some, None, Result, Ok, Err, IfOk, IsErrAnd, MatchResult}
use Rattle.pure_definitions.specs.Names.{Label}
use Rattle.pure_definitions.specs.Types.Typ.{Typ}
use Rattle.pure_definitions.specs.Terms.Term.{Term, Const, Abs, App}
use Rattle.pure_logic.specs.Connectives.{eq}
use Rattle.pure_logic.specs.Derivable.{Theorem}
use Rattle.pure_theorem.specs.Sets.{label_cmp, IsSetOf}
use Rattle.pure_conv.specs.declared.fault.ConvFault.{ConvFault}
use Rattle.pure_conv.specs.declared.fault.ConvFault.TheVariants as fault
use Rattle.pure_conv.specs.Bottom.{IsConstant, IsRightSide, AreEquations, IsConverted, IsRefused, GivesConverted, IsEquated, IsBottomAnswer}

left-same : (S T : Typ) (t u v w : Term) → eq S t u ≡ eq T v w → t ≡ v
left-same S T t u v w e = cc

module _ (Answers : Term → Result (Option Theorem) ConvFault → Type 0) where
  -- The answer for a constant.
  pub refused-constant : (t : Term) (fault : ConvFault) → IsConstant t → Answers t (Err fault) → IsRefused Answers t fault
  refused-constant t fault is h = subst (λ (x : Term). IsRefused Answers x fault) (sym is.2) (inl (subst (λ (x : Term). Answers x (Err fault)) is.2 h))

  pub converted-none : (t u : Term) (rests : List Label) → IsConstant t → Answers t (Ok None) → u ≡ t → rests ≡ [] → IsConverted Answers t u rests
  converted-none t u rests is h e d = subst (λ (x : Term). IsConverted Answers x u rests) (sym is.2) (inl (subst (λ (x : Term). Answers x (Ok None)) is.2 h, e ∙ is.2, d))

  pub converted-some : (t u : Term) (rests : List Label) (th : Theorem) → IsConstant t → AreEquations Answers → Answers t (Ok (Some th)) → IsRightSide th u rests → IsConverted Answers t u rests
  converted-some t u rests th is equations h side =
      let own = subst (λ (x : Term). Answers x (Ok (Some th))) is.2 h in
      let equation = equations is.0 is.1 th own in
      let left : side.0.1 ≡ Const is.0 is.1 = left-same side.0.0 equation.typ side.0.1 u (Const is.0 is.1) equation.right (sym side.0.2 ∙ equation.equates) in
      let prop : th.prop ≡ eq side.0.0 (Const is.0 is.1) u = side.0.2 ∙ ap (λ (x : Term). eq side.0.0 x u) left in
      subst (λ (x : Term). IsConverted Answers x u rests) (sym is.2) (inr (th, side.0.0, own, prop, side.1))

  pub no-side : (t : Term) (th : Theorem) → IsConstant t → AreEquations Answers → Answers t (Ok (Some th)) → ((T : Typ) (u v : Term) → th.prop ≡ eq T u v → ⊥) → ⊥
  no-side t th is equations h none =
      let equation = equations is.0 is.1 th (subst (λ (x : Term). Answers x (Ok (Some th))) is.2 h) in
      none equation.typ (Const is.0 is.1) equation.right equation.equates

  -- Abstractions and applications.
  pub converted-body : (t b c u : Term) (T : Typ) (inside rests : List Label) → t ≡ Abs T b → IsConverted Answers b c inside → u ≡ Abs T c → rests ≡ inside → IsConverted Answers t u rests
  converted-body t b c u T inside rests e h d same = subst (λ (x : Term). IsConverted Answers x u rests) (sym e) (c, subst (IsConverted Answers b c) (sym same) h, d)

  pub refused-body : (t b : Term) (T : Typ) (fault : ConvFault) → t ≡ Abs T b → IsRefused Answers b fault → IsRefused Answers t fault
  refused-body t b T fault e (inl h) = subst (λ (x : Term). IsRefused Answers x fault) (sym e) (inl h)
  refused-body t b T fault e (inr h) = inr h

  pub converted-parts : (t f a g b u : Term) (first second rests : List Label) → t ≡ App f a → IsConverted Answers f g first → IsConverted Answers a b second → u ≡ App g b → IsSetOf label_cmp (first ++ second) rests → IsConverted Answers t u rests
  converted-parts t f a g b u first second rests e h k d set = subst (λ (x : Term). IsConverted Answers x u rests) (sym e) (g, b, first, second, h, k, d, set)

  pub refused-function : (t f a : Term) (fault : ConvFault) → t ≡ App f a → IsRefused Answers f fault → IsRefused Answers t fault
  refused-function t f a fault e (inl h) = subst (λ (x : Term). IsRefused Answers x fault) (sym e) (inl (inl h))
  refused-function t f a fault e (inr h) = inr h

  pub refused-argument : (t f a g : Term) (first : List Label) (fault : ConvFault) → t ≡ App f a → IsConverted Answers f g first → IsRefused Answers a fault → IsRefused Answers t fault
  refused-argument t f a g first fault e k (inl h) = subst (λ (x : Term). IsRefused Answers x fault) (sym e) (inl (inr (g, first, k, h)))
  refused-argument t f a g first fault e k (inr h) = inr h

  -- An error that is handed on.
  pub handed : {B : Type 0} (P : B → Type 0) (t : Term) (fault : ConvFault) (r : Result B ConvFault) → IsErrAnd r (λ e. e ≡ fault) → IsRefused Answers t fault → MatchResult r P (IsRefused Answers t)
  handed P t fault (Ok b) is h = absurd is
  handed P t fault (Err e) is h = subst (IsRefused Answers t) (sym is) h

pub none-is : {B : Type 0} (o : Option B) → ((x : B) → o ≡ Some x → ⊥) → o ≡ None
none-is None some = refl
none-is (Some x) some = absurd (some x refl)

-- The equation of the whole term.
pub concluded : (Answers : Term → Result (Option Theorem) ConvFault → Type 0) (t u : Term) (rests : List Label) (r : Result Theorem ConvFault) → IsConverted Answers t u rests → IsEquated t u rests r → IsBottomAnswer Answers t r
concluded Answers t u rests (Ok th) h k =
    let same : th.rests ≡ rests = ap (λ (x : Theorem). x.rests) k.2 in (
      record {
        right = u;
        converted = subst (IsConverted Answers t u) (sym same) h;
        typ = k.0;
        typed = k.1;
        is = k.2 ∙ (λ i. record { hyps = []; pairs = []; prop = eq k.0 t u; rests = sym same i });
      },
      k.3,
    )
concluded Answers t u rests (Err fault.Big) h k =
    inr (refl, (record { hyps = []; pairs = []; prop = eq k.0 t u; rests = rests }, record { right = u; converted = h; typ = k.0; typed = k.1; is = refl }, k.2))
concluded Answers t u rests (Err fault.Memory) h k = inl (inr refl)
concluded Answers t u rests (Err fault.NotEquality) h k = absurd k
concluded Answers t u rests (Err fault.MiddleDiffers) h k = absurd k
concluded Answers t u rests (Err fault.TypeDiffers) h k = absurd k
concluded Answers t u rests (Err (fault.FreeInHyps which)) h k = absurd k
concluded Answers t u rests (Err (fault.FreeInPairs which)) h k = absurd k
concluded Answers t u rests (Err fault.NotDefinition) h k = absurd k
concluded Answers t u rests (Err fault.NothingToUnfold) h k = absurd k

pub answered-derivable : (D : Theorem → Type 0) (Answers : Term → Result (Option Theorem) ConvFault → Type 0) (t : Term) (r : Result Theorem ConvFault) → ((th : Theorem) → GivesConverted Answers t th → D th) → IsBottomAnswer Answers t r → IfOk r D
answered-derivable D Answers t (Ok th) f h = f th h.0
answered-derivable D Answers t (Err e) f h = tt
