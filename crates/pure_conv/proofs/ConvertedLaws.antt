-- A term whose constants are converted by derivable equations is equal to what it becomes.
use Rattle.std.proofs.Common.{◌≡◌, ℕ, List, [], ◌∷◌, ◌++◌, inl, inr, refl, sym, subst}
use Rattle.std.specs.Prelude.{Option, Some, Result, Ok}
use Rattle.pure_text.specs.Lists.{IsIn, Each}
use Rattle.pure_text.proofs.ListLaws.{each-append, in-append_left, in-append_right}
use Rattle.pure_definitions.specs.Names.{Label}
use Rattle.pure_definitions.specs.Types.Typ.{Typ}
use Rattle.pure_definitions.specs.Terms.Term.{Term, Const, Free, Var, Bound, Abs, App}
use Rattle.pure_definitions.specs.Declarations.Certified.{IsCertified}
use Rattle.pure_logic.specs.Connectives.{eq}
use Rattle.pure_logic.specs.Content.{Content, IsContent, IsBelow}
use Rattle.pure_logic.specs.PureContent.{pure_content}
use Rattle.pure_logic.specs.Derivable.{Pair, Theorem, IsDerivable}
use Rattle.pure_logic.specs.Proves.{Proves}
use Rattle.pure_logic.proofs.ProvesLaws.{derivable_is_proves, weaker}
use Rattle.pure_logic.proofs.EqualityLaws.{left-of, right-of}
use Rattle.pure_equation_laws.specs.Equated.{IsTypedUnder, AreEquated, AreEqualModulo}
use Rattle.pure_equation_laws.specs.Laws.Proved.{IsPairProved}
use Rattle.pure_equation_laws.proofs.NodesLaws.{equated_node_by_node}
use Rattle.pure_equation_laws.proofs.EquatedLaws.{equated_is_proved}
use Rattle.pure_theorem.specs.Facts.{IsTheoryContent}
use Rattle.pure_conv.specs.declared.fault.ConvFault.{ConvFault}
use Rattle.pure_conv.specs.Bottom.{AreEquations, AreDerivable, IsConverted, GivesConverted}

module _ (Q : Content) (q : IsContent Q) (above : IsBelow pure_content Q) (Answers : Term → Result (Option Theorem) ConvFault → Type 0) (equations : AreEquations Answers) (derivable : AreDerivable Q Answers) (rests : List Label) where
  -- Equations that are proved, and modulo which, and any others, the terms are equal.
  record AreModuloProved (t u : Term) : Type 0 where
    pairs : List Pair
    are : Each (IsPairProved Q [] rests) pairs
    equal : (all : List Pair) → ((p : Pair) → IsIn p pairs → IsIn p all) → (bs : List Typ) → AreEqualModulo Q.declarations all bs t u

  same-modulo : (t u : Term) → u ≡ t → AreModuloProved t u
  same-modulo t u e = record { pairs = []; are = tt; equal = λ all inside bs. subst (AreEqualModulo Q.declarations all bs t) (sym e) AreEqualModulo.itself }

  put-modulo : (t u : Term) (S : Typ) → Proves Q [] rests (eq S t u) → AreModuloProved t u
  put-modulo t u S h =
      let p : Pair = record { left = t; right = u } in
      let left = left-of Q q above [] rests S t u h in
      let right = right-of Q q above [] rests S t u h in
      record {
        pairs = p ∷ [];
        are = ((S, h), tt);
        equal = λ all inside bs. AreEqualModulo.equated (AreEquated.pair {T = S} p (inside p (inl refl)) (record { parts = left.certified.parts; typed = left.typed }) (record { parts = right.certified.parts; typed = right.typed }));
      }

  answer-proved : (c : ℕ) (T S : Typ) (u : Term) (th : Theorem) → Answers (Const c T) (Ok (Some th)) → th.prop ≡ eq S (Const c T) u → ((l : Label) → IsIn l th.rests → IsIn l rests) → Proves Q [] rests (eq S (Const c T) u)
  answer-proved c T S u th a e kept =
      let equation = equations c T th a in
      let alone : IsDerivable Q (record { hyps = []; pairs = []; prop = eq S (Const c T) u; rests = th.rests }) =
      subst (IsDerivable Q) (λ i. record { hyps = equation.no_hyps i; pairs = equation.no_pairs i; prop = e i; rests = th.rests }) (derivable c T th a) in
      weaker Q [] [] th.rests rests (eq S (Const c T) u) (λ B m. m) kept ((derivable_is_proves Q [] th.rests (eq S (Const c T) u)).0 alone)

  converted-modulo : (t u : Term) (ls : List Label) → IsConverted Answers t u ls → ((l : Label) → IsIn l ls → IsIn l rests) → AreModuloProved t u
  converted-modulo (Const c T) u ls (inl k) kept = same-modulo (Const c T) u k.1
  converted-modulo (Const c T) u ls (inr k) kept = put-modulo (Const c T) u k.1 (answer-proved c T k.1 u k.0 k.2 k.3 (λ l m. kept l (subst (λ (ms : List Label). IsIn l ms) (sym k.4) m)))
  converted-modulo (Free x T) u ls k kept = same-modulo (Free x T) u k.0
  converted-modulo (Var x i T) u ls k kept = same-modulo (Var x i T) u k.0
  converted-modulo (Bound n) u ls k kept = same-modulo (Bound n) u k.0
  converted-modulo (Abs T b) u ls k kept =
      let inside = converted-modulo b k.0 ls k.1 kept in
      record {
        pairs = inside.pairs;
        are = inside.are;
        equal = λ all sub bs. subst (AreEqualModulo Q.declarations all bs (Abs T b)) (sym k.2) (AreEqualModulo.bodies (inside.equal all sub (T ∷ bs)));
      }
  converted-modulo (App f a) u ls k kept =
      let function = converted-modulo f k.0 k.2 k.4 (λ l m. kept l ((k.7.members l).1 (in-append_left l k.2 k.3 m))) in
      let argument = converted-modulo a k.1 k.3 k.5 (λ l m. kept l ((k.7.members l).1 (in-append_right l k.2 k.3 m))) in
      record {
        pairs = function.pairs ++ argument.pairs;
        are = each-append (IsPairProved Q [] rests) function.pairs argument.pairs function.are argument.are;
        equal = λ all sub bs. subst (AreEqualModulo Q.declarations all bs (App f a)) (sym k.6)
            (AreEqualModulo.applied (function.equal all (λ p m. sub p (in-append_left p function.pairs argument.pairs m)) bs) (argument.equal all (λ p m. sub p (in-append_right p function.pairs argument.pairs m)) bs));
      }

  converted-proved : (T : Typ) (t u : Term) → IsTypedUnder Q.declarations [] t T → IsConverted Answers t u rests → Proves Q [] rests (eq T t u)
  converted-proved T t u h k =
      let modulo = converted-modulo t u rests k (λ l m. m) in
      equated_is_proved Q q above [] rests modulo.pairs modulo.are T t u
      (equated_node_by_node Q.declarations modulo.pairs [] T t u h (modulo.equal modulo.pairs (λ p m. m) []))

pub converted-derivable : (Q : Content) → IsTheoryContent Q → (Answers : Term → Result (Option Theorem) ConvFault → Type 0) → AreEquations Answers → AreDerivable Q Answers → (t : Term) → IsCertified Q.declarations t → (th : Theorem) → GivesConverted Answers t th → IsDerivable Q th
converted-derivable Q q Answers equations derivable t certified th gives =
    let proved = converted-proved Q q.content q.above_pure Answers equations derivable th.rests gives.typ t gives.right (record { parts = certified.parts; typed = gives.typed }) gives.converted in
    subst (IsDerivable Q) (sym gives.is) ((derivable_is_proves Q [] th.rests (eq gives.typ t gives.right)).1 proved)
