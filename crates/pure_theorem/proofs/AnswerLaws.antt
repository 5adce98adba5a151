-- What inferences answer, passed on.
use Rattle.std.proofs.Common.{◌≡◌, ◌++◌, List, refl, ap, sym, subst, ◌∙◌, inl, inr}
use Rattle.std.specs.Prelude.{Result, Ok, Err, IfOk}
use Rattle.pure_text.specs.Lists.{IsIn}
use Rattle.pure_text.proofs.ListLaws.{in-append_left, in-append_right}
use Rattle.pure_definitions.specs.Names.{Label}
use Rattle.pure_definitions.specs.Terms.Term.{Term, IsWithin}
use Rattle.pure_typ.specs.declared.grow.Grow.{Grow}
use Rattle.pure_typ.specs.declared.grow.Grow.TheVariants as grow
use Rattle.pure_logic.specs.Content.{Content}
use Rattle.pure_logic.specs.Derivable.{Theorem, IsDerivable}
use Rattle.pure_logic.specs.Proves.{Proves}
use Rattle.pure_logic.specs.Laws.Inferences.{IsAmong}
use Rattle.pure_logic.proofs.InferenceLaws.{inferred_from_two}
use Rattle.pure_theorem.specs.Facts.{IsTheoryContent}
use Rattle.pure_theorem.specs.Within.{AreWithin}
use Rattle.pure_theorem.specs.Made.{IsMade}
use Rattle.pure_theorem.specs.Answer.{IsAnswer, NoRefusal, IsJoined}
use Rattle.pure_theorem.specs.declared.fault.RuleFault.{RuleFault}
use Rattle.pure_theorem.specs.declared.fault.RuleFault.TheVariants.{UnknownFact, NotProp, FreeInHyps, FreeInPairs, NotAll, TypeDiffers, NotImplies, PremiseDiffers, NotEquality, MiddleDiffers, Mismatched, NotBeta, NotEta, Big, Memory}

-- The answer of a call that refuses nothing, as that of an inference that gives what it gives.
pub answer-along : (Given Gives : Theorem → Type 0) (Refuses : RuleFault → Type 0) → ((th : Theorem) → Given th → Gives th) → (result : Result Theorem RuleFault) → IsAnswer Given NoRefusal result → IsAnswer Gives Refuses result
answer-along Given Gives Refuses f (Ok th) h = (f th h.0, h.1)
answer-along Given Gives Refuses f (Err Big) (th, given, isnt) = (th, f th given, isnt)
answer-along Given Gives Refuses f (Err Memory) h = h
answer-along Given Gives Refuses f (Err _) h = absurd h

-- What holds of the theorems that an inference gives holds of its answer.
pub answer-holds : (Gives : Theorem → Type 0) (Refuses : RuleFault → Type 0) (Holds : Theorem → Type 0) → ((th : Theorem) → Gives th → Holds th) → (result : Result Theorem RuleFault) → IsAnswer Gives Refuses result → IfOk result Holds
answer-holds Gives Refuses Holds f (Ok th) h = f th h.0
answer-holds Gives Refuses Holds f (Err fault) h = tt

-- the answer for a proposition that was made, or that is too big
pub answer-made : (made : Term → Theorem) (B u : Term) (prop : Result Term Grow) (result : Result Theorem RuleFault) → prop ≡ Ok u → IsMade B prop → IsAnswer (λ th. th ≡ made u) NoRefusal result → IsAnswer (λ th. th ≡ made B) NoRefusal result
answer-made made B u prop result is m h =
    let same : u ≡ B = subst (IsMade B) is m in
    subst (λ v. IsAnswer (λ th. th ≡ made v) NoRefusal result) same h

pub answer-big : (made : Term → Theorem) → ((u : Term) → AreWithin (made u) → IsWithin u) → (B : Term) (prop : Result Term Grow) → prop ≡ Err grow.Big → IsMade B prop → IsAnswer (λ th. th ≡ made B) NoRefusal (Err Big)
answer-big made within B prop is m = (made B, refl, λ w. let isnt : ¬ IsWithin B = subst (IsMade B) is m in isnt (within B w))

-- An inference from two theorems: the joined theorem is derivable where its proposition is proved from those of both.
pub joined-derivable : (Q : Content) → IsTheoryContent Q → (left right : Theorem) (B : Term) (th : Theorem) → IsJoined left right B th
    → ((H : List Term) → Proves Q H th.rests left.prop → Proves Q H th.rests right.prop → Proves Q H th.rests B) → IsDerivable Q left → IsDerivable Q right → IsDerivable Q th
joined-derivable Q q left right B th joined step h k =
    let parts : IsDerivable Q (record { hyps = th.hyps; pairs = left.pairs ++ right.pairs; prop = B; rests = th.rests }) =
    inferred_from_two Q q.content q.above_pure left right th.hyps th.rests B
    (record { hyps = λ A m. (joined.hyps.members A).1 (in-append_left A left.hyps right.hyps m); rests = λ l m. (joined.rests.members l).1 (in-append_left l left.rests right.rests m) })
    (record { hyps = λ A m. (joined.hyps.members A).1 (in-append_right A left.hyps right.hyps m); rests = λ l m. (joined.rests.members l).1 (in-append_right l left.rests right.rests m) })
    step h k in
    subst (IsDerivable Q) (λ i. record { hyps = th.hyps; pairs = sym joined.pairs i; prop = sym joined.prop i; rests = th.rests }) parts
