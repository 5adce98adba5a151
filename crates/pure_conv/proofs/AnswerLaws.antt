-- Answers of inferences as those of conversions.
use Rattle.std.proofs.Common.{◌≡◌, sym, subst}
use Rattle.std.specs.Prelude.{Result, Ok, Err, IfOk}
use Rattle.pure_logic.specs.Derivable.{Theorem}
use Rattle.pure_theorem.specs.Answer.{IsAnswer, NoRefusal}
use Rattle.pure_theorem.specs.declared.fault.RuleFault.{RuleFault}
use Rattle.pure_theorem.specs.declared.fault.RuleFault.TheVariants as rule
use Rattle.pure_conv.specs.declared.fault.ConvFault.{ConvFault}
use Rattle.pure_conv.specs.Answer.{IsConvAnswer, AsInference, conv_answer}

answered : (Gives : Theorem → Type 0) (Refuses : RuleFault → Type 0) (r : Result Theorem RuleFault) → IsAnswer Gives Refuses r → IsConvAnswer Gives (AsInference Refuses) (conv_answer r)
answered Gives Refuses (Ok th) h = h
answered Gives Refuses (Err rule.UnknownFact) h = tt
answered Gives Refuses (Err rule.NotProp) h = tt
answered Gives Refuses (Err (rule.FreeInHyps which)) h = h
answered Gives Refuses (Err (rule.FreeInPairs which)) h = h
answered Gives Refuses (Err rule.NotAll) h = tt
answered Gives Refuses (Err rule.TypeDiffers) h = h
answered Gives Refuses (Err rule.NotImplies) h = tt
answered Gives Refuses (Err rule.PremiseDiffers) h = tt
answered Gives Refuses (Err rule.NotEquality) h = h
answered Gives Refuses (Err rule.MiddleDiffers) h = h
answered Gives Refuses (Err rule.Mismatched) h = tt
answered Gives Refuses (Err rule.NotBeta) h = tt
answered Gives Refuses (Err rule.NotEta) h = tt
answered Gives Refuses (Err rule.Big) h = h
answered Gives Refuses (Err rule.Memory) h = tt

pub answer_as : (Gives : Theorem → Type 0) (Refuses : RuleFault → Type 0) (r : Result Theorem RuleFault) (s : Result Theorem ConvFault) → s ≡ conv_answer r → IsAnswer Gives Refuses r → IsConvAnswer Gives (AsInference Refuses) s
answer_as Gives Refuses r s e h = subst (IsConvAnswer Gives (AsInference Refuses)) (sym e) (answered Gives Refuses r h)

kept : (D : Theorem → Type 0) (r : Result Theorem RuleFault) → IfOk r D → IfOk (conv_answer r) D
kept D (Ok th) h = h
kept D (Err fault) h = tt

pub given_as : (D : Theorem → Type 0) (r : Result Theorem RuleFault) (s : Result Theorem ConvFault) → s ≡ conv_answer r → IfOk r D → IfOk s D
given_as D r s e h = subst (λ (x : Result Theorem ConvFault). IfOk x D) (sym e) (kept D r h)

-- An inference without refusals that gives what a conversion gives.
pub answer_by : (Gives Other : Theorem → Type 0) (Refuses : ConvFault → Type 0) → ((th : Theorem) → Gives th → Other th) → (r : Result Theorem RuleFault) (s : Result Theorem ConvFault) → s ≡ conv_answer r → IsAnswer Gives NoRefusal r → IsConvAnswer Other Refuses s
answer_by Gives Other Refuses f r s e h = subst (IsConvAnswer Other Refuses) (sym e) (by r h)
  where
    by : (r : Result Theorem RuleFault) → IsAnswer Gives NoRefusal r → IsConvAnswer Other Refuses (conv_answer r)
    by (Ok th) h = (f th h.0, h.1)
    by (Err rule.UnknownFact) h = tt
    by (Err rule.NotProp) h = tt
    by (Err (rule.FreeInHyps which)) h = absurd h
    by (Err (rule.FreeInPairs which)) h = absurd h
    by (Err rule.NotAll) h = tt
    by (Err rule.TypeDiffers) h = absurd h
    by (Err rule.NotImplies) h = tt
    by (Err rule.PremiseDiffers) h = tt
    by (Err rule.NotEquality) h = absurd h
    by (Err rule.MiddleDiffers) h = absurd h
    by (Err rule.Mismatched) h = tt
    by (Err rule.NotBeta) h = tt
    by (Err rule.NotEta) h = tt
    by (Err rule.Big) h = (h.0, f h.0 h.1, h.2)
    by (Err rule.Memory) h = tt

-- What an answered theorem has.
pub given_by : (Gives D : Theorem → Type 0) (Refuses : ConvFault → Type 0) → ((th : Theorem) → Gives th → D th) → (s : Result Theorem ConvFault) → IsConvAnswer Gives Refuses s → IfOk s D
given_by Gives D Refuses f (Ok th) h = f th h.0
given_by Gives D Refuses f (Err fault) h = tt
