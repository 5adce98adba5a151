-- What a conversion answers: the one form of all contracts of conversions.
use Rattle.std.specs.Prelude.{Result, Ok, Err}
use Rattle.pure_logic.specs.Derivable.{Theorem}
use Rattle.pure_theorem.specs.Within.{AreWithin}
use Rattle.pure_theorem.specs.declared.fault.RuleFault.{RuleFault}
use Rattle.pure_theorem.specs.declared.fault.RuleFault.TheVariants as rule
use Rattle.pure_conv.specs.declared.fault.ConvFault.{ConvFault}
use Rattle.pure_conv.specs.declared.fault.ConvFault.TheVariants.{NotEquality, MiddleDiffers, TypeDiffers, FreeInHyps, FreeInPairs, Big, Memory}

-- The answer of a conversion: the theorem that it gives, within the limits; or `Big` where it gives one that isn't; or the fault for which it is refused; or `Memory`.
abbrev pub IsConvAnswer : (Gives : Theorem → Type 0) → (Refuses : ConvFault → Type 0) → Result Theorem ConvFault → Type 0
IsConvAnswer Gives Refuses (Ok th) = Gives th × AreWithin th
IsConvAnswer Gives Refuses (Err Big) = (th : Theorem) × Gives th × ¬ AreWithin th
IsConvAnswer Gives Refuses (Err Memory) = Unit {0}
IsConvAnswer Gives Refuses (Err fault) = Refuses fault

-- It is refused as an inference is.
abbrev pub AsInference : (RuleFault → Type 0) → ConvFault → Type 0
AsInference Refuses NotEquality = Refuses rule.NotEquality
AsInference Refuses MiddleDiffers = Refuses rule.MiddleDiffers
AsInference Refuses TypeDiffers = Refuses rule.TypeDiffers
AsInference Refuses (FreeInHyps which) = Refuses (rule.FreeInHyps which)
AsInference Refuses (FreeInPairs which) = Refuses (rule.FreeInPairs which)
AsInference Refuses _ = ⊥

-- the fault of a conversion that an inference's is; those that no conversion has are want of memory
abbrev pub conv_fault : RuleFault → ConvFault
conv_fault rule.NotEquality = NotEquality
conv_fault rule.MiddleDiffers = MiddleDiffers
conv_fault rule.TypeDiffers = TypeDiffers
conv_fault (rule.FreeInHyps which) = FreeInHyps which
conv_fault (rule.FreeInPairs which) = FreeInPairs which
conv_fault rule.Big = Big
conv_fault _ = Memory

-- the answer of an inference as that of a conversion
abbrev pub conv_answer : Result Theorem RuleFault → Result Theorem ConvFault
conv_answer (Ok th) = Ok th
conv_answer (Err fault) = Err (conv_fault fault)
