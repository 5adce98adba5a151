-- What the normaliser's call answers.
use Rattle.std.specs.Prelude.{Result, Ok, Err}
use Rattle.pure_definitions.specs.Terms.Term.{Term}
use Rattle.pure_definitions.specs.Reduction.Beta.{IsBetaAnswer, NormalForm, TooLarge, TooManySteps}
use Rattle.pure_norm.specs.declared.fault.NormFault.{NormFault}
use Rattle.pure_norm.specs.declared.fault.NormFault.TheVariants.{Steps, Big, Memory}

-- The call gives the normaliser's answer for t: its normal form, `Big` where a term is too large, `Steps` where there are too many; or `Memory`.
abbrev pub IsNormAnswer : (t : Term) → Result Term NormFault → Type 0
IsNormAnswer t (Ok u) = IsBetaAnswer t (NormalForm u)
IsNormAnswer t (Err Big) = IsBetaAnswer t TooLarge
IsNormAnswer t (Err Steps) = IsBetaAnswer t TooManySteps
IsNormAnswer t (Err Memory) = Unit {0}
