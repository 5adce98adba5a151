-- What a decision answers.
use Rattle.std.specs.Prelude.{List, []}
use Rattle.pure_kernel.specs.Texts.Lists.{IsIn}
use Rattle.pure_kernel.specs.Definitions.Types.Typ.{prop}
use Rattle.pure_kernel.specs.Definitions.Terms.Term.{Term}
use Rattle.pure_kernel.specs.Definitions.Terms.Typing.{HasType}
use Rattle.pure_kernel.specs.Logic.Content.{Content}
use Rattle.pure_kernel.specs.Logic.Derivable.{Theorem, IsDerivable}
use Rattle.pure_kernel.specs.Theorems.declared.fault.RuleFault.{RuleFault}
use Rattle.pure_kernel.specs.Theorems.declared.fault.RuleFault.TheVariants.{NotProp, Big, Memory}

-- Each of the theorems is derivable over the content.
abbrev pub AreDerivable : Content → List Theorem → Type 0
AreDerivable Q ths = (th : Theorem) → IsIn th ths → IsDerivable Q th

-- the theorem of this proposition, without hypotheses and pairs, that rests on no promise
abbrev pub proved : Term → Theorem
proved A = record { hyps = []; pairs = []; prop = A; rests = [] }

-- A term of an inference wouldn't be within the limits, or memory was wanted.
abbrev pub IsStop : RuleFault → Type 0
IsStop Big = Unit {0}
IsStop Memory = Unit {0}
IsStop _ = ⊥

-- The goal isn't of type prop; or a term of an inference wouldn't be within the limits, or memory was wanted.
abbrev pub IsRefusal : (goal : Term) → RuleFault → Type 0
IsRefusal goal NotProp = ¬ HasType [] goal prop
IsRefusal goal Big = Unit {0}
IsRefusal goal Memory = Unit {0}
IsRefusal goal _ = ⊥
