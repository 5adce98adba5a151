-- What a text says over a theory, and why it says nothing.
use Rattle.std.specs.Prelude.{◌≡◌, ◌≤◌, ◌⊎◌, ℕ, List, length, Result, Ok, Err}
use Rattle.pure_definitions.specs.Types.Typ.{Typ}
use Rattle.pure_definitions.specs.Terms.Term.{Term}
use Rattle.pure_grammar.specs.Theories.TheoryText.{Span}
use Rattle.pure_elab.specs.Vocabulary.{Vocabulary}
use Rattle.pure_statements.specs.declared.reason.Reason.{Reason}
use Rattle.pure_statements.specs.declared.reason.Reason.TheVariants.{TooLong}
use Rattle.pure_statements.specs.declared.reason.Failed.{Failed}
use Rattle.pure_statements.specs.declared.reason.Failed.TheVariants as failed
use Rattle.pure_statements.specs.Chain.{Then}
use Rattle.pure_statements.specs.Quoted.{IsReadTerm}
use Rattle.pure_statements.specs.Elaborated.{IsTypedTerm}
use Rattle.pure_kernel.specs.declared.theory_text.TextFault.{TextFault}
use Rattle.pure_kernel.specs.declared.theory_text.TextFault.TheVariants.{TheoryName, Refused, Memory}

-- the range of the whole text
abbrev pub whole : (text : List ℕ) → Span
whole text = record { from = 0; to = length text }

-- The text is too long for its places to be numbers of 32 bits.
abbrev pub IsTooLong : (text : List ℕ) → Type 0
IsTooLong text = 4294967296 ≤ length text

-- The text is read, then elaborated at this type.
abbrev pub IsTermText : Vocabulary → (text : List ℕ) → Typ → Result Term Reason → Type 0
IsTermText V text T = Then (IsReadTerm text (whole text)) (IsTypedTerm V T)

-- why a step of a command has no answer, as why a text says nothing
abbrev pub text_fault : Failed → TextFault
text_fault (failed.Refused reason) = Refused reason
text_fault failed.Memory = Memory

-- What a call answers to a text that says something so, where names can be looked up just under this condition. Want of memory may come at any time.
abbrev pub IsTextAnswer : {A : Type 0} → (MayLookUp : Type 0) → (text : List ℕ) → (Says : Result A Reason → Type 0) → Result A TextFault → Type 0
IsTextAnswer MayLookUp text Says (Ok a) = Says (Ok a)
IsTextAnswer MayLookUp text Says (Err TheoryName) = ¬ MayLookUp
IsTextAnswer MayLookUp text Says (Err (Refused reason)) = (IsTooLong text × (reason ≡ TooLong)) ⊎ Says (Err reason)
IsTextAnswer MayLookUp text Says (Err Memory) = Unit {0}
