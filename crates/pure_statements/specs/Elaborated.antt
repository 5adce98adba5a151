-- What trees of terms and types say over a vocabulary, or why they say nothing, as steps of a command.
use Rattle.std.specs.Prelude.{◌≡◌, ℕ, List, Result, Ok, Err}
use Rattle.pure_definitions.specs.Types.Typ.{Typ}
use Rattle.pure_definitions.specs.Terms.Term.{Term}
use Rattle.pure_grammar.specs.Terms.RawTree.{RawTypTree, RawTree}
use Rattle.pure_elab.specs.Vocabulary.{Vocabulary}
use Rattle.pure_elab.specs.declared.fault.ElabFault.{ElabFault}
use Rattle.pure_elab.specs.declared.fault.ElabFault.TheVariants as fault
use Rattle.pure_elab.specs.Answers.{IsElaborated, IsElabFault, IsElaboratedTyp, IsElabTypFault}
use Rattle.pure_statements.specs.declared.reason.Reason.{Reason}
use Rattle.pure_statements.specs.declared.reason.Reason.TheVariants.{UnknownNameAt, UnknownClassAt, WrongCountAt, SchematicAt, IllTyped, TooLarge}
use Rattle.pure_statements.specs.declared.reason.Failed.{Failed}
use Rattle.pure_statements.specs.declared.reason.Failed.TheVariants.{Refused, Memory}

-- a fault of elaboration as one of a command
abbrev pub failed_elaboration : ElabFault → Failed
failed_elaboration (fault.UnknownName at) = Refused (UnknownNameAt at)
failed_elaboration (fault.UnknownSort at) = Refused (UnknownClassAt at)
failed_elaboration (fault.WrongCount at) = Refused (WrongCountAt at)
failed_elaboration (fault.Schematic at) = Refused (SchematicAt at)
failed_elaboration (fault.IllTyped at) = Refused (IllTyped at)
failed_elaboration fault.Big = Refused TooLarge
failed_elaboration fault.Memory = Memory

-- what the tree of a term says at a type, or its fault
abbrev pub IsTypedTerm : Vocabulary → (typ : Typ) → RawTree → Result Term Reason → Type 0
IsTypedTerm V T raw (Ok t) = IsElaborated V raw T t
IsTypedTerm V T raw (Err reason) = (found : ElabFault) × IsElabFault V raw T found × (failed_elaboration found ≡ Refused reason)

-- what the tree of a type says, or its fault
abbrev pub IsWrittenTyp : Vocabulary → RawTypTree → Result Typ Reason → Type 0
IsWrittenTyp V raw (Ok T) = IsElaboratedTyp V raw T
IsWrittenTyp V raw (Err reason) = (found : ElabFault) × IsElabTypFault V raw found × (failed_elaboration found ≡ Refused reason)
