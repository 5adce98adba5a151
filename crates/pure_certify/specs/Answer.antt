-- What the call that certifies a term answers.
use Rattle.std.specs.Prelude.{◌≡◌, ℕ, List, [], Result, Ok, Err}
use Rattle.pure_definitions.specs.Types.Typ.{Typ}
use Rattle.pure_definitions.specs.Terms.Term.{Term}
use Rattle.pure_definitions.specs.Terms.Typing.{HasType, IsUntypedAt}
use Rattle.pure_definitions.specs.Terms.Limits.{cut_off}
use Rattle.pure_definitions.specs.Declarations.Decl.{Decl}
use Rattle.pure_definitions.specs.Declarations.Certified.{HasCertifiedParts}
use Rattle.pure_term.specs.declared.typing.TypeFault.{TypeFault}
use Rattle.pure_term.specs.declared.typing.TypeFault.TheVariants as typing
use Rattle.pure_certify.specs.declared.fault.CertFault.{CertFault}
use Rattle.pure_certify.specs.declared.fault.CertFault.TheVariants.{NotTyped, Memory}
use Rattle.pure_certify.specs.Parts.{term_parts, IsFirstFault}

-- The term's fault: that of its first part that isn't sound; or, where its parts are certified and it has no type, the place of its first node at fault; or want of memory, which may come at any time.
abbrev pub IsTermFault : List Decl → Term → CertFault → Type 0
IsTermFault ds t (NotTyped cut) = HasCertifiedParts ds t × ((place : ℕ) × IsUntypedAt [] t place × (cut ≡ cut_off place))
IsTermFault ds t Memory = Unit {0}
IsTermFault ds t fault = IsFirstFault ds (term_parts t) fault

-- The answer: the type of a term that is certified, or the fault of one that isn't.
abbrev pub IsCertAnswer : List Decl → Term → Result Typ CertFault → Type 0
IsCertAnswer ds t (Ok T) = HasCertifiedParts ds t × HasType [] t T
IsCertAnswer ds t (Err fault) = IsTermFault ds t fault

-- the fault of a call for a term's type, as one of certification
abbrev pub fault_of_type : TypeFault → CertFault
fault_of_type (typing.NotTyped place) = NotTyped place
fault_of_type typing.Memory = Memory
