-- Lemmas with proofs, and proofs on their way, may go from one thread to another.
use denote.Param.Send.{IsSend, IsSync, sendable}
use denote.Ref.{NamedLft}
use Rattle.std.proofs.Crossing.{crosses}
use Rattle.pure_typ.proofs.typ.Typ.TheLaws.TheKnot.{crosses as types}
use Rattle.pure_term.proofs.term.Term.TheLaws.TheKnot.{crosses as terms}
use Rattle.pure_typ.proofs.sort.Sort.TheSendSync.{the_send as sort_send, the_sync as sort_sync}
use Rattle.pure_typ.proofs.by_base.NamesByBase.TheSendSync.{the_sync as names_sync}
use Rattle.pure_check_work.proofs.SendLaws.{duty_sync}
use Rattle.pure_typ.specs.contracts.typ.Typ as typ
use Rattle.pure_term.specs.contracts.term.Term as term
use Rattle.pure_theorem.specs.contracts.theorem.Thm as thm
use Rattle.pure_check_work.specs.Method.contracts.proving.Proving as proving
use Rattle.pure_try.specs.contracts.tries.Tries as tries

typ_send : IsSend typ.the_row
typ_send = search (types, sort_send, crosses, sendable) depth 20

typ_sync : IsSync typ.the_row
typ_sync = search (types, sort_sync, crosses, sendable) depth 20

term_send : IsSend term.the_row
term_send = search (terms, typ_send, typ_sync, crosses, sendable) depth 20

term_sync : IsSync term.the_row
term_sync = search (terms, typ_send, typ_sync, crosses, sendable) depth 20

thm_send : IsSend thm.the_row
thm_send = search (term_send, crosses, sendable) depth 60

thm_sync : IsSync thm.the_row
thm_sync = search (term_sync, crosses, sendable) depth 60

pub proving_send : IsSend proving.the_row
proving_send = search (thm_send, crosses, sendable) depth 60

pub proving_sync : IsSync proving.the_row
proving_sync = search (thm_sync, crosses, sendable) depth 60

pub tries_sync : (κ : NamedLft) → IsSync (tries.the_row κ)
tries_sync κ = search (names_sync, duty_sync, crosses, sendable) depth 60
