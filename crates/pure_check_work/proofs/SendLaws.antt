-- A session, its lemmas and what comes of them may go from one thread to another.
use denote.Param.Send.{IsSend, IsSync, sendable}
use Rattle.std.proofs.Crossing.{crosses}
use Rattle.pure_typ.proofs.typ.Typ.TheLaws.TheKnot.{crosses as types}
use Rattle.pure_term.proofs.term.Term.TheLaws.TheKnot.{crosses as terms}
use Rattle.pure_typ.proofs.sort.Sort.TheSendSync.{the_send as sort_send, the_sync as sort_sync}
use Rattle.pure_shared_maps.proofs.shelf.Shelf.TheSendSync.{the_send as shelf_send, the_sync as shelf_sync}
use Rattle.pure_order.proofs.order.Order.TheSendSync.{the_send as order_send, the_sync as order_sync}
use Rattle.pure_table.proofs.Theory.theory_id.Known.TheSendSync.{the_send as known_send, the_sync as known_sync}
use Rattle.pure_script.proofs.theory.Step.TheSendSync.{the_send as step_send, the_sync as step_sync}
use Rattle.pure_typ.proofs.by_base.NamesByBase.TheSendSync.{the_send as names_send, the_sync as names_sync}
use Rattle.pure_session.proofs.order.Loaded.TheSendSync.{the_send as loaded_send, the_sync as loaded_sync}
use Rattle.pure_typ.specs.contracts.typ.Typ as typ
use Rattle.pure_term.specs.contracts.term.Term as term
use Rattle.pure_theorem.specs.contracts.theorem.Thm as thm
use Rattle.pure_theory_tables.specs.contracts.fact.Statement as statement
use Rattle.pure_theory_tables.specs.contracts.entry.Entry as declared
use Rattle.pure_theory_tables.specs.contracts.declarations.Declarations as declarations
use Rattle.pure_table.specs.Theory.contracts.theory.Theory as theory
use Rattle.pure_table.specs.Theory.contracts.cthm.Cthm as cthm
use Rattle.pure_table.specs.Declare.contracts.notes.Duty as duty
use Rattle.pure_table.specs.Declare.contracts.notes.Note as note
use Rattle.pure_table.specs.Method.contracts.outcome.Outcome as outcome
use Rattle.pure_table.specs.TheoryRun.contracts.closed.Closed as closed
use Rattle.pure_table.specs.TheoryRun.contracts.run.Run as run
use Rattle.pure_table.specs.TheoryRun.contracts.checker.Checker as checker
use Rattle.pure_check_work.specs.contracts.checking.Checking as checking
use Rattle.pure_check_work.specs.contracts.attempt.Attempt as attempt

typ_send : IsSend typ.the_row
typ_send = search (types, sort_send, crosses, sendable) depth 20

typ_sync : IsSync typ.the_row
typ_sync = search (types, sort_sync, crosses, sendable) depth 20

term_send : IsSend term.the_row
term_send = search (terms, typ_send, typ_sync, crosses, sendable) depth 20

term_sync : IsSync term.the_row
term_sync = search (terms, typ_send, typ_sync, crosses, sendable) depth 20

statement_send : IsSend statement.the_row
statement_send = search (term_send, term_sync, crosses, sendable) depth 20

statement_sync : IsSync statement.the_row
statement_sync = search (term_send, term_sync, crosses, sendable) depth 20

declared_send : IsSend declared.the_row
declared_send = search (typ_send, typ_sync, sort_send, sort_sync, term_send, term_sync, crosses, sendable) depth 20 fits 20000

declared_sync : IsSync declared.the_row
declared_sync = search (typ_send, typ_sync, sort_send, sort_sync, term_send, term_sync, crosses, sendable) depth 20 fits 20000

declarations_send : IsSend declarations.the_row
declarations_send = search (declared_send, declared_sync, typ_send, typ_sync, statement_send, statement_sync, shelf_send, crosses, sendable) depth 60 fits 20000

declarations_sync : IsSync declarations.the_row
declarations_sync = search (declared_send, declared_sync, typ_send, typ_sync, statement_send, statement_sync, shelf_sync, crosses, sendable) depth 60 fits 20000

theory_send : IsSend theory.the_row
theory_send = search (declarations_send, order_send, order_sync, known_send, known_sync, crosses, sendable) depth 60

theory_sync : IsSync theory.the_row
theory_sync = search (declarations_sync, order_send, order_sync, known_send, known_sync, crosses, sendable) depth 60

thm_send : IsSend thm.the_row
thm_send = search (term_send, crosses, sendable) depth 60

thm_sync : IsSync thm.the_row
thm_sync = search (term_sync, crosses, sendable) depth 60

cthm_send : IsSend cthm.the_row
cthm_send = search (theory_send, theory_sync, thm_send, thm_sync, crosses, sendable) depth 60

cthm_sync : IsSync cthm.the_row
cthm_sync = search (theory_send, theory_sync, thm_send, thm_sync, crosses, sendable) depth 60

pub duty_send : IsSend duty.the_row
duty_send = search (theory_send, theory_sync, term_send, term_sync, step_send, crosses, sendable) depth 60

pub duty_sync : IsSync duty.the_row
duty_sync = search (theory_send, theory_sync, term_send, term_sync, step_sync, crosses, sendable) depth 60

note_send : IsSend note.the_row
note_send = search (duty_send, crosses, sendable) depth 60

note_sync : IsSync note.the_row
note_sync = search (duty_sync, crosses, sendable) depth 60

pub outcome_send : IsSend outcome.the_row
outcome_send = search (cthm_send, crosses, sendable) depth 60

pub outcome_sync : IsSync outcome.the_row
outcome_sync = search (cthm_sync, crosses, sendable) depth 60

pub closed_send : IsSend closed.the_row
closed_send = search (theory_send, theory_sync, crosses, sendable) depth 60

pub closed_sync : IsSync closed.the_row
closed_sync = search (theory_send, theory_sync, crosses, sendable) depth 60

pub run_send : IsSend run.the_row
run_send = search (note_send, theory_send, theory_sync, crosses, sendable) depth 60

pub run_sync : IsSync run.the_row
run_sync = search (note_sync, theory_send, theory_sync, crosses, sendable) depth 60

checker_send : IsSend checker.the_row
checker_send = search (names_send, loaded_send, theory_send, theory_sync, crosses, sendable) depth 60 fits 20000

checker_sync : IsSync checker.the_row
checker_sync = search (names_sync, loaded_sync, theory_send, theory_sync, crosses, sendable) depth 60 fits 20000

pub checking_send : IsSend checking.the_row
checking_send = search (checker_send, crosses, sendable) depth 60

pub checking_sync : IsSync checking.the_row
checking_sync = search (checker_sync, crosses, sendable) depth 60

pub attempt_send : IsSend attempt.the_row
attempt_send = search (thm_send, crosses, sendable) depth 60

pub attempt_sync : IsSync attempt.the_row
attempt_sync = search (thm_sync, crosses, sendable) depth 60
