use Rattle.std.proofs.lemmas.Result.{err_from_is_err_and}
use Rattle.pure_norm.proofs.AnswerLemmas.{beginning, walked-answer, fails-answer}
use Rattle.pure_norm.proofs.beta.reduced.Goals as goal

pub returns-in_err-u : goal.returns-in_err-u
returns-in_err-u c =
    let begins = beginning c.args.room c.args.whole.now.term.now c.requires.within in
    let p = err_from_is_err_and c.from_residual-in_err-u.result c.from_residual-in_err-u.ensures.1 in
    rw (p.1, p.2)
    (fails-answer (record { steps = 10000; room = c.args.room }) c.args.whole.now.term.now c.in_err-u.field-0.0 begins (rw c.in_ok-scope.ensures at c.in_err-u.ensures.fault))

pub returns : goal.returns
returns c =
    let begins = beginning c.args.room c.args.whole.now.term.now c.requires.within in
    rw (c.in_ok-copy.ensures, c.deref.ensures)
    (walked-answer (record { steps = 10000; room = c.args.room }) c.normal_form.new.walk c.args.whole.now.term.now c.in_ok-u.u.value begins
    (rw c.in_ok-scope.ensures at c.in_ok-u.ensures.walked) c.in_ok-u.ensures.over)
