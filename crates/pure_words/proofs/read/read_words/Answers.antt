use Rattle.std.proofs.Common.{sym, subst}
use Rattle.std.proofs.lemmas.Result.{IfOk-weaker}
use Rattle.pure_words.specs.Words.{IsJob}
use Rattle.pure_words.specs.declared.job.Job.{Job}
use Rattle.pure_words.proofs.Readings.{job_spelled, none_spelled}
use Rattle.pure_words.proofs.read.read_words.Goals as goal

pub returns-in-Ok-Some-clause-ok : goal.returns-in-Ok-Some-clause-ok
returns-in-Ok-Some-clause-ok c =
    let read = rw c.in-Ok-Some.field-0-is at c.in-Ok-Some.ensures in
    let spelled = job_spelled c.args.words.now c.in-Ok-Some.job (sym read) in
    IfOk-weaker c.read_again.result _ _ (λ (found : Job) same. subst (IsJob c.args.words.now) (sym same) spelled) (c.read_again.ensures.ok spelled)

pub returns-in-Ok-Some-clause-usage : goal.returns-in-Ok-Some-clause-usage
returns-in-Ok-Some-clause-usage c =
    let read = rw c.in-Ok-Some.field-0-is at c.in-Ok-Some.ensures in
    let spelled = job_spelled c.args.words.now c.in-Ok-Some.job (sym read) in
    λ fault job other. c.read_again.ensures.usage spelled fault

pub returns-in-Ok-None-clause-usage : goal.returns-in-Ok-None-clause-usage
returns-in-Ok-None-clause-usage c =
    let read = rw c.in-Ok-None.field-0-is at c.in-Ok-None.ensures in
    λ _ job spelled. none_spelled c.args.words.now (sym read) job spelled
