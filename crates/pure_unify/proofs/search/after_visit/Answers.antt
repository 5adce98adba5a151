use Rattle.std.proofs.Common.{subst}
use Rattle.std.specs.Prelude.{Result, Ok, Err}
use Rattle.pure_norm.specs.declared.fault.NormFault.{NormFault}
use Rattle.pure_unify_visits.specs.declared.scan.Visited.{Visited}
use Rattle.pure_unify_visits.specs.declared.scan.Visited.TheVariants.{Simple, Failed}
use Rattle.pure_unify_visits.specs.Visited.{IsVisitAnswer}
use Rattle.pure_unify.proofs.FrameLaws.{step_failed}
use Rattle.pure_unify.proofs.search.after_visit.Goals as goal

pub returns-in-Ok-Simple-clause-answer : goal.returns-in-Ok-Simple-clause-answer
returns-in-Ok-Simple-clause-answer c A n ns k h hold e few =
    let whole = rw c.in-Ok-Simple.field-0-is at c.in-Ok-Simple.is in
    let came : IsVisitAnswer A c.args.maxidx n (Ok (Simple c.in-Ok-Simple.node)) = subst (λ (r : Result Visited NormFault). IsVisitAnswer A c.args.maxidx n r) whole h in
    c.settle_shared.ensures.answer A n came.0 ns k came.1 came.2 hold e few

pub returns-in-Ok-Failed-clause-answer : goal.returns-in-Ok-Failed-clause-answer
returns-in-Ok-Failed-clause-answer c A n ns k h hold e few =
    let whole = rw c.in-Ok-Failed.field-0-is at c.in-Ok-Failed.is in
    let came : IsVisitAnswer A c.args.maxidx n (Ok Failed) = subst (λ (r : Result Visited NormFault). IsVisitAnswer A c.args.maxidx n r) whole h in
    step_failed A c.args.maxidx n ns k c.args.search.now came hold e few

pub returns-in-Err-clause-answer : goal.returns-in-Err-clause-answer
returns-in-Err-clause-answer c A n ns k h hold e few =
    let came : IsVisitAnswer A c.args.maxidx n (Err c.in-Err.fault) = subst (λ (r : Result Visited NormFault). IsVisitAnswer A c.args.maxidx n r) c.in-Err.is h in
    c.stop_of.ensures A c.args.maxidx n ns k c.args.search.now.cut came few
