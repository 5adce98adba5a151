use Rattle.std.proofs.Common.{◌≡◌, [], rules, subst, sym}
use Rattle.pure_text.proofs.ListLaws.{each_imply}
use Rattle.pure_pool.specs.Seated.{IsServedBy}
use Rattle.pure_pool.proofs.workers.run.Goals as goal

pub work_on_each-requires-clause-works : goal.work_on_each-requires-clause-works
work_on_each-requires-clause-works g c κs within =
    each_imply (λ seat. (seat.plan ≡ c.args.board.now) × (seat.own ≡ [])) _ c.args.seats.items (λ seat fresh borrow is. (
    let plan = subst (λ s. s.plan ≡ c.args.board.now) (sym is) fresh.0 in
    let own = subst (λ s. s.own ≡ []) (sym is) fresh.1 in
    search (rules, c.requires.session))) c.requires.seats

pub work_on_each-requires-clause-becomes : goal.work_on_each-requires-clause-becomes
work_on_each-requires-clause-becomes g c κs within old new k = subst (λ y. IsServedBy old y) k.left (subst (λ x. IsServedBy x k.after_call.now) k.argument_is k.call)
