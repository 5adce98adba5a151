use Rattle.std.proofs.Common.{◌≢◌, sym, ◌∙◌}
use Rattle.pure_definitions.proofs.BindLemmas.{bind_under-same, bind_under-other}
use Rattle.pure_term.proofs.bounds.bind_variable.Goals as goal

pub returns-in_ok-new : goal.returns-in_ok-new
returns-in_ok-new c = c.in_ok-new.ensures.ok ∙ sym (bind_under-same c.args.place c.args.v.now c.args.t.now c.requires (c.are_same.ensures.0 c.if-are_same.true))

pub returns-else-are_same : goal.returns-else-are_same
returns-else-are_same c =
    let other : c.args.v.now ≢ c.args.t.now = λ e. let yes = c.are_same.ensures.1 e in absurd (cc) in
    rw (bind_under-other c.args.place c.args.v.now c.args.t.now c.requires other) c.copied.ensures
