use Rattle.std.proofs.Common.{◌≡◌, arith}
use Rattle.pure_definitions.specs.Terms.Measures.{term_index_above}
use Rattle.pure_unify_steps.proofs.StaysLaws.{none_gathered}
use Rattle.pure_unify_steps.proofs.gather.+push_variables.Goals as goal

pub returns-then-index_above_of-eq0 : goal.returns-then-index_above_of-eq0
returns-then-index_above_of-eq0 t c =
    let none : term_index_above c.args.t.now ≡ 0 = omega arith in
    none_gathered c.args.list.now.items c.args.t.now none
