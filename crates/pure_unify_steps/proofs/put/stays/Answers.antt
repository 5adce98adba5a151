use Rattle.std.proofs.Common.{◌≡◌, arith}
use Rattle.pure_definitions.specs.Terms.Measures.{term_index_above}
use Rattle.pure_unify_steps.proofs.PutLaws.{term_stays}
use Rattle.pure_unify_steps.proofs.StaysLaws.{ground_stays}
use Rattle.pure_unify_steps.proofs.put.stays.Goals as goal

pub returns-else-index_above_of-gt0 : goal.returns-else-index_above_of-gt0
returns-else-index_above_of-gt0 c =
    let none : term_index_above c.args.t.now ≡ 0 = omega arith in
    ground_stays c.in-OfTyps.field-0 c.args.t.now none c.args.setting.now c.in-OfTyps.is

pub returns-else-is_touched : goal.returns-else-is_touched
returns-else-is_touched c = term_stays c.in-OfTerm.map c.args.t.now (rw c.if-is_touched.false at c.is_touched.ensures) c.args.setting.now c.in-OfTerm.is
