use Rattle.std.proofs.Common.{arith}
use Rattle.pure_inst.proofs.StaysLaws.{renamed_stays}
use Rattle.pure_inst.proofs.renaming.stays.Goals as goal

pub returns : goal.returns
returns c = λ none.
    let fixed = c.keeps_fixed.ensures.0 c.if-not-keeps_fixed.false in
    renamed_stays c.args.renaming.now fixed.0 fixed.1 c.args.t.now (omega arith)
