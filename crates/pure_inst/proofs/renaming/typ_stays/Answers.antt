use Rattle.std.proofs.Common.{arith}
use Rattle.pure_definitions.proofs.MeasureLemmas.{ground_stays}
use Rattle.pure_inst.specs.Renaming.{renamed_typs}
use Rattle.pure_inst.proofs.StaysLaws.{renamed_typ_stays}
use Rattle.pure_inst.proofs.renaming.typ_stays.Goals as goal

pub returns-then-is_ground_typ : goal.returns-then-is_ground_typ
returns-then-is_ground_typ c = λ _. ground_stays (renamed_typs c.args.renaming.now) c.args.t.now (cc)

pub returns : goal.returns
returns c = λ none. renamed_typ_stays c.args.renaming.now (c.keeps_fixed.ensures.0 c.if-not-keeps_fixed.false).0 c.args.t.now (omega arith)
