use Rattle.pure_replay.specs.Step.{plain_content}
use Rattle.pure_replay.proofs.TableLaws.{same_typ}
use Rattle.pure_replay.proofs.tables.is_certified_of.Goals as goal

pub returns-in-Some : goal.returns-in-Some
returns-in-Some c = same_typ (plain_content c.args.declared.now) c.args.t.now c.in-Some.own c.args.typ.now c.are_same_typs.result (rw c.in-Some.is at c.in_ok-certified_typ.ensures) c.are_same_typs.ensures
