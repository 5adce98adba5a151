use Rattle.pure_replay.proofs.TableLaws.{uncertified}
use Rattle.pure_replay.proofs.tables.certified_typ.Goals as goal

pub returns-in_ok-uncertified-in-Err : goal.returns-in_ok-uncertified-in-Err
returns-in_ok-uncertified-in-Err c = uncertified c.args.declared.now c.args.t.now c.in-Err.fault c.in-Err.ensures.answer c.in_ok-uncertified-in-Err.ensures
