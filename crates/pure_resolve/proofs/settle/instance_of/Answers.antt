use Rattle.std.proofs.Common.{[], refl}
use Rattle.pure_logic.specs.Derivable.{Theorem}
use Rattle.pure_resolve.proofs.SettleLaws.{instance_large}
use Rattle.pure_resolve.proofs.settle.instance_of.Goals as goal

pub returns-in-Err-Big : goal.returns-in-Err-Big
returns-in-Err-Big g c =
    let large = rw c.in-Err-Big.field-0-is at c.in-Err-Big.ensures in
    let th : Theorem = record { hyps = []; pairs = []; prop = c.args.t; rests = [] } in
    instance_large _ c.args.typs.now c.args.terms.now th large.0 c.args.t refl refl refl large.1 large.2
