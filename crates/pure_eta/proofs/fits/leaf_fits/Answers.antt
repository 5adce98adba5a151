use Rattle.std.proofs.Common.{◌+◌, ◌<◌, arith}
use Rattle.pure_definitions.specs.Types.Typ.{typ_depth}
use Rattle.pure_eta.specs.LongTerm.{front_typ}
use Rattle.pure_term.specs.Scope.{scope_typs}
use Rattle.pure_eta.proofs.FitsLaws.{depth_at-ge}
use Rattle.pure_eta.proofs.fits.leaf_fits.Goals as goal

pub returns-in_default : goal.returns-in_default
returns-in_default c = λ fits.
    let more = depth_at-ge c.args.is_applied (front_typ (scope_typs c.args.scope.now) c.args.t.now) (1 + typ_depth c.args.typ.now) in
    let deep : 2000 < typ_depth c.args.typ.now = c.in_default.ensures (omega arith) in
    omega arith
