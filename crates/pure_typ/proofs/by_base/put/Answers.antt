use Rattle.std.proofs.Common.{◌≡◌, refl, sym, ap}
use Rattle.std.specs.Prelude.{false, bytes_eq}
use Rattle.std.specs.Option.{option_map_or}
use Rattle.pure_typ.specs.NameBases.{has_base}
use Rattle.pure_typ.proofs.by_base.put.Goals as goal

pub returns : goal.returns
returns c = λ base.
    let own : has_base c.args.names.now base c.args.name ≡ bytes_eq base c.in-Some.base.now = ap (λ o. option_map_or (bytes_eq base) o false) (sym c.in-Some.ensures.value) in
    rw own (c.in_ok-put_behind.ensures base)

pub returns-in_default : goal.returns-in_default
returns-in_default c = λ base.
    let own : has_base c.args.names.now base c.args.name ≡ false = ap (λ o. option_map_or (bytes_eq base) o false) (sym c.in_default.ensures.value) in
    rw own refl
