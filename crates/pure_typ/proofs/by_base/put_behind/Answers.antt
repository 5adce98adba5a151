use Rattle.std.proofs.Common.{◌≡◌, [], refl, sym, ap, rules}
use Rattle.std.specs.Option.{option_map_or}
use Rattle.pure_typ.specs.NameBases.{names_at}
use Rattle.pure_typ.proofs.BaseMapLemmas.{names-put}
use Rattle.pure_typ.proofs.by_base.put_behind.Goals as goal

pub returns-in-Some : goal.returns-in-Some
returns-in-Some c =
    let had : names_at c.args.by_base.now c.args.base.now ≡ c.in-Some.names.now.items = ap (λ found. option_map_or (λ v. v.items) found []) (sym c.in-Some.ensures.value) in
    names-put c.args.by_base.now c.args.by_base.now (c.get_mut.follows.lender c.push.new.self) c.args.base.now c.args.base.now c.in-Some.names.now.items c.args.name c.push.new.self
    refl refl had c.in_ok-push.ensures.items ((c.get_mut.follows.holds c.push.new.self).3 (search rules))

pub returns : goal.returns
returns c =
    let had : names_at c.args.by_base.now c.args.base.now ≡ [] = ap (λ found. option_map_or (λ v. v.items) found []) (sym c.in_default.ensures.value) in
    names-put c.get_mut.follows.lender-at-none c.args.by_base.now c.insert.new.self c.args.base.now c.in_ok-key.key.items [] c.args.name c.in_ok-names.names
    c.get_mut.follows.holds-at-none c.in_ok-key.ensures.items had c.in_ok-names.ensures.items c.in_ok-insert.ensures.updates
