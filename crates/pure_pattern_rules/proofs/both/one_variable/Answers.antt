use Rattle.pure_pattern_laws.proofs.KeepLaws.{agreeing-typed}
use Rattle.pure_pattern_rules.proofs.ImageLaws.{agreeing_normal}
use Rattle.pure_pattern_rules.proofs.both.one_variable.Goals as goal

pub set_to-requires-clause-typed : goal.set_to-requires-clause-typed
set_to-requires-clause-typed c =
    (c.args.f.now.typ, rw (c.in_ok-image.ensures, c.deref.ensures.value, c.deref-2.ensures.value) (agreeing-typed c.args.index c.args.f.now.typ c.args.f.now.places.items c.args.g.now.places.items))

pub set_to-requires-clause-normal : goal.set_to-requires-clause-normal
set_to-requires-clause-normal c = rw (c.in_ok-image.ensures, c.deref.ensures.value, c.deref-2.ensures.value) (agreeing_normal c.args.index c.args.f.now.typ c.args.f.now.places.items c.args.g.now.places.items)

pub returns-clause-treated : goal.returns-clause-treated
returns-clause-treated c = rw (c.in_ok-image.ensures, c.deref.ensures.value, c.deref-2.ensures.value) at c.set_to.ensures.treated
