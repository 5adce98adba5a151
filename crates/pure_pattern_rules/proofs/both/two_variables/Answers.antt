use Rattle.pure_pattern_laws.proofs.KeepLaws.{left-typed, right-typed}
use Rattle.pure_pattern_rules.proofs.ImageLaws.{left_normal, right_normal}
use Rattle.pure_pattern_rules.proofs.both.two_variables.Goals as goal

pub set_both-requires-clause-typed : goal.set_both-requires-clause-typed
set_both-requires-clause-typed c =
    (c.args.f.now.typ, rw (c.in_ok-image.ensures, c.deref.ensures.value, c.deref-2.ensures.value) (left-typed c.args.index c.args.f.now.typ c.args.f.now.places.items c.args.g.now.places.items))

pub set_both-requires-clause-normal : goal.set_both-requires-clause-normal
set_both-requires-clause-normal c = rw (c.in_ok-image.ensures, c.deref.ensures.value, c.deref-2.ensures.value) (left_normal c.args.index c.args.f.now.typ c.args.f.now.places.items c.args.g.now.places.items)

pub set_both-requires-clause-other_typed : goal.set_both-requires-clause-other_typed
set_both-requires-clause-other_typed c =
    (c.args.g.now.typ, rw (c.in_ok-other.ensures, c.deref-3.ensures.value, c.deref-4.ensures.value) (right-typed c.args.index c.args.g.now.typ c.args.f.now.places.items c.args.g.now.places.items))

pub set_both-requires-clause-other_normal : goal.set_both-requires-clause-other_normal
set_both-requires-clause-other_normal c = rw (c.in_ok-other.ensures, c.deref-3.ensures.value, c.deref-4.ensures.value) (right_normal c.args.index c.args.g.now.typ c.args.f.now.places.items c.args.g.now.places.items)

pub returns-clause-treated : goal.returns-clause-treated
returns-clause-treated c = rw (c.in_ok-image.ensures, c.in_ok-other.ensures, c.deref.ensures.value, c.deref-2.ensures.value, c.deref-3.ensures.value, c.deref-4.ensures.value) at c.set_both.ensures.treated
