use Rattle.std.proofs.Common.{◌^◌}
use Rattle.pure_unify_sides.proofs.ImageLaws.{domains_few}
use Rattle.pure_pattern_rules.proofs.SideLaws.{domain_low}
use Rattle.pure_pattern_rules.proofs.HeadLaws.{bound_typed, bound_imitated, escapes_domains, escapes_bounds}
use Rattle.pure_pattern_rules.proofs.mixed.bound_treated.Goals as goal

pub returns-in_default-clause-treated : goal.returns-in_default-clause-treated
returns-in_default-clause-treated c =
    let v = c.args.variable.now in
    escapes_domains c.args.index v.name v.index v.typ v.places.items c.args.place c.requires.imitable (rw c.deref.ensures.value at c.in_default.ensures)

pub domain_count-count-requires : goal.domain_count-count-requires
domain_count-count-requires c = domains_few c.args.variable.now.typ (2 ^ 32) c.requires.few

pub returns-in_default-bound_at-clause-treated : goal.returns-in_default-bound_at-clause-treated
returns-in_default-bound_at-clause-treated c =
    let v = c.args.variable.now in
    escapes_bounds c.args.index v.name v.index v.typ v.places.items c.args.place c.requires.imitable (rw (c.deref-2.ensures.value, c.domain_count-count.ensures) at c.in_default-bound_at.ensures)

pub imitated-requires-clause-names : goal.imitated-requires-clause-names
imitated-requires-clause-names c = domain_low c.args.place c.args.variable.now.places.items c.args.variable.now.typ c.in-Some.typ.now (2 ^ 32) (rw c.deref.ensures.value at c.in-Some.ensures) c.requires.few

pub imitated-requires-clause-typed : goal.imitated-requires-clause-typed
imitated-requires-clause-typed c =
    let v = c.args.variable.now in
    bound_typed c.args.index v.typ v.places.items c.args.place c.in-Some-bound_at.own c.in-Some.typ.now c.in_ok-own.own.value (rw (c.deref-2.ensures.value, c.domain_count-count.ensures) at c.in-Some-bound_at.ensures) (rw c.deref.ensures.value at c.in-Some.ensures)
    c.in_ok-own.ensures c.requires.imitable

pub returns-clause-treated : goal.returns-clause-treated
returns-clause-treated c =
    let v = c.args.variable.now in
    bound_imitated c.args.index v.name v.index v.typ v.places.items c.args.place c.in-Some-bound_at.own c.in-Some.typ.now c.in_ok-own.own.value c.imitated.result (rw (c.deref-2.ensures.value, c.domain_count-count.ensures) at c.in-Some-bound_at.ensures)
    (rw c.deref.ensures.value at c.in-Some.ensures) c.in_ok-own.ensures c.imitated.ensures.treated
