use Rattle.std.proofs.Common.{◌≡◌, Some, None}
use Rattle.pure_definitions.specs.Types.Typ.{TVar}
use Rattle.pure_definitions.specs.Terms.Subst.{typ_instance}
use Rattle.pure_tunify.specs.Settings.{composed}
use Rattle.pure_tunify.specs.Working.{IsResolved, IsNarrowed}
use Rattle.pure_tunify.proofs.TreatLaws.{beyond_limits, resolved_old, resolved_free, treated_absent, treated_tidy, treated_set}
use Rattle.pure_tunify.proofs.turn.treat.Goals as goal

pub treat_unwritten-requires-clause-beyond : goal.treat_unwritten-requires-clause-beyond
treat_unwritten-requires-clause-beyond c =
    let large : IsResolved c.args.settings.now.sets c.args.other.now 200000 2000 None = rw c.in_default-found.is at c.in_ok-found.ensures in
    beyond_limits (typ_instance (composed c.args.settings.now.sets) c.args.other.now) large

pub narrow-requires-clause-old : goal.narrow-requires-clause-old
narrow-requires-clause-old c =
    let found : IsResolved c.args.settings.now.sets c.args.other.now 200000 2000 (Some c.in-Some.resolved) = rw c.in-Some.is at c.in_ok-found.ensures in
    rw found.0 (resolved_old c.args.settings.now c.args.other.now c.next.ensures.tidy c.requires.old.1)

pub narrow-requires-clause-free : goal.narrow-requires-clause-free
narrow-requires-clause-free c =
    let found : IsResolved c.args.settings.now.sets c.args.other.now 200000 2000 (Some c.in-Some.resolved) = rw c.in-Some.is at c.in_ok-found.ensures in
    rw found.0 (resolved_free c.args.settings.now c.args.other.now c.next.ensures.tidy)

pub put-requires-clause-absent : goal.put-requires-clause-absent
put-requires-clause-absent c =
    let found : IsResolved c.args.settings.now.sets c.args.other.now 200000 2000 (Some c.in-Some.resolved) = rw c.in-Some.is at c.in_ok-found.ensures in
    let whole : TVar c.in-TVar.name c.in-TVar.index c.in-TVar.sort ≡ c.args.variable.now = rw c.in-TVar.is at c.variable.view_is in
    let narrowed : IsNarrowed c.args.order.now c.in-TVar.sort c.args.settings.now c.narrow.new.settings c.in-Some.resolved.typ c.in-Some-narrowed.image = rw c.in-Some-narrowed.is at c.in_ok-narrowed.ensures in
    treated_absent c.args.order.now c.args.settings.now c.narrow.new.settings c.args.variable.now c.args.other.now c.in-Some.resolved.typ c.in-Some-narrowed.image c.in-TVar.name c.in-TVar.index c.in-TVar.sort c.in_ok-own.own c.next-next.result
    c.next-next.ensures.tidy whole c.requires.absent c.requires.old c.in_ok-own.ensures found.0 c.variable_occurs.result c.variable_occurs.ensures c.if-variable_occurs.false narrowed c.next-next.ensures.value

pub put-requires-clause-tidy : goal.put-requires-clause-tidy
put-requires-clause-tidy c =
    let found : IsResolved c.args.settings.now.sets c.args.other.now 200000 2000 (Some c.in-Some.resolved) = rw c.in-Some.is at c.in_ok-found.ensures in
    let whole : TVar c.in-TVar.name c.in-TVar.index c.in-TVar.sort ≡ c.args.variable.now = rw c.in-TVar.is at c.variable.view_is in
    let narrowed : IsNarrowed c.args.order.now c.in-TVar.sort c.args.settings.now c.narrow.new.settings c.in-Some.resolved.typ c.in-Some-narrowed.image = rw c.in-Some-narrowed.is at c.in_ok-narrowed.ensures in
    treated_tidy c.args.order.now c.args.settings.now c.narrow.new.settings c.args.variable.now c.args.other.now c.in-Some.resolved.typ c.in-Some-narrowed.image c.in-TVar.name c.in-TVar.index c.in-TVar.sort c.in_ok-own.own c.next-next.result
    c.next-next.ensures.tidy whole c.requires.absent c.requires.old c.in_ok-own.ensures found.0 c.variable_occurs.result c.variable_occurs.ensures c.if-variable_occurs.false narrowed c.next-next.ensures.value

pub returns : goal.returns
returns c =
    let found : IsResolved c.args.settings.now.sets c.args.other.now 200000 2000 (Some c.in-Some.resolved) = rw c.in-Some.is at c.in_ok-found.ensures in
    let whole : TVar c.in-TVar.name c.in-TVar.index c.in-TVar.sort ≡ c.args.variable.now = rw c.in-TVar.is at c.variable.view_is in
    let narrowed : IsNarrowed c.args.order.now c.in-TVar.sort c.args.settings.now c.narrow.new.settings c.in-Some.resolved.typ c.in-Some-narrowed.image = rw c.in-Some-narrowed.is at c.in_ok-narrowed.ensures in
    treated_set c.args.order.now c.args.settings.now c.narrow.new.settings c.args.variable.now c.args.other.now c.in-Some.resolved.typ c.in-Some-narrowed.image c.in-TVar.name c.in-TVar.index c.in-TVar.sort c.in_ok-own.own c.next-next.result
    c.next-next.ensures.tidy whole c.requires.absent c.requires.old c.in_ok-own.ensures found.0 c.variable_occurs.result c.variable_occurs.ensures c.if-variable_occurs.false narrowed c.next-next.ensures.value c.put.new.self c.in_ok-put.ensures
