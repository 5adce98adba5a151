use Rattle.std.proofs.Common.{◌≡◌, refl, sym, subst, false}
use Rattle.pure_definitions.specs.Types.Typ.{TVar}
use Rattle.pure_tunify.specs.Working.{IsFreeOf, IsNarrowed}
use Rattle.pure_tunify.proofs.FreeLaws.{told}
use Rattle.pure_tunify.proofs.TreatLaws.{resolved_free, treated_absent, treated_tidy, treated_set}
use Rattle.pure_tunify.proofs.turn.set_as_it_stands.Goals as goal

pub narrow-requires-clause-free : goal.narrow-requires-clause-free
narrow-requires-clause-free c = subst (IsFreeOf c.args.settings.now.sets) c.requires.free.0 (resolved_free c.args.settings.now c.args.other c.next.ensures.tidy)

pub put-requires-clause-absent : goal.put-requires-clause-absent
put-requires-clause-absent c =
    let whole : TVar c.in-TVar.name c.in-TVar.index c.in-TVar.sort ≡ c.args.variable = rw c.in-TVar.is at c.variable.view_is in
    let narrowed : IsNarrowed c.args.order.now c.in-TVar.sort c.args.settings.now c.narrow.new.settings c.args.other c.in-Some.image = rw c.in-Some.is at c.in_ok-narrowed.ensures in
    treated_absent c.args.order.now c.args.settings.now c.narrow.new.settings c.args.variable c.args.other c.args.other c.in-Some.image c.in-TVar.name c.in-TVar.index c.in-TVar.sort c.in-TVar.sort c.next-next.result c.next-next.ensures.tidy whole
    c.requires.absent c.requires.old refl (sym c.requires.free.0) false (told c.requires.free.1) refl narrowed c.next-next.ensures.value

pub put-requires-clause-tidy : goal.put-requires-clause-tidy
put-requires-clause-tidy c =
    let whole : TVar c.in-TVar.name c.in-TVar.index c.in-TVar.sort ≡ c.args.variable = rw c.in-TVar.is at c.variable.view_is in
    let narrowed : IsNarrowed c.args.order.now c.in-TVar.sort c.args.settings.now c.narrow.new.settings c.args.other c.in-Some.image = rw c.in-Some.is at c.in_ok-narrowed.ensures in
    treated_tidy c.args.order.now c.args.settings.now c.narrow.new.settings c.args.variable c.args.other c.args.other c.in-Some.image c.in-TVar.name c.in-TVar.index c.in-TVar.sort c.in-TVar.sort c.next-next.result c.next-next.ensures.tidy whole
    c.requires.absent c.requires.old refl (sym c.requires.free.0) false (told c.requires.free.1) refl narrowed c.next-next.ensures.value

pub returns : goal.returns
returns c =
    let whole : TVar c.in-TVar.name c.in-TVar.index c.in-TVar.sort ≡ c.args.variable = rw c.in-TVar.is at c.variable.view_is in
    let narrowed : IsNarrowed c.args.order.now c.in-TVar.sort c.args.settings.now c.narrow.new.settings c.args.other c.in-Some.image = rw c.in-Some.is at c.in_ok-narrowed.ensures in
    treated_set c.args.order.now c.args.settings.now c.narrow.new.settings c.args.variable c.args.other c.args.other c.in-Some.image c.in-TVar.name c.in-TVar.index c.in-TVar.sort c.in-TVar.sort c.next-next.result c.next-next.ensures.tidy whole
    c.requires.absent c.requires.old refl (sym c.requires.free.0) false (told c.requires.free.1) refl narrowed c.next-next.ensures.value c.put.new.self c.in_ok-put.ensures
