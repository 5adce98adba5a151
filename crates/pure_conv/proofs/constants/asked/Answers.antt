use Rattle.std.proofs.Common.{refl, subst}
use Rattle.std.specs.Prelude.{Option, Ok}
use Rattle.pure_logic.specs.Derivable.{Theorem}
use Rattle.pure_conv.specs.Bottom.{ReturnsAt}
use Rattle.pure_conv.proofs.BecomingLaws.{refused-constant, converted-none, converted-some, no-side, none-is}
use Rattle.pure_conv.proofs.constants.asked.Goals as goal

pub returns-in-Err-clause-becomes : goal.returns-in-Err-clause-becomes
returns-in-Err-clause-becomes g c =
    refused-constant (ReturnsAt g.F.Fn c.args.f.now c.args.thy.now) c.args.t.now.value c.in-Err.fault c.requires.constant
    (record { first = c.args.thy; second = c.deref-whole.result; shows = (refl, c.deref-whole.ensures); says = record { met = c.in-Err.ensures } })

pub returns-in_default-clause-becomes : goal.returns-in_default-clause-becomes
returns-in_default-clause-becomes g c =
    converted-none (ReturnsAt g.F.Fn c.args.f.now c.args.thy.now) c.args.t.now.value c.in_ok-kept.field-0.term.value c.in_ok-kept.field-0.rests.items c.requires.constant
    (subst (λ (o : Option Theorem). ReturnsAt g.F.Fn c.args.f.now c.args.thy.now c.args.t.now.value (Ok o)) (none-is c.in-Ok.found c.in_default.not-Some)
    (record { first = c.args.thy; second = c.deref-whole.result; shows = (refl, c.deref-whole.ensures); says = record { met = c.in-Ok.ensures } }))
    c.in_ok-kept.ensures.term c.in_ok-kept.ensures.rests

pub unreachable-requires : goal.unreachable-requires
unreachable-requires g c =
    no-side (ReturnsAt g.F.Fn c.args.f.now c.args.thy.now) c.args.t.now.value c.in-Some.th c.requires.constant c.requires.equations
    (subst (λ (o : Option Theorem). ReturnsAt g.F.Fn c.args.f.now c.args.thy.now c.args.t.now.value (Ok o)) c.in-Some.is
    (record { first = c.args.thy; second = c.deref-whole.result; shows = (refl, c.deref-whole.ensures); says = record { met = c.in-Ok.ensures } }))
    (rw c.in-None.is at c.in_ok-made.ensures.side)

pub returns-clause-becomes : goal.returns-clause-becomes
returns-clause-becomes g c =
    converted-some (ReturnsAt g.F.Fn c.args.f.now c.args.thy.now) c.args.t.now.value c.in-Some-2.made.term.value c.in-Some-2.made.rests.items c.in-Some.th c.requires.constant c.requires.equations
    (subst (λ (o : Option Theorem). ReturnsAt g.F.Fn c.args.f.now c.args.thy.now c.args.t.now.value (Ok o)) c.in-Some.is
    (record { first = c.args.thy; second = c.deref-whole.result; shows = (refl, c.deref-whole.ensures); says = record { met = c.in-Ok.ensures } }))
    (rw c.in-Some-2.is at c.in_ok-made.ensures.side)
