use Rattle.std.proofs.Common.{inl}
use Rattle.pure_logic.specs.Derivable.{IsDerivable}
use Rattle.pure_conv.specs.Bottom.{ReturnsAt}
use Rattle.pure_conv.proofs.BecomingLaws.{concluded, answered-derivable}
use Rattle.pure_conv.proofs.ConvertedLaws.{converted-derivable}
use Rattle.pure_conv.proofs.constants.bottom.Goals as goal

pub returns-in-Ok-clause-answer : goal.returns-in-Ok-clause-answer
returns-in-Ok-clause-answer g c =
    concluded (ReturnsAt g.F.Fn c.args.f.now c.args.thy.now) c.args.t.now c.in-Ok.made.term.value c.in-Ok.made.rests.items c.concluded.result (rw c.in_ok-whole.ensures at c.in-Ok.ensures.becomes) c.concluded.ensures

pub returns-in-Ok-clause-derivable : goal.returns-in-Ok-clause-derivable
returns-in-Ok-clause-derivable g c q derivable certified =
    let Q = g.B.Base.content c.args.thy.now in
    let Answers = ReturnsAt g.F.Fn c.args.f.now c.args.thy.now in
    answered-derivable (IsDerivable Q) Answers c.args.t.now c.concluded.result (converted-derivable Q q Answers c.requires.equations derivable c.args.t.now certified)
    (concluded Answers c.args.t.now c.in-Ok.made.term.value c.in-Ok.made.rests.items c.concluded.result (rw c.in_ok-whole.ensures at c.in-Ok.ensures.becomes) c.concluded.ensures)

pub returns-clause-answer : goal.returns-clause-answer
returns-clause-answer g c = inl (rw c.in_ok-whole.ensures at c.in-Err.ensures.becomes)
