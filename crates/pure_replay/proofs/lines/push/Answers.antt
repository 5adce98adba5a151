use Rattle.std.proofs.Common.{ap, subst}
use Rattle.pure_definitions.specs.Terms.Term.{Term}
use Rattle.pure_replay.specs.Conclusion.{Conclusion}
use Rattle.pure_replay.specs.Known.{HaveMore}
use Rattle.pure_replay.proofs.KnownLaws.{numbered-more}
use Rattle.pure_replay.proofs.lines.push.Goals as goal

pub returns-in_default-clause-put : goal.returns-in_default-clause-put
returns-in_default-clause-put c = (c.cut_place.ensures, c.in_default.ensures)

pub returns-clause-put : goal.returns-clause-put
returns-clause-put c = record { room = c.in-Some.ensures.0; is = c.in_ok-append.ensures; left_is = c.in-Some.ensures.1 }

pub returns-clause-numbered : goal.returns-clause-numbered
returns-clause-numbered c = λ h.
    numbered-more c.args.table.now.known.terms.items c.add_line.new.self.terms.items c.args.table.now.conclusions.items c.args.table.now.known.lines.items c.add_line.new.self.lines.items c.args.last _
    (subst (λ (A : Term). HaveMore c.args.table.now.known.terms.items c.args.table.now.known.lines.items c.add_line.new.self.terms.items c.add_line.new.self.lines.items A) (ap (λ (e : Conclusion). e.prop) c.last.view_is) c.in_ok-add_line.ensures) c.in_ok-append.ensures h
