use Rattle.std.proofs.Common.{sym}
use Rattle.pure_script.specs.Seen.{seen_theory}
use Rattle.pure_script.specs.States.{seen_state}
use Rattle.pure_script.proofs.Reading.{is_last-seen, fault-end, spells-end}
use Rattle.pure_script.proofs.read.read_theory.Goals as goal

pub returns-in-None-clause-fault : goal.returns-in-None-clause-fault
returns-in-None-clause-fault c =
    rw c.expected-kind.ensures (fault-end c.args.source.now c.args.tokens.now (seen_state c.read_all.new.state) c.in-Ok.ensures.ok (sym c.in-None.ensures) (is_last-seen c.read_all.new.state))

pub returns-in-Some-clause-ok : goal.returns-in-Some-clause-ok
returns-in-Some-clause-ok c =
    spells-end c.args.source.now c.args.tokens.now (seen_state c.read_all.new.state) (seen_theory c.in-Some.theory) c.in-Ok.ensures.ok (sym c.in-Some.ensures)
