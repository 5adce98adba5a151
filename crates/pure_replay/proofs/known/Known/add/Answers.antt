use Rattle.std.proofs.Common.{ap, length}
use Rattle.pure_replay.proofs.KnownLaws.{pushed-at, grown-by}
use Rattle.pure_replay.proofs.known.Known.add.Goals as goal

pub returns-clause-number : goal.returns-clause-number
returns-clause-number c = pushed-at c.args.self.now.terms.items _ c.args.t.now (length c.as_slice-known.result.now) (ap length c.as_slice-known.ensures.value) c.in_ok-push_term.ensures

pub returns-clause-grown : goal.returns-clause-grown
returns-clause-grown c = grown-by c.args.self.now.terms.items _ c.args.t.now c.in_ok-push_term.ensures
