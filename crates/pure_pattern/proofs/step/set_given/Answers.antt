use Rattle.std.proofs.Common.{subst}
use Rattle.pure_pattern.specs.Held.{IsLowPair}
use Rattle.pure_pattern.specs.Followed.{IsGiven, AreBeyond}
use Rattle.pure_pattern.proofs.StepLaws.{pushed-each}
use Rattle.pure_pattern.proofs.step.set_given.Goals as goal

pub put_given-requires-clause-pairs : goal.put_given-requires-clause-pairs
put_given-requires-clause-pairs c = pushed-each IsLowPair c.args.held c.args.first c.push_pair.new.pairs.items c.in_ok-push_pair.ensures c.requires.pairs

pub returns-in-Ok : goal.returns-in-Ok
returns-in-Ok c = subst (λ ps. IsGiven c.args.maxidx c.args.new.items ps c.args.held.binds.items c.in-Ok.held) c.in_ok-push_pair.ensures c.in-Ok.ensures

pub returns-in-Err-Big : goal.returns-in-Err-Big
returns-in-Err-Big c = subst (λ ps. AreBeyond c.args.new.items ps c.args.held.binds.items) c.in_ok-push_pair.ensures (rw c.in-Err-Big.field-0-is at c.in-Err-Big.ensures)
