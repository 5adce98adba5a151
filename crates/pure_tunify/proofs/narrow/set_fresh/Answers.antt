use Rattle.pure_tunify.proofs.RenamedLaws.{freshly_tidy, freshly_set}
use Rattle.pure_tunify.proofs.narrow.set_fresh.Goals as goal

pub push-requires : goal.push-requires
push-requires c = rw (c.in_ok-entry.ensures, c.in_ok-bind.ensures) c.requires.new

pub put-requires-clause-absent : goal.put-requires-clause-absent
put-requires-clause-absent c = rw c.in_ok-bind.ensures c.requires.unset

pub put-requires-clause-tidy : goal.put-requires-clause-tidy
put-requires-clause-tidy c = freshly_tidy c.args.asked.now c.args.sort.now c.args.settings.now c.in_ok-bind.bind c.next.result c.in-Some.later c.next.ensures.tidy c.requires.old c.in_ok-bind.ensures c.next.ensures.value c.in-Some.ensures.1

pub returns : goal.returns
returns c = freshly_set c.args.asked.now c.args.sort.now c.args.settings.now c.put.new.self c.args.renamed.now c.push.new.self c.in_ok-bind.bind c.in_ok-entry.entry c.next.result c.in-Some.later c.in_ok-bind.ensures c.in_ok-entry.ensures c.next.ensures.value c.in-Some.ensures.1 c.in_ok-push.ensures c.in_ok-put.ensures
