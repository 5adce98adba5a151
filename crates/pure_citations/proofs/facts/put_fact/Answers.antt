use Rattle.pure_citations.proofs.NamedLaws.{put-written, keep-written}
use Rattle.pure_citations.proofs.facts.put_fact.Goals as goal

pub returns-in_ok-put_name-in-Some : goal.returns-in_ok-put_name-in-Some
returns-in_ok-put_name-in-Some c = put-written c.args.names.now c.args.theory.now c.args.lemma c.args.written.now _ _ c.in_ok-name.ensures c.in-Some.is c.args.cited.now.items _ c.in_ok-put_name-in-Some.ensures

pub returns-in-None : goal.returns-in-None
returns-in-None c = keep-written c.args.names.now c.args.theory.now c.args.lemma c.args.written.now _ c.in_ok-name.ensures c.in-None.is c.args.cited.now.items
