use Rattle.pure_session.specs.Waiting.{all_loaded}
use Rattle.pure_session.proofs.NamesLemmas.{names-given}
use Rattle.pure_session.proofs.names.given.Goals as goal

pub returns : goal.returns
returns c =
    names-given (all_loaded c.args.theories.now) c.in_ok-texts.texts c.put_theories.new.texts c.in_ok-list.list c.in_ok-texts.ensures c.in_ok-put_theories.ensures
    (rw c.list.ensures at c.in_ok-list.ensures.same) c.in_ok-list.ensures.ascend
