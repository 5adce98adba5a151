use Rattle.std.proofs.Common.{ap, ◌∙◌}
use Rattle.pure_session.specs.Refused.{all_refused}
use Rattle.pure_session.specs.Waiting.{all_loaded}
use Rattle.pure_check.specs.Formed.{asked_by}
use Rattle.pure_check.proofs.AnswerLemmas.{ran-text}
use Rattle.pure_check.proofs.tables.run_session.Goals as goal

pub returns : goal.returns
returns g c S is =
    ran-text (asked_by c.args.asking.now) _ _ _ (ap all_loaded c.as_slice.ensures.value) c.requires.loaded _ c.in_ok-work.ensures _ (c.in_ok-policy.ensures c.args.asking.now.workers) _ c.in_ok-board.ensures
    _ _ _ _ _ c.in_ok-formed.ensures S is.names is.theories (ap all_refused c.as_slice-2.ensures.value ∙ is.refused) is.files
