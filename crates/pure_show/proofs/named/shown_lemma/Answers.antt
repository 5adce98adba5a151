use Rattle.pure_session.specs.Waiting.{seen_loaded}
use Rattle.pure_row_places.specs.Scans.{seen_scan}
use Rattle.pure_show.proofs.AnswerLaws.{lemma-shown}
use Rattle.pure_show.proofs.named.shown_lemma.Goals as goal

pub returns : goal.returns
returns c =
    lemma-shown c.args.checker.now.texts c.args.checker.now.theories c.args.duty.now c.args.name.now c.theory_number.result c.theory_number.ensures (seen_loaded c.theory-theory.result.now) c.theory-theory.ensures
    (seen_scan c.in_ok-scan.scan) c.in_ok-scan.ensures c.names.result.now c.names.ensures.value c.shown_in.result c.shown_in.ensures
