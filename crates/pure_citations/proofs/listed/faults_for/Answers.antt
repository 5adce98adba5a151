use Rattle.pure_table.specs.Promise.Seen.{seen}
use Rattle.pure_citations.proofs.ListedLaws.{faults-named, faults-unnamed, if-weaker}
use Rattle.pure_citations.proofs.listed.faults_for.Goals as goal

pub returns-in-Some : goal.returns-in-Some
returns-in-Some c =
    if-weaker c.reached_faults.result _ _ (λ row are. faults-named c.args.names.now c.are_session_texts.ensures c.args.name.now (seen c.args.entries.now) c.in-Some.number (rw c.names.ensures at c.in-Some.ensures) row.items are) c.reached_faults.ensures

pub returns-in-None : goal.returns-in-None
returns-in-None c = rw c.new.ensures.items (faults-unnamed c.args.names.now c.are_session_texts.ensures c.args.name.now (seen c.args.entries.now) (rw c.names.ensures at c.in-None.ensures))
