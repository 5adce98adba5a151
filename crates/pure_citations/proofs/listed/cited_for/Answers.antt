use Rattle.pure_table.specs.Promise.Seen.{seen}
use Rattle.pure_citations.specs.Cited.{forks}
use Rattle.pure_citations.proofs.ListedLaws.{cited-named, cited-unnamed, if-weaker}
use Rattle.pure_citations.proofs.listed.cited_for.Goals as goal

pub returns-in-Some : goal.returns-in-Some
returns-in-Some c =
    if-weaker c.cited_axioms.result _ _ (λ row are. cited-named c.args.names.now c.are_session_texts.ensures c.args.name.now (forks c.args.duties.now) (seen c.args.entries.now) c.in-Some.number (rw c.names.ensures at c.in-Some.ensures) row.items are)
    c.cited_axioms.ensures

pub returns-in-None : goal.returns-in-None
returns-in-None c =
    rw c.new.ensures.items (cited-unnamed c.args.names.now c.are_session_texts.ensures c.args.name.now (forks c.args.duties.now) (seen c.args.entries.now) (rw c.names.ensures at c.in-None.ensures))
