use Rattle.std.proofs.Common.{◌↔◌, IsTrue, subst}
use Rattle.pure_order_tables.specs.Rows.{Holds}
use Rattle.pure_citations.proofs.HeadLaws.{text-found}
use Rattle.pure_citations.proofs.heads.holds_text.Goals as goal

pub returns-in-Some : goal.returns-in-Some
returns-in-Some c =
    text-found c.args.names.now c.are_session_texts.ensures c.args.row.now c.args.text.now c.in-Some.name c.in-Some.ensures c.holds.result (subst (λ k. IsTrue c.holds.result ↔ Holds c.args.row.now k) c.place_of.ensures c.holds.ensures)
