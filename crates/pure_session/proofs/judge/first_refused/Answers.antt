use Rattle.std.proofs.Common.{sym, ◌∙◌, not, get_or, true}
use Rattle.pure_grammar.specs.Theories.Lexeme.{same}
use Rattle.pure_graph.specs.Outcome.{pure_theory}
use Rattle.pure_session.specs.Places.{place_in}
use Rattle.pure_session.proofs.ImportLemmas.{find-filter, find-here, find-end}
use Rattle.pure_session.proofs.JudgeLemmas.{is_refused}
use Rattle.pure_session.proofs.judge.first_refused.Goals as goal

pub returns-then-is_refused_import : goal.returns-then-is_refused_import
returns-then-is_refused_import c =
    sym (find-filter (λ p. not (same p pure_theory)) (λ p. get_or c.args.graph.now.lost.items (place_in c.args.graph.now.names.items p) true) c.args.imports.now
    ∙ find-here (is_refused c.args.graph.now.names.items c.args.graph.now.lost.items) c.args.imports.now c.loop-import.import-index c.import-item.result c.loop-import-test.true c.import-item.is
    (sym c.is_refused_import.ensures ∙ c.if-is_refused_import.true) c.loop-import.invariant)

pub returns : goal.returns
returns c =
    sym (find-filter (λ p. not (same p pure_theory)) (λ p. get_or c.args.graph.now.lost.items (place_in c.args.graph.now.names.items p) true) c.args.imports.now
    ∙ find-end (is_refused c.args.graph.now.names.items c.args.graph.now.lost.items) c.args.imports.now c.loop-import.import-index c.loop-import-test.false c.loop-import.invariant)
