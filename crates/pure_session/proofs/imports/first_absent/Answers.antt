use Rattle.std.proofs.Common.{sym, ◌∙◌}
use Rattle.pure_session.proofs.ImportLemmas.{is_absent, first_absent-find, find-here, find-end}
use Rattle.pure_session.proofs.imports.first_absent.Goals as goal

pub returns-then-is_absent : goal.returns-then-is_absent
returns-then-is_absent c =
    sym (first_absent-find c.args.listed.now c.args.imports.now ∙ find-here (is_absent c.args.listed.now) c.args.imports.now c.loop-import.import-index c.import-item.result c.loop-import-test.true c.import-item.is
    (sym c.is_absent.ensures ∙ c.if-is_absent.true) c.loop-import.invariant)

pub returns : goal.returns
returns c = sym (first_absent-find c.args.listed.now c.args.imports.now ∙ find-end (is_absent c.args.listed.now) c.args.imports.now c.loop-import.import-index c.loop-import-test.false c.loop-import.invariant)
