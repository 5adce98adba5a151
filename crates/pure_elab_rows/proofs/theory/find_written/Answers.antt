use Rattle.std.proofs.Common.{◌≡◌, ◌∙◌, true, false, bytes_eq, sym, arith}
use Rattle.pure_elab_rows.proofs.TableLemmas.{name_here, name_next, name_end}
use Rattle.pure_elab_rows.proofs.theory.find_written.Goals as goal

pub returns-then-same : goal.returns-then-same
returns-then-same c =
    let test : bytes_eq c.entry-item.result.text c.args.text.now ≡ true = grind arith in
    let here = name_here c.args.entries.now c.loop-entry.entry-index c.entry-item.result c.args.text.now c.loop-entry-test.true c.entry-item.is test in
    let whole = c.loop-entry.invariant in
    grind arith

pub loop-entry-preserved : goal.loop-entry-preserved
loop-entry-preserved c =
    let test : bytes_eq c.entry-item.result.text c.args.text.now ≡ false = grind arith in
    name_next c.args.entries.now c.loop-entry.entry-index c.entry-item.result c.args.text.now c.loop-entry-test.true c.entry-item.is test ∙ c.loop-entry.invariant

pub returns : goal.returns
returns c = sym (name_end c.args.entries.now c.loop-entry.entry-index c.args.text.now c.loop-entry-test.false) ∙ c.loop-entry.invariant
