use Rattle.std.proofs.Common.{◌≡◌, ◌∙◌, true, false, nat_eq, sym, arith}
use Rattle.pure_elab_rows.proofs.TableLemmas.{count_here, count_next, count_end}
use Rattle.pure_elab_rows.proofs.theory.find_count.Goals as goal

pub returns-then-same : goal.returns-then-same
returns-then-same c =
    let test : nat_eq c.entry-item.result.name c.args.name ≡ true = grind arith in
    let here = count_here c.args.entries.now c.loop-entry.entry-index c.entry-item.result c.args.name c.loop-entry-test.true c.entry-item.is test in
    let whole = c.loop-entry.invariant in
    grind arith

pub loop-entry-preserved : goal.loop-entry-preserved
loop-entry-preserved c =
    let test : nat_eq c.entry-item.result.name c.args.name ≡ false = grind arith in
    count_next c.args.entries.now c.loop-entry.entry-index c.entry-item.result c.args.name c.loop-entry-test.true c.entry-item.is test ∙ c.loop-entry.invariant

pub returns : goal.returns
returns c = sym (count_end c.args.entries.now c.loop-entry.entry-index c.args.name c.loop-entry-test.false) ∙ c.loop-entry.invariant
