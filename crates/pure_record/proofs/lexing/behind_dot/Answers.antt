use Rattle.std.proofs.Common.{◌∙◌, sym}
use Rattle.std.proofs.lemmas.List.{at_drop_all}
use Rattle.pure_record.specs.Lexemes.{behind_dot}
use Rattle.pure_record.proofs.DotLemmas.{behind-at, behind-next}
use Rattle.pure_record.proofs.lexing.behind_dot.Goals as goal

pub returns-then-byte-eq46 : goal.returns-then-byte-eq46
returns-then-byte-eq46 c = behind-at c.args.bytes.now c.loop-at.at c.loop-at-test.true c.if-byte-eq46.true ∙ c.loop-at.invariant

pub loop-at-preserved : goal.loop-at-preserved
loop-at-preserved c = sym (behind-next c.args.bytes.now c.loop-at.at c.loop-at-test.true c.if-byte-eq46.false) ∙ c.loop-at.invariant

pub returns : goal.returns
returns c = sym (sym c.loop-at.invariant ∙ at_drop_all behind_dot c.args.bytes.now c.loop-at.at c.loop-at-test.false)
