use Rattle.std.proofs.Common.{arith, sym}
use Rattle.pure_pattern_terms.proofs.TypLaws.{ground_none}
use Rattle.pure_pattern_terms.proofs.tests.+has_schematic.Goals as goal

pub returns-then-index_above_of-eq0 : goal.returns-then-index_above_of-eq0
returns-then-index_above_of-eq0 t c = sym (ground_none c.args.t.now (omega arith))
