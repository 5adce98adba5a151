use Rattle.std.proofs.Common.{refl, arith}
use Rattle.pure_pattern_terms.proofs.PatternLaws.{ground_pattern, yes-pattern, flexible-result}
use Rattle.pure_pattern_terms.proofs.tests.+is_pattern.Goals as goal

pub returns-then-index_above_of-eq0 : goal.returns-then-index_above_of-eq0
returns-then-index_above_of-eq0 t c = yes-pattern c.args.t.now (ground_pattern c.args.t.now (omega arith))

pub returns-then-is_schematic : goal.returns-then-is_schematic
returns-then-is_schematic t c =
    flexible-result c.has_places.result c.args.t.now c.in-App.fun.value c.in-App.arg.value c.deref-in-App.result.now c.front.result.now c.is_schematic.result (rw (← c.t.view_is, c.in-App.is) refl) c.if-is_schematic.true
    c.is_schematic.ensures c.front.ensures c.deref-in-App.ensures c.has_places.ensures
