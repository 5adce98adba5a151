use Rattle.std.proofs.Common.{◌∙◌, sym, true≢false, arith}
use Rattle.pure_lookup.proofs.PlaceLemmas.{passed-unplaced, passed-unwritable, passed-before}
use Rattle.pure_lookup.proofs.find.later_place.Goals as goal

pub returns-in_default : goal.returns-in_default
returns-in_default g c = passed-unplaced c.args.names.now (g.S.Scope.content c.args.scope.now) (g.S.Scope.space c.args.scope.now) c.requires c.args.name c.args.last c.in_default.ensures

pub returns-then-place-last : goal.returns-then-place-last
returns-then-place-last g c = passed-before c.args.names.now (g.S.Scope.content c.args.scope.now) (g.S.Scope.space c.args.scope.now) c.requires c.args.name c.args.last c.in-Some.place c.in-Some.ensures c.if-place-last.true

pub returns-then-is_writable : goal.returns-then-is_writable
returns-then-is_writable g c = (c.in-Some.ensures (c.is_writable.ensures.0 c.if-is_writable.true), omega (arith, c.if-place-last.false))

pub returns-else-is_writable : goal.returns-else-is_writable
returns-else-is_writable g c = passed-unwritable c.args.names.now (g.S.Scope.content c.args.scope.now) (g.S.Scope.space c.args.scope.now) c.requires c.args.name c.args.last (λ w. true≢false (sym (c.is_writable.ensures.1 w) ∙ c.if-is_writable.false))
