use Rattle.pure_lookup.proofs.PlaceLemmas.{full-invisible, passed-everywhere, full-found, full-baseless, full-dotted, dotted}
use Rattle.pure_lookup.proofs.find.find_in_full.Goals as goal

pub returns-in_default-base : goal.returns-in_default-base
returns-in_default-base g c = full-baseless c.args.names.now (g.S.Scope.content c.args.scope.now) (g.S.Scope.space c.args.scope.now) c.requires c.args.written.now c.in-Some.name c.in-Some.ensures c.in_default-base.ensures.base

pub returns-in-Some-theory_in : goal.returns-in-Some-theory_in
returns-in-Some-theory_in g c =
    full-dotted c.args.names.now (g.S.Scope.content c.args.scope.now) (g.S.Scope.space c.args.scope.now) c.requires c.args.written.now c.in-Some-base.base.now c.in-Some.name c.in-Some.ensures c.in-Some-base.ensures.base (dotted _ _ c.in-Some-theory_in.ensures)

pub returns-in-None : goal.returns-in-None
returns-in-None g c = full-invisible c.args.names.now (g.S.Scope.content c.args.scope.now) (g.S.Scope.space c.args.scope.now) c.requires c.args.written.now c.in-Some.name c.in-Some.ensures (passed-everywhere c.args.names.now (g.S.Scope.content c.args.scope.now) (g.S.Scope.space c.args.scope.now) c.requires c.in-Some.name c.in-None.ensures)

pub returns-in-Some-later_place : goal.returns-in-Some-later_place
returns-in-Some-later_place g c =
    full-found c.args.names.now (g.S.Scope.content c.args.scope.now) (g.S.Scope.space c.args.scope.now) c.requires c.args.written.now c.in-Some-base.base.now c.in-Some.name c.in-Some-later_place.field-0 c.in-Some.ensures c.in-Some-base.ensures.base c.in_default-theory_in.ensures c.in-Some-later_place.ensures.0
