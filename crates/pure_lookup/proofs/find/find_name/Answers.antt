use Rattle.pure_lookup.proofs.PlaceLemmas.{meant-full, meant-based}
use Rattle.pure_lookup.proofs.find.find_name.Goals as goal

pub last_of-requires-clause-bases : goal.last_of-requires-clause-bases
last_of-requires-clause-bases g c n i = rw c.names-in-None.ensures ((c.with_base.ensures.exact n).0 i)

pub returns-in-Some : goal.returns-in-Some
returns-in-Some g c =
    meant-full c.args.names.now (g.S.Scope.content c.args.scope.now) (g.S.Scope.space c.args.scope.now) c.requires c.names.result.now c.args.written.now c.in-Some.field-0.now c.find_in_full.result c.names.ensures c.in-Some.ensures c.find_in_full.ensures

pub returns-in-None : goal.returns-in-None
returns-in-None g c =
    meant-based c.args.names.now (g.S.Scope.content c.args.scope.now) (g.S.Scope.space c.args.scope.now) c.requires c.names-in-None.result.now c.args.written.now c.with_base.result.now c.last_of.result c.last_of.ensures.0 c.names-in-None.ensures c.in-None.ensures (λ k. (c.with_base.ensures.exact k).1) c.last_of.ensures.1
