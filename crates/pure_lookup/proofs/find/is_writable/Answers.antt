use Rattle.pure_lookup.proofs.PlaceLemmas.{writable-exactly}
use Rattle.pure_lookup.proofs.find.is_writable.Goals as goal

pub returns : goal.returns
returns g c = writable-exactly (g.S.Scope.content c.args.scope.now) (g.S.Scope.space c.args.scope.now) c.args.name c.eq.result c.is_declared.result c.eq.ensures c.if-eq.false c.is_declared.ensures
