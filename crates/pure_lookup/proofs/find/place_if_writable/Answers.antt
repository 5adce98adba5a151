use Rattle.pure_lookup.proofs.PlaceLemmas.{place-in_pure, place-textless}
use Rattle.pure_lookup.proofs.find.place_if_writable.Goals as goal

pub returns-then-name-lt-BUILTIN_COUNT : goal.returns-then-name-lt-BUILTIN_COUNT
returns-then-name-lt-BUILTIN_COUNT g c writable = place-in_pure c.args.names.now (g.S.Scope.content c.args.scope.now) (g.S.Scope.space c.args.scope.now) c.args.name (rw c.name.view_is at c.if-name-lt-BUILTIN_COUNT.true) writable

pub returns-in_default : goal.returns-in_default
returns-in_default g c writable = place-textless c.args.names.now (g.S.Scope.content c.args.scope.now) (g.S.Scope.space c.args.scope.now) c.requires c.args.name c.in_default.ensures
