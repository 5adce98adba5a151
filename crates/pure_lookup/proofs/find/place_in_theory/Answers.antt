use Rattle.pure_lookup.proofs.PlaceLemmas.{place-untheoried, place-unnamed, place-unindexed}
use Rattle.pure_lookup.proofs.find.place_in_theory.Goals as goal

pub returns-in_default : goal.returns-in_default
returns-in_default g c n has big w = place-untheoried c.args.names.now (g.S.Scope.content c.args.scope.now) (g.S.Scope.space c.args.scope.now) c.requires n c.args.text.now has c.in_default.ensures

pub returns-in_default-theory_named : goal.returns-in_default-theory_named
returns-in_default-theory_named g c n has big w = place-unnamed c.args.names.now (g.S.Scope.content c.args.scope.now) (g.S.Scope.space c.args.scope.now) c.requires n c.args.text.now c.in-Some.theory.now big has c.in-Some.ensures c.in_default-theory_named.ensures

pub returns-in-None : goal.returns-in-None
returns-in-None g c n has big w = place-unindexed c.args.names.now (g.S.Scope.content c.args.scope.now) (g.S.Scope.space c.args.scope.now) c.requires n c.in-Some-theory_named.found c.args.text.now c.in-Some.theory.now big has c.in-Some.ensures c.in-Some-theory_named.ensures c.in-None.ensures
