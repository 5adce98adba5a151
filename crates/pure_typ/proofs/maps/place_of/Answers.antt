use Rattle.std.proofs.Common.{◌∙◌, sym, arith}
use Rattle.pure_definitions.specs.Types.Typ.{TVar}
use Rattle.pure_typ.proofs.TypPlacesLemmas.{typ-up, typ-down}
use Rattle.pure_typ.proofs.maps.place_of.Goals as goal

pub loop-low-preserved-in-Less : goal.loop-low-preserved-in-Less
loop-low-preserved-in-Less c =
    typ-up c.args.binds.now c.args.places.now c.requires (TVar c.args.name c.args.index c.args.sort.now) c.loop-low.low c.loop-low.high _ c.index-binds-place.result c.loop-low.invariant (let t = c.loop-low-test.true in omega arith) (let t = c.loop-low-test.true in omega arith) c.index-binds-place.is (sym c.compare_variable.ensures ∙ c.in-Less.is)

pub loop-low-preserved : goal.loop-low-preserved
loop-low-preserved c =
    typ-down c.args.binds.now c.args.places.now c.requires (TVar c.args.name c.args.index c.args.sort.now) c.loop-low.low c.loop-low.high _ c.index-binds-place.result c.loop-low.invariant (let t = c.loop-low-test.true in omega arith) (let t = c.loop-low-test.true in omega arith) c.index-binds-place.is (λ h. c.in_default.not-Less (c.compare_variable.ensures ∙ h))
