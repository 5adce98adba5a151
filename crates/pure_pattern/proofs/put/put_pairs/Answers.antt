use Rattle.std.proofs.Common.{map, sym, subst}
use Rattle.std.specs.Vec.Iter.{into_iter_items}
use Rattle.pure_text.specs.Lists.{Each}
use Rattle.pure_text.proofs.ListLaws.{each-append}
use Rattle.pure_definitions.specs.Terms.Subst.{term_image}
use Rattle.pure_pattern_rules.specs.Treated.{AreSidesWithin}
use Rattle.pure_pattern_bounds.specs.Put.{pair_put}
use Rattle.pure_pattern.specs.Held.{IsLowPair}
use Rattle.pure_pattern.proofs.ListLaws.{map-more}
use Rattle.pure_pattern.proofs.MadeLaws.{none-made}
use Rattle.pure_pattern.proofs.put.put_pairs.Goals as goal

pub put_pair-requires-clause-low : goal.put_pair-requires-clause-low
put_pair-requires-clause-low c = (subst (Each IsLowPair) c.in-Some.ensures.steps.0 c.loop-pair.invariant.2).0

pub returns-in-Err : goal.returns-in-Err
returns-in-Err c =
    none-made (pair_put (term_image c.args.binds.now)) AreSidesWithin c.loop-pair.made.items (into_iter_items c.loop-pair.pair-iterator) (into_iter_items c.next.new.self) c.args.pairs.items c.in-Some.pair c.in-Err.fault c.loop-pair.invariant.0 c.in-Some.ensures.steps.0 c.in-Err.ensures

pub loop-pair-preserved : goal.loop-pair-preserved
loop-pair-preserved c =
    let f = pair_put (term_image c.args.binds.now) in (
      rw (c.in_ok-push_pair-in-Ok.ensures) (map-more f c.loop-pair.made.items (map f c.args.pairs.items) (into_iter_items c.loop-pair.pair-iterator) (into_iter_items c.next.new.self) c.in-Some.pair c.in-Ok.new c.loop-pair.invariant.0 c.in-Some.ensures.steps.0 c.in-Ok.ensures.0),
      rw (c.in_ok-push_pair-in-Ok.ensures) (each-append AreSidesWithin c.loop-pair.made.items _ c.loop-pair.invariant.1 (subst AreSidesWithin (sym c.in-Ok.ensures.0) c.in-Ok.ensures.1, tt)),
      (subst (Each IsLowPair) c.in-Some.ensures.steps.0 c.loop-pair.invariant.2).1,
    )
