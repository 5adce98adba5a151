use Rattle.std.proofs.Common.{map, sym, subst}
use Rattle.std.specs.Vec.Iter.{into_iter_items}
use Rattle.pure_text.specs.Lists.{Each}
use Rattle.pure_text.proofs.ListLaws.{each-append}
use Rattle.pure_definitions.specs.Terms.Subst.{term_image}
use Rattle.pure_pattern_bounds.specs.Put.{bind_put}
use Rattle.pure_pattern.specs.Held.{IsLowImage, IsImageWithin}
use Rattle.pure_pattern.proofs.ListLaws.{map-more}
use Rattle.pure_pattern.proofs.MadeLaws.{none-made}
use Rattle.pure_pattern.proofs.put.put_binds.Goals as goal

pub put_bind-requires-clause-low : goal.put_bind-requires-clause-low
put_bind-requires-clause-low c = (subst (Each IsLowImage) c.in-Some.ensures.steps.0 c.loop-bind.invariant.2).0

pub returns-in-Err : goal.returns-in-Err
returns-in-Err c =
    none-made (bind_put (term_image c.args.binds.now)) IsImageWithin c.loop-bind.made.items (into_iter_items c.loop-bind.bind-iterator) (into_iter_items c.next.new.self) c.args.old.items c.in-Some.bind c.in-Err.fault c.loop-bind.invariant.0 c.in-Some.ensures.steps.0 c.in-Err.ensures

pub loop-bind-preserved : goal.loop-bind-preserved
loop-bind-preserved c =
    let f = bind_put (term_image c.args.binds.now) in (
      rw (c.in_ok-push_bind-in-Ok.ensures) (map-more f c.loop-bind.made.items (map f c.args.old.items) (into_iter_items c.loop-bind.bind-iterator) (into_iter_items c.next.new.self) c.in-Some.bind c.in-Ok.new c.loop-bind.invariant.0 c.in-Some.ensures.steps.0 c.in-Ok.ensures.0),
      rw (c.in_ok-push_bind-in-Ok.ensures) (each-append IsImageWithin c.loop-bind.made.items _ c.loop-bind.invariant.1 (subst IsImageWithin (sym c.in-Ok.ensures.0) c.in-Ok.ensures.1, tt)),
      (subst (Each IsLowImage) c.in-Some.ensures.steps.0 c.loop-bind.invariant.2).1,
    )
