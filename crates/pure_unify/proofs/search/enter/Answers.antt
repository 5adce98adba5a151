use Rattle.std.proofs.Common.{List, ◌++◌, ◌∷◌, sym, subst}
use Rattle.pure_unify_definitions.specs.Children.{child}
use Rattle.pure_unify.specs.declared.search.Frame.{Frame}
use Rattle.pure_unify.specs.Frames.{HoldNodes}
use Rattle.pure_unify.proofs.FrameLaws.{hold_more, step_bound, step_counted}
use Rattle.pure_unify.proofs.search.enter.Goals as goal

pub returns-then-search-ge-MAX_NODES-clause-answer : goal.returns-then-search-ge-MAX_NODES-clause-answer
returns-then-search-ge-MAX_NODES-clause-answer c n mine ns is frame hold =
    step_bound c.args.order.now c.args.maxidx (child n c.args.frame.branch.name c.args.frame.branch.index c.args.frame.branch.typ c.args.image) (mine ++ ns) c.args.search.now.visited c.args.search.now.cut c.requires.go.few c.if-search-ge-MAX_NODES.true

pub returns-clause-answer : goal.returns-clause-answer
returns-clause-answer c n mine ns is frame hold =
    let holds : HoldNodes c.put_frame.new.search.frames.items (mine ++ ns) = subst (λ (fs : List Frame). HoldNodes fs (mine ++ ns)) (sym c.in_ok-put_frame.ensures.frames) (hold_more c.args.search.now.frames.items c.args.frame mine ns hold frame) in
    step_counted c.args.order.now c.args.maxidx (child n c.args.frame.branch.name c.args.frame.branch.index c.args.frame.branch.typ c.args.image ∷ (mine ++ ns)) c.args.search.now.visited c.args.search.now.cut c.put_frame.new.search c.after_visit.new.search
    c.after_visit.result c.put_frame.ensures.cut
    (c.after_visit.ensures.answer c.args.order.now (child n c.args.frame.branch.name c.args.frame.branch.index c.args.frame.branch.typ c.args.image) (mine ++ ns) c.args.search.now.visited (c.visit_child-outcome.ensures.answer n is) holds c.put_frame.ensures.visited
    c.if-search-ge-MAX_NODES.false)
