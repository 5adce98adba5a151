use Rattle.std.proofs.Common.{◌≡◌, List, ◌++◌, ◌∷◌, [], ap, refl}
use Rattle.pure_unify_definitions.specs.Node as nodes
use Rattle.pure_unify_definitions.specs.Children.{child}
use Rattle.pure_unify.specs.declared.search.Frame.{Frame}
use Rattle.pure_unify.specs.Frames.{images_left}
use Rattle.pure_unify.proofs.FrameLaws.{next_child, none_left, step_nodes}
use Rattle.pure_unify.proofs.GoLaws.{ready_less}
use Rattle.pure_unify.proofs.search.explore.Goals as goal

pub next_image-requires : goal.next_image-requires
next_image-requires c = c.requires.ready.typed.countable

pub enter-requires-clause-ready : goal.enter-requires-clause-ready
enter-requires-clause-ready c =
    let more : Frame = record c.args.frame { branch = record c.args.frame.branch { next = c.in-Ok-Some.taken.next } } in
    let first : images_left c.args.frame.branch ≡ c.in-Ok-Some.taken.image ∷ images_left more.branch = rw c.in-Ok-Some.field-0-is at c.in-Ok-Some.ensures in
    (ready_less c.args.frame more c.in-Ok-Some.taken.image c.requires.ready first refl refl refl).0

pub enter-requires-clause-typed : goal.enter-requires-clause-typed
enter-requires-clause-typed c =
    let more : Frame = record c.args.frame { branch = record c.args.frame.branch { next = c.in-Ok-Some.taken.next } } in
    let first : images_left c.args.frame.branch ≡ c.in-Ok-Some.taken.image ∷ images_left more.branch = rw c.in-Ok-Some.field-0-is at c.in-Ok-Some.ensures in
    (ready_less c.args.frame more c.in-Ok-Some.taken.image c.requires.ready first refl refl refl).1

pub returns-in-Ok-Some-clause-answer : goal.returns-in-Ok-Some-clause-answer
returns-in-Ok-Some-clause-answer c mine ns is hold =
    let more : Frame = record c.args.frame { branch = record c.args.frame.branch { next = c.in-Ok-Some.taken.next } } in
    let first : images_left c.args.frame.branch ≡ c.in-Ok-Some.taken.image ∷ images_left more.branch = rw c.in-Ok-Some.field-0-is at c.in-Ok-Some.ensures in
    let next = next_child c.args.frame mine c.in-Ok-Some.taken.image is more refl refl refl refl first in
    step_nodes c.args.order.now c.args.maxidx c.args.search.now.visited c.args.search.now.cut
    (child next.0 c.args.frame.branch.name c.args.frame.branch.index c.args.frame.branch.typ c.in-Ok-Some.taken.image ∷ (next.1 ++ ns)) (mine ++ ns) c.enter.new.search c.enter.result (ap (λ (xs : List nodes.Node). xs ++ ns) next.4)
    (c.enter.ensures.answer next.0 next.1 ns next.2 next.3 hold)

pub returns-in-Ok-None-clause-answer : goal.returns-in-Ok-None-clause-answer
returns-in-Ok-None-clause-answer c mine ns is hold =
    let empty : images_left c.args.frame.branch ≡ [] = rw c.in-Ok-None.field-0-is at c.in-Ok-None.ensures in
    none_left c.args.order.now c.args.maxidx c.args.frame mine ns c.args.search.now is empty hold
