use Rattle.std.proofs.Common.{◌++◌, ◌∙◌}
use Rattle.std.specs.Prelude.{reverse}
use Rattle.pure_tunify.specs.Working.{pairs_along}
use Rattle.pure_tunify.proofs.PursueLaws.{met_left, met_right, meet_same, meet_apart, meet_arguments}
use Rattle.pure_tunify.proofs.FreeLaws.{set_left, set_right}
use Rattle.pure_tunify.proofs.turn.meet.Goals as goal

pub returns-in-Same : goal.returns-in-Same
returns-in-Same c = meet_same c.args.order.now c.args.settings.now (reverse c.args.work.now.items) c.args.left c.args.right c.in-Same.ensures

pub returns-in-Apart : goal.returns-in-Apart
returns-in-Apart c = meet_apart c.args.order.now c.args.settings.now (reverse c.args.work.now.items) c.args.left c.args.right c.in-Apart.ensures

pub returns-in_ok-put_back-in-Left : goal.returns-in_ok-put_back-in-Left
returns-in_ok-put_back-in-Left c = met_left c.args.order.now c.args.settings.now c.treat.new.settings c.args.work.now.items c.put_back.new.work.items c.args.left c.args.right c.in_ok-turned-in-Left.turned c.in-Left.ensures c.requires.left_free c.requires.right_free c.in_ok-turned-in-Left.ensures c.in_ok-put_back-in-Left.ensures

pub returns-in_ok-put_back-in-Right : goal.returns-in_ok-put_back-in-Right
returns-in_ok-put_back-in-Right c = met_right c.args.order.now c.args.settings.now c.treat-in-Right.new.settings c.args.work.now.items c.put_back-in-Right.new.work.items c.args.left c.args.right c.in_ok-turned-in-Right.turned c.in-Right.ensures c.requires.right_free c.in_ok-turned-in-Right.ensures c.in_ok-put_back-in-Right.ensures

pub returns-in_ok-push_arguments-in-Arguments : goal.returns-in_ok-push_arguments-in-Arguments
returns-in_ok-push_arguments-in-Arguments c =
    let have = c.in-Arguments.ensures in
    meet_arguments c.args.order.now c.args.settings.now (reverse c.args.work.now.items) (reverse c.push_arguments.new.work.items) c.args.left c.args.right have
    (c.in_ok-push_arguments-in-Arguments.ensures ∙ (λ l. pairs_along (c.arguments-lefts.ensures have.name have.lefts have.left l) (c.arguments-rights.ensures have.name have.rights have.right l) ++ reverse c.args.work.now.items))

pub returns-then-is_free : goal.returns-then-is_free
returns-then-is_free c =
    set_left c.args.order.now c.args.settings.now c.set_as_it_stands.new.settings c.args.work.now.items c.args.left c.args.right c.in_ok-set-in-Left.set c.turned_by.result c.turned_by.ensures c.in-Left.ensures c.requires.left_free c.requires.right_free
    c.in_ok-set-in-Left.ensures

pub returns-then-is_free-2 : goal.returns-then-is_free-2
returns-then-is_free-2 c =
    set_right c.args.order.now c.args.settings.now c.set_as_it_stands-then-is_free-2.new.settings c.args.work.now.items c.args.left c.args.right c.in_ok-set-in-Right.set c.turned_by-then-is_free-2.result c.turned_by-then-is_free-2.ensures c.in-Right.ensures
    c.requires.right_free c.in_ok-set-in-Right.ensures
