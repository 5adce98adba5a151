use Rattle.std.proofs.Common.{[], ◌∷◌, refl}
use Rattle.std.specs.Prelude.{reverse}
use Rattle.pure_tunify.specs.Meeting.{IsPursuit}
use Rattle.pure_tunify.proofs.WorkLaws.{one_equalised, one_blocked}
use Rattle.pure_tunify.proofs.LargeLaws.{one_passed, one_refused}
use Rattle.pure_tunify.proofs.EquationLaws.{stands_old, stands_pursuit}
use Rattle.pure_tunify.proofs.solve.solve_given.Goals as goal

pub pursue-requires : goal.pursue-requires
pursue-requires c = stands_old c.args.equation (reverse c.begin.new.work.items) c.args.order.now c.args.settings.now c.in_ok-begin.ensures c.requires

pub returns-in-Further : goal.returns-in-Further
returns-in-Further c =
    let pursuit : IsPursuit c.args.order.now c.args.settings.now c.pursue.new.settings (c.args.equation ∷ []) (reverse c.pursue.new.work.items) c.in_ok-turned.turned =
    stands_pursuit c.args.order.now c.args.settings.now c.pursue.new.settings c.args.equation (reverse c.begin.new.work.items) (reverse c.pursue.new.work.items) c.in_ok-turned.turned c.in_ok-begin.ensures c.in_ok-turned.ensures in
    one_equalised c.args.order.now c.args.equation c.args.settings.now c.pursue.new.settings (c.args.equation ∷ []) refl (rw c.in-Further.is at pursuit)

pub returns-in-Never : goal.returns-in-Never
returns-in-Never c =
    let pursuit : IsPursuit c.args.order.now c.args.settings.now c.pursue.new.settings (c.args.equation ∷ []) (reverse c.pursue.new.work.items) c.in_ok-turned.turned =
    stands_pursuit c.args.order.now c.args.settings.now c.pursue.new.settings c.args.equation (reverse c.begin.new.work.items) (reverse c.pursue.new.work.items) c.in_ok-turned.turned c.in_ok-begin.ensures c.in_ok-turned.ensures in
    one_blocked c.args.order.now c.args.equation c.args.settings.now c.pursue.new.settings (c.args.equation ∷ []) refl (rw c.in-Never.is at pursuit)

pub returns-then-can : goal.returns-then-can
returns-then-can c =
    let pursuit : IsPursuit c.args.order.now c.args.settings.now c.pursue.new.settings (c.args.equation ∷ []) (reverse c.pursue.new.work.items) c.in_ok-turned.turned =
    stands_pursuit c.args.order.now c.args.settings.now c.pursue.new.settings c.args.equation (reverse c.begin.new.work.items) (reverse c.pursue.new.work.items) c.in_ok-turned.turned c.in_ok-begin.ensures c.in_ok-turned.ensures in
    one_passed c.args.order.now c.domains.ensures.coregular c.args.equation c.args.settings.now c.pursue.new.settings (c.args.equation ∷ []) (reverse c.pursue.new.work.items) refl c.requires c.next.ensures.tidy
    (rw c.in-Large.is at pursuit) (let answer = rw c.if-can.true at c.in_ok-can-in-Large.ensures in rw c.as_slice.ensures.value at answer)

pub returns-else-can : goal.returns-else-can
returns-else-can c =
    let pursuit : IsPursuit c.args.order.now c.args.settings.now c.pursue.new.settings (c.args.equation ∷ []) (reverse c.pursue.new.work.items) c.in_ok-turned.turned =
    stands_pursuit c.args.order.now c.args.settings.now c.pursue.new.settings c.args.equation (reverse c.begin.new.work.items) (reverse c.pursue.new.work.items) c.in_ok-turned.turned c.in_ok-begin.ensures c.in_ok-turned.ensures in
    one_refused c.args.order.now c.domains.ensures.coregular c.args.equation c.args.settings.now c.pursue.new.settings (c.args.equation ∷ []) (reverse c.pursue.new.work.items) refl c.requires c.next.ensures.tidy
    (rw c.in-Large.is at pursuit) (let answer = rw c.if-can.false at c.in_ok-can-in-Large.ensures in rw c.as_slice.ensures.value at answer)
