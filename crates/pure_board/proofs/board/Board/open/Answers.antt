use Rattle.std.proofs.Common.{◌∙◌, refl}
use Rattle.pure_machine.specs.Policy.{Opening}
use Rattle.pure_board.proofs.OpenLaws.{renamed-fresh}
use Rattle.pure_board.proofs.board.Board.open.Goals as goal

pub other_seats-others-requires-clause-first : goal.other_seats-others-requires-clause-first
other_seats-others-requires-clause-first g c κs within = (c.args.work.now, record { shape = c.args.shape.items; policy = c.args.policy; workers = c.args.workers }, c.in_ok-desk.ensures.token, c.requires.session, refl, c.requires.some)

pub all_opened-requires-clause-first : goal.all_opened-requires-clause-first
all_opened-requires-clause-first g c κs within =
    let o : Opening = record { shape = c.args.shape.items; policy = c.args.policy; workers = c.args.workers } in
    let t = c.in-Ok.ensures.seats c.args.work.now o c.in_ok-desk.ensures.token in
    (c.args.work.now, o, t.0, c.requires.session, refl, c.requires.some)

pub returns-in-Ok-clause-seats : goal.returns-in-Ok-clause-seats
returns-in-Ok-clause-seats g c =
    let o : Opening = record { shape = c.args.shape.items; policy = c.args.policy; workers = c.args.workers } in
    let t = c.in-Ok.ensures.seats c.args.work.now o c.in_ok-desk.ensures.token in
    c.all_opened.ensures.seats c.args.work.now o c.in_ok-desk.ensures.desk.1 t.0 refl (c.other_seats-others.ensures.desk ∙ c.in_ok-desk.ensures.desk.0) (renamed-fresh _ _ _ _ _ _ c.in_ok-desk.ensures.desk.0 t.1) t.2
