use Rattle.std.proofs.Common.{◌∙◌, sym, ap}
use Rattle.pure_board.specs.Sight.{Plan}
use Rattle.pure_board.proofs.CloseLaws.{each-popped, names-of, some-seat, closing-taken, closing-all, taken-free, taken-all, ended-session, ended-seats}
use Rattle.pure_board.proofs.board.Board.close.Goals as goal

pub unreachable-requires : goal.unreachable-requires
unreachable-requires g c = let t = c.requires.opened in some-seat t.0.workers c.args.seats.items t.3 t.1 (sym c.args.seats.ok.0 ∙ c.in-None.ensures.cases.0)

pub gather-requires-clause-desk : goal.gather-requires-clause-desk
gather-requires-clause-desk g c κs within =
    let each = each-popped _ _ _ _ c.in-Some.ensures.items (names-of _ _ _ (ap (λ (p : Plan _). p.name) (sym c.self.view_is)) c.requires.board) in
    (c.token_of-token.ensures.name ∙ each.1, each.0)

pub gather-requires-clause-taken : goal.gather-requires-clause-taken
gather-requires-clause-taken g c κs within = let t = c.requires.opened in let each = each-popped _ _ _ _ c.in-Some.ensures.items t.2 in closing-taken _ t.0 _ _ each.1 c.token_of-token.ensures.taken each.0

pub close-object-requires-clause-desk : goal.close-object-requires-clause-desk
close-object-requires-clause-desk g c =
    let each = each-popped _ _ _ _ c.in-Some.ensures.items (names-of _ _ _ (ap (λ (p : Plan _). p.name) (sym c.self.view_is)) c.requires.board) in
    c.gather.ensures.desk ∙ (c.token_of-token.ensures.name ∙ each.1)

pub close-object-requires-clause-free : goal.close-object-requires-clause-free
close-object-requires-clause-free g c = let t = c.requires.opened in taken-free _ _ t.0 _ c.gather.ensures.place (closing-all _ t.0 _ _ _ _ c.in-Some.ensures.items t.2 c.token_of-token.ensures.taken c.gather.ensures.taken)

pub close-object-requires-clause-all : goal.close-object-requires-clause-all
close-object-requires-clause-all g c = let t = c.requires.opened in taken-all _ t.0 _ _ (closing-all _ t.0 _ _ _ _ c.in-Some.ensures.items t.2 c.token_of-token.ensures.taken c.gather.ensures.taken) t.3 t.1

pub returns-clause-session : goal.returns-clause-session
returns-clause-session g c =
    let t = c.requires.opened in
    let all = closing-all _ t.0 _ _ _ _ c.in-Some.ensures.items t.2 c.token_of-token.ensures.taken c.gather.ensures.taken in
    let each = each-popped _ _ _ _ c.in-Some.ensures.items c.requires.board in
    ended-session c.gather.new.token.me.0 _ _ _ _ c.close-object.ensures.note all.session_is (ap (λ (p : Plan _). p.session) each.1)

pub returns-clause-seats : goal.returns-clause-seats
returns-clause-seats g c =
    let t = c.requires.opened in
    let all = closing-all _ t.0 _ _ _ _ c.in-Some.ensures.items t.2 c.token_of-token.ensures.taken c.gather.ensures.taken in
    ended-seats _ _ _ _ _ _ t.0 _ _ _ _ _ _ all t.3 t.1 c.close-object.ensures.whole c.close-object.ensures.note
