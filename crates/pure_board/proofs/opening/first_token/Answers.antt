use Rattle.std.proofs.Common.{◌∙◌, ap, []}
use Rattle.pure_board.specs.Tokens.{counting}
use Rattle.pure_board.proofs.OpenLaws.{opened-itself, opened-lawful, opening-of}
use Rattle.pure_board.proofs.opening.first_token.Goals as goal

pub open-requires-2-clause-object : goal.open-requires-2-clause-object
open-requires-2-clause-object g c = opened-itself (record { shape = c.args.shape.items; policy = c.args.policy; workers = c.args.workers }) _ c.in_ok-core.ensures.opened

pub open-requires-2-clause-legal : goal.open-requires-2-clause-legal
open-requires-2-clause-legal g c = opened-lawful _ _ _ _ _ _ (record { shape = c.args.shape.items; policy = c.args.policy; workers = c.args.workers }) _ c.in_ok-core.ensures.opened c.requires.session

pub returns-clause-token : goal.returns-clause-token
returns-clause-token g c = c.in_ok-desk.ensures.seat ∙ ap (λ o. (counting c.args.work.now o 1, [])) (opening-of (record { shape = c.args.shape.items; policy = c.args.policy; workers = c.args.workers }) _ c.in_ok-core.ensures.opened)
