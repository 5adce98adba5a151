use Rattle.std.proofs.Common.{rules, ◌∙◌}
use Rattle.pure_board_lock.proofs.RuleLaws.{gives-from, released-is}
use Rattle.pure_board_lock.proofs.desk.Desk.give_back.Goals as goal

pub store-requires : goal.store-requires
store-requires g c = (
  c.lay.ensures.desk ∙ c.requires.desk,
  search rules,
  gives-from _ _ _ _ _ _ _ _ c.lay.ensures.has c.args.self.now.sized.1 c.requires.turn.lives c.requires.turn.is_opened c.requires.turn.has_turn c.requires.same,
)

pub returns-clause-released : goal.returns-clause-released
returns-clause-released g c = released-is _ _ _ _ c.store.ensures.2 c.lay.ensures.has
