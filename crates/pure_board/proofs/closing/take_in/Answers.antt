use Rattle.std.proofs.Common.{ap}
use Rattle.pure_board.proofs.CloseLaws.{has-both, taken-free}
use Rattle.pure_board.proofs.closing.take_in.Goals as goal

pub join-requires-clause-free : goal.join-requires-clause-free
join-requires-clause-free g c = let t = c.requires.taken in (taken-free _ t.0 t.1 t.2 c.requires.place t.3, taken-free _ _ _ _ c.token_of-other.ensures.place c.token_of-other.ensures.taken)

pub returns-clause-taken : goal.returns-clause-taken
returns-clause-taken g c k o seats has same = has-both k o _ _ _ _ _ seats has c.token_of-other.ensures.taken same (ap (λ m. m.0) c.join.ensures.both)
