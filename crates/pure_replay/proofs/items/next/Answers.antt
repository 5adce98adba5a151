use Rattle.pure_replay.proofs.items.next.Goals as goal

pub returns-in-None : goal.returns-in-None
returns-in-None c = (c.cut_place.ensures, rw c.in-None.is at c.in_ok-with_item.ensures)

pub returns-in-Some : goal.returns-in-Some
returns-in-Some c = rw c.in-Some.is at c.in_ok-with_item.ensures
