use Rattle.pure_session.proofs.SetLemmas.{same-in}
use Rattle.pure_session.proofs.near.is_at.Goals as goal

pub returns : goal.returns
returns c = λ yes. same-in c.args.list.now c.args.place c.at-own.result.now c.args.text.now c.eq.result c.at-own.ensures c.eq.ensures yes
