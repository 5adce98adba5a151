use Rattle.pure_conv.proofs.unfolding.+put.Goals as goal

pub returns-in-Const : goal.returns-in-Const
returns-in-Const t c = rw (← c.t.view_is, c.in-Const.is) c.put_constant.ensures
