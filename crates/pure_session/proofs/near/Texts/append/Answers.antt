use Rattle.std.proofs.Common.{◌≡◌, subst}
use Rattle.pure_session.specs.NameSets.{Gains}
use Rattle.pure_session.proofs.SetLemmas.{gains-behind}
use Rattle.pure_session.proofs.near.Texts.append.Goals as goal

pub returns : goal.returns
returns c = subst (λ old. Gains old c.push.new.self (λ t. t ≡ c.args.text.now)) c.self.view_is (gains-behind c.self.inside.list c.push.new.self c.args.text.now c.in_ok-push.ensures)
