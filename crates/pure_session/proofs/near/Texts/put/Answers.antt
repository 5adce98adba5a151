use Rattle.std.proofs.Common.{◌≡◌, subst}
use Rattle.pure_session.specs.NameSets.{Gains}
use Rattle.pure_session.proofs.SetLemmas.{gains-there}
use Rattle.pure_session.proofs.near.Texts.put.Goals as goal

pub returns-then-is_near : goal.returns-then-is_near
returns-then-is_near c = gains-there c.args.self.now c.args.text.now (c.is_near.ensures c.if-is_near.true)

pub returns : goal.returns
returns c = subst (λ old. Gains old c.append.new.self (λ t. t ≡ c.args.text.now)) c.self.view_is c.in_ok-append.ensures
