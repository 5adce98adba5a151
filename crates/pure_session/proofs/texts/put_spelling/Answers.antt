use Rattle.std.proofs.Common.{◌≡◌}
use Rattle.pure_graph.specs.SessionNames.{Gives}
use Rattle.pure_session.proofs.SetLemmas.{gains-as, gains-nothing, given-one, given-none}
use Rattle.pure_session.proofs.texts.put_spelling.Goals as goal

pub returns-in_default : goal.returns-in_default
returns-in_default c = gains-nothing c.args.texts.now (Gives c.args.source.now c.args.is_quoted c.args.token.now) (λ t e. given-none _ t c.in_default.ensures e)

pub returns : goal.returns
returns c =
    gains-as c.args.texts.now c.put.new.self (λ t. t ≡ c.in-Some.spelling.now) (Gives c.args.source.now c.args.is_quoted c.args.token.now) c.in_ok-put.ensures
    (λ t. given-one _ c.in-Some.spelling.now t c.in-Some.ensures)
