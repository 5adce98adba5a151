use Rattle.std.proofs.Common.{false}
use Rattle.pure_graph.specs.SessionNames.{Gives, GivesInside}
use Rattle.pure_session.proofs.SetLemmas.{gains-then}
use Rattle.pure_session.proofs.texts.put_token.Goals as goal

pub returns : goal.returns
returns c =
    gains-then c.args.texts.now c.put_spelling.new.texts c.put_inside.new.texts (Gives c.args.source.now false c.args.token.now) (GivesInside c.args.source.now c.args.token.now)
    c.in_ok-put_spelling.ensures c.in_ok-put_inside.ensures
