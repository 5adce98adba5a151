use Rattle.std.proofs.Common.{◌∙◌, [], ◌∷◌, ◌++◌}
use Rattle.pure_replay.proofs.KnownLaws.{grown-number, grown-twice}
use Rattle.pure_replay.proofs.known.Known.add_line.Goals as goal

pub returns : goal.returns
returns c = record {
  numbers = record { prop = c.in_ok-own.own; premise = c.in_ok-premise.premise };
  are = record { prop = grown-number _ _ c.in_ok-premise.ensures.grown c.args.prop.now c.in_ok-own.own c.in_ok-own.ensures.number; premise = c.in_ok-premise.ensures.number };
  grown = grown-twice _ _ _ c.in_ok-own.ensures.grown c.in_ok-premise.ensures.grown;
  is = c.in_ok-push.ensures.items ∙ (λ i. ((c.in_ok-premise.ensures.lines ∙ c.in_ok-own.ensures.lines) i).items ++ record { prop = c.in_ok-own.own; premise = c.in_ok-premise.premise } ∷ []);
}
