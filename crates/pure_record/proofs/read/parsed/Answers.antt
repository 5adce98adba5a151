use Rattle.std.proofs.Common.{subst, Some}
use Rattle.pure_record.specs.Machine.{IsRecognised}
use Rattle.pure_record.proofs.FaultLemmas.{fault-at, spelled-read}
use Rattle.pure_record.proofs.read.parsed.Goals as goal

pub returns-in-Some-clause-fault : goal.returns-in-Some-clause-fault
returns-in-Some-clause-fault c = (
  c.requires.runs,
  fault-at c.args.source.now c.args.tokens.now c.args.names c.in_ok-lexemes.lexemes.items c.in-Some.at _ c.requires.named c.in_ok-lexemes.ensures
      (subst (λ z. IsRecognised z (Some c.in-Some.at)) c.as_slice.ensures.value (subst (IsRecognised c.as_slice.result.now) c.in-Some.is c.in_ok-found.ensures)) c.place_at.ensures,
)

pub returns-in_ok-read-in-None-clause-ok : goal.returns-in_ok-read-in-None-clause-ok
returns-in_ok-read-in-None-clause-ok c =
    spelled-read c.args.source.now c.args.tokens.now c.args.names _ _ _ c.in_ok-lexemes.lexemes.items c.requires.named c.requires.runs c.in_ok-read-in-None.ensures.names c.in_ok-lexemes.ensures c.in_ok-read-in-None.ensures.whole
