use Rattle.std.proofs.Common.{take, map}
use Rattle.pure_script.specs.Seen.{seen_have}
use Rattle.pure_declare.specs.Premises.{AreHavesNamed}
use Rattle.pure_declare.proofs.may.are_haves_named.Given as goal

-- those so far have names
abbrev pub invariant-loop-have : goal.invariant-loop-have
invariant-loop-have l = AreHavesNamed l.names l.lemma (map seen_have (take l.have-index l.haves))
