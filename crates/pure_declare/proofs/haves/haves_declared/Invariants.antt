use Rattle.std.proofs.Common.{take, map}
use Rattle.pure_script.specs.Seen.{seen_have}
use Rattle.pure_declare.specs.Changes.{AreHaves}
use Rattle.pure_declare.specs.Seen.{seen_notes}
use Rattle.pure_declare.proofs.haves.haves_declared.Given as goal

-- what the haves so far left
abbrev pub invariant-loop-have : goal.invariant-loop-have
invariant-loop-have l = AreHaves l.place l.base (map seen_have (take l.have-index l.haves)) (seen_notes l.declared.notes.items) l.declared.stage.value
