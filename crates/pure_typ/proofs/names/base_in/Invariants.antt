use Rattle.std.proofs.Common.{◌≡◌, drop}
use Rattle.pure_typ.specs.NameBases.{base_of}
use Rattle.pure_typ.proofs.names.base_in.Given as goal

-- no dot so far
abbrev pub invariant-loop-at : goal.invariant-loop-at
invariant-loop-at l = base_of (drop l.at l.text) ≡ base_of l.text
