use Rattle.std.proofs.Common.{◌≡◌, drop}
use Rattle.std.specs.List.{find}
use Rattle.pure_session.proofs.ImportLemmas.{is_absent}
use Rattle.pure_session.proofs.imports.first_absent.Given as goal

abbrev pub invariant-loop-import : goal.invariant-loop-import
invariant-loop-import l = find (is_absent l.listed) l.imports ≡ find (is_absent l.listed) (drop l.import-index l.imports)
