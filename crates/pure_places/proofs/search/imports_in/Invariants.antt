use Rattle.std.proofs.Common.{◌≡◌, ◌++◌, map, drop}
use Rattle.pure_places.specs.Found.{found_imports}
use Rattle.pure_places.specs.Seen.{seen_import}
use Rattle.pure_places.proofs.search.imports_in.Given as goal

abbrev pub invariant-loop-token : goal.invariant-loop-token
invariant-loop-token l = map seen_import l.found.items ++ found_imports l.source (drop l.token-index l.tokens) ≡ found_imports l.source l.tokens
