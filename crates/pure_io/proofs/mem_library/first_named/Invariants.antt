use Rattle.std.proofs.Common.{◌≡◌, drop}
use Rattle.pure_io.specs.Outside.{text_named}
use Rattle.pure_io.proofs.mem_library.first_named.Given as goal

abbrev pub invariant-loop-file : goal.invariant-loop-file
invariant-loop-file l = text_named l.name (drop l.file-index l.files) ≡ text_named l.name l.files
