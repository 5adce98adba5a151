use Rattle.std.proofs.Common.{◌≡◌, take, map}
use Rattle.pure_io.proofs.mem_library.names_of.Given as goal

abbrev pub invariant-loop-file : goal.invariant-loop-file
invariant-loop-file l = l.names.items ≡ map (λ f. f.name) (take l.file-index l.files)
